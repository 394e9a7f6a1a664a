use Rattle.std.proofs.Common.{◌+◌, ◌*◌, ◌≡◌, ℕ, List, length, refl, subst, ◌∙◌, arith}
use Rattle.flash_dev.proofs.Moments.{weaker}
use Rattle.flash_dev.specs.Changes.{Changes, IsProgrammed, IsTornProgram}
use Rattle.flash_bank.specs.Bank.{LeavesFilled, geometry_of}
use Rattle.flash_bank.proofs.BankLemmas.{filled_kept, len_less}
use Rattle.flash_bank.proofs.bank.Bank.fill.Goals as goal

pub overflow_add-place : goal.overflow_add-place
overflow_add-place g c = omega (arith, c.area_place-place.ensures.inside, c.args.self.now.limits.most_bytes, c.requires.inside, len_less c.args.self.now)

pub program_pieces-requires-clause-inside : goal.program_pieces-requires-clause-inside
program_pieces-requires-clause-inside g c =
    let b = c.args.self.now in
    let total : g.F.Flash.block_count c.args.flash.now * g.F.Flash.block_len c.args.flash.now ≡ (geometry_of b).blocks * (geometry_of b).block_len =
    (λ i. c.requires.lent.blocks i * c.requires.lent.block_size i) in
    omega (arith, total, c.area_place-place.ensures.inside, c.requires.inside, len_less b)

pub program_pieces-requires-clause-addressable : goal.program_pieces-requires-clause-addressable
program_pieces-requires-clause-addressable g c = omega (arith, c.area_place-place.ensures.inside, c.args.self.now.limits.most_bytes, c.requires.inside, len_less c.args.self.now)

pub returns-clause-filled : goal.returns-clause-filled
returns-clause-filled g c tells =
    let F = g.F.Flash in
    let b = c.args.self.now in
    let bytes = c.args.bytes.now in
    let x = F.contents c.args.flash.now in
    let fits = c.requires.lent.fits tells in
    let at = λ (P : ℕ → ℕ → ℕ → Type 0) (y : List ℕ) (h : Changes (c.area_place-place.result + c.args.at) (length bytes) P x y). subst (λ (p : ℕ). Changes (p + c.args.at) (length bytes) P x y) c.area_place-place.ensures.value h in
    let kept = λ (y : List ℕ) (h : Changes (c.area_place-place.result + c.args.at) (length bytes) (IsTornProgram bytes) x y).
    filled_kept b x fits c.requires.begun c.args.at (length bytes) (IsTornProgram bytes) y c.requires.inside (at (IsTornProgram bytes) y h) in
    at (IsProgrammed bytes) (F.contents c.program_pieces.new.flash) (c.in_ok-program_pieces.ensures.done tells)

pub returns-in_err-program_pieces-clause-held : goal.returns-in_err-program_pieces-clause-held
returns-in_err-program_pieces-clause-held g c tells =
    let F = g.F.Flash in
    let b = c.args.self.now in
    let bytes = c.args.bytes.now in
    let x = F.contents c.args.flash.now in
    let fits = c.requires.lent.fits tells in
    let at = λ (P : ℕ → ℕ → ℕ → Type 0) (y : List ℕ) (h : Changes (c.area_place-place.result + c.args.at) (length bytes) P x y). subst (λ (p : ℕ). Changes (p + c.args.at) (length bytes) P x y) c.area_place-place.ensures.value h in
    let kept = λ (y : List ℕ) (h : Changes (c.area_place-place.result + c.args.at) (length bytes) (IsTornProgram bytes) x y).
    filled_kept b x fits c.requires.begun c.args.at (length bytes) (IsTornProgram bytes) y c.requires.inside (at (IsTornProgram bytes) y h) in
    let y = F.contents c.program_pieces.new.flash in
    let h = c.program_pieces.ensures.held tells in
    record { keeps = (kept y h).keeps; changes = at (IsTornProgram bytes) y h }

pub returns-in_err-program_pieces-clause-left : goal.returns-in_err-program_pieces-clause-left
returns-in_err-program_pieces-clause-left g c tells =
    let F = g.F.Flash in
    let b = c.args.self.now in
    let bytes = c.args.bytes.now in
    let x = F.contents c.args.flash.now in
    let fits = c.requires.lent.fits tells in
    let at = λ (P : ℕ → ℕ → ℕ → Type 0) (y : List ℕ) (h : Changes (c.area_place-place.result + c.args.at) (length bytes) P x y). subst (λ (p : ℕ). Changes (p + c.args.at) (length bytes) P x y) c.area_place-place.ensures.value h in
    let kept = λ (y : List ℕ) (h : Changes (c.area_place-place.result + c.args.at) (length bytes) (IsTornProgram bytes) x y).
    filled_kept b x fits c.requires.begun c.args.at (length bytes) (IsTornProgram bytes) y c.requires.inside (at (IsTornProgram bytes) y h) in
    weaker F.moment F.left_since c.args.flash.now c.program_pieces.new.flash _ (LeavesFilled b c.args.at bytes x)
    (λ y h. record { keeps = (kept y h).keeps; changes = at (IsTornProgram bytes) y h }) (c.program_pieces.ensures.left tells)

pub returns-clause-held : goal.returns-clause-held
returns-clause-held g c tells =
    let F = g.F.Flash in
    let b = c.args.self.now in
    let bytes = c.args.bytes.now in
    let x = F.contents c.args.flash.now in
    let fits = c.requires.lent.fits tells in
    let at = λ (P : ℕ → ℕ → ℕ → Type 0) (y : List ℕ) (h : Changes (c.area_place-place.result + c.args.at) (length bytes) P x y). subst (λ (p : ℕ). Changes (p + c.args.at) (length bytes) P x y) c.area_place-place.ensures.value h in
    let kept = λ (y : List ℕ) (h : Changes (c.area_place-place.result + c.args.at) (length bytes) (IsTornProgram bytes) x y).
    filled_kept b x fits c.requires.begun c.args.at (length bytes) (IsTornProgram bytes) y c.requires.inside (at (IsTornProgram bytes) y h) in
    let y = F.contents c.program_pieces.new.flash in
    let h = c.program_pieces.ensures.held tells in
    record { keeps = (kept y h).keeps; changes = at (IsTornProgram bytes) y h }

pub returns-clause-left : goal.returns-clause-left
returns-clause-left g c tells =
    let F = g.F.Flash in
    let b = c.args.self.now in
    let bytes = c.args.bytes.now in
    let x = F.contents c.args.flash.now in
    let fits = c.requires.lent.fits tells in
    let at = λ (P : ℕ → ℕ → ℕ → Type 0) (y : List ℕ) (h : Changes (c.area_place-place.result + c.args.at) (length bytes) P x y). subst (λ (p : ℕ). Changes (p + c.args.at) (length bytes) P x y) c.area_place-place.ensures.value h in
    let kept = λ (y : List ℕ) (h : Changes (c.area_place-place.result + c.args.at) (length bytes) (IsTornProgram bytes) x y).
    filled_kept b x fits c.requires.begun c.args.at (length bytes) (IsTornProgram bytes) y c.requires.inside (at (IsTornProgram bytes) y h) in
    weaker F.moment F.left_since c.args.flash.now c.program_pieces.new.flash _ (LeavesFilled b c.args.at bytes x)
    (λ y h. record { keeps = (kept y h).keeps; changes = at (IsTornProgram bytes) y h }) (c.program_pieces.ensures.left tells)

pub returns-clause-lent : goal.returns-clause-lent
returns-clause-lent g c =
    record {
      usable = refl;
      blocks = c.program_pieces.ensures.blocks ∙ c.requires.lent.blocks;
      block_size = c.program_pieces.ensures.block_size ∙ c.requires.lent.block_size;
      fits = λ tells.
          let F = g.F.Flash in
          let b = c.args.self.now in
          let bytes = c.args.bytes.now in
          let x = F.contents c.args.flash.now in
          let fits = c.requires.lent.fits tells in
          let at = λ (P : ℕ → ℕ → ℕ → Type 0) (y : List ℕ) (h : Changes (c.area_place-place.result + c.args.at) (length bytes) P x y). subst (λ (p : ℕ). Changes (p + c.args.at) (length bytes) P x y) c.area_place-place.ensures.value h in
          let kept = λ (y : List ℕ) (h : Changes (c.area_place-place.result + c.args.at) (length bytes) (IsTornProgram bytes) x y).
          filled_kept b x fits c.requires.begun c.args.at (length bytes) (IsTornProgram bytes) y c.requires.inside (at (IsTornProgram bytes) y h) in
          let k = kept (F.contents c.program_pieces.new.flash) (c.program_pieces.ensures.held tells) in
          record { sound = k.sound; current = k.current; head = k.head; blank = λ is. k.blank };
    }
