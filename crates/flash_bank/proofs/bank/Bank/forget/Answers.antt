use Rattle.std.proofs.Common.{ℕ, refl, ◌∙◌, subst, arith}
use Rattle.flash_dev.specs.Changes.{Changes, IsErased}
use Rattle.flash_dev.proofs.Moments.{weaker}
use Rattle.flash_layout.proofs.Places.{some_journal}
use Rattle.flash_bank.specs.Bank.{geometry_of}
use Rattle.flash_bank.specs.Journal.{LeavesForgotten}
use Rattle.flash_bank.specs.Runs.{IsRaised}
use Rattle.flash_bank.proofs.JournalCallLemmas.{forgot_still, leaves_forgotten}
use Rattle.flash_bank.proofs.bank.Bank.forget.Goals as goal

pub erase_block-requires-clause-inside : goal.erase_block-requires-clause-inside
erase_block-requires-clause-inside g c = omega (arith, some_journal (geometry_of c.args.self.now) c.args.self.now.limits, c.journal_block.ensures.inside)

pub returns-in_err-erase_block-clause-held : goal.returns-in_err-erase_block-clause-held
returns-in_err-erase_block-clause-held g c tells =
    let F = g.F.Flash in
    let b = c.args.self.now in
    let x = F.contents c.args.flash.now in
    let y = F.contents c.erase_block.new.flash in
    leaves_forgotten b x (c.requires.lent.fits tells) c.requires.two y
    (subst (λ (p : ℕ). Changes p (geometry_of b).block_len IsRaised x y) c.journal_block.ensures.value (c.erase_block.ensures.held tells))

pub returns-clause-held : goal.returns-clause-held
returns-clause-held g c tells =
    let F = g.F.Flash in
    let b = c.args.self.now in
    let x = F.contents c.args.flash.now in
    let y = F.contents c.erase_block.new.flash in
    leaves_forgotten b x (c.requires.lent.fits tells) c.requires.two y
    (subst (λ (p : ℕ). Changes p (geometry_of b).block_len IsRaised x y) c.journal_block.ensures.value (c.erase_block.ensures.held tells))

pub returns-in_err-erase_block-clause-left : goal.returns-in_err-erase_block-clause-left
returns-in_err-erase_block-clause-left g c tells =
    let F = g.F.Flash in
    let b = c.args.self.now in
    let x = F.contents c.args.flash.now in
    weaker F.moment F.left_since c.args.flash.now c.erase_block.new.flash _ (LeavesForgotten b x)
    (λ y h. leaves_forgotten b x (c.requires.lent.fits tells) c.requires.two y (subst (λ (p : ℕ). Changes p (geometry_of b).block_len IsRaised x y) c.journal_block.ensures.value h))
    (c.erase_block.ensures.left tells)

pub returns-clause-left : goal.returns-clause-left
returns-clause-left g c tells =
    let F = g.F.Flash in
    let b = c.args.self.now in
    let x = F.contents c.args.flash.now in
    weaker F.moment F.left_since c.args.flash.now c.erase_block.new.flash _ (LeavesForgotten b x)
    (λ y h. leaves_forgotten b x (c.requires.lent.fits tells) c.requires.two y (subst (λ (p : ℕ). Changes p (geometry_of b).block_len IsRaised x y) c.journal_block.ensures.value h))
    (c.erase_block.ensures.left tells)

pub returns-clause-forgot : goal.returns-clause-forgot
returns-clause-forgot g c tells =
    let F = g.F.Flash in
    let b = c.args.self.now in
    subst (λ (p : ℕ). Changes p (geometry_of b).block_len IsErased (F.contents c.args.flash.now) (F.contents c.erase_block.new.flash)) c.journal_block.ensures.value
    (c.in_ok-erase_block.ensures.done tells)

pub returns-clause-lent : goal.returns-clause-lent
returns-clause-lent g c =
    record {
      usable = refl;
      blocks = c.erase_block.ensures.blocks ∙ c.requires.lent.blocks;
      block_size = c.erase_block.ensures.block_size ∙ c.requires.lent.block_size;
      fits = λ tells.
          let F = g.F.Flash in
          let b = c.args.self.now in
          let x = F.contents c.args.flash.now in
          let y = F.contents c.erase_block.new.flash in
          let k = forgot_still b x (c.requires.lent.fits tells) c.requires.two y
          (subst (λ (p : ℕ). Changes p (geometry_of b).block_len IsRaised x y) c.journal_block.ensures.value (c.erase_block.ensures.held tells)) in
          record { sound = k.sound; current = k.current; head = k.head; blank = λ is i lt. absurd (cc is) };
    }
