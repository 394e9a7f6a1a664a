use Rattle.std.specs.Int.{div_ceil}
use Rattle.std.proofs.Common.{◌≡◌, ◌+◌, ◌-◌, ◌*◌, ◌<◌, ◌++◌, min, ℕ, List, Some, sym, ap, subst, ◌∙◌, refl, arith}
use Rattle.std.proofs.lemmas.List.{append-nil, append_assoc}
use Rattle.flash_bank.specs.Bank.{len_of}
use Rattle.flash_layout.specs.Layout.{Geometry, mark_count}
use Rattle.ssu_group.specs.Carried.{joined}
use Rattle.ssu_group.specs.Place.{place_in}
use Rattle.ssu_group.specs.declared.places.Place.{Place}
use Rattle.ssu_group.proofs.PlaceLaws.{block_begins}
use Rattle.ts_crc.specs.Crc.{crc_of}
use Rattle.flash_journal.specs.Texts.{text_of}
use Rattle.flash_journal.specs.declared.side.Side.TheVariants.{InBank}
use Rattle.flash_journal.proofs.LooksLaws.{looks_joined, looks_none, side_len_same}
use Rattle.flash_journal.proofs.PlaceTextLaws.{block_is, joined_next, joined_none, text_same}
use Rattle.flash_journal.proofs.texts.push_module.Goals as goal

pub loop-block-init : goal.loop-block-init
loop-block-init g c =
    let F = g.F.Flash in
    record {
      fits = omega arith;
      done = omega arith;
      lent = c.requires.lent;
      so_far = λ tells before is. is ∙ sym (ap (λ (t : List ℕ). crc_of t)
          (ap (λ (t : List ℕ). before ++ t) (joined_none (λ k. text_of c.args.keeps c.args.bank.now (F.contents c.args.flash.now) (Some (place_in c.args.block_size c.args.module.now k)))) ∙ append-nil before));
      looks = looks_none F.tells F.contents F.block_count F.block_len F.moment F.left_since c.args.flash.now c.args.bank.now (g.met.F.Flash.only_now c.args.flash.now);
      faults = omega arith;
    }

pub push_place-requires-clause-two : goal.push_place-requires-clause-two
push_place-requires-clause-two g c keeps = ap (λ r. r.layout) c.loop-block.invariant.looks.current ∙ c.requires.two keeps

pub push_place-requires-clause-mark : goal.push_place-requires-clause-mark
push_place-requires-clause-mark g c keeps =
    let marks = ap (λ (s : Geometry). mark_count s) c.loop-block.invariant.looks.geometry in
    let few = c.requires.marks keeps in
    let lt = c.loop-block-test.true in
    omega (arith, marks, few, lt)

pub loop-block-preserved : goal.loop-block-preserved
loop-block-preserved g c =
    let F = g.F.Flash in
    let inv = c.loop-block.invariant in
    let m = c.args.module.now in
    let b = c.args.block_size in
    let k = c.loop-block.block in
    let x = F.contents c.args.flash.now in
    let lt : k < div_ceil m.size b = subst (λ (n : ℕ). k < n) c.requires.blocks c.loop-block-test.true in
    let begins : k * b < m.size = block_begins b m.size k (omega (arith, c.requires.least)) lt in
    let done : c.loop-block.done ≡ k * b = omega (arith, inv.done, begins) in
    let f : ℕ → List ℕ = λ n. text_of c.args.keeps c.args.bank.now x (Some (place_in b m n)) in
    let n = c.min-len.result in
    let more : (k + 1) * b ≡ k * b + b = omega arith in
    let len : n ≡ min b (m.size - k * b) = omega (arith, done) in
    let p : Place = record { number = m.first + k; at = m.at + c.loop-block.done; len = n } in
    let same : p ≡ place_in b m k = block_is b m k p refl (ap (λ (d : ℕ). m.at + d) done) len in
    let step = λ (tells : F.tells). ap (λ (l : List ℕ). text_of c.args.keeps c.loop-block.bank l (Some p)) (inv.looks.reads.same tells)
    ∙ (text_same c.args.keeps c.args.bank.now c.loop-block.bank x p inv.looks.geometry inv.looks.current ∙ ap (λ (q : Place). text_of c.args.keeps c.args.bank.now x (Some q)) same) in
    record {
      fits = omega arith;
      done = omega (arith, done, begins, more, len);
      lent = c.in_ok-push_place.ensures.lent;
      so_far = λ tells before is.
          c.in_ok-push_place.ensures.join tells (before ++ joined f k) (inv.so_far tells before is)
          ∙ (ap (λ (t : List ℕ). crc_of (before ++ joined f k ++ t)) (step tells)
          ∙ ap (λ (t : List ℕ). crc_of t) (append_assoc before (joined f k) (f k) ∙ ap (λ (t : List ℕ). before ++ t) (sym (joined_next f k))));
      looks = looks_joined F.tells F.contents F.block_count F.block_len F.moment F.left_since c.args.flash.now c.loop-block.flash c.push_place.new.flash c.args.bank.now c.loop-block.bank c.push_place.new.bank
          inv.looks c.push_place.ensures.looks;
      faults = omega (arith, inv.faults, c.push_place.ensures.cause.later);
    }

pub push_place-requires-clause-inside : goal.push_place-requires-clause-inside
push_place-requires-clause-inside g c =
    let inv = c.loop-block.invariant in
    let same : len_of c.loop-block.bank ≡ len_of c.args.bank.now = side_len_same InBank c.args.bank.now c.loop-block.bank inv.looks.geometry inv.looks.current in
    let inside = c.requires.inside in
    let done = inv.done in
    omega (arith, same, inside, done)

pub returns-in_err-push_place-clause-looks : goal.returns-in_err-push_place-clause-looks
returns-in_err-push_place-clause-looks g c =
    let F = g.F.Flash in
    looks_joined F.tells F.contents F.block_count F.block_len F.moment F.left_since c.args.flash.now c.loop-block.flash c.push_place.new.flash c.args.bank.now c.loop-block.bank c.push_place.new.bank
    c.loop-block.invariant.looks c.push_place.ensures.looks

pub returns-clause-join : goal.returns-clause-join
returns-clause-join g c tells before is =
    let x = g.F.Flash.contents c.args.flash.now in
    let inv = c.loop-block.invariant in
    let f : ℕ → List ℕ = λ n. text_of c.args.keeps c.args.bank.now x (Some (place_in c.args.block_size c.args.module.now n)) in
    let end : c.loop-block.block ≡ c.args.module.now.blocks = omega (arith, inv.fits, c.loop-block-test.false) in
    inv.so_far tells before is ∙ ap (λ (n : ℕ). crc_of (before ++ joined f n)) end
