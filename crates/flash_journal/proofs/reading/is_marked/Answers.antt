use Rattle.std.specs.Prelude.{◌==◌, ◌&&◌}
use Rattle.std.proofs.Common.{◌≡◌, ◌+◌, ◌*◌, ℕ, Bool, true, false, get_or, refl, sym, ap, subst, ◌∙◌, arith}
use Rattle.std.proofs.lemmas.Bool.{eq-eqb, eqb-true}
use Rattle.bank_kept.specs.Bank.{area_of_bank}
use Rattle.flash_bank.specs.Bank.{spare_journal}
use Rattle.flash_kept.specs.SpareArea.{mark_place}
use Rattle.flash_journal.proofs.ReadingLaws.{mark_read, mark_room}
use Rattle.flash_journal.proofs.reading.is_marked.Goals as goal

-- a number that is not 0
eq-false : (n : ℕ) → (n ≡ 0 → ⊥) → (n == 0) ≡ false
eq-false n other = by_test (n == 0) refl
  where
    by_test : (t : Bool) → (n == 0) ≡ t → t ≡ false
    by_test false e = refl
    by_test true e = absurd (other (eqb-true n 0 e))

pub read-requires-clause-inside : goal.read-requires-clause-inside
read-requires-clause-inside g c = mark_room c.args.bank.now c.args.number c.requires.mark

pub returns-then-pair-eq0-clause-found : goal.returns-then-pair-eq0-clause-found
returns-then-pair-eq0-clause-found g c tells =
    let x = g.F.Flash.contents c.args.flash.now in
    let b = c.args.bank.now in
    let n = c.args.number in
    let v = c.read.new.buf in
    let held = c.in_ok-read.ensures.bytes tells in
    let one : spare_journal b + (8448 + 2 * n) + 0 ≡ mark_place (area_of_bank b) n + 0 = omega arith in
    let two : spare_journal b + (8448 + 2 * n) + 1 ≡ mark_place (area_of_bank b) n + 1 = omega arith in
    let read = mark_read (area_of_bank b) x v n (subst (λ (p : ℕ). get_or x p 0 ≡ get_or v 0 0) one (held 0 (omega arith))) (subst (λ (p : ℕ). get_or x p 0 ≡ get_or v 1 0) two (held 1 (omega arith))) in
    sym (read ∙ ap (λ (t : Bool). t && get_or v 1 0 == 255) (eq-eqb (get_or v 0 0) 0 c.if-pair-eq0.true))

pub returns-else-pair-eq0-clause-found : goal.returns-else-pair-eq0-clause-found
returns-else-pair-eq0-clause-found g c tells =
    let x = g.F.Flash.contents c.args.flash.now in
    let b = c.args.bank.now in
    let n = c.args.number in
    let v = c.read.new.buf in
    let held = c.in_ok-read.ensures.bytes tells in
    let one : spare_journal b + (8448 + 2 * n) + 0 ≡ mark_place (area_of_bank b) n + 0 = omega arith in
    let two : spare_journal b + (8448 + 2 * n) + 1 ≡ mark_place (area_of_bank b) n + 1 = omega arith in
    let read = mark_read (area_of_bank b) x v n (subst (λ (p : ℕ). get_or x p 0 ≡ get_or v 0 0) one (held 0 (omega arith))) (subst (λ (p : ℕ). get_or x p 0 ≡ get_or v 1 0) two (held 1 (omega arith))) in
    let no : (get_or v 0 0 == 0) ≡ false = eq-false (get_or v 0 0) c.if-pair-eq0.false in
    no ∙ sym (read ∙ ap (λ (t : Bool). t && get_or v 1 0 == 255) no)
