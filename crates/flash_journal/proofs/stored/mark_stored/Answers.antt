use Rattle.std.proofs.Common.{◌≡◌, ◌||◌, inl, inr, ◌<◌, ℕ, Bool, List, Some, refl, sym, ap, subst, ◌∙◌, arith}
use Rattle.bank_kept.specs.Bank.{area_of_bank}
use Rattle.flash_kept.specs.Slots.{is_marked, is_slotted}
use Rattle.flash_kept.specs.SpareArea.{SpareArea}
use Rattle.flash_kept.proofs.CountLaws.{last_or}
use Rattle.ssu_group.specs.Map.{Marks, marked}
use Rattle.ssu_group.specs.Place.{place_at}
use Rattle.ssu_group.specs.declared.places.Place.{Place}
use Rattle.flash_journal.proofs.LooksLaws.{looks_joined, looks_none}
use Rattle.flash_journal.proofs.LostLaws.{MarksOne, marks_it, marks_none}
use Rattle.flash_journal.proofs.PlanLaws.{below_places}
use Rattle.flash_journal.proofs.ReadingLaws.{area_same}
use Rattle.flash_journal.proofs.stored.mark_stored.Goals.{else-stored, then-stored}
use Rattle.flash_journal.proofs.stored.mark_stored.Goals as goal

pub loop-number-init : goal.loop-number-init
loop-number-init g c =
    let F = g.F.Flash in
    record {
      fits = omega arith;
      lent = c.requires.lent;
      most = refl;
      places = refl;
      later = λ k from lt. c.requires.none k lt;
      so_far = λ tells n p lt e. absurd (omega (arith, lt));
      looks = looks_none F.tells F.contents F.block_count F.block_len F.moment F.left_since c.args.flash.now c.args.bank.now (g.met.F.Flash.only_now c.args.flash.now);
      faults = omega arith;
    }

pub returns-in_err-stored-clause-looks : goal.returns-in_err-stored-clause-looks
returns-in_err-stored-clause-looks g c =
    let F = g.F.Flash in
    looks_joined F.tells F.contents F.block_count F.block_len F.moment F.left_since c.args.flash.now c.loop-number.flash c.is_stored_at.new.flash c.args.bank.now c.loop-number.bank c.is_stored_at.new.bank
    c.loop-number.invariant.looks c.is_stored_at.ensures.looks

pub loop-number-preserved : goal.loop-number-preserved
loop-number-preserved g c =
    let F = g.F.Flash in
    let inv = c.loop-number.invariant in
    let b = c.args.bank.now in
    let area = area_of_bank b in
    let x = F.contents c.args.flash.now in
    let n = c.loop-number.number in
    let plan = c.args.plan.now in
    let stored = c.in_ok-stored.stored in
    let old = c.loop-number.map in
    let new = c.if-stored.map in
    let one : MarksOne old new n stored = elim c.if-stored.branch [
      | then-stored w ↦ subst (λ (m : Marks). MarksOne old m n stored) (sym w.map-is) (marks_it old w.mark.new.self n stored w.if-stored.true w.mark.ensures.most w.mark.ensures.places w.mark.ensures.marked)
      | else-stored w ↦ subst (λ (m : Marks). MarksOne old m n stored) (sym w.map-is) (marks_none old n stored w.if-stored.false)
    ] in
    let says : SpareArea → List ℕ → ℕ → Place → Bool = λ a l k p. is_marked a l k || is_slotted a l p in
    let found = λ (tells : F.tells) (p : Place) (e : place_at plan.block_size plan.modules.items n ≡ Some p). subst (λ (l : List ℕ). stored ≡ says area l n p) (inv.looks.reads.same tells)
    (subst (λ (a : SpareArea). stored ≡ says a (F.contents c.loop-number.flash) n p) (area_same b c.loop-number.bank inv.looks.geometry inv.looks.current)
    (c.in_ok-stored.ensures.found tells p e)) in
    let below : n < old.places = omega (arith, c.loop-number-test.true, inv.places, c.requires.places) in
    let here : marked new n ≡ stored = one.here (inv.later n (omega arith) below) in
    let same_places = one.places in
    record {
      fits = omega arith;
      lent = c.in_ok-stored.ensures.lent;
      most = one.most ∙ inv.most;
      places = one.places ∙ inv.places;
      later = λ k from lt. one.others k (λ same. absurd (omega (arith, same, from))) ∙ inv.later k (omega (arith, from)) (omega (arith, lt, same_places));
      so_far = λ tells m p lt e. elim (last_or m n (omega (arith, lt))) [
        | inl less ↦ one.others m (λ same. absurd (omega (arith, same, less))) ∙ inv.so_far tells m p less e
        | inr same ↦ ap (λ (k : ℕ). marked new k) same ∙ (here ∙ (found tells p (subst (λ (k : ℕ). place_at plan.block_size plan.modules.items k ≡ Some p) same e) ∙ ap (λ (k : ℕ). says area x k p) (sym same)))
      ];
      looks = looks_joined F.tells F.contents F.block_count F.block_len F.moment F.left_since c.args.flash.now c.loop-number.flash c.is_stored_at.new.flash b c.loop-number.bank c.is_stored_at.new.bank
          inv.looks c.is_stored_at.ensures.looks;
      faults = omega (arith, inv.faults, c.is_stored_at.ensures.cause.later);
    }

pub returns-clause-marks : goal.returns-clause-marks
returns-clause-marks g c tells n p e =
    let below = below_places c.args.plan.now n p e in
    c.loop-number.invariant.so_far tells n p (omega (arith, below, c.loop-number-test.false)) e
