use Rattle.std.proofs.Common.{◌≡◌, ◌||◌, Some, None, sym, ◌∙◌, arith}
use Rattle.bank_kept.specs.Bank.{area_of_bank}
use Rattle.flash_kept.specs.Slots.{is_marked, is_slotted}
use Rattle.flash_stage.proofs.InBankLemmas.{own_number}
use Rattle.ssu_group.specs.Place.{place_at}
use Rattle.ssu_group.specs.declared.places.Place.{Place}
use Rattle.flash_journal.proofs.LostLaws.{if_ok_each, same_some}
use Rattle.flash_journal.proofs.PlanLaws.{below_places}
use Rattle.flash_journal.proofs.stored.is_stored_at.Goals as goal

pub is_stored-requires-clause-mark : goal.is_stored-requires-clause-mark
is_stored-requires-clause-mark g c =
    let plan = c.args.plan.now in
    let p = c.in-Some.place in
    let e : place_at plan.block_size plan.modules.items c.args.number ≡ Some p = sym c.nth_place.ensures ∙ c.in-Some.is in
    let below = below_places plan c.args.number p e in
    let own = own_number plan c.args.number p e in
    let few = c.requires.few in
    omega (arith, below, own, few)

pub returns-in-Some-clause-found : goal.returns-in-Some-clause-found
returns-in-Some-clause-found g c tells =
    let plan = c.args.plan.now in
    let x = g.F.Flash.contents c.args.flash.now in
    let area = area_of_bank c.args.bank.now in
    let n = c.args.number in
    let p = c.in-Some.place in
    let e : place_at plan.block_size plan.modules.items n ≡ Some p = sym c.nth_place.ensures ∙ c.in-Some.is in
    let own = own_number plan n p e in
    if_ok_each c.is_stored.result (λ t. t ≡ (is_marked area x p.number || is_slotted area x p))
    (λ t. (q : Place) → place_at plan.block_size plan.modules.items n ≡ Some q → t ≡ (is_marked area x n || is_slotted area x q))
    (λ t is q f.
    let same : p ≡ q = same_some p q (sym e ∙ f) in
    is ∙ (λ i. is_marked area x (own i) || is_slotted area x (same i)))
    (c.is_stored.ensures.found tells)

pub returns-in-None-clause-found : goal.returns-in-None-clause-found
returns-in-None-clause-found g c tells q f =
    let plan = c.args.plan.now in
    let n = c.args.number in
    let e : place_at plan.block_size plan.modules.items n ≡ None = sym c.nth_place.ensures ∙ c.in-None.is in
    let both = sym e ∙ f in
    absurd cc
