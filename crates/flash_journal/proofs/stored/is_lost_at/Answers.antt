use Rattle.std.specs.Prelude.{IfOk}
use Rattle.std.proofs.Common.{◌≡◌, ℕ, Option, Some, None, sym, ap, subst, ◌∙◌, arith}
use Rattle.bank_kept.specs.Bank.{area_of_bank}
use Rattle.flash_kept.specs.Lost.{is_lost}
use Rattle.flash_stage.proofs.InBankLemmas.{inside_plan, own_number}
use Rattle.ssu_group.specs.Place.{place_at}
use Rattle.ssu_group.specs.declared.places.Place.{Place}
use Rattle.flash_journal.proofs.LostLaws.{no_place_lost}
use Rattle.flash_journal.proofs.PlanLaws.{below_places}
use Rattle.flash_journal.proofs.stored.is_lost_at.Goals as goal

pub is_lost_place-requires-clause-inside : goal.is_lost_place-requires-clause-inside
is_lost_place-requires-clause-inside g c =
    let plan = c.args.plan.now in
    let p = c.in-Some.place in
    let e : place_at plan.block_size plan.modules.items c.args.number ≡ Some p = sym c.nth_place.ensures ∙ c.in-Some.is in
    let inside = inside_plan plan c.args.number p e in
    let most = c.requires.inside in
    omega (arith, inside, most)

pub is_lost_place-requires-clause-mark : goal.is_lost_place-requires-clause-mark
is_lost_place-requires-clause-mark g c =
    let plan = c.args.plan.now in
    let p = c.in-Some.place in
    let e : place_at plan.block_size plan.modules.items c.args.number ≡ Some p = sym c.nth_place.ensures ∙ c.in-Some.is in
    let below = below_places plan c.args.number p e in
    let own = own_number plan c.args.number p e in
    let few = c.requires.few in
    omega (arith, below, own, few)

pub returns-in-Some-clause-found : goal.returns-in-Some-clause-found
returns-in-Some-clause-found g c tells =
    let plan = c.args.plan.now in
    let x = g.F.Flash.contents c.args.flash.now in
    let area = area_of_bank c.args.bank.now in
    let n = c.args.number in
    let p = c.in-Some.place in
    let e : place_at plan.block_size plan.modules.items n ≡ Some p = sym c.nth_place.ensures ∙ c.in-Some.is in
    subst (λ (o : Option Place). IfOk c.is_lost_place.result (λ t. t ≡ is_lost area x n o)) (sym e)
    (subst (λ (k : ℕ). IfOk c.is_lost_place.result (λ t. t ≡ is_lost area x k (Some p))) (own_number plan n p e) (c.is_lost_place.ensures.found tells))

pub returns-in-None-clause-found : goal.returns-in-None-clause-found
returns-in-None-clause-found g c tells =
    let plan = c.args.plan.now in
    let x = g.F.Flash.contents c.args.flash.now in
    let area = area_of_bank c.args.bank.now in
    let n = c.args.number in
    let e : place_at plan.block_size plan.modules.items n ≡ None = sym c.nth_place.ensures ∙ c.in-None.is in
    no_place_lost area x n ∙ ap (λ (o : Option Place). is_lost area x n o) (sym e)
