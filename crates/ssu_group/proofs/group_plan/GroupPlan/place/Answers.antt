use Rattle.std.proofs.Common.{◌≡◌, List, Option, Some, sym, ap, subst, ◌∙◌}
use Rattle.std.specs.Prelude.{IfSome}
use Rattle.std.specs.List.{find}
use Rattle.dsmcc_msg.specs.View.{ddb_view}
use Rattle.ssu_group.specs.declared.module_plan.ModulePlan.{ModulePlan}
use Rattle.ssu_group.specs.declared.places.Place.{Place}
use Rattle.ssu_group.specs.Place.{is_module_of, place_at}
use Rattle.ssu_group.proofs.PlaceLaws.{bounded, block_is_place}
use Rattle.ssu_group.proofs.group_plan.GroupPlan.place.Goals as goal

pub place_in_module-requires-clause-count : goal.place_in_module-requires-clause-count
place_in_module-requires-clause-count c =
    let plan = c.args.self.now in
    let is = is_module_of (ddb_view c.args.ddb.now) in
    let found : find is plan.modules.items ≡ Some c.in-Some.module = sym (c.in-Some.ensures ∙ ap (λ (ms : List ModulePlan). find is ms) c.as_slice.ensures.value) in
    (bounded plan.block_size plan.modules.items plan.places plan.total is c.in-Some.module plan.planned found).count

pub place_in_module-requires-clause-bytes : goal.place_in_module-requires-clause-bytes
place_in_module-requires-clause-bytes c =
    let plan = c.args.self.now in
    let is = is_module_of (ddb_view c.args.ddb.now) in
    let found : find is plan.modules.items ≡ Some c.in-Some.module = sym (c.in-Some.ensures ∙ ap (λ (ms : List ModulePlan). find is ms) c.as_slice.ensures.value) in
    (bounded plan.block_size plan.modules.items plan.places plan.total is c.in-Some.module plan.planned found).bytes

pub place_in_module-requires-clause-blocks : goal.place_in_module-requires-clause-blocks
place_in_module-requires-clause-blocks c =
    let plan = c.args.self.now in
    let is = is_module_of (ddb_view c.args.ddb.now) in
    let found : find is plan.modules.items ≡ Some c.in-Some.module = sym (c.in-Some.ensures ∙ ap (λ (ms : List ModulePlan). find is ms) c.as_slice.ensures.value) in
    (bounded plan.block_size plan.modules.items plan.places plan.total is c.in-Some.module plan.planned found).blocks

pub returns-in-Some-clause-of_the_plan : goal.returns-in-Some-clause-of_the_plan
returns-in-Some-clause-of_the_plan c =
    let plan = c.args.self.now in
    let d = ddb_view c.args.ddb.now in
    let is = is_module_of d in
    let found : find is plan.modules.items ≡ Some c.in-Some.module = sym (c.in-Some.ensures ∙ ap (λ (ms : List ModulePlan). find is ms) c.as_slice.ensures.value) in
    subst (λ (o : Option Place). IfSome o (λ (p : Place). place_at plan.block_size plan.modules.items p.number ≡ Some p)) (sym c.place_in_module.ensures)
    (block_is_place plan.block_size plan.modules.items plan.places plan.total d c.in-Some.module plan.planned found)
