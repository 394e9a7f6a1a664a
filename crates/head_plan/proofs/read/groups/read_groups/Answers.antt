use Rattle.std.proofs.Common.{◌≡◌, ◌+◌, [], ◌∷◌, ◌++◌, length, sym, ap, ◌∙◌, arith, Ok, codes}
use Rattle.std.proofs.lemmas.List.{length_push}
use Rattle.std.proofs.lemmas.Result.{err_from_is_err_and}
use Rattle.toml.specs.View.{items_view, table_view}
use Rattle.toml_fields.specs.Place.{place, tables, tables_in}
use Rattle.head_plan.specs.PlanText.{group_at, groups}
use Rattle.head_plan.proofs.GroupLemmas.{tables_from, tables_from-table, tables_from-end, groups_from-step, groups_from-stop, groups_from-end, groups-read, IsFaultOf-part}
use Rattle.head_plan.proofs.read.groups.read_groups.Goals as goal

pub returns-in_err-group-clause-fault : goal.returns-in_err-group-clause-fault
returns-in_err-group-clause-fault c =
    let vs = c.as_slice-items.result.now in
    let members = table_view c.in-Some.table.now in
    let read : tables (place c.args.fields.now) (codes "group") 1 16 ≡ Ok (tables_from vs 0) = sym c.in_ok-tables.ensures.value ∙ ap (λ xs. Ok (tables_in (items_view xs))) (sym c.as_slice-items.ensures.value) in
    let split : tables_from vs c.loop-item.item-index ≡ members ∷ tables_from vs (c.loop-item.item-index + 1) = tables_from-table vs c.loop-item.item-index c.item-item.result members c.loop-item-test.true c.item-item.is (sym c.in-Some.ensures) in
    let counted : c.len.result ≡ length c.loop-item.groups.items = omega arith in
    let p = err_from_is_err_and c.from_residual-in_err-group.result c.from_residual-in_err-group.ensures.1 in
    rw (p.1, p.2) (IsFaultOf-part (group_at c.len.result members) (groups (place c.args.fields.now)) _ c.in_err-group.ensures.fault
    (λ name bad. groups-read _ _ read ∙ c.loop-item.invariant.same ∙ groups_from-stop c.loop-item.groups.items (length c.loop-item.groups.items) _ members _ name split (rw (← counted) bad)))

pub loop-item-preserved : goal.loop-item-preserved
loop-item-preserved c =
    let vs = c.as_slice-items.result.now in
    let done = c.loop-item.groups.items in
    let members = table_view c.in-Some.table.now in
    let split : tables_from vs c.loop-item.item-index ≡ members ∷ tables_from vs (c.loop-item.item-index + 1) = tables_from-table vs c.loop-item.item-index c.item-item.result members c.loop-item-test.true c.item-item.is (sym c.in-Some.ensures) in
    let counted : c.len.result ≡ length done = omega arith in
    let found : group_at (length done) members ≡ Ok c.in_ok-group.group = rw (← counted) c.in_ok-group.ensures.group in
    let pushed : length (done ++ c.in_ok-group.group ∷ []) ≡ length done + 1 = length_push done c.in_ok-group.group in
    record {
      same = rw (c.in_ok-push.ensures.items, pushed) (c.loop-item.invariant.same ∙ groups_from-step done (length done) _ members _ c.in_ok-group.group split found);
      count = rw (c.in_ok-push.ensures.items, pushed) (omega (arith, c.loop-item.invariant.count, ap length split));
    }

pub returns-clause-groups : goal.returns-clause-groups
returns-clause-groups c =
    let vs = c.as_slice-items.result.now in
    let read : tables (place c.args.fields.now) (codes "group") 1 16 ≡ Ok (tables_from vs 0) = sym c.in_ok-tables.ensures.value ∙ ap (λ xs. Ok (tables_in (items_view xs))) (sym c.as_slice-items.ensures.value) in
    let done = tables_from-end vs c.loop-item.item-index (omega arith) in
    groups-read _ _ read ∙ c.loop-item.invariant.same ∙ groups_from-end c.loop-item.groups.items (length c.loop-item.groups.items) _ done ∙ ap Ok (sym c.new.ensures)
