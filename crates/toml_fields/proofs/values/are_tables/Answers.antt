use Rattle.std.proofs.Common.{sym, ◌∙◌}
use Rattle.toml_fields.proofs.Arrays.{item_count-view, are_tables-some, are_tables-few}
use Rattle.toml_fields.proofs.values.are_tables.Goals as goal

pub returns-then-is_between-clause-value : goal.returns-then-is_between-clause-value
returns-then-is_between-clause-value c =
    let counted = rw c.as_slice.ensures.value at c.is_between.ensures in
    rw (item_count-view c.args.items.now.items, ← counted, c.if-is_between.true) c.is_each_table.ensures

pub returns-then-is_between-clause-some : goal.returns-then-is_between-clause-some
returns-then-is_between-clause-some c sure =
    are_tables-some _ _ _ (sym (returns-then-is_between-clause-value c) ∙ sure)

pub returns-then-is_between-clause-few : goal.returns-then-is_between-clause-few
returns-then-is_between-clause-few c sure =
    are_tables-few _ _ _ (sym (returns-then-is_between-clause-value c) ∙ sure)

pub returns-else-is_between-clause-value : goal.returns-else-is_between-clause-value
returns-else-is_between-clause-value c =
    let counted = rw c.as_slice.ensures.value at c.is_between.ensures in
    rw (item_count-view c.args.items.now.items, ← counted, c.if-is_between.false)

pub returns-else-is_between-clause-some : goal.returns-else-is_between-clause-some
returns-else-is_between-clause-some c sure =
    are_tables-some _ _ _ (sym (returns-else-is_between-clause-value c) ∙ sure)

pub returns-else-is_between-clause-few : goal.returns-else-is_between-clause-few
returns-else-is_between-clause-few c sure =
    are_tables-few _ _ _ (sym (returns-else-is_between-clause-value c) ∙ sure)
