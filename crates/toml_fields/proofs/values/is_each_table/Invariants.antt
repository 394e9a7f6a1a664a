use Rattle.std.proofs.Common.{◌≡◌, drop}
use Rattle.toml.specs.View.{items_view}
use Rattle.toml_fields.specs.Place.{each_is_table}
use Rattle.toml_fields.proofs.values.is_each_table.Given as goal

abbrev pub invariant-loop-item : goal.invariant-loop-item
invariant-loop-item l =
    each_is_table (items_view l.item-items) ≡ each_is_table (items_view (drop l.item-index l.item-items))
