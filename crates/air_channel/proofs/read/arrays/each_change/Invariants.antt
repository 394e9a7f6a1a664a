use Rattle.std.proofs.Common.{◌≡◌, drop}
use Rattle.toml.specs.View.{items_view}
use Rattle.air_channel.specs.ScriptText.{change_of, each_of}
use Rattle.air_channel.proofs.Arrays.{with_each}
use Rattle.air_channel.proofs.read.arrays.each_change.Given as goal

abbrev pub invariant-loop-item : goal.invariant-loop-item
invariant-loop-item l =
    each_of change_of (items_view l.items) ≡ with_each l.changes.items (each_of change_of (items_view (drop l.item-index l.items)))
