use Rattle.std.proofs.Common.{◌≡◌, drop}
use Rattle.toml.specs.View.{items_view}
use Rattle.air_channel.specs.ScriptText.{each_of, number_of}
use Rattle.air_channel.proofs.Arrays.{with_each}
use Rattle.air_channel.proofs.read.arrays.each_number.Given as goal

abbrev pub invariant-loop-item : goal.invariant-loop-item
invariant-loop-item l =
    each_of number_of (items_view l.items) ≡ with_each l.numbers.items (each_of number_of (items_view (drop l.item-index l.items)))
