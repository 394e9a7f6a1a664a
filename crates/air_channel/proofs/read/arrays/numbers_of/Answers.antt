use Rattle.std.proofs.Common.{◌≡◌, ◌∙◌, Some, rules, sym, true}
use Rattle.toml.specs.View.{items_view, view}
use Rattle.air_channel.specs.ScriptText.{each_of, few_items, number_of}
use Rattle.air_channel.specs.Scripts.{rises}
use Rattle.air_channel.proofs.Ranges.{numbers_found}
use Rattle.air_channel.proofs.read.arrays.numbers_of.Goals as goal

pub new-requires : goal.new-requires
new-requires c =
    let items = items_view c.in-Some.items.now in
    let numbers = c.in-Some-2.numbers.items in
    let few : few_items (view c.args.value.now) ≡ Some items = sym c.in-Some.ensures in
    let found : each_of number_of items ≡ Some numbers = search rules in
    let up : rises c.args.gap 0 numbers ≡ true = search rules in
    numbers_found (view c.args.value.now) items numbers c.args.gap few found up c.requires.some
