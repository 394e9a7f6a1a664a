use Rattle.std.proofs.Common.{◌≡◌, ◌∙◌, Some, map, rules, sym, true}
use Rattle.toml.specs.View.{items_view, view}
use Rattle.air_channel.specs.ScriptText.{change_of, each_of, few_items}
use Rattle.air_channel.specs.Scripts.{byte_number, rises}
use Rattle.air_channel.proofs.Ranges.{changes_found}
use Rattle.air_channel.proofs.read.arrays.changes_of.Goals as goal

pub new-requires : goal.new-requires
new-requires c =
    let items = items_view c.in-Some.items.now in
    let changes = c.in-Some-2.changes.items in
    let few : few_items (view c.args.value.now) ≡ Some items = sym c.in-Some.ensures in
    let found : each_of change_of items ≡ Some changes = search rules in
    let up : rises 1 0 (map byte_number changes) ≡ true = search rules in
    changes_found (view c.args.value.now) items changes few found up
