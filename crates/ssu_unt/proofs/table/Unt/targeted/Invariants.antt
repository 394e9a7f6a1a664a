use Rattle.std.proofs.Common.{◌≡◌, ◌≤◌, ◌++◌, length, take}
use Rattle.std.specs.Prelude.{map}
use Rattle.wire.specs.Items.{items_of}
use Rattle.ssu_unt.specs.Table.{platform}
use Rattle.ssu_unt.specs.Targeting.{all_pairs, targeted, targets}
use Rattle.ssu_unt.specs.Views.{entry_view, me_view, unt_view}
use Rattle.ssu_unt.proofs.table.Unt.targeted.Given as goal

abbrev pub invariant-loop-platform : goal.invariant-loop-platform
invariant-loop-platform l =
    (take 32 (map entry_view l.entries.items ++ targets (me_view l.me) l.self.common.now (all_pairs (items_of platform l.platform-iterator)))
    ≡ targeted (me_view l.me) (unt_view l.self))
    × (length l.entries.items ≤ 32)
