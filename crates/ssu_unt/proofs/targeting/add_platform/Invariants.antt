use Rattle.std.proofs.Common.{◌≡◌, ◌≤◌, ◌++◌, length, take}
use Rattle.std.specs.Prelude.{map}
use Rattle.wire.specs.Items.{items_of}
use Rattle.ssu_unt.specs.Table.{pair}
use Rattle.ssu_unt.specs.Targeting.{candidate, pairs_in, targets}
use Rattle.ssu_unt.specs.Views.{entry_view, me_view, platform_view}
use Rattle.ssu_unt.proofs.targeting.add_platform.Given as goal

abbrev pub invariant-loop-pair : goal.invariant-loop-pair
invariant-loop-pair l =
    (take 32 (map entry_view l.entries.items ++ targets (me_view l.me) l.common (map (candidate l.platform.compat) (items_of pair l.pair-iterator)))
    ≡ take 32 (map entry_view l.initial.entries.items ++ targets (me_view l.me) l.common (pairs_in (platform_view l.platform))))
    × (length l.entries.items ≤ 32)
