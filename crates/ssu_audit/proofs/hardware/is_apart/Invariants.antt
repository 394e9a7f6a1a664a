use Rattle.std.proofs.Common.{◌≡◌}
use Rattle.std.specs.List.{list_any}
use Rattle.wire.specs.Items.{items_of}
use Rattle.ssu_unt.specs.Table.{platform}
use Rattle.ssu_unt.specs.Views.{unt_view}
use Rattle.ssu_audit.specs.Ending.{has_apart}
use Rattle.ssu_audit.proofs.hardware.is_apart.Given as goal

abbrev pub invariant-loop-platform : goal.invariant-loop-platform
invariant-loop-platform l =
    list_any (has_apart l.dsi.groups) (items_of platform l.platform-iterator) ≡ list_any (has_apart l.dsi.groups) (unt_view l.unt).platforms
