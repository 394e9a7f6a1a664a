use Rattle.std.proofs.Common.{◌≡◌, ◌+◌, length}
use Rattle.wire.specs.Items.{items_of}
use Rattle.dsmcc_msg.specs.Control.{group_entry}
use Rattle.ssu_audit.proofs.ending.count.Given as goal

abbrev pub invariant-loop : goal.invariant-loop
invariant-loop l = l.groups + length (items_of group_entry l.iterator') ≡ length l.dsi.groups
