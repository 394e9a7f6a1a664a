use Rattle.std.proofs.Common.{◌≡◌, ◌≤◌, ◌++◌, length, take}
use Rattle.wire.specs.Items.{items_of}
use Rattle.dsmcc_msg.specs.Control.{group_entry}
use Rattle.ssu_route.proofs.Accepting.{all_afresh}
use Rattle.ssu_route.proofs.accept.accepted.Given as goal

abbrev pub invariant-loop-group : goal.invariant-loop-group
invariant-loop-group l = record {
  kept : take 32 (l.found.items ++ all_afresh l.terms l.running l.subgroup (items_of group_entry l.group-iterator))
      ≡ take 32 (all_afresh l.terms l.running l.subgroup l.dsi.groups);
  fit : length l.found.items ≤ 32;
}
