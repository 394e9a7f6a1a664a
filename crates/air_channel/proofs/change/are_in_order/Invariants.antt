use Rattle.std.proofs.Common.{◌≡◌, ◌^◌, ◌<◌, drop, map}
use Rattle.air_channel.specs.Scripts.{byte_number, rises}
use Rattle.air_channel.proofs.change.are_in_order.Given as goal

abbrev pub invariant-loop-change : goal.invariant-loop-change
invariant-loop-change l = record {
  same : rises 1 0 (map byte_number l.changes) ≡ rises 1 l.least (map byte_number (drop l.change-index l.changes));
  small : l.least < 2 ^ 48;
}
