use Rattle.std.proofs.Common.{◌≡◌, ◌^◌, ◌<◌, drop}
use Rattle.air_channel.specs.Scripts.{rises}
use Rattle.air_channel.proofs.numbers.are_rising.Given as goal

abbrev pub invariant-loop-number : goal.invariant-loop-number
invariant-loop-number l = record {
  same : rises l.gap 0 l.numbers ≡ rises l.gap l.least (drop l.number-index l.numbers);
  small : l.least < 2 ^ 33;
}
