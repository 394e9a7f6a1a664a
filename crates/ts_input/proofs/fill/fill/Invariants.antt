use Rattle.std.proofs.Common.{◌≤◌, ◌-◌, length, take}
use Rattle.ssu_io.specs.Bytes.{Takes}
use Rattle.ts_input.proofs.fill.fill.Given as goal

abbrev pub invariant-loop-at : goal.invariant-loop-at
invariant-loop-at g l = record {
  within : l.at ≤ length l.buf;
  taken : Takes (g.A.Source.left l.initial.air) (g.A.Source.left l.air) (take l.at l.buf);
  later : g.A.Source.faults l.initial.air ≤ g.A.Source.faults l.air;
}

abbrev pub decreases-loop-at : goal.decreases-loop-at
decreases-loop-at g l = length l.initial.buf - l.at
