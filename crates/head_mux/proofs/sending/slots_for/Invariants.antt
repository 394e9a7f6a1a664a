use Rattle.std.proofs.Common.{◌≡◌, ◌^◌, ◌<◌, take}
use Rattle.head_mux.specs.Sent.{greatest_period}
use Rattle.head_mux.proofs.sending.slots_for.Given as goal

-- The greatest period so far.
abbrev pub invariant-loop-section : goal.invariant-loop-section
invariant-loop-section l = record {
  greatest : l.greatest ≡ greatest_period (take l.section-index l.list);
  fits : l.greatest < 2 ^ 32;
}
