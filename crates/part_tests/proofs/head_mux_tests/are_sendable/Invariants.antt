use Rattle.std.proofs.Common.{ℕ, ◌<◌, get_or}
use Rattle.ts_section.specs.TimedSection.{TimedSection}
use Rattle.head_mux.specs.Sent.{IsSendable}
use Rattle.part_tests.proofs.head_mux_tests.are_sendable.Given as goal

abbrev pub invariant-loop-section : goal.invariant-loop-section
invariant-loop-section l = (k : ℕ) (d : TimedSection) → k < l.section-index → IsSendable (get_or l.list k d)
