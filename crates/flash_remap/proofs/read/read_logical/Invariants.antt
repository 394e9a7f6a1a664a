use Rattle.std.proofs.Common.{◌≡◌, ℕ, ◌+◌, ◌-◌, ◌<◌, ◌≤◌, length, get_or}
use Rattle.flash_remap.specs.Logical.{logical}
use Rattle.flash_remap.specs.Reads.{ChangesNothing}
use Rattle.flash_remap.specs.Shape.{geometry}
use Rattle.flash_remap.proofs.read.read_logical.Given as goal

-- the bytes so far are read
abbrev pub invariant-loop-done : goal.invariant-loop-done
invariant-loop-done g l = record {
  within : l.done ≤ length l.buf;
  bytes : g.F.Flash.tells → (k : ℕ) → k < l.done → get_or (logical (geometry l.layout) (g.F.Flash.contents l.fn.inner)) (l.at + k) 0 ≡ get_or l.buf k 0;
  reads : ChangesNothing g.F.Flash l.fn.inner l.inner;
  later : g.F.Flash.faults l.fn.inner ≤ g.F.Flash.faults l.inner;
}

abbrev pub decreases-loop-done : goal.decreases-loop-done
decreases-loop-done g l = length l.initial.buf - l.done
