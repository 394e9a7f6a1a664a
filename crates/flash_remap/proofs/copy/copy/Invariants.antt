use Rattle.std.proofs.Common.{◌≡◌, ◌+◌, ◌-◌, ◌≤◌, get_or}
use Rattle.flash_dev.specs.Changes.{Changes}
use Rattle.flash_dev.specs.Moments.{LeavesOnly}
use Rattle.flash_remap.specs.Replaced.{Anything}
use Rattle.flash_remap.proofs.copy.copy.Given as goal

abbrev pub invariant-loop-done : goal.invariant-loop-done
invariant-loop-done g l = record {
  fits : l.done ≤ l.len;
  so_far : g.F.Flash.tells → Changes l.to l.done (λ k before after. after ≡ get_or (g.F.Flash.contents l.fn.inner) (l.from + k) 0)
      (g.F.Flash.contents l.fn.inner) (g.F.Flash.contents l.inner);
  left : LeavesOnly g.F.Flash.moment g.F.Flash.left_since l.fn.inner l.inner (λ y. g.F.Flash.tells → Changes l.to l.len Anything (g.F.Flash.contents l.fn.inner) y);
  blocks : g.F.Flash.block_count l.inner ≡ g.F.Flash.block_count l.fn.inner;
  block_size : g.F.Flash.block_len l.inner ≡ g.F.Flash.block_len l.fn.inner;
  halt : g.F.Flash.halted l.fn.inner → g.F.Flash.halted l.inner;
  faults : g.F.Flash.faults l.fn.inner ≤ g.F.Flash.faults l.inner;
}

abbrev pub decreases-loop-done : goal.decreases-loop-done
decreases-loop-done g l = l.len - l.done
