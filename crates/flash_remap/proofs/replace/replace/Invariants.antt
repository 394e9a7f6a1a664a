use Rattle.std.proofs.Common.{◌≡◌, ◌⊎◌, ◌+◌, ◌-◌, ◌^◌, ◌≤◌}
use Rattle.flash_dev.specs.Moments.{LeavesOnly}
use Rattle.flash_remap.specs.Layout.{slots_in}
use Rattle.flash_remap.specs.Replaced.{IsBlankFrom, Replaces}
use Rattle.flash_remap.specs.Shape.{geometry}
use Rattle.flash_remap.proofs.replace.replace.Given as goal

abbrev pub invariant-loop-layout : goal.invariant-loop-layout
invariant-loop-layout g l = record {
  so_far : g.F.Flash.tells → Replaces (geometry l.layout) l.block l.from l.change l.fn.next.spare l.next.spare (g.F.Flash.contents l.fn.inner) (g.F.Flash.contents l.inner);
  left : LeavesOnly g.F.Flash.moment g.F.Flash.left_since l.fn.inner l.inner
      (λ y. g.F.Flash.tells → Replaces (geometry l.layout) l.block l.from l.change l.fn.next.spare l.layout.spares (g.F.Flash.contents l.fn.inner) y);
  blank : g.F.Flash.tells → IsBlankFrom (geometry l.layout) (g.F.Flash.contents l.inner) l.next.slot;
  spare : l.fn.next.spare ≤ l.next.spare;
  most_spare : l.next.spare ≤ l.layout.spares;
  slot : l.fn.next.slot ≤ l.next.slot;
  most_slot : l.next.slot ≤ slots_in (geometry l.layout);
  slots : l.next.slot + l.fn.next.spare ≤ l.next.spare + l.fn.next.slot;
  counted : (2 ^ 64 ≤ g.F.Flash.faults l.inner + 1) ⊎ (g.F.Flash.faults l.fn.inner + l.next.spare ≤ g.F.Flash.faults l.inner + l.fn.next.spare);
  later : g.F.Flash.faults l.fn.inner ≤ g.F.Flash.faults l.inner;
  blocks : g.F.Flash.block_count l.inner ≡ g.F.Flash.block_count l.fn.inner;
  block_size : g.F.Flash.block_len l.inner ≡ g.F.Flash.block_len l.fn.inner;
  halt : g.F.Flash.halted l.fn.inner → g.F.Flash.halted l.inner;
}

abbrev pub decreases-loop-layout : goal.decreases-loop-layout
decreases-loop-layout g l = l.layout.spares - l.next.spare
