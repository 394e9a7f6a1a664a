use Rattle.std.proofs.Common.{◌≡◌, drop}
use Rattle.ssu_audit.specs.Filled.{missing_of}
use Rattle.ssu_audit.specs.Kept.{block_at}
use Rattle.ssu_audit.proofs.filled.first_missing.Given as goal

abbrev pub invariant-loop-module : goal.invariant-loop-module
invariant-loop-module l =
    missing_of (block_at l.blocks) l.plan (drop l.module-index l.plan.modules.items) ≡ missing_of (block_at l.blocks) l.plan l.plan.modules.items
