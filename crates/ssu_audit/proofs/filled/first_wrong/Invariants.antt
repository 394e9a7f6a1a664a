use Rattle.std.proofs.Common.{◌≡◌, drop}
use Rattle.ssu_audit.specs.Filled.{wrong_of}
use Rattle.ssu_audit.specs.Kept.{block_at}
use Rattle.ssu_audit.proofs.filled.first_wrong.Given as goal

abbrev pub invariant-loop-module : goal.invariant-loop-module
invariant-loop-module l =
    wrong_of (block_at l.blocks) l.plan (drop l.module-index l.plan.modules.items) ≡ wrong_of (block_at l.blocks) l.plan l.plan.modules.items
