use Rattle.std.proofs.Common.{◌≡◌, []}
use Rattle.std.specs.Prelude.{unwrap_or}
use Rattle.ts_crc.specs.Crc.{crc_of}
use Rattle.ssu_group.specs.Carried.{joined}
use Rattle.ssu_audit.specs.Filled.{text_at}
use Rattle.ssu_audit.specs.Kept.{block_at}
use Rattle.ssu_audit.proofs.filled.crc_of_module.Given as goal

abbrev pub invariant-loop-block : goal.invariant-loop-block
invariant-loop-block l = l.register ≡ crc_of (joined (λ k. unwrap_or (text_at (block_at l.blocks) l.plan l.module k) []) l.block)
