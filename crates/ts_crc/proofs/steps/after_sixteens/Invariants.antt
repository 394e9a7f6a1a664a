use Rattle.std.proofs.Common.{◌≡◌, length}
use Rattle.ts_crc.specs.Crc.{after_bytes}
use Rattle.ts_crc.proofs.steps.after_sixteens.Given as goal

abbrev pub invariant-loop-rest : goal.invariant-loop-rest
invariant-loop-rest l = after_bytes l.now l.rest ≡ after_bytes l.register l.bytes

abbrev pub decreases-loop-rest : goal.decreases-loop-rest
decreases-loop-rest l = length l.rest
