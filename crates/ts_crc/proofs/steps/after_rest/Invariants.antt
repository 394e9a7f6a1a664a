use Rattle.std.proofs.Common.{◌≡◌, drop}
use Rattle.ts_crc.specs.Crc.{after_bytes}
use Rattle.ts_crc.proofs.steps.after_rest.Given as goal

abbrev pub invariant-loop-byte : goal.invariant-loop-byte
invariant-loop-byte l = after_bytes l.now (drop l.byte-index l.bytes) ≡ after_bytes l.register l.bytes
