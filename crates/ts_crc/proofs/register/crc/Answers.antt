use Rattle.std.proofs.Common.{◌++◌, sym, ap, ◌∙◌}
use Rattle.std.specs.Int.{to_be_bytes, w32}
use Rattle.ts_crc.specs.Crc.{crc_of}
use Rattle.ts_crc.proofs.CrcLaws.{crc_is, crc_appended}
use Rattle.ts_crc.proofs.register.crc.Goals as goal

pub returns-clause-value : goal.returns-clause-value
returns-clause-value c = c.pushed.ensures ∙ sym (crc_is _)

pub returns-clause-appended : goal.returns-clause-appended
returns-clause-appended c =
    let bytes = c.args.bytes.now in
    ap (λ n. crc_of (bytes ++ to_be_bytes w32 n)) (c.pushed.ensures ∙ sym (crc_is bytes)) ∙ crc_appended bytes
