use Rattle.std.proofs.Common.{sym}
use Rattle.ts_crc.proofs.CrcLaws.{crc_none}
use Rattle.ts_crc.proofs.register.Register.new.Goals as goal

pub returns : goal.returns
returns c = sym crc_none
