-- A data block as the code has it, without where its bytes lie.
use Rattle.dsmcc_msg.specs.Block.{DdbFields}
use Rattle.dsmcc_msg.specs.declared.ddb.Ddb.{Ddb}

abbrev pub ddb_view : Ddb → DdbFields
ddb_view d = record { download = d.download; module_id = d.module; version = d.version; block = d.block; bytes = d.bytes.now }
