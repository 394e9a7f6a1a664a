-- The data block: DownloadDataBlock (DDB), ISO/IEC 13818-6, 7.3; ETSI EN 301 192, 8.1.
use Rattle.std.specs.Prelude.{ℕ, List}
use Rattle.wire.specs.Format.{Whole, skip, ◌then◌, rest, whole_reads}
use Rattle.wire.specs.Number.{number}
use Rattle.dsmcc_msg.specs.Message.{MessageFields, message_of, in_table, block_table}

pub record DdbFields : Type 0 where
  pub download : ℕ
  pub module_id : ℕ
  pub version : ℕ
  pub block : ℕ
  pub bytes : List ℕ

-- What the payload of a DDB says.
pub record Block : Type 0 where
  pub module_id : ℕ
  pub version : ℕ
  pub number : ℕ
  pub bytes : List ℕ

-- moduleId 16, moduleVersion 8, reserved 8, blockNumber 16, and the bytes of the block to the end
unfoldable pub ddb_payload : Whole Block
ddb_payload = whole_reads (λ x. record { module_id = x.0; version = x.1.0; number = x.1.1.1.0; bytes = x.1.1.1.1 }) (
    number 2 then λ _.
    number 1 then λ _.
    skip 1 then λ _.
    number 2 then λ _.
    rest)

abbrev pub ddb_id : ℕ
ddb_id = 0x1003

abbrev pub ddb_fields : MessageFields × Block → DdbFields
ddb_fields x = record {
  download = x.0.transaction;
  module_id = x.1.module_id;
  version = x.1.version;
  block = x.1.number;
  bytes = x.1.bytes;
}

unfoldable pub ddb_message : Whole DdbFields
ddb_message = whole_reads ddb_fields (message_of ddb_id ddb_payload)

unfoldable pub ddb : Whole DdbFields
ddb = in_table block_table ddb_message
