-- The spelling that the writers make: reserved bytes are 0xFF, and there is no adaptation. All numbers have the highest
-- byte first.
use Rattle.std.specs.Prelude.{ℕ, ◌+◌, ◌%◌, ◌^◌, min, false, List, ◌++◌, length, replicate, ◌≤◌, IsSome}
use Rattle.wire.specs.Number.{bytes_of}
use Rattle.section_form.specs.Long.{LongFields}
use Rattle.section_form.specs.Written.{long_bytes, only_section}
use Rattle.dsmcc_msg.specs.Message.{protocol_discriminator, dsmcc_type, control_table, block_table}
use Rattle.dsmcc_msg.specs.Control.{GroupFields, ModuleFields, DiiFields, dsi_id, dii_id}
use Rattle.dsmcc_msg.specs.Block.{DdbFields, ddb_id}
use Rattle.wire.specs.Format.{Front, exactly}

abbrev pub message_bytes : ℕ → ℕ → List ℕ → List ℕ
message_bytes id transaction payload =
    bytes_of 1 protocol_discriminator ++ (
    bytes_of 1 dsmcc_type ++ (
    bytes_of 2 id ++ (
    bytes_of 4 transaction ++ (
    bytes_of 1 0xFF ++ (
    bytes_of 1 0 ++ (
    bytes_of 2 (length payload) ++
    payload))))))

-- A control message goes with the low 16 bits of its transactionId as extension, in version 0 and section 0 of 0.
abbrev pub control_head : ℕ → ℕ → List ℕ → LongFields
control_head id transaction payload =
    only_section control_table (transaction % 2 ^ 16) 0 (message_bytes id transaction payload)

-- ---- DSI

-- A DSI that is being written: its groups, and the bytes that these are written as.
pub record DsiDraft : Type 0 where
  pub transaction : ℕ
  pub groups : List GroupFields
  pub bytes : List ℕ

abbrev pub group_bytes : ℕ → ℕ → List ℕ → List ℕ → List ℕ
group_bytes id size compat info =
    bytes_of 4 id ++ (
    bytes_of 4 size ++ (
    compat ++ (
    bytes_of 2 (length info) ++
    info)))

-- the private data: the number of groups, the groups, and no private bytes behind them
abbrev pub group_list_bytes : ℕ → List ℕ → List ℕ
group_list_bytes count groups =
    bytes_of 2 count ++ (
    groups ++
    bytes_of 2 0)

-- serverId of 20 bytes 0xFF, and a compatibility length of 0
abbrev pub dsi_payload_bytes : ℕ → List ℕ → List ℕ
dsi_payload_bytes count groups =
    replicate 20 0xFF ++ (
    bytes_of 2 0 ++ (
    bytes_of 2 (length (group_list_bytes count groups)) ++
    group_list_bytes count groups))

abbrev pub dsi_head : DsiDraft → LongFields
dsi_head d = control_head dsi_id d.transaction (dsi_payload_bytes (length d.groups) d.bytes)

unfoldable pub dsi_bytes : DsiDraft → List ℕ
dsi_bytes d = long_bytes false (dsi_head d)

-- section_length of a DSI whose groups have so many bytes: 9 of the section, 12 of the message, 28 around the groups
abbrev pub dsi_section_length : ℕ → ℕ
dsi_section_length groups = 9 + 12 + 28 + groups

-- ---- DII

-- A DII that is being written: its modules, and the bytes that these are written as.
pub record DiiDraft : Type 0 where
  pub transaction : ℕ
  pub download : ℕ
  pub block_size : ℕ
  pub modules : List ModuleFields
  pub bytes : List ℕ

abbrev pub module_bytes : ℕ → ℕ → ℕ → List ℕ → List ℕ
module_bytes id size version info =
    bytes_of 2 id ++ (
    bytes_of 4 size ++ (
    bytes_of 1 version ++ (
    bytes_of 1 (length info) ++
    info)))

-- windowSize, ackPeriod and both timers are 0, the compatibility length and the number of private bytes too
abbrev pub dii_payload_bytes : ℕ → ℕ → ℕ → List ℕ → List ℕ
dii_payload_bytes download block_size count modules =
    bytes_of 4 download ++ (
    bytes_of 2 block_size ++ (
    replicate 10 0 ++ (
    bytes_of 2 0 ++ (
    bytes_of 2 count ++ (
    modules ++
    bytes_of 2 0)))))

abbrev pub dii_message_bytes : DiiDraft → List ℕ
dii_message_bytes d = message_bytes dii_id d.transaction (dii_payload_bytes d.download d.block_size (length d.modules) d.bytes)

-- what is read of a DII that is written
abbrev pub dii_of : DiiDraft → DiiFields
dii_of d = record { transaction = d.transaction; download = d.download; block_size = d.block_size; modules = d.modules; message = dii_message_bytes d }

abbrev pub dii_head : DiiDraft → LongFields
dii_head d = control_head dii_id d.transaction (dii_payload_bytes d.download d.block_size (length d.modules) d.bytes)

unfoldable pub dii_bytes : DiiDraft → List ℕ
dii_bytes d = long_bytes false (dii_head d)

-- section_length of a DII whose modules have so many bytes: 9 of the section, 12 of the message, 22 around the modules
abbrev pub dii_section_length : ℕ → ℕ
dii_section_length modules = 9 + 12 + 22 + modules

-- ---- DDB

abbrev pub ddb_payload_bytes : DdbFields → List ℕ
ddb_payload_bytes d =
    bytes_of 2 d.module_id ++ (
    bytes_of 1 d.version ++ (
    bytes_of 1 0xFF ++ (
    bytes_of 2 d.block ++
    d.bytes)))

-- A block goes with its moduleId as extension, the moduleVersion modulo 32 as version, the blockNumber modulo 256 as
-- section number, and the lesser of 255 and the last block's number as last section number.
abbrev pub ddb_head : DdbFields → ℕ → LongFields
ddb_head d last_block = record {
  table = block_table;
  extension = d.module_id;
  version = d.version % 32;
  number = d.block % 256;
  last = min last_block 255;
  body = message_bytes ddb_id d.download (ddb_payload_bytes d);
}

unfoldable pub ddb_bytes : DdbFields → ℕ → List ℕ
ddb_bytes d last_block = long_bytes false (ddb_head d last_block)

-- The bytes are as many items, whole, and no more than `most` bytes.
pub record IsRow {A : Type 0} (format : Front A) (count most : ℕ) (bytes : List ℕ) : Type 0 where
  pub whole : IsSome ((exactly count format).of bytes)
  pub few : count ≤ length bytes
  pub room : length bytes ≤ most
