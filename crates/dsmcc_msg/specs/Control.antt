-- The control messages: DownloadServerInitiate (DSI) and DownloadInfoIndication (DII), ISO/IEC 13818-6, 7.3, with the
-- private data of a two-layer carousel, ETSI EN 301 192, 8.1.
use Rattle.std.specs.Prelude.{ℕ, Bool, List, length, nat_le}
use Rattle.wire.specs.Format.{Front, Whole, reads, fixed, skip, ◌&◌, ◌then◌, several, sized, rest, only, whole_reads, checked}
use Rattle.wire.specs.Number.{number}
use Rattle.ssu_compat.specs.Compat.{compat, EntryFields}
use Rattle.wire.specs.Inside.{noted}
use Rattle.dsmcc_msg.specs.Message.{MessageFields, message_of, in_table, control_table}

-- ---- DSI

pub record GroupFields : Type 0 where
  pub id : ℕ
  pub size : ℕ
  pub compat : List EntryFields
  pub info : List ℕ

pub record DsiFields : Type 0 where
  pub transaction : ℕ
  pub groups : List GroupFields

-- GroupId 32, GroupSize 32, GroupCompatibility, GroupInfoLength 16 and bytes
unfoldable pub group_entry : Front GroupFields
group_entry = reads (λ x. record { id = x.0; size = x.1.0; compat = x.1.1.0; info = x.1.1.1 }) (
    number 4 &
    number 4 &
    compat &
    sized (number 2) rest)

-- NumberOfGroups 16, the groups, PrivateDataLength 16 and bytes to the end
unfoldable pub group_list : Whole (List GroupFields)
group_list = whole_reads (λ x. x.1.0) (
    number 2 then λ count.
    several count group_entry (only (sized (number 2) rest)))

-- serverId of 20 bytes, a compatibility length of 0, privateDataLength 16 and in as many bytes, to the end, the groups
unfoldable pub dsi_payload : Whole (List GroupFields)
dsi_payload = whole_reads (λ x. x.1.1) (only (
    skip 20 &
    fixed (number 2) 0 &
    sized (number 2) group_list))

abbrev pub dsi_id : ℕ
dsi_id = 0x1006

unfoldable pub dsi_message : Whole DsiFields
dsi_message = whole_reads (λ x. record { transaction = x.0.transaction; groups = x.1 }) (message_of dsi_id dsi_payload)

unfoldable pub dsi : Whole DsiFields
dsi = in_table control_table dsi_message

-- ---- DII

pub record ModuleFields : Type 0 where
  pub id : ℕ
  pub size : ℕ
  pub version : ℕ
  pub info : List ℕ

-- A DII, with the bytes of its message.
pub record DiiFields : Type 0 where
  pub transaction : ℕ
  pub download : ℕ
  pub block_size : ℕ
  pub modules : List ModuleFields
  pub message : List ℕ

-- moduleId 16, moduleSize 32, moduleVersion 8, moduleInfoLength 8 and bytes
unfoldable pub module_entry : Front ModuleFields
module_entry = reads (λ x. record { id = x.0; size = x.1.0; version = x.1.1.0; info = x.1.1.1 }) (
    number 2 &
    number 4 &
    number 1 &
    sized (number 1) rest)

-- What the payload of a DII says.
pub record Download : Type 0 where
  pub id : ℕ
  pub block_size : ℕ
  pub modules : List ModuleFields

-- downloadId 32, blockSize 16; windowSize 8, ackPeriod 8, tCDownloadWindow 32 and tCDownloadScenario 32, at which nobody
-- looks; a compatibility descriptor, numberOfModules 16, the modules, privateDataLength 16 and bytes to the end
unfoldable pub dii_payload : Whole Download
dii_payload = whole_reads (λ x. record { id = x.0; block_size = x.1.0; modules = x.1.1.1.1.1.0 }) (
    number 4 then λ _.
    number 2 then λ _.
    skip 10 then λ _.
    compat then λ _.
    number 2 then λ count.
    several count module_entry (only (sized (number 2) rest)))

abbrev pub dii_id : ℕ
dii_id = 0x1002

-- the most bytes of a message that a section has room for
abbrev pub longest_message : ℕ
longest_message = 4084

abbrev pub fits_a_section : List ℕ → Bool
fits_a_section bytes = nat_le (length bytes) longest_message

abbrev pub dii_fields : (MessageFields × Download) × List ℕ → DiiFields
dii_fields x = record {
  transaction = x.0.0.transaction;
  download = x.0.1.id;
  block_size = x.0.1.block_size;
  modules = x.0.1.modules;
  message = x.1;
}

unfoldable pub dii_message : Whole DiiFields
dii_message = whole_reads dii_fields (noted (checked fits_a_section (message_of dii_id dii_payload)))

unfoldable pub dii : Whole DiiFields
dii = in_table control_table dii_message
