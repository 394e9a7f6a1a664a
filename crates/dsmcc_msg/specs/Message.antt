-- The message of a data carousel: ISO/IEC 13818-6, 7.2, as ETSI EN 301 192, 8.1, uses it.
use Rattle.std.specs.Prelude.{ℕ, Bool, List, ◌==◌}
use Rattle.wire.specs.Format.{Front, Whole, reads, fixed, skip, ◌&◌, ◌with◌, sized, after, rest, only, whole_such, whole_reads}
use Rattle.wire.specs.Number.{number}
use Rattle.section_form.specs.Long.{has_table, section_of}
use Rattle.wire.specs.Inside.{inside}

-- What every message has. A data block has its downloadId where the others have their transactionId.
pub record MessageFields : Type 0 where
  pub id : ℕ
  pub transaction : ℕ
  pub payload : List ℕ

abbrev pub protocol_discriminator : ℕ
protocol_discriminator = 0x11

abbrev pub dsmcc_type : ℕ
dsmcc_type = 0x03

-- protocolDiscriminator 8, dsmccType 8, messageId 16, transactionId 32, reserved 8, adaptationLength 8;
-- messageLength 16 and in as many bytes, filled exactly, the adaptation and the payload
unfoldable pub message : Front MessageFields
message = reads (λ x. record { id = x.1.1.0; transaction = x.1.1.1.0; payload = x.1.1.1.1.1.1 }) (
    fixed (number 1) protocol_discriminator &
    fixed (number 1) dsmcc_type &
    number 2 &
    number 4 &
    skip 1 &
    (number 1 with λ adaptation. sized (number 2) (after adaptation rest)))

abbrev pub has_id : ℕ → MessageFields → Bool
has_id id m = m.id == id

-- a message that fills the bytes, with this messageId, and what its payload is
abbrev pub message_of : {A : Type 0} → ℕ → Whole A → Whole (MessageFields × A)
message_of id payload = inside (whole_such (has_id id) (only message)) (λ m. m.payload) payload

-- A section in the long form with this table_id, and what its body is. The extension, the version and the section
-- numbers are free.
abbrev pub in_table : {A : Type 0} → ℕ → Whole A → Whole A
in_table table body = whole_reads (λ x. x.1) (section_of (has_table table) body)

-- table_id of the control messages DSI and DII, and of the data blocks
abbrev pub control_table : ℕ
control_table = 0x3B

abbrev pub block_table : ℕ
block_table = 0x3C
