-- Tables of program specific information (ISO/IEC 13818-1, 2.4.4) and of service information (ETSI EN 300 468, 5.2).
-- Each stands in a section of the long form, and reserved bits are free.
use Rattle.std.specs.Prelude.{ℕ, Bool, ◌&&◌, ◌||◌, ◌==◌, nat_le, List, length}
use Rattle.wire.specs.Format.{Front, Whole, reads, ◌&◌, ◌then◌, sized, only, to_end, checked, whole_reads}
use Rattle.wire.specs.Number.{number, low}
use Rattle.section_form.specs.Long.{LongFields, has_table, section_of}
use Rattle.si_desc.specs.Descriptors.{sized_row}

-- section_length is at most 1021
abbrev pub fits_a_table : List ℕ → Bool
fits_a_table section = nat_le (length section) 1024

-- a section of the long form whose fields pass the test, and what its body is
abbrev pub table_of : {A : Type 0} → (LongFields → Bool) → Whole A → Whole (LongFields × A)
table_of is_head body = checked fits_a_table (section_of is_head body)

-- ---- PAT: table_id 0x00, 2.4.4.3

pub record ProgramFields : Type 0 where
  pub number : ℕ
  pub pid : ℕ

-- program_number 16; 3 reserved bits, PID 13
unfoldable pub program : Front ProgramFields
program = reads (λ x. record { number = x.0; pid = x.1 }) (
    number 2 &
    low 2 13)

-- table_id_extension is transport_stream_id
pub record PatFields : Type 0 where
  pub ts : ℕ
  pub programs : List ProgramFields

unfoldable pub pat : Whole PatFields
pat = whole_reads (λ x. record { ts = x.0.extension; programs = x.1 }) (table_of (has_table 0x00) (to_end program))

-- ---- PMT: table_id 0x02, section 0 of 0, 2.4.4.8

pub record StreamFields : Type 0 where
  pub kind : ℕ
  pub pid : ℕ
  pub info : List ℕ

-- stream_type 8; 3 reserved bits, elementary_PID 13; 4 reserved bits, ES_info_length 12 and a row of descriptors
unfoldable pub stream : Front StreamFields
stream = reads (λ x. record { kind = x.0; pid = x.1.0; info = x.1.1 }) (
    number 1 &
    low 2 13 &
    sized_row)

-- table_id_extension is program_number
pub record PmtFields : Type 0 where
  pub program : ℕ
  pub pcr : ℕ
  pub info : List ℕ
  pub streams : List StreamFields

abbrev pub is_pmt : LongFields → Bool
is_pmt s = s.table == 0x02 && s.number == 0 && s.last == 0

-- 3 reserved bits, PCR_PID 13; 4 reserved bits, program_info_length 12 and a row of descriptors; the streams
unfoldable pub pmt_body : Whole (ℕ × (List ℕ × List StreamFields))
pmt_body =
    low 2 13 then λ _.
    sized_row then λ _.
    to_end stream

abbrev pub pmt_fields : LongFields × (ℕ × (List ℕ × List StreamFields)) → PmtFields
pmt_fields x = record { program = x.0.extension; pcr = x.1.0; info = x.1.1.0; streams = x.1.1.1 }

unfoldable pub pmt : Whole PmtFields
pmt = whole_reads pmt_fields (table_of is_pmt pmt_body)

-- ---- NIT of the actual network, table_id 0x40, and BAT, table_id 0x4A: EN 300 468, 5.2.1 and 5.2.2

pub record NetEntryFields : Type 0 where
  pub ts : ℕ
  pub network : ℕ
  pub info : List ℕ

-- transport_stream_id 16; original_network_id 16; 4 reserved bits, transport_descriptors_length 12 and a row
unfoldable pub net_entry : Front NetEntryFields
net_entry = reads (λ x. record { ts = x.0; network = x.1.0; info = x.1.1 }) (
    number 2 &
    number 2 &
    sized_row)

-- table_id_extension is network_id or bouquet_id
pub record NetFields : Type 0 where
  pub table : ℕ
  pub id : ℕ
  pub info : List ℕ
  pub entries : List NetEntryFields

abbrev pub is_net : LongFields → Bool
is_net s = s.table == 0x40 || s.table == 0x4A

-- 4 reserved bits, a length 12 and a row of descriptors; 4 reserved bits, a length 12 and entries, which fill it
unfoldable pub net_body : Whole (List ℕ × List NetEntryFields)
net_body = only (
    sized_row &
    sized (low 2 12) (to_end net_entry))

abbrev pub net_fields : LongFields × (List ℕ × List NetEntryFields) → NetFields
net_fields x = record { table = x.0.table; id = x.0.extension; info = x.1.0; entries = x.1.1 }

unfoldable pub net : Whole NetFields
net = whole_reads net_fields (table_of is_net net_body)
