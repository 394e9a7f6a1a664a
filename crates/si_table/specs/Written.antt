-- The spelling that the writers make: reserved bits are ones, the version is 0, and the section is number 0 of 0.
use Rattle.std.specs.Prelude.{ℕ, ◌+◌, ◌*◌, ◌^◌, true, false, List, ◌++◌, length, ◌≤◌, IsSome}
use Rattle.wire.specs.Number.{bytes_of, length_bytes}
use Rattle.ts_crc.specs.Crc.{crc_of}
use Rattle.section_form.specs.Written.{long_bytes, only_section}
use Rattle.si_desc.specs.Written.{row_bytes}
use Rattle.ssu_time.specs.UtcField.{TimeFields}
use Rattle.ssu_time.specs.UtcTime.{utc_bytes}
use Rattle.si_table.specs.Tables.{ProgramFields, StreamFields, stream}
use Rattle.wire.specs.Format.{to_end}

-- 3 reserved bits and a PID
abbrev pub pid_bytes : ℕ → List ℕ
pid_bytes pid = bytes_of 2 (7 * 2 ^ 13 + pid)

-- ---- PAT of one program

abbrev pub program_bytes : ProgramFields → List ℕ
program_bytes p = bytes_of 2 p.number ++ pid_bytes p.pid

unfoldable pub pat_bytes : ℕ → ProgramFields → List ℕ
pat_bytes ts p = long_bytes false (only_section 0x00 ts 0 (program_bytes p))

-- ---- PMT without a PCR and with no program descriptors

abbrev pub stream_bytes : StreamFields → List ℕ
stream_bytes s =
    bytes_of 1 s.kind ++ (
    pid_bytes s.pid ++
    row_bytes s.info)

-- A PMT that is being written: its streams, and the bytes that these are written as.
pub record PmtDraft : Type 0 where
  pub program : ℕ
  pub streams : List StreamFields
  pub bytes : List ℕ

abbrev pub pmt_body_bytes : List ℕ → List ℕ
pmt_body_bytes streams =
    pid_bytes 0x1FFF ++ (
    length_bytes 0 ++
    streams)

unfoldable pub pmt_bytes : PmtDraft → List ℕ
pmt_bytes d = long_bytes false (only_section 0x02 d.program 0 (pmt_body_bytes d.bytes))

-- section_length of a PMT whose streams have so many bytes: 9 of the section, 4 before the streams
abbrev pub pmt_section_length : ℕ → ℕ
pmt_section_length streams = 9 + 4 + streams

-- ---- NIT or BAT with one entry, which has no descriptors

abbrev pub entry_bytes : ℕ → ℕ → List ℕ
entry_bytes ts network =
    bytes_of 2 ts ++ (
    bytes_of 2 network ++
    length_bytes 0)

abbrev pub net_body_bytes : List ℕ → ℕ → ℕ → List ℕ
net_body_bytes info ts network =
    row_bytes info ++ (
    length_bytes 6 ++
    entry_bytes ts network)

unfoldable pub net_bytes : ℕ → ℕ → List ℕ → ℕ → ℕ → List ℕ
net_bytes table id info ts network = long_bytes true (only_section table id 0 (net_body_bytes info ts network))

-- section_length of a NIT or BAT whose first row has so many bytes: 9 of the section, 2 before and 8 behind the row
abbrev pub net_section_length : ℕ → ℕ
net_section_length info = 9 + 2 + info + 8

-- ---- TDT and TOT: section_syntax_indicator 0, one bit that is set, 2 reserved bits

abbrev pub tdt_bytes : TimeFields → List ℕ
tdt_bytes t = bytes_of 1 0x70 ++ (bytes_of 2 (7 * 2 ^ 12 + 5) ++ utc_bytes t.mjd t.second)

-- section_length of a TOT whose row has so many bytes: the time 5, the row's length 2, CRC_32 4
abbrev pub tot_section_length : ℕ → ℕ
tot_section_length info = 5 + 2 + info + 4

abbrev pub tot_text : TimeFields → List ℕ → List ℕ
tot_text t info =
    bytes_of 1 0x73 ++ (
    bytes_of 2 (7 * 2 ^ 12 + tot_section_length (length info)) ++ (
    utc_bytes t.mjd t.second ++
    row_bytes info))

unfoldable pub tot_bytes : TimeFields → List ℕ → List ℕ
tot_bytes t info = tot_text t info ++ bytes_of 4 (crc_of (tot_text t info))

-- Whole streams of a PMT that is being written fill the bytes, and a section has room for them.
pub record IsStreamRow (bytes : List ℕ) : Type 0 where
  pub whole : IsSome ((to_end stream).of bytes)
  pub room : length bytes ≤ 1008
