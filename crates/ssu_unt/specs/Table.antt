-- Update Notification Table: ETSI TS 102 006 9.4.
use Rattle.std.specs.Prelude.{ℕ, ◌/◌, List}
use Rattle.section_form.specs.Long.{LongFields, has_table, section_of}
use Rattle.si_desc.specs.Descriptors.{sized_row}
use Rattle.ssu_compat.specs.Compat.{EntryFields, compat}
use Rattle.wire.specs.Format.{Front, Whole, reads, ◌&◌, sized, ◌then◌, to_end, whole_reads}
use Rattle.wire.specs.Inside.{noted}
use Rattle.wire.specs.Number.{number}

-- the bytes of the two loops of a pair
pub record PairFields : Type 0 where
  pub target : List ℕ
  pub operational : List ℕ

-- target_descriptor_loop; operational_descriptor_loop
unfoldable pub pair : Front PairFields
pair = reads (λ x. record { target = x.0; operational = x.1 }) (
    sized_row &
    sized_row)

-- which boxes, the pairs for them, and the bytes that spell the pairs
pub record PlatformFields : Type 0 where
  pub compat : List EntryFields
  pub pairs : List PairFields
  pub platform_loop : List ℕ

-- compatibility descriptor; platform_loop_length 16, and pairs that fill that many bytes
unfoldable pub platform : Front PlatformFields
platform = reads (λ x. record { compat = x.0; pairs = x.1.0; platform_loop = x.1.1 }) (
    compat &
    sized (number 2) (noted (to_end pair)))

-- OUI 24; processing_order 8; common_descriptor_loop; platforms to the end
unfoldable pub body : Whole (ℕ × (ℕ × (List ℕ × List PlatformFields)))
body =
    number 3 then λ _.
    number 1 then λ _.
    sized_row then λ _.
    to_end platform

pub record UntFields : Type 0 where
  pub action : ℕ
  pub oui : ℕ
  pub order : ℕ
  pub number : ℕ
  pub last : ℕ
  pub common : List ℕ
  pub platforms : List PlatformFields

-- table_id_extension: action_type 8; OUI_hash 8, at which no reader looks
abbrev pub unt_fields : LongFields × (ℕ × (ℕ × (List ℕ × List PlatformFields))) → UntFields
unt_fields x = record {
  action = x.0.extension / 256;
  oui = x.1.0;
  order = x.1.1.0;
  number = x.0.number;
  last = x.0.last;
  common = x.1.1.1.0;
  platforms = x.1.1.1.1;
}

-- table_id 0x4B, the long form
unfoldable pub unt : Whole UntFields
unt = whole_reads unt_fields (section_of (has_table 0x4B) body)
