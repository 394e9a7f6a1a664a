-- The compatibility descriptor: ISO/IEC 13818-6 6.1, ETSI TS 102 006 9.5.2.
-- All numbers have the highest byte first.
use Rattle.std.specs.Prelude.{ℕ, List}
use Rattle.wire.specs.Format.{Front, Whole, reads, ◌&◌, sized, ◌then◌, rest, kept, exactly, whole_reads, or_none}
use Rattle.wire.specs.Number.{number}

-- one entry of the descriptor
pub record EntryFields : Type 0 where
  pub kind : ℕ
  pub specifier : ℕ
  pub oui : ℕ
  pub model : ℕ
  pub version : ℕ
  pub subs : ℕ
  pub sub_bytes : List ℕ

-- subDescriptorType 8; subDescriptorLength 8 and that many bytes
abbrev pub sub_descriptor : Front (ℕ × List ℕ)
sub_descriptor =
    number 1 &
    sized (number 1) rest

-- specifierType 8; specifierData 24; model 16; version 16; subDescriptorCount 8 and that many
-- sub-descriptors, which fill the descriptor
abbrev pub inside_entry : Whole ((ℕ × (ℕ × (ℕ × (ℕ × ℕ)))) × List ℕ)
inside_entry =
    (number 1 & number 3 & number 2 & number 2 & number 1) then λ x.
    kept (exactly x.1.1.1.1 sub_descriptor)

abbrev pub entry_fields : ℕ × ((ℕ × (ℕ × (ℕ × (ℕ × ℕ)))) × List ℕ) → EntryFields
entry_fields x = record {
  kind = x.0;
  specifier = x.1.0.0;
  oui = x.1.0.1.0;
  model = x.1.0.1.1.0;
  version = x.1.0.1.1.1.0;
  subs = x.1.0.1.1.1.1;
  sub_bytes = x.1.1;
}

-- descriptorType 8; descriptorLength 8 and that many bytes
unfoldable pub entry : Front EntryFields
entry = reads entry_fields (
    number 1 &
    sized (number 1) inside_entry)

-- descriptorCount 16 and that many entries
unfoldable pub entries : Whole (List EntryFields)
entries = whole_reads (λ x. x.1) (
    number 2 then λ count.
    exactly count entry)

-- length 16 of what follows: nothing, where there are no entries, or the entries
unfoldable pub compat : Front (List EntryFields)
compat = sized (number 2) (or_none entries)
