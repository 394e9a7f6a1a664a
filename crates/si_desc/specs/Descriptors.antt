-- Rows of descriptors: ETSI EN 300 468 6.1; ISO/IEC 13818-1 2.6.1.
use Rattle.std.specs.Prelude.{ℕ, ◌==◌, List, Option}
use Rattle.std.specs.List.{find}
use Rattle.std.specs.Option.{option_map}
use Rattle.wire.specs.Format.{Front, Whole, reads, ◌&◌, sized, rest, only, kept, to_end}
use Rattle.wire.specs.Items.{items_of}
use Rattle.wire.specs.Number.{number, low}

pub record DescFields : Type 0 where
  pub tag : ℕ
  pub body : List ℕ

-- descriptor_tag 8; descriptor_length 8 and that many bytes
unfoldable pub descriptor : Front DescFields
descriptor = reads (λ x. record { tag = x.0; body = x.1 }) (
    number 1 &
    sized (number 1) rest)

-- A row of descriptors: whole descriptors, one after the other, that fill the bytes.
unfoldable pub row : Whole (List DescFields)
row = to_end descriptor

-- some descriptors fill these bytes
abbrev pub IsRow : List ℕ → Type 0
IsRow bytes = (ds : List DescFields) × row.Spells ds bytes

-- 4 reserved bits, a length of 12 and a row of descriptors of that length, as its bytes
unfoldable pub sized_row : Front (List ℕ)
sized_row = sized (low 2 12) (kept row)

-- the descriptors that stand whole at the front of the bytes
abbrev pub whole_descriptors : List ℕ → List DescFields
whole_descriptors bytes = items_of descriptor bytes

abbrev pub body_of : DescFields → List ℕ
body_of d = d.body

-- the body of the first of them with that tag
unfoldable pub first_body : ℕ → List ℕ → Option (List ℕ)
first_body tag bytes = option_map body_of (find (λ d. d.tag == tag) (whole_descriptors bytes))

-- The bytes are a descriptor of this tag, whose body says this in this format.
pub record IsDescriptor {A : Type 0} (format : Whole A) (tag : ℕ) (value : A) (bytes : List ℕ) : Type 0 where
  pub body : List ℕ
  pub spelled : descriptor.Spells (record { tag = tag; body = body }) bytes
  pub says : format.Spells value body

-- stream_identifier_descriptor, tag 0x52 (EN 300 468 6.2.39): component_tag 8, and nothing else
unfoldable pub stream_identifier : Whole ℕ
stream_identifier = only (number 1)

-- ssu_subgroup_association_descriptor, tag 0x0B (ETSI TS 102 006 9.6): the subgroup 40, and nothing else
unfoldable pub subgroup_association : Whole ℕ
subgroup_association = only (number 5)
