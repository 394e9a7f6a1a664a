-- The selector bytes of data_broadcast_id_descriptor, tag 0x66 (ETSI EN 300 468 6.2.12), for the
-- data_broadcast_id 0x000A of a system software update: ETSI TS 102 006 7.1.
use Rattle.std.specs.Prelude.{ℕ, ◌/◌, ◌%◌, ◌==◌, Bool, List}
use Rattle.wire.specs.Format.{Front, Whole, reads, ◌&◌, sized, ◌then◌, rest, fixed, to_end, whole_reads}
use Rattle.wire.specs.Number.{number, low}

pub record InfoFields : Type 0 where
  pub oui : ℕ
  pub update_type : ℕ
  pub versioned : Bool
  pub version : ℕ
  pub selector : List ℕ

abbrev pub info_fields : ℕ × (ℕ × (ℕ × List ℕ)) → InfoFields
info_fields x = record {
  oui = x.0;
  update_type = x.1.0;
  versioned = x.1.1.0 / 32 % 2 == 1;
  version = x.1.1.0 % 32;
  selector = x.1.1.1;
}

-- OUI 24; 4 reserved, update_type 4; 2 reserved, update_versioning_flag 1, update_version 5;
-- selector_length 8 and that many bytes
unfoldable pub info : Front InfoFields
info = reads info_fields (
    number 3 &
    low 1 4 &
    number 1 &
    sized (number 1) rest)

-- data_broadcast_id 16, which is 0x000A; OUI_data_length 8 and in that many bytes entries, which fill
-- them; private bytes
unfoldable pub update_infos : Whole (List InfoFields)
update_infos = whole_reads (λ x. x.1.0) (
    fixed (number 2) 0x000A then λ _.
    sized (number 1) (to_end info) then λ _.
    rest)
