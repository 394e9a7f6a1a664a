-- linkage_descriptor, tag 0x4A: ETSI EN 300 468 6.2.19. Linkage type 0x09 leads to a system software
-- update: ETSI TS 102 006 6.1.
use Rattle.std.specs.Prelude.{ℕ, ◌==◌, Bool, List}
use Rattle.std.specs.List.{list_any}
use Rattle.wire.specs.Format.{Front, Whole, reads, ◌&◌, sized, ◌then◌, rest, to_end, whole_reads}
use Rattle.wire.specs.Number.{number}
use Rattle.si_desc.specs.declared.linkages.ServiceRef.{ServiceRef}

pub record LinkageFields : Type 0 where
  pub to : ServiceRef
  pub kind : ℕ
  pub rest : List ℕ

abbrev pub linkage_fields : (ℕ × (ℕ × (ℕ × ℕ))) × List ℕ → LinkageFields
linkage_fields x = record {
  to = record { ts = x.0.0; network = x.0.1.0; service = x.0.1.1.0 };
  kind = x.0.1.1.1;
  rest = x.1;
}

-- transport_stream_id 16; original_network_id 16; service_id 16; linkage_type 8; the rest
unfoldable pub linkage : Whole LinkageFields
linkage = whole_reads linkage_fields (
    (number 2 & number 2 & number 2 & number 1) then λ _.
    rest)

pub record OuiFields : Type 0 where
  pub oui : ℕ
  pub selector : List ℕ

-- OUI 24; selector_length 8 and that many bytes
unfoldable pub oui_entry : Front OuiFields
oui_entry = reads (λ x. record { oui = x.0; selector = x.1 }) (
    number 3 &
    sized (number 1) rest)

-- The rest of a linkage of type 0x09: OUI_data_length 8 and in that many bytes entries, which fill
-- them; private bytes.
unfoldable pub update_ouis : Whole (List OuiFields)
update_ouis = whole_reads (λ x. x.0) (
    sized (number 1) (to_end oui_entry) then λ _.
    rest)

-- Does an entry have the OUI?
unfoldable pub lists : ℕ → List OuiFields → Bool
lists oui entries = list_any (λ e. e.oui == oui) entries
