-- The descriptors that are written: ETSI EN 300 468 6.2, ETSI TS 102 006.
use Rattle.std.specs.Prelude.{ℕ, ◌+◌, ◌*◌, List, [], ◌∷◌, ◌++◌, length, false}
use Rattle.wire.specs.Number.{bytes_of, length_bytes}
use Rattle.si_desc.specs.declared.linkages.ServiceRef.{ServiceRef}
use Rattle.si_desc.specs.Descriptors.{descriptor}
use Rattle.si_desc.specs.Linkage.{linkage, update_ouis}
use Rattle.si_desc.specs.SsuInfo.{InfoFields}

-- a row behind its length of 12 bits
abbrev pub row_bytes : List ℕ → List ℕ
row_bytes row = length_bytes (length row) ++ row

abbrev pub service_of : ℕ → ℕ → ℕ → ServiceRef
service_of ts network service = record { ts = ts; network = network; service = service }

-- tag 0x4A, 12 bytes: the service, linkage type 0x09, 4 bytes of OUI and no selector
abbrev pub linkage_bytes : ServiceRef → ℕ → List ℕ
linkage_bytes to oui =
    bytes_of 1 0x4A ++ bytes_of 1 12
    ++ bytes_of 2 to.ts ++ bytes_of 2 to.network ++ bytes_of 2 to.service ++ bytes_of 1 0x09
    ++ bytes_of 1 4 ++ bytes_of 3 oui ++ bytes_of 1 0

-- The bytes are a linkage descriptor of type 0x09 to the service, with that OUI alone.
pub record IsUpdateLinkage (to : ServiceRef) (oui : ℕ) (bytes : List ℕ) : Type 0 where
  pub body : List ℕ
  pub rest : List ℕ
  pub spelled : descriptor.Spells (record { tag = 0x4A; body = body }) bytes
  pub linked : linkage.Spells (record { to = to; kind = 0x09; rest = rest }) body
  pub listed : update_ouis.Spells (record { oui = oui; selector = [] } ∷ []) rest

-- tag 0x66, 9 bytes: id 0x000A, 6 bytes of OUI, type, no version and no selector; the 4 bits before
-- the type and the 2 before the versioning flag are reserved and written as ones
abbrev pub info_bytes : ℕ → ℕ → List ℕ
info_bytes oui update_type =
    bytes_of 1 0x66 ++ bytes_of 1 9
    ++ bytes_of 2 0x000A ++ bytes_of 1 6
    ++ bytes_of 3 oui ++ bytes_of 1 (15 * 16 + update_type) ++ bytes_of 1 0xC0 ++ bytes_of 1 0

-- the one entry that it lists
abbrev pub written_info : ℕ → ℕ → InfoFields
written_info oui update_type = record { oui = oui; update_type = update_type; versioned = false; version = 0; selector = [] }

-- tag 0x52, 1 byte
abbrev pub component_bytes : ℕ → List ℕ
component_bytes tag = bytes_of 1 0x52 ++ bytes_of 1 1 ++ bytes_of 1 tag
