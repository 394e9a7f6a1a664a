-- How entries without sub-descriptors are written.
use Rattle.std.specs.Prelude.{ℕ, ◌+◌, ◌*◌, ◌^◌, ◌<◌, List, [], ◌∷◌, ◌++◌, length}
use Rattle.std.specs.List.{flat_map}
use Rattle.wire.specs.Number.{bytes_of}
use Rattle.ssu_compat.specs.Compat.{EntryFields}
use Rattle.ssu_compat.specs.declared.plain.Plain.{Plain}

-- the entry that is written: specifierType 1, an OUI, and no sub-descriptor
abbrev pub entry_of : Plain → EntryFields
entry_of p = record { kind = p.kind; specifier = 1; oui = p.oui; model = p.model; version = p.version; subs = 0; sub_bytes = [] }

-- each field has its width
pub record Fits (p : Plain) : Type 0 where
  pub kind : p.kind < 2 ^ 8
  pub oui : p.oui < 2 ^ 24
  pub model : p.model < 2 ^ 16
  pub version : p.version < 2 ^ 16

-- descriptorLength is 9, for there is no sub-descriptor
abbrev pub entry_bytes : Plain → List ℕ
entry_bytes p = p.kind ∷ 9 ∷ 1 ∷ bytes_of 3 p.oui ++ bytes_of 2 p.model ++ bytes_of 2 p.version ++ 0 ∷ []

-- No entries are written with length 0, and others with their number in front.
unfoldable pub spelling : List Plain → List ℕ
spelling [] = bytes_of 2 0
spelling (p ∷ ps) = bytes_of 2 (2 + 11 * length (p ∷ ps)) ++ bytes_of 2 (length (p ∷ ps)) ++ flat_map entry_bytes (p ∷ ps)
