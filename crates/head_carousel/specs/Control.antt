-- The control messages of a carousel, DSI and DII: ISO/IEC 13818-6, 7.3; ETSI EN 301 192, 8.1.
use Rattle.std.specs.Prelude.{ℕ, List, [], ◌∷◌, ◌++◌, map, length, Option, Some, None}
use Rattle.std.specs.List.{flat_map, sum_by}
use Rattle.dsmcc_msg.specs.Control.{GroupFields, ModuleFields}
use Rattle.dsmcc_msg.specs.Written.{DsiDraft, DiiDraft, group_bytes, dsi_bytes, module_bytes, dii_bytes}
use Rattle.head_plan.specs.Plans.{GroupData}
use Rattle.ssu_compat.specs.declared.plain.Plain.{Plain}
use Rattle.ssu_compat.specs.Written.{entry_of, spelling}
use Rattle.ssu_unt.specs.Announced.{subgroup_bytes}
use Rattle.ts_crc.specs.Crc.{crc_of}
use Rattle.wire.specs.Number.{bytes_of}
use Rattle.head_carousel.specs.GroupFiles.{GroupFiles, modules_of}

-- ---- compatibility

-- the hardware that a group is for
abbrev pub hardware : ℕ → GroupData → Plain
hardware oui g = record { kind = 1; oui = oui; model = g.model; version = g.version }

-- the software that it gets
abbrev pub software : ℕ → GroupData → Plain
software oui g = record { kind = 2; oui = oui; model = g.software_model; version = g.software_version }

abbrev pub hardware_alone : ℕ → GroupData → List Plain
hardware_alone oui g = hardware oui g ∷ []

abbrev pub hardware_and_software : ℕ → GroupData → List Plain
hardware_and_software oui g = hardware oui g ∷ software oui g ∷ []

-- the descriptor of a subgroup, where there is one
abbrev pub subgroup_row : Option ℕ → List ℕ
subgroup_row None = []
subgroup_row (Some number) = subgroup_bytes number

-- ---- DSI

-- the bytes of all files of a group
abbrev pub total_size : GroupFiles → ℕ
total_size g = sum_by length g.files

abbrev pub group_fields : ℕ → GroupFiles → GroupFields
group_fields oui g = record {
  id = g.id;
  size = total_size g;
  compat = map entry_of (hardware_and_software oui g.group);
  info = subgroup_row g.group.subgroup;
}

abbrev pub group_piece : ℕ → GroupFiles → List ℕ
group_piece oui g = group_bytes g.id (total_size g) (spelling (hardware_and_software oui g.group)) (subgroup_row g.group.subgroup)

-- The DSI of the groups, with transaction 0x80000000.
unfoldable pub dsi_draft : ℕ → List GroupFiles → DsiDraft
dsi_draft oui gs = record {
  transaction = 0x80000000;
  groups = map (group_fields oui) gs;
  bytes = flat_map (group_piece oui) gs;
}

abbrev pub dsi_section : ℕ → List GroupFiles → List ℕ
dsi_section oui gs = dsi_bytes (dsi_draft oui gs)

-- ---- DII

-- the CRC32 descriptor of a module, tag 0x05, 4 bytes: the CRC of the file
abbrev pub crc_row : List ℕ → List ℕ
crc_row file = bytes_of 1 0x05 ++ (bytes_of 1 4 ++ bytes_of 4 (crc_of file))

abbrev pub module_fields : ℕ → ℕ × List ℕ → ModuleFields
module_fields version m = record { id = m.0; size = length m.1; version = version; info = crc_row m.1 }

abbrev pub module_piece : ℕ → ℕ × List ℕ → List ℕ
module_piece version m = module_bytes m.0 (length m.1) version (crc_row m.1)

-- The DII of a group, whose transaction and download id are the group's id.
unfoldable pub dii_draft : GroupFiles → DiiDraft
dii_draft g = record {
  transaction = g.id;
  download = g.id;
  block_size = g.group.block_size;
  modules = map (module_fields g.group.module_version) (modules_of g);
  bytes = flat_map (module_piece g.group.module_version) (modules_of g);
}

abbrev pub dii_section : GroupFiles → List ℕ
dii_section g = dii_bytes (dii_draft g)
