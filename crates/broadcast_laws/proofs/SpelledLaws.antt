-- What is written of a plan is read back.
use Rattle.std.proofs.Common.{◌≡◌, ℕ, ◌+◌, ◌*◌, ◌<◌, ◌≤◌, ◌^◌, List, [], ◌∷◌, length, drop, Some, refl, ◌∙◌, arith, length-append}
use Rattle.std.specs.Prelude.{Contains, map}
use Rattle.std.specs.List.{flat_map, sum_by}
use Rattle.std.proofs.lemmas.List.{length-map, length-take}
use Rattle.std.proofs.lemmas.List.Elements.{All-contains}
use Rattle.std.proofs.lemmas.List.Sums.{sum_by-cons}
use Rattle.dsmcc_msg.specs.Block.{ddb}
use Rattle.dsmcc_msg.specs.Control.{dii, dsi, group_entry, module_entry}
use Rattle.dsmcc_msg.specs.Written.{ddb_bytes, dii_of}
use Rattle.dsmcc_msg.proofs.Back.{IsDdb, IsDii, IsDsi, ddb_back, dii_back, dsi_back, group_put, module_put}
use Rattle.dsmcc_msg.proofs.Exact.{ddb_exact, dii_exact, dsi_exact}
use Rattle.head_carousel.specs.Blocks.{block_count, ddb_fields}
use Rattle.head_carousel.specs.Control.{crc_row, dii_draft, dii_section, dsi_draft, dsi_section, group_fields, group_piece, hardware_and_software, module_fields, module_piece, subgroup_row, total_size}
use Rattle.head_carousel.specs.GroupFiles.{GroupFiles, modules_of, numbered}
use Rattle.head_carousel.specs.Sections.{plan_groups}
use Rattle.head_carousel.proofs.BlockLaws.{parts_few, group_length}
use Rattle.head_carousel.proofs.ControlLaws.{groups_short, modules_length, subgroup_short}
use Rattle.head_carousel.proofs.ListLaws.{numbered-length}
use Rattle.head_plan.specs.Plans.{PlanData}
use Rattle.ssu_compat.specs.Compat.{compat}
use Rattle.ssu_compat.specs.Written.{entry_of, spelling}
use Rattle.ssu_compat.proofs.Spelled.{is_read_back}
use Rattle.wire.specs.Format.{SpellsEach}
use Rattle.broadcast_laws.specs.Planned.{IsGroupInRange, IsSent, dsi_of_plan}
use Rattle.broadcast_laws.proofs.Lists.{here, there}
use Rattle.broadcast_laws.proofs.PlanGroups.{IsWritten, written}

-- ---- the DSI

compat_spelled : (oui : ℕ) (g : GroupFiles) → oui < 2 ^ 24 → IsGroupInRange g.group
    → compat.Spells (map entry_of (hardware_and_software oui g.group)) (spelling (hardware_and_software oui g.group))
compat_spelled oui g small range =
    is_read_back (hardware_and_software oui g.group) (spelling (hardware_and_software oui g.group)) (omega arith) (
      record { kind = omega arith; oui = small; model = range.model; version = range.version },
      (record { kind = omega arith; oui = small; model = range.software_model; version = range.software_version }, tt),
    )
    refl

groups_spelled : (oui : ℕ) (gs : List GroupFiles) → oui < 2 ^ 24 → ((g : GroupFiles) → Contains gs g → IsWritten g)
    → SpellsEach group_entry.Spells (map (group_fields oui) gs) (flat_map (group_piece oui) gs)
groups_spelled oui [] small each = refl
groups_spelled oui (g ∷ gs) small each =
    let w = each g (here g gs) in
    let info = subgroup_short g.group.subgroup in
    record {
      front = group_piece oui g;
      back = flat_map (group_piece oui) gs;
      parts = refl;
      first = group_put g.id (total_size g) (map entry_of (hardware_and_software oui g.group)) (spelling (hardware_and_software oui g.group)) (subgroup_row g.group.subgroup)
          w.id w.total (compat_spelled oui g small w.range) (omega arith);
      second = groups_spelled oui gs small (λ h c. each h (there g gs h c));
    }

few_as_bytes : (oui : ℕ) (gs : List GroupFiles) → length (map (group_fields oui) gs) ≤ length (flat_map (group_piece oui) gs)
few_as_bytes oui [] = omega arith
few_as_bytes oui (g ∷ gs) =
    let later = few_as_bytes oui gs in
    let l = length-append (group_piece oui g) (flat_map (group_piece oui) gs) in
    omega arith

pub dsi_read : (p : PlanData) (images : List (List ℕ)) → IsSent p images → length (plan_groups p images) ≤ 16
    → dsi.of (dsi_section p.oui (plan_groups p images)) ≡ Some (dsi_of_plan p images)
unfolding dsi_draft
dsi_read p images sent few =
    let gs = plan_groups p images in
    let short = groups_short p.oui gs in
    let is : IsDsi (dsi_draft p.oui gs) = record {
      transaction = omega arith;
      few = few_as_bytes p.oui gs;
      room = omega arith;
      each = groups_spelled p.oui gs sent.oui (λ g c. written p images g sent c);
    } in
    dsi_exact.again (dsi_of_plan p images) (dsi_section p.oui gs) (dsi_back (dsi_draft p.oui gs) is)

-- ---- a DII

modules_spelled : (version n : ℕ) (files : List (List ℕ)) → version < 2 ^ 8 → n + length files < 2 ^ 16 → sum_by length files < 2 ^ 32
    → SpellsEach module_entry.Spells (map (module_fields version) (numbered n files)) (flat_map (module_piece version) (numbered n files))
unfolding numbered
modules_spelled version n [] v few small = refl
modules_spelled version n (f ∷ fs) v few small =
    let s = sum_by-cons length f fs in
    record {
      front = module_piece version (n, f);
      back = flat_map (module_piece version) (numbered (n + 1) fs);
      parts = refl;
      first = module_put n (length f) version (crc_row f) (omega arith) (omega arith) v (omega arith);
      second = modules_spelled version (n + 1) fs v (omega arith) (omega arith);
    }

pub dii_read : (g : GroupFiles) → IsWritten g → dii.of (dii_section g) ≡ Some (dii_of (dii_draft g))
unfolding dii_draft
dii_read g w =
    let files = w.few_files in
    let range = w.range in
    let most = range.block_most in
    let version = g.group.module_version in
    let room = modules_length version 1 g.files in
    let count : length (map (module_fields version) (modules_of g)) ≡ length g.files = length-map (modules_of g) (module_fields version) ∙ numbered-length 1 g.files in
    let is : IsDii (dii_draft g) = record {
      transaction = w.id;
      download = w.id;
      block_size = omega arith;
      few = omega arith;
      room = omega arith;
      each = modules_spelled version 1 g.files range.module_version (omega arith) w.total;
    } in
    dii_exact.again (dii_of (dii_draft g)) (dii_section g) (dii_back (dii_draft g) is)

-- ---- a block

pub record IsNumbered (n : ℕ) (files : List (List ℕ)) (m : ℕ × List ℕ) : Type 0 where
  pub least : n ≤ m.0
  pub most : m.0 < n + length files
  pub own : Contains files m.1

abbrev blocks_at_most : GroupFiles → List ℕ → Type 0
blocks_at_most g file = block_count g.group.block_size file ≤ 65536

pub few_blocks : (g : GroupFiles) (file : List ℕ) → IsWritten g → Contains g.files file → block_count g.group.block_size file ≤ 65536
few_blocks g file w own =
    let short = w.short in
    let count : sum_by (block_count g.group.block_size) g.files ≤ 65536 = omega (arith, short, group_length g) in
    All-contains (blocks_at_most g) g.files file (parts_few (block_count g.group.block_size) 65536 g.files count) own

pub ddb_read : (g : GroupFiles) (m : ℕ × List ℕ) (k last : ℕ) → IsWritten g → IsNumbered 1 g.files m → k < block_count g.group.block_size m.1
    → ddb.of (ddb_bytes (ddb_fields g m k) last) ≡ Some (ddb_fields g m k)
ddb_read g m k last w numbered_so below =
    let least = numbered_so.least in
    let most = numbered_so.most in
    let files = w.few_files in
    let range = w.range in
    let size = range.block_most in
    let few = few_blocks g m.1 w numbered_so.own in
    let len = length-take g.group.block_size (drop (k * g.group.block_size) m.1) in
    let is : IsDdb (ddb_fields g m k) = record {
      download = w.id;
      module_id = omega arith;
      version = range.module_version;
      block = omega arith;
      bytes = omega arith;
    } in
    ddb_exact.again (ddb_fields g m k) (ddb_bytes (ddb_fields g m k) last) (ddb_back (ddb_fields g m k) last is)
