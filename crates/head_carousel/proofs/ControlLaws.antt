-- The control messages, module by module and group by group, and the room that they need.
use Rattle.std.proofs.Common.{◌≡◌, ℕ, ◌+◌, ◌*◌, ◌≤◌, false, List, [], ◌∷◌, ◌++◌, length, refl, subst, arith}
use Rattle.std.specs.Prelude.{map, Option, Some, None}
use Rattle.std.specs.List.{flat_map}
use Rattle.std.proofs.lemmas.List.{length-append}
use Rattle.dsmcc_msg.specs.Control.{ModuleFields}
use Rattle.dsmcc_msg.specs.Written.{DiiDraft, DsiDraft, group_bytes, dsi_section_length, dii_bytes, dii_head, dsi_bytes, dsi_head}
use Rattle.section_form.proofs.LongLaws.{Fits}
use Rattle.ssu_compat.specs.declared.plain.Plain.{Plain}
use Rattle.ssu_compat.specs.Written.{spelling}
use Rattle.head_carousel.specs.Control.{dii_draft, group_fields, group_piece, module_fields, module_piece, subgroup_row}
use Rattle.head_carousel.specs.GroupFiles.{GroupFiles, numbered}
use Rattle.head_carousel.specs.WellMade.{IsWellMade}
use Rattle.head_carousel.proofs.ListLaws.{flat_push, map_push}
use Rattle.head_carousel.proofs.MadeLaws.{long_made}

-- ---- DII

abbrev pub with_modules : DiiDraft → ℕ → List (ℕ × List ℕ) → DiiDraft
with_modules d version ms = record d { modules = map (module_fields version) ms; bytes = flat_map (module_piece version) ms }

pub no_modules : (d : DiiDraft) (version : ℕ) → d.modules ≡ [] → d.bytes ≡ [] → d ≡ with_modules d version []
no_modules d version e f =
    subst (λ (ms : List ModuleFields). d ≡ record d { modules = ms; bytes = [] }) e (subst (λ (bs : List ℕ). d ≡ record d { modules = d.modules; bytes = bs }) f refl)

pub module_more : (first now new : DiiDraft) (version : ℕ) (ms all : List (ℕ × List ℕ)) (m : ℕ × List ℕ) → now ≡ with_modules first version ms
    → new ≡ record now { modules = now.modules ++ module_fields version m ∷ []; bytes = now.bytes ++ module_piece version m }
    → all ≡ ms ++ m ∷ [] → new ≡ with_modules first version all
module_more first now new version ms all m e f is =
    rw (f, e, is, map_push (module_fields version) ms m, flat_push (module_piece version) ms m) refl

pub modules_length : (version n : ℕ) (files : List (List ℕ)) → length (flat_map (module_piece version) (numbered n files)) ≡ 14 * length files
unfolding numbered
modules_length version n [] = refl
modules_length version n (f ∷ fs) =
    let others = modules_length version (n + 1) fs in
    let l = length-append (module_piece version (n, f)) (flat_map (module_piece version) (numbered (n + 1) fs)) in
    omega arith

pub dii_made : (d : DiiDraft) (s : List ℕ) → length d.bytes ≤ 4050 → s ≡ dii_bytes d → IsWellMade s
unfolding dii_bytes
dii_made d s few is =
    let l = length-append d.bytes (0 ∷ 0 ∷ []) in
    let fits : Fits (dii_head d) = record { table = omega arith; extension = omega arith; version = omega arith; number = omega arith; last = omega arith; body = omega arith } in
    long_made false (dii_head d) s fits (λ e. absurd (omega arith)) (λ e. absurd (omega arith)) is

-- ---- DSI

abbrev pub with_groups : ℕ → ℕ → List GroupFiles → DsiDraft
with_groups transaction oui gs = record { transaction = transaction; groups = map (group_fields oui) gs; bytes = flat_map (group_piece oui) gs }

pub group_more : (now new : DsiDraft) (transaction oui : ℕ) (gs all : List GroupFiles) (g : GroupFiles) → now ≡ with_groups transaction oui gs
    → new ≡ record now { groups = now.groups ++ group_fields oui g ∷ []; bytes = now.bytes ++ group_piece oui g }
    → all ≡ gs ++ g ∷ [] → new ≡ with_groups transaction oui all
group_more now new transaction oui gs all g e f is =
    rw (f, e, is, map_push (group_fields oui) gs g, flat_push (group_piece oui) gs g) refl

pub two_entries : (p q : Plain) → length (spelling (p ∷ q ∷ [])) ≡ 26
unfolding spelling
two_entries p q = refl

pub one_entry : (p : Plain) → length (spelling (p ∷ [])) ≡ 15
unfolding spelling
one_entry p = refl

pub subgroup_short : (o : Option ℕ) → length (subgroup_row o) ≤ 7
subgroup_short None = omega arith
subgroup_short (Some n) = omega arith

pub group_short : (oui : ℕ) (g : GroupFiles) → length (group_piece oui g) ≤ 43
group_short oui g =
    let two = two_entries (record { kind = 1; oui = oui; model = g.group.model; version = g.group.version }) (record { kind = 2; oui = oui; model = g.group.software_model; version = g.group.software_version }) in
    let info = subgroup_short g.group.subgroup in
    omega (arith, length-append {A = ℕ})

pub groups_short : (oui : ℕ) (gs : List GroupFiles) → length (flat_map (group_piece oui) gs) ≤ 43 * length gs
groups_short oui [] = omega arith
groups_short oui (g ∷ gs) =
    let one = group_short oui g in
    let others = groups_short oui gs in
    let l = length-append (group_piece oui g) (flat_map (group_piece oui) gs) in
    omega arith

pub dsi_made : (d : DsiDraft) (s : List ℕ) → length d.bytes ≤ 4044 → s ≡ dsi_bytes d → IsWellMade s
unfolding dsi_bytes
dsi_made d s few is =
    let l = length-append d.bytes (0 ∷ 0 ∷ []) in
    let fits : Fits (dsi_head d) = record { table = omega arith; extension = omega arith; version = omega arith; number = omega arith; last = omega arith; body = omega arith } in
    long_made false (dsi_head d) s fits (λ e. absurd (omega arith)) (λ e. absurd (omega arith)) is

-- ---- what is found room for

pub group_fits : (old compat info : List ℕ) (id size : ℕ) → length old ≤ 1000 → length compat ≡ 26 → length info ≤ 7
    → dsi_section_length (length old + length (group_bytes id size compat info)) ≤ 4093
group_fits old compat info id size a b c = omega (arith, length-append {A = ℕ})

pub dii_is : (first new : DiiDraft) (g : GroupFiles) (id size version : ℕ) (files : List (List ℕ)) → first ≡ record { transaction = id; download = id; block_size = size; modules = []; bytes = [] }
    → new ≡ with_modules first version (numbered 1 files) → id ≡ g.id → size ≡ g.group.block_size → version ≡ g.group.module_version → files ≡ g.files → new ≡ dii_draft g
unfolding dii_draft
dii_is first new g id size version files e f a b c d = rw (f, e, a, b, c, d) refl
