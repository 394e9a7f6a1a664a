-- What is kept for the places of a plan.
use Rattle.std.specs.Prelude.{ℕ, ◌+◌, Bool, not, ◌==◌, List, [], ◌∷◌, length, Option, Some, None, is_some, unwrap_or, if◌then◌else◌}
use Rattle.std.specs.List.{find}
use Rattle.std.specs.Option.{option_map, option_or}
use Rattle.ssu_group.specs.Carried.{crc_is, joined}
use Rattle.ssu_group.specs.Place.{block_length}
use Rattle.ssu_group.specs.declared.group_plan.GroupPlan.{GroupPlan}
use Rattle.ssu_group.specs.declared.module_plan.ModulePlan.{ModulePlan}
use Rattle.ssu_audit.specs.declared.key.BlockKey.{BlockKey}
use Rattle.audit_answer.specs.declared.answers.AuditNo.{AuditNo}
use Rattle.ssu_audit.specs.Ending.{bad_module, first_below, place_missing, size_differs}

-- the number and the bytes of the first block with each key
abbrev pub Blocks : Type 0
Blocks = BlockKey → Option (ℕ × List ℕ)

-- the key of a block of a module
abbrev pub key_at : ℕ → ModulePlan → ℕ → BlockKey
key_at download m block = record { download = download; module_id = m.id; version = m.version; block = block }

-- the bytes, if they have this length
abbrev pub fitting : ℕ → Option (ℕ × List ℕ) → Option (List ℕ)
fitting len None = None
fitting len (Some kept) = if length kept.1 == len then Some kept.1 else None

-- the bytes kept of a block of a module, if they have the length of its place
unfoldable pub text_at : Blocks → GroupPlan → ModulePlan → ℕ → Option (List ℕ)
text_at kept plan m block = fitting (block_length plan.block_size m.size block) (kept (key_at plan.download m block))

abbrev pub lacks : Blocks → GroupPlan → ModulePlan → ℕ → Bool
lacks kept plan m block = not (is_some (text_at kept plan m block))

-- the first block of the module that is not kept
abbrev pub missing_in : Blocks → GroupPlan → ModulePlan → Option ℕ
missing_in kept plan m = first_below (lacks kept plan m) m.blocks

-- the number of the first place in these modules whose block is not kept
unfoldable pub missing_of : Blocks → GroupPlan → List ModulePlan → Option ℕ
missing_of kept plan [] = None
missing_of kept plan (m ∷ later) = option_or (option_map (λ block. m.first + block) (missing_in kept plan m)) (missing_of kept plan later)

-- the bytes of a module, joined of what is kept
abbrev pub text_of : Blocks → GroupPlan → ModulePlan → List ℕ
text_of kept plan m = joined (λ block. unwrap_or (text_at kept plan m block) []) m.blocks

-- Has the module not the CRC that its descriptor gives?
abbrev pub is_wrong : Blocks → GroupPlan → ModulePlan → Bool
is_wrong kept plan m = not (crc_is (text_of kept plan m) m.crc)

-- the first module, in the order of the DII, that has not the CRC of its descriptor
abbrev pub wrong_of : Blocks → GroupPlan → List ModulePlan → Option ModulePlan
wrong_of kept plan modules = find (is_wrong kept plan) modules

-- ---- the facts against a plan, of what is kept

abbrev pub against_kept : ℕ → ℕ → GroupPlan → Blocks → Option AuditNo
against_kept group size plan kept =
    option_or (size_differs group size plan) (
    option_or (place_missing group (missing_of kept plan plan.modules.items)) (
    bad_module group (wrong_of kept plan plan.modules.items)))
