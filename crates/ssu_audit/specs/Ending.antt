-- What `end` answers.
use Rattle.std.specs.Prelude.{◌≡◌, ◌≢◌, ◌⊎◌, ℕ, zero, suc, Bool, not, ◌&&◌, ◌==◌, List, [], ◌∷◌, length}
use Rattle.std.specs.Prelude.{Option, Some, None, Result, Ok, Err, is_some, if◌then◌else◌}
use Rattle.std.specs.List.{list_any}
use Rattle.std.specs.Option.{option_map, option_or}
use Rattle.audit_answer.specs.declared.answers.AuditNo.{AuditNo}
use Rattle.audit_answer.specs.declared.answers.AuditNo.TheVariants.{NoDsi, NoDii, Unusable, SizeDiffers, PlaceMissing, BadModule, NoticeApart}
use Rattle.audit_answer.specs.declared.answers.AuditYes.{AuditYes}
use Rattle.dsmcc_msg.specs.Control.{DiiFields, DsiFields, GroupFields, dsi}
use Rattle.ssu_answer.specs.BankLen.{bank_len}
use Rattle.ssu_compat.specs.Compat.{EntryFields}
use Rattle.ssu_compat.specs.Match.{matches}
use Rattle.ssu_group.specs.Carried.{carried_image, filling, wrong_module}
use Rattle.ssu_group.specs.Lays.{IsPlanOf}
use Rattle.ssu_group.specs.Refusal.{refusal}
use Rattle.ssu_group.specs.declared.group_plan.GroupPlan.{GroupPlan}
use Rattle.ssu_group.specs.declared.module_plan.ModulePlan.{ModulePlan}
use Rattle.ssu_unt.specs.Table.{PlatformFields, UntFields}
use Rattle.ssu_audit.specs.Calls.{Call, carousel, first_in_notice}
use Rattle.ssu_audit.specs.Hearing.{first_dii, first_dsi, keys_heard}
use Rattle.ssu_audit.specs.Said.{notice_with}

-- ---- the facts against a group

-- the first number below n that passes the test
unfoldable pub first_below : (ℕ → Bool) → ℕ → Option ℕ
first_below test zero = None
first_below test (suc n) = option_or (first_below test n) (if test n then Some n else None)

-- the first place of the plan that no section fills
abbrev pub first_missing : GroupPlan → List (List ℕ) → Option ℕ
first_missing plan sections = first_below (λ n. not (is_some (filling plan sections n))) plan.places

-- the size that the DSI lists for the group is not the total
abbrev pub size_differs : ℕ → ℕ → GroupPlan → Option AuditNo
size_differs group size plan = if size == plan.total then None else Some (SizeDiffers group size plan.total)

abbrev pub place_missing : ℕ → Option ℕ → Option AuditNo
place_missing group missing = option_map (λ place. PlaceMissing group place) missing

abbrev pub bad_module : ℕ → Option ModulePlan → Option AuditNo
bad_module group wrong = option_map (λ m. BadModule group m.id) wrong

-- the first of the facts against a group of this size with this plan
abbrev pub against_plan : ℕ → ℕ → GroupPlan → List (List ℕ) → Option AuditNo
against_plan group size plan sections =
    option_or (size_differs group size plan) (
    option_or (place_missing group (first_missing plan sections)) (
    bad_module group (wrong_module plan.modules.items (carried_image plan (filling plan sections)))))

-- This is the plan of the DII, and this stands against it.
abbrev pub AgainstPlan : ℕ → ℕ → List (List ℕ) → DiiFields → Option AuditNo → Type 0
AgainstPlan group size sections dii answer =
    (plan : GroupPlan) × (IsPlanOf dii plan × (answer ≡ against_plan group size plan sections))

-- This is the first fact against the group, whose first DII is this one, or None where there is none.
abbrev pub AgainstDii : ℕ → ℕ → List (List ℕ) → Option (ℕ × DiiFields) → Option AuditNo → Type 0
AgainstDii group size sections None answer = answer ≡ Some (NoDii group)
AgainstDii group size sections (Some first) answer =
    ((refusal first.1 bank_len ≢ None) × (answer ≡ Some (Unusable group)))
    ⊎ ((refusal first.1 bank_len ≡ None) × AgainstPlan group size sections first.1 answer)

-- the same of a group that the DSI lists with this id and size
abbrev pub AgainstGroup : List Call → ℕ → ℕ → Option AuditNo → Type 0
AgainstGroup calls group size answer = AgainstDii group size (carousel calls) (first_dii group calls) answer

-- what comes where this stands against a group: the fact, or else what stands against the later groups
abbrev pub OrLater : Option AuditNo → (Option AuditNo → Type 0) → Option AuditNo → Type 0
OrLater None Later answer = Later answer
OrLater (Some fact) Later answer = answer ≡ Some fact

-- This is the first fact against the groups in their order, or None where there is none.
unfoldable pub AgainstGroups : List Call → List GroupFields → Option AuditNo → Type 0
AgainstGroups calls [] answer = answer ≡ None
AgainstGroups calls (group ∷ later) answer =
    (own : Option AuditNo) × (AgainstGroup calls group.id group.size own × OrLater own (AgainstGroups calls later) answer)

-- ---- the facts against a notice

abbrev pub is_for : EntryFields → GroupFields → Bool
is_for e group = matches e.oui e.model e.version group.compat

-- the entry is for hardware (kind 1, specifier 1) that no group is for
abbrev pub is_for_none : List GroupFields → EntryFields → Bool
is_for_none groups e = (e.kind == 1 && e.specifier == 1) && not (list_any (is_for e) groups)

abbrev pub has_apart : List GroupFields → PlatformFields → Bool
has_apart groups p = list_any (is_for_none groups) p.compat

abbrev pub is_apart : List GroupFields → UntFields → Bool
is_apart groups u = list_any (has_apart groups) u.platforms

-- the first notice with an entry for hardware that no group is for
abbrev pub against_notices : List Call → List GroupFields → Option AuditNo
against_notices calls groups = option_map (λ first. NoticeApart first.0) (first_in_notice (notice_with (is_apart groups)) calls)

-- ---- the answer

-- This is the first fact against this DSI, or None where there is none.
abbrev pub AgainstDsi : List Call → DsiFields → Option AuditNo → Type 0
AgainstDsi calls d answer =
    (own : Option AuditNo) × (AgainstGroups calls d.groups own × (answer ≡ option_or own (against_notices calls d.groups)))

-- The first DSI, which is this section, has these fields.
pub record IsFirstDsi (calls : List Call) (d : DsiFields) : Type 0 where
  pub number : ℕ
  pub section : List ℕ
  pub first : first_dsi calls ≡ Some (number, section)
  pub read : dsi.of section ≡ Some d

-- This is the first fact against what was heard, or None where there is none.
abbrev pub Concludes : List Call → Option AuditNo → Type 0
Concludes calls answer =
    ((first_dsi calls ≡ None) × (answer ≡ Some NoDsi))
    ⊎ ((d : DsiFields) × (IsFirstDsi calls d × AgainstDsi calls d answer))

-- how many groups the DSI has, and how many different keys the blocks have
pub record Counts (calls : List Call) (counts : AuditYes) : Type 0 where
  pub d : DsiFields
  pub first : IsFirstDsi calls d
  pub groups : counts.groups ≡ length d.groups
  pub blocks : counts.blocks ≡ keys_heard calls

-- The answer after these calls: the first fact against what was heard, or where there is none both numbers.
abbrev pub Ends : List Call → Result AuditYes AuditNo → Type 0
Ends calls (Ok counts) = Concludes calls None × Counts calls counts
Ends calls (Err fact) = Concludes calls (Some fact)
