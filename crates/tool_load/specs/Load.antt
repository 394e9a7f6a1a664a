-- Which group `load` takes out of the sections of a PID, and what comes of it. Lists of sections have the newest first.
use Rattle.std.specs.Prelude.{◌≡◌, ℕ, ◌*◌, ◌<◌, ◌≤◌, ◌&&◌, ◌==◌, List, [], ◌∷◌, ◌++◌, length, reverse, Option, Some, None, if◌then◌else◌}
use Rattle.std.specs.List.{slice_get}
use Rattle.std.specs.Option.{option_and_then, option_map, is_none, option_or}
use Rattle.ssu_io.specs.Bytes.{Takes}
use Rattle.ts_input.specs.Packets.{packets, most_packets, IsWithin, IsAtEnd}
use Rattle.ts_section.specs.Events.{Listen, heard_of}
use Rattle.dsmcc_msg.specs.Control.{DiiFields, dsi, dii}
use Rattle.ssu_answer.specs.BankLen.{bank_len}
use Rattle.ssu_answer.specs.Software.{no_software}
use Rattle.ssu_answer.specs.declared.chosen.Chosen.{Chosen}
use Rattle.ssu_answer.specs.declared.level.Level.{Level}
use Rattle.ssu_answer.specs.declared.level.Level.TheVariants.{Group, Modules}
use Rattle.ssu_group.specs.declared.group_plan.GroupPlan.{GroupPlan}
use Rattle.ssu_group.specs.Refusal.{refusal}
use Rattle.ssu_group.specs.Lays.{IsPlanOf}
use Rattle.ssu_group.specs.Carried.{CarriesWhole, HasWrong, filling, missing_places}
use Rattle.ssu_answer.specs.declared.verdict.Verdict.{Verdict}
use Rattle.ssu_answer.specs.declared.verdict.Verdict.TheVariants.{Installed, Nothing, Incomplete, BadModule, Unsettled}

-- ---- What the first item that says something says, with the items that came after it. Lists have the newest item first.

-- what was said, and the items after it with one more
abbrev pub one_later : {X A : Type 0} → X → A × List X → A × List X
one_later item said = (said.0, item ∷ said.1)

-- what was said, and no item after it
abbrev pub none_later : {X A : Type 0} → A → A × List X
none_later a = (a, [])

unfoldable pub first_with_later : {X A : Type 0} → (X → Option A) → List X → Option (A × List X)
first_with_later says [] = None
first_with_later says (item ∷ earlier) =
    option_or (option_map (one_later item) (first_with_later says earlier)) (option_map none_later (says item))

-- ---- the group that is taken

-- the first group of the section, if it is a DSI that has one
unfoldable pub group_in : List ℕ → Option ℕ
group_in section = option_and_then (λ d. option_map (λ g. g.id) (slice_get d.groups 0)) (dsi.of section)

abbrev pub usable_for : ℕ → DiiFields → Option DiiFields
usable_for group d = if d.transaction == group && is_none (refusal d bank_len) then Some d else None

-- The section, if it is a DII of that group that can be used. All 32 bits of the transaction id are the group's.
unfoldable pub dii_in : ℕ → List ℕ → Option DiiFields
dii_in group section = option_and_then (usable_for group) (dii.of section)

-- the first group of the first DSI that has a group, with the sections after that DSI
abbrev pub first_group : List (List ℕ) → Option (ℕ × List (List ℕ))
first_group sections = first_with_later group_in sections

-- of these sections the first DII of the group that can be used, with the sections after it
abbrev pub first_dii : ℕ → List (List ℕ) → Option (DiiFields × List (List ℕ))
first_dii group later = first_with_later (dii_in group) later

-- This group is taken, by this plan, and the window of its blocks has these sections.
pub record Chooses (sections : List (List ℕ)) (group : ℕ) (plan : GroupPlan) (window : List (List ℕ)) : Type 0 where
  pub later : List (List ℕ)
  pub dii : DiiFields
  pub by_dsi : first_group sections ≡ Some (group, later)
  pub by_dii : first_dii group later ≡ Some (dii, window)
  pub planned : IsPlanOf dii plan

-- Some group is taken.
pub record IsChosen (sections : List (List ℕ)) : Type 0 where
  pub group : ℕ
  pub plan : GroupPlan
  pub window : List (List ℕ)
  pub chooses : Chooses sections group plan window

-- The group that is taken has all its places filled: the verdict is reached.
pub record IsReached (sections : List (List ℕ)) : Type 0 where
  pub group : ℕ
  pub plan : GroupPlan
  pub window : List (List ℕ)
  pub chooses : Chooses sections group plan window
  pub filled : missing_places plan (filling plan window) ≡ 0

-- ---- the verdict

-- `load` takes the group whatever it offers, and names no software.
abbrev pub chosen_of : ℕ → GroupPlan → Chosen
chosen_of group plan = record { group = group; software = no_software; bytes = plan.total }

-- The sections carry the group whole, as this image.
pub record IsLoaded (sections : List (List ℕ)) (chosen : Chosen) (image : List ℕ) : Type 0 where
  pub plan : GroupPlan
  pub window : List (List ℕ)
  pub chooses : Chooses sections chosen.group plan window
  pub is : chosen ≡ chosen_of chosen.group plan
  pub whole : CarriesWhole plan (filling plan window) image

-- So many places of the group are not filled.
pub record IsIncomplete (sections : List (List ℕ)) (chosen : Chosen) (missing : ℕ) : Type 0 where
  pub plan : GroupPlan
  pub window : List (List ℕ)
  pub chooses : Chooses sections chosen.group plan window
  pub is : chosen ≡ chosen_of chosen.group plan
  pub count : missing ≡ missing_places plan (filling plan window)
  pub some : 1 ≤ missing

-- All places are filled, and this is the first module, in the order of the DII, that has not the CRC of its descriptor.
pub record IsBad (sections : List (List ℕ)) (id want found : ℕ) : Type 0 where
  pub group : ℕ
  pub plan : GroupPlan
  pub window : List (List ℕ)
  pub chooses : Chooses sections group plan window
  pub wrong : HasWrong plan (filling plan window) id want found

-- The group is wanted, and none of its DIIs that can be used was heard.
pub record IsWanted (group : ℕ) (sections : List (List ℕ)) : Type 0 where
  pub later : List (List ℕ)
  pub by_dsi : first_group sections ≡ Some (group, later)
  pub none : first_dii group later ≡ None

-- No DSI that has a group was heard; or some group is wanted, and none of its DIIs that can be used was heard.
abbrev pub IsNothing : List (List ℕ) → Level → Type 0
IsNothing sections Group = first_group sections ≡ None
IsNothing sections Modules = (group : ℕ) × IsWanted group sections
IsNothing sections other = ⊥

-- What comes of the sections. The image is that of a group that is loaded.
abbrev pub IsVerdict : List (List ℕ) → Verdict → List ℕ → Type 0
IsVerdict sections (Installed chosen) image = IsLoaded sections chosen image
IsVerdict sections (Nothing level) image = IsNothing sections level
IsVerdict sections (Incomplete chosen missing) image = IsIncomplete sections chosen missing
IsVerdict sections (BadModule id want found) image = IsBad sections id want found
IsVerdict sections Unsettled image = ⊥

-- ---- the sections of an input

-- what is heard of the PID in these packets, the newest section first
unfoldable pub sections_of : ℕ → List (List ℕ) → List (List ℕ)
sections_of pid ps = reverse (heard_of (Listen (pid ∷ []) ∷ []) ps)

abbrev pub IsOpen : List (List ℕ) → Type 0
IsOpen sections = IsReached sections → ⊥

abbrev pub IsUnchosen : List (List ℕ) → Type 0
IsUnchosen sections = IsChosen sections → ⊥

-- So many bytes were taken, and this holds of the sections heard in their packets.
pub record HearsIn (pid : ℕ) (left left_after : Option (List ℕ)) (Length : ℕ → Type 0) (Now : List (List ℕ) → Type 0)
    : Type 0 where
  pub taken : List ℕ
  pub takes : Takes left left_after taken
  pub bytes : Length (length taken)
  pub now : Now (sections_of pid (packets taken))

-- Whole packets were taken and nothing behind them. This holds of the sections heard in them, and that held of those
-- heard in all but the last.
pub record HearsAtPacket (pid : ℕ) (left left_after : Option (List ℕ)) (Now Before : List (List ℕ) → Type 0)
    : Type 0 where
  pub count : ℕ
  pub earlier : List ℕ
  pub packet : List ℕ
  pub takes : Takes left left_after (earlier ++ packet)
  pub whole : length earlier ≡ 188 * count
  pub within : count < most_packets
  pub one : length packet ≡ 188
  pub now : Now (sections_of pid (packets (earlier ++ packet)))
  pub before : Before (sections_of pid (packets earlier))

-- Where a verdict comes: at the packet at which it is reached, or at the end of the input, where none was reached. This
-- holds of the sections heard.
abbrev pub ComesOf : ℕ → Option (List ℕ) → Option (List ℕ) → Verdict → (List (List ℕ) → Type 0) → Type 0
ComesOf pid left left_after (Installed chosen) Now = HearsAtPacket pid left left_after Now IsOpen
ComesOf pid left left_after (BadModule id want found) Now = HearsAtPacket pid left left_after Now IsOpen
ComesOf pid left left_after other Now =
    HearsIn pid left left_after IsWithin (λ sections. Now sections × IsOpen sections) × IsAtEnd left_after
