-- What a replay took of its source, what came of it, and what it left in the flash.
use Rattle.std.specs.Prelude.{◌≡◌, ◌⊎◌, ℕ, Bool, true, ◌*◌, ◌<◌, List, ◌++◌, length, reverse, Option, Some}
use Rattle.ssu_io.specs.Bytes.{Takes}
use Rattle.ts_input.specs.Packets.{packets, IsAtEnd, IsWithin}
use Rattle.ts_section.specs.Events.{Heard}
use Rattle.flash_layout.specs.Layout.{Geometry}
use Rattle.flash_bank.specs.Leaving.{Installs, KeepsBoot}
use Rattle.flash_bank.specs.Record.{next_record}
use Rattle.flash_bank.specs.Sound.{Boot, BootOf}
use Rattle.flash_bank.specs.declared.record.Record.{Record}
use Rattle.flash_stage.specs.Keeping.{StagesNone}
use Rattle.ssu_answer.specs.declared.chosen.Chosen.{Chosen}
use Rattle.route_tables.specs.Values.{Receiver}
use Rattle.ssu_route.specs.Queries.{heard_by}
use Rattle.ssu_route.specs.Windows.{beginnings}
use Rattle.ssu_answer.specs.declared.verdict.Verdict.{Verdict}
use Rattle.ssu_answer.specs.declared.verdict.Verdict.TheVariants.{Installed, Nothing, Incomplete, BadModule, Unsettled}
use Rattle.ssu_loader.specs.Decisions.{IsOpen, Reaches, Whole}
use Rattle.ssu_loader.specs.Remaining.{StagesBefore, StagesLast, StagesStanding}
use Rattle.ssu_loader.specs.Storing.{EndsPrev, HasNoPrev, Stores, StoresBefore}
use Rattle.ssu_loader.specs.Verdicts.{IsLastSeen, IsReached, IsSeen, IsUndecided, IsVerdict}

-- ---- what was taken

-- what the box hears in the packets of these bytes, the newest section first
unfoldable pub heard_in : Receiver → List ℕ → List Heard
heard_in me bytes = heard_by me (reverse (packets bytes))

-- The packets of these bytes carry this group whole, as this image, and that is the first thing that is decided.
abbrev pub CarriesFirst : Receiver → List ℕ → Chosen → List ℕ → Type 0
CarriesFirst me bytes chosen image = Reaches me (heard_in me bytes) (Whole chosen image)

-- No choice of a group begins in the packets of these bytes.
abbrev pub BeginsNone : Receiver → List ℕ → Type 0
BeginsNone me bytes = beginnings me (heard_in me bytes) ≡ 0

-- So many bytes were taken, and this holds of the sections that the box heard in their packets.
pub record HearsIn (me : Receiver) (left left_after : Option (List ℕ)) (Length : ℕ → Type 0) (Now : List Heard → Type 0) : Type 0 where
  pub taken : List ℕ
  pub takes : Takes left left_after taken
  pub bytes : Length (length taken)
  pub now : Now (heard_in me taken)

-- Whole packets were taken and nothing behind them. This holds of the sections that the box heard in them, and that held of
-- those heard in all but the last.
pub record HearsAtPacket (me : Receiver) (left left_after : Option (List ℕ)) (Now Before : List Heard → Type 0) : Type 0 where
  pub count : ℕ
  pub earlier : List ℕ
  pub packet : List ℕ
  pub takes : Takes left left_after (earlier ++ packet)
  pub whole : length earlier ≡ 188 * count
  pub within : count < 16777216
  pub one : length packet ≡ 188
  pub now : Now (heard_in me (earlier ++ packet))
  pub before : Before (heard_in me earlier)

-- The input was read to its end, and no verdict was reached before.
pub record HearsToEnd (me : Receiver) (left left_after : Option (List ℕ)) (Now : List Heard → Type 0) : Type 0 where
  pub hears : HearsIn me left left_after IsWithin Now
  pub end : IsAtEnd left_after

-- Where a verdict comes, at the packet at which it is reached or at the end of the input, and what is known of it whether or not
-- the flash tells what it holds: on which group it is, and not with which bytes; and where it is known what the flash kept, which places were
-- kept or filled.
abbrev pub ComesSeen : Type 0 → Receiver → Option (List ℕ) → Option (List ℕ) → Verdict → Type 0
ComesSeen known me left left_after (Nothing level) = HearsToEnd me left left_after (λ heard. IsLastSeen known me heard (Nothing level))
ComesSeen known me left left_after (Incomplete chosen count) =
    HearsToEnd me left left_after (λ heard. IsLastSeen known me heard (Incomplete chosen count))
ComesSeen known me left left_after verdict =
    HearsAtPacket me left left_after (λ heard. IsSeen known me heard (Some verdict)) (IsUndecided known me)

-- So many bytes were taken, and no verdict is reached in their packets.
abbrev pub ReachesNone : Type 0 → Receiver → Option (List ℕ) → Option (List ℕ) → (ℕ → Type 0) → Type 0
ReachesNone known me left left_after Length = HearsIn me left left_after Length (IsUndecided known me)

-- Whole packets were taken, and no verdict is reached in all but the last.
abbrev pub BreaksAtPacket : Type 0 → Receiver → Option (List ℕ) → Option (List ℕ) → Type 0
BreaksAtPacket known me left left_after = HearsAtPacket me left left_after (λ heard. Unit {0}) (IsUndecided known me)

-- ---- what was left

-- the record that follows this one, for a group that was chosen
abbrev pub record_after : Record → Chosen → Record
record_after former chosen = next_record former chosen.bytes chosen.software chosen.group

-- The packets that were taken carry this group whole, not without the last of them, and y is x with its image installed, under the
-- record that follows the one that boot takes of x.
pub record TakesAndInstalls (me : Receiver) (left left_after : Option (List ℕ)) (g : Geometry) (x y : List ℕ) (chosen : Chosen) : Type 0 where
  pub image : List ℕ
  pub hears : HearsAtPacket me left left_after (λ heard. Reaches me heard (Whole chosen image)) (IsOpen me)
  pub installs : (former : Boot) → BootOf g x former → Installs g (record_after former.head chosen) image x y

-- What may be left of x: boot takes what it took, or a group that the packets taken carry whole.
abbrev pub ReplayLeaves : Receiver → Option (List ℕ) → Option (List ℕ) → Geometry → List ℕ → List ℕ → Type 0
ReplayLeaves me left left_after g x y = KeepsBoot g x y ⊎ ((chosen : Chosen) × TakesAndInstalls me left left_after g x y chosen)

-- The verdict of the packets that were taken, which came there, and x became y. Where the places of a group are staged in the
-- bank, those of a choice that stands at the end are there, if its group is not one that is kept, and at one too many those of the one before,
-- where it still stood; once a choice began, what boot took before the current image is gone. Where the stage keeps its places, those of a
-- choice that stands at the end are staged, and of a group with a wrong module none; where none stands, and at one choice too many, what the last
-- one had is staged still.
abbrev pub EndsWith : Bool → Bool → Receiver → Option (List ℕ) → Option (List ℕ) → Geometry → List ℕ → List ℕ → Verdict → Type 0
EndsWith in_bank keeps me left left_after g x y (Installed chosen) = TakesAndInstalls me left left_after g x y chosen
EndsWith in_bank keeps me left left_after g x y (Nothing level) =
    HearsToEnd me left left_after
    (λ heard. IsVerdict me heard (Nothing level) × (in_bank ≡ true → EndsPrev g y me heard)
    × (keeps ≡ true → StagesLast me heard g y)) × KeepsBoot g x y
EndsWith in_bank keeps me left left_after g x y (Incomplete chosen count) =
    HearsToEnd me left left_after
    (λ heard. IsVerdict me heard (Incomplete chosen count) × (in_bank ≡ true → Stores g y me heard)
    × (keeps ≡ true → StagesStanding g y me heard)) × KeepsBoot g x y
EndsWith in_bank keeps me left left_after g x y (BadModule id want found) =
    HearsAtPacket me left left_after (λ heard. IsReached me heard (BadModule id want found)) (IsOpen me)
    × (KeepsBoot g x y × (in_bank ≡ true → HasNoPrev g y) × (keeps ≡ true → StagesNone g y))
EndsWith in_bank keeps me left left_after g x y Unsettled =
    HearsAtPacket me left left_after
    (λ heard. IsReached me heard Unsettled × (in_bank ≡ true → StoresBefore g y me heard)
    × (keeps ≡ true → StagesBefore me heard g y)) (IsOpen me) × KeepsBoot g x y
