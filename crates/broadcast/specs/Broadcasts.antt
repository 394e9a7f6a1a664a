-- What a whole broadcast does to a box: what it leaves in the flash, and what each answer says.
use Rattle.std.specs.Prelude.{◌≡◌, ◌⊎◌, ℕ, ◌<◌, ◌≤◌, List, length, Result, Some, true, IfErr, IfOk}
use Rattle.box_file.specs.declared.file.BoxFile.{BoxFile}
use Rattle.broadcast.specs.Packets.{Broadcast, IsFront, IsInstalledFrom, IsUnspoilt, aired_packets, heard_over, packets_taken, sent_packets, up_to_packet}
use Rattle.broadcast.specs.declared.fault.ChainFault.{ChainFault}
use Rattle.broadcast.specs.declared.fault.ChainFault.TheVariants.{Boot, Build, Load, Memory}
use Rattle.broadcast.specs.declared.outcome.Outcome.{Outcome}
use Rattle.broadcast_laws.specs.OneOf.{IsGroupForBox}
use Rattle.flash_layout.specs.Layout.{Geometry, IsInLimits}
use Rattle.flash_bank.specs.Leaving.{KeepsBoot}
use Rattle.flash_bank.specs.Seen.{FlashSeen}
use Rattle.flash_bank.specs.Sound.{Boot as Booted, BootOf, IsSound, IsWorn}
use Rattle.flash_bank.specs.declared.fault.BootFault.{BootFault}
use Rattle.flash_bank.specs.declared.fault.BootFault.TheVariants as boot_fault
use Rattle.flash_bank.specs.declared.record.Record.{Record}
use Rattle.flash_stage.specs.Keeping.{StagesNone}
use Rattle.head_carousel.specs.Refusal.{IsBuildable, IsCause}
use Rattle.route_tables.specs.Values.{Receiver}
use Rattle.ssu_answer.specs.declared.build_fault.BuildFault.{BuildFault}
use Rattle.ssu_answer.specs.declared.build_fault.BuildFault.TheVariants as build_fault
use Rattle.ssu_answer.specs.declared.chosen.Chosen.{Chosen}
use Rattle.ssu_io.specs.Faults.{Rose}
use Rattle.ssu_loader.specs.Decisions.{Decision, Reaches}
use Rattle.ssu_loader.specs.Remaining.{StagesStanding}
use Rattle.ssu_loader.specs.Replaying.{AsBox, AtAnyMoment, IsKnown, IsReady, receiver_at}
use Rattle.ssu_loader.specs.Replays.{record_after}
use Rattle.ssu_loader.specs.Verdicts.{IsLastSeen, IsSeen, IsUndecided, IsVerdict}
use Rattle.ssu_loader.specs.declared.fault.LoadFault.{LoadFault}
use Rattle.ssu_loader.specs.declared.fault.LoadFault.TheVariants as load_fault
use Rattle.ssu_answer.specs.declared.verdict.Verdict.{Verdict}
use Rattle.ssu_answer.specs.declared.verdict.Verdict.TheVariants.{BadModule, Incomplete, Installed, Nothing}
use Rattle.ts_input.specs.Packets.{most_packets}

-- ---- what was heard

-- The packets that are sent are no more than a run takes, which is a limit of the project's own.
abbrev pub AreFewSent : Broadcast → Type 0
AreFewSent b = length (sent_packets b) ≤ most_packets

-- something is decided in these packets
pub record IsDecided (me : Receiver) (packets : List (List ℕ)) : Type 0 where
  pub decision : Decision
  pub reached : Reaches me (heard_over me packets) decision

-- The packets that are passed on are no more than a run takes, or the first that it takes decide.
abbrev pub IsHeardOut : Broadcast → Receiver → Type 0
IsHeardOut b me = (length (aired_packets b) ≤ most_packets) ⊎ IsDecided me (packets_taken b)

-- ---- what boot takes

-- The image of a group of the plan that is for the box.
abbrev pub IsPlannedImage : Broadcast → Receiver → List ℕ → Type 0
IsPlannedImage b me image = (chosen : Chosen) × IsGroupForBox b.plan b.images me chosen.group chosen.software image

-- What x became with this verdict: a group that the packets carry whole is installed, or boot takes what it took.
abbrev pub IsLeft : Broadcast → Receiver → Geometry → Record → List ℕ → List ℕ → Verdict → Type 0
IsLeft b me g former x y (Installed chosen) = IsInstalledFrom b me g former x y chosen
IsLeft b me g former x y other = KeepsBoot g x y

-- What y has staged with this verdict: at Incomplete the group of the choice that stands, if it is one that is kept, with just the places that
-- are kept or filled and with their bytes; of a group with a wrong module nothing.
abbrev pub IsLeftStaged : Broadcast → Receiver → Geometry → List ℕ → Verdict → Type 0
IsLeftStaged b me g y (Incomplete chosen count) = StagesStanding g y me (heard_over me (aired_packets b))
IsLeftStaged b me g y (BadModule id want found) = StagesNone g y
IsLeftStaged b me g y other = Unit {0}

-- A replay of the packets came to this verdict, and x became y.
pub record Came (b : Broadcast) (me : Receiver) (g : Geometry) (former : Record) (x y : List ℕ) (verdict : Verdict) : Type 0 where
  pub is : IsVerdict me (heard_over me (aired_packets b)) verdict
  pub out : IsHeardOut b me
  pub left : IsLeft b me g former x y verdict
  pub staged : IsLeftStaged b me g y verdict

-- All packets were heard, and this is the verdict of them.
pub record IsSeenToEnd (known : Type 0) (b : Broadcast) (me : Receiver) (verdict : Verdict) : Type 0 where
  pub few : length (aired_packets b) ≤ most_packets
  pub is : IsLastSeen known me (heard_over me (aired_packets b)) verdict

-- The verdict came with one of the packets that a box takes, whether or not the flash tells what it holds.
pub record IsSeenAt (known : Type 0) (b : Broadcast) (me : Receiver) (verdict : Verdict) : Type 0 where
  pub front : IsFront b
  pub seen : IsSeen known me (heard_over me (up_to_packet front)) (Some verdict)
  pub undecided : IsUndecided known me (heard_over me front.before)

-- What is known of the verdict whether or not the flash tells what it holds: on which group it is, and not with which bytes; and where it is
-- known what the flash kept, which places were kept or filled.
abbrev pub IsSeenOver : Type 0 → Broadcast → Receiver → Verdict → Type 0
IsSeenOver known b me (Nothing level) = IsSeenToEnd known b me (Nothing level)
IsSeenOver known b me (Incomplete chosen count) = IsSeenToEnd known b me (Incomplete chosen count)
IsSeenOver known b me verdict = IsSeenAt known b me verdict

-- A replay of the packets came to this verdict for the box of this file.
pub record ComesTo (b : Broadcast) (box_file : BoxFile) (flash : FlashSeen) (verdict : Verdict) : Type 0 where
  pub built : IsBuildable b.plan b.images
  pub few : AreFewSent b
  pub ready : IsReady flash
  pub seen : AsBox true box_file flash (λ me. IsSeenOver (IsKnown true flash) b me verdict)
  -- and where the flash tells what it holds:
  pub came : flash.tells → (former : Booted) → BootOf flash.blocks flash.contents former
      → Came b (receiver_at true box_file flash former) flash.blocks former.head flash.contents flash.contents_after verdict

-- ---- the answers

-- The record that boot takes after a verdict: the next one, of the group that is installed, or the former one.
abbrev pub IsHeadAfter : Record → Record → Verdict → Type 0
IsHeadAfter former head (Installed chosen) = head ≡ record_after former chosen
IsHeadAfter former head other = head ≡ former

-- The verdict is that of all the packets, and record and image are what boot takes now. Where no damaged section passes for a
-- right one, and no group was staged in the flash, that is what it took before, or the joined files of a group of the plan that is for the
-- box.
pub record Concludes (b : Broadcast) (box_file : BoxFile) (flash : FlashSeen) (outcome : Outcome) : Type 0 where
  pub comes : ComesTo b box_file flash outcome.verdict
  pub boots : flash.tells → BootOf flash.blocks flash.contents_after (record { head = outcome.booted; image = outcome.image.items })
  pub head : flash.tells → (former : Booted) → BootOf flash.blocks flash.contents former
      → IsHeadAfter former.head outcome.booted outcome.verdict
  pub planned : flash.tells → IsUnspoilt b → StagesNone flash.blocks flash.contents → (former : Booted) → BootOf flash.blocks flash.contents former
      → (former ≡ record { head = outcome.booted; image = outcome.image.items })
      ⊎ IsPlannedImage b (receiver_at true box_file flash former) outcome.image.items

-- More packets are sent than a run takes, or more are passed on, and the first that a run takes decide nothing.
abbrev pub IsTooLong : Broadcast → BoxFile → FlashSeen → Type 0
IsTooLong b box_file flash =
    (most_packets < length (sent_packets b) × flash.same)
    ⊎ (AreFewSent b × (IsReady flash × (most_packets < length (aired_packets b)
    × (AsBox true box_file flash (λ me. IsUndecided (IsKnown true flash) me (heard_over me (packets_taken b)))
    × (flash.tells → KeepsBoot flash.blocks flash.contents flash.contents_after)))))

-- The flash failed at a packet before which nothing was decided.
pub record IsBrokenAt (known : Type 0) (b : Broadcast) (me : Receiver) : Type 0 where
  pub front : IsFront b
  pub undecided : IsUndecided known me (heard_over me front.before)

-- why no verdict came
abbrev pub IsLoadFault : Broadcast → BoxFile → FlashSeen → LoadFault → Type 0
IsLoadFault b box_file flash load_fault.Geometry = AreFewSent b × (¬ IsInLimits flash.blocks × flash.only_reads)
IsLoadFault b box_file flash load_fault.FlashFault =
    AreFewSent b × (IsInLimits flash.blocks × (Rose flash.faults flash.faults_after
    × (flash.only_reads ⊎ (IsReady flash × AsBox true box_file flash (IsBrokenAt (IsKnown true flash) b)))))
IsLoadFault b box_file flash load_fault.Foreign =
    AreFewSent b × (IsInLimits flash.blocks × ((flash.tells → ¬ IsSound flash.blocks flash.contents) × flash.only_reads))
IsLoadFault b box_file flash load_fault.Worn =
    AreFewSent b × (IsInLimits flash.blocks × ((flash.tells → IsWorn flash.blocks flash.contents) × flash.only_reads))
IsLoadFault b box_file flash load_fault.TooLong = IsTooLong b box_file flash
IsLoadFault b box_file flash load_fault.ReadFault = ⊥
IsLoadFault b box_file flash load_fault.Memory = ⊥

-- a replay came to some verdict
abbrev pub IsReplayed : Broadcast → BoxFile → FlashSeen → Type 0
IsReplayed b box_file flash = (verdict : Verdict) × ComesTo b box_file flash verdict

-- why nothing was booted, after a verdict
abbrev pub IsBootFault : Broadcast → BoxFile → FlashSeen → BootFault → Type 0
IsBootFault b box_file flash boot_fault.Flash = Rose flash.faults flash.faults_after × IsReplayed b box_file flash
IsBootFault b box_file flash boot_fault.Foreign = ¬ flash.tells × IsReplayed b box_file flash
IsBootFault b box_file flash boot_fault.Geometry = ⊥
IsBootFault b box_file flash boot_fault.Write = ⊥

abbrev pub IsBuildFault : Broadcast → FlashSeen → BuildFault → Type 0
IsBuildFault b flash build_fault.Memory = ⊥
IsBuildFault b flash fault = IsCause b.plan b.images fault × flash.same

-- why there is no outcome
abbrev pub IsFault : Broadcast → BoxFile → FlashSeen → ChainFault → Type 0
IsFault b box_file flash (Build fault) = IsBuildFault b flash fault
IsFault b box_file flash (Load fault) = IsBuildable b.plan b.images × IsLoadFault b box_file flash fault
IsFault b box_file flash (Boot fault) = IsBootFault b box_file flash fault
IsFault b box_file flash Memory = flash.only_reads ⊎ IsReplayed b box_file flash

-- ---- the whole

pub record Broadcasts (b : Broadcast) (box_file : BoxFile) (result : Result Outcome ChainFault) (flash : FlashSeen) : Type 0 where
  -- Of sound contents boot takes, whenever the power goes, what it took, or a group that the packets carry whole for the box.
  pub at_any_moment : flash.tells → IsSound flash.blocks flash.contents → (former : Booted) → BootOf flash.blocks flash.contents former
      → AtAnyMoment flash (λ left. KeepsBoot flash.blocks flash.contents left
      ⊎ ((chosen : Chosen) × IsInstalledFrom b (receiver_at true box_file flash former) flash.blocks former.head flash.contents left chosen))
  -- What each answer says. There is no other one.
  pub ok : IfOk result (Concludes b box_file flash)
  pub err : IfErr result (IsFault b box_file flash)
  -- Contents that are not sound, or that no record can follow, are only read, whatever the answer.
  pub refused : flash.tells → ¬ IsSound flash.blocks flash.contents ⊎ IsWorn flash.blocks flash.contents → flash.only_reads
  -- The blocks stay as they are, and the count of faults does not fall.
  pub blocks : flash.blocks_after ≡ flash.blocks
  pub flash_later : flash.faults ≤ flash.faults_after
