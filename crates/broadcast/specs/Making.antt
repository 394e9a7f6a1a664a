-- Why the packets of a broadcast are not made.
use Rattle.std.specs.Prelude.{◌≡◌, ℕ, ◌<◌, List, Some, length}
use Rattle.broadcast.specs.Packets.{Broadcast, sent_packets}
use Rattle.broadcast.specs.declared.fault.ChainFault.{ChainFault}
use Rattle.broadcast.specs.declared.fault.ChainFault.TheVariants.{Boot, Build, Load, Memory}
use Rattle.flash_bank.specs.declared.fault.BootFault.{BootFault}
use Rattle.flash_bank.specs.declared.fault.BootFault.TheVariants as boot_fault
use Rattle.head_carousel.specs.Refusal.{IsBuildable, IsCause}
use Rattle.head_plan.specs.Plans.{PlanData}
use Rattle.ssu_answer.specs.declared.build_fault.BuildFault.{BuildFault}
use Rattle.ssu_answer.specs.declared.build_fault.BuildFault.TheVariants as build_fault
use Rattle.ssu_io.specs.Seen.{SourceSeen}
use Rattle.ssu_loader.specs.declared.fault.LoadFault.{LoadFault}
use Rattle.ssu_loader.specs.declared.fault.LoadFault.TheVariants as load_fault
use Rattle.ts_input.specs.Packets.{most_packets}

-- why the sections are not built; want of memory has an answer of its own
abbrev pub IsBuildCause : PlanData → List (List ℕ) → BuildFault → Type 0
IsBuildCause p images build_fault.Memory = ⊥
IsBuildCause p images fault = IsCause p images fault

abbrev pub IsListingFault : PlanData → List (List ℕ) → ChainFault → Type 0
IsListingFault p images (Build fault) = IsBuildCause p images fault
IsListingFault p images (Load fault) = ⊥
IsListingFault p images (Boot fault) = ⊥
IsListingFault p images Memory = Unit {0}

-- more packets are sent than a channel takes
abbrev pub IsAirFault : Broadcast → LoadFault → Type 0
IsAirFault b load_fault.TooLong = IsBuildable b.plan b.images × most_packets < length (sent_packets b)
IsAirFault b other = ⊥

-- why they are not aired
abbrev pub IsMakingFault : Broadcast → ChainFault → Type 0
IsMakingFault b (Build fault) = IsBuildCause b.plan b.images fault
IsMakingFault b (Load fault) = IsAirFault b fault
IsMakingFault b (Boot fault) = ⊥
IsMakingFault b Memory = Unit {0}

-- A source in memory that had these bytes left and has those, and never fails.
abbrev pub held_seen : List ℕ → List ℕ → SourceSeen
held_seen before after = record { left = Some before; left_after = Some after; faults = 0; faults_after = 0; same = after ≡ before }

-- the answer for each fault of a replay and of a boot: want of memory is told as such wherever it was, and a piece that the sink in
-- memory has no room for is want of memory
abbrev pub of_load : LoadFault → ChainFault
of_load load_fault.Memory = Memory
of_load fault = Load fault

abbrev pub of_boot : BootFault → ChainFault
of_boot boot_fault.Write = Memory
of_boot fault = Boot fault
