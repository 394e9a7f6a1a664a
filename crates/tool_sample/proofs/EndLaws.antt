-- The broadcast of a sample comes to a verdict: no fault of its steps can come but want of memory.
use Rattle.std.proofs.Common.{inl, inr, zero, suc, ◌≡◌, ℕ, ◌+◌, ◌*◌, ◌%◌, ◌≤◌, Bool, true, false, List, [], ◌∷◌, length, drop, arith, sym, subst, length-append}
use Rattle.std.specs.List.{All}
use Rattle.std.proofs.lemmas.List.Elements.{All-head, All-same, All-tail}
use Rattle.broadcast.specs.Broadcasts.{IsBootFault, IsBuildFault, IsFault, IsLoadFault}
use Rattle.broadcast.specs.Packets.{sent_packets}
use Rattle.broadcast.specs.declared.fault.ChainFault.{ChainFault}
use Rattle.broadcast.specs.declared.fault.ChainFault.TheVariants.{Boot, Build, Load, Memory}
use Rattle.flash_layout.specs.Layout.{Geometry, IsInLimits}
use Rattle.flash_bank.specs.Sound.{IsSound, IsWorn}
use Rattle.flash_bank.specs.declared.fault.BootFault.{BootFault}
use Rattle.flash_bank.specs.declared.fault.BootFault.TheVariants as boot_fault
use Rattle.flash_dev.specs.Sure.{sure_contents}
use Rattle.flash_dev.specs.declared.sure.SureFlash.{SureFlash}
use Rattle.head_carousel.specs.Sections.{sections_of}
use Rattle.head_mux.specs.Sent.{IsSendable, counter_before, dues_before, next_index, section_at, section_of_turn, sent}
use Rattle.ssu_answer.specs.declared.build_fault.BuildFault.{BuildFault}
use Rattle.ssu_answer.specs.declared.build_fault.BuildFault.TheVariants as build_fault
use Rattle.ssu_loader.specs.declared.fault.LoadFault.{LoadFault}
use Rattle.ssu_loader.specs.declared.fault.LoadFault.TheVariants as load_fault
use Rattle.tool_sample.specs.Does.{IsFormatted, sure_seen}
use Rattle.tool_sample.specs.Sample.{broadcast_of, modules_of, plan_in, plan_of, section_total, the_box, turns_for}
use Rattle.tool_sample.proofs.FlashLaws.{fresh, limits}
use Rattle.tool_sample.proofs.LossLaws.{aired_few}
use Rattle.tool_sample.proofs.PlanLaws.{can_be_made, same_sections, turns_few}
use Rattle.ts_section.specs.Cut.{cut_packets, packets_with, payload_count, payloads, with_pointer}
use Rattle.ts_section.specs.TimedSection.{TimedSection}

-- ---- how many packets are sent

payloads_len : (n : ℕ) (bytes : List ℕ) → length (payloads n bytes) ≡ n
unfolding payloads
payloads_len zero bytes = omega arith
payloads_len (suc n) bytes = omega (arith, payloads_len n (drop 184 bytes))

packets_len : (pid counter : ℕ) (start : Bool) (ps : List (List ℕ)) → length (packets_with pid counter start ps) ≡ length ps
unfolding packets_with
packets_len pid counter start [] = omega arith
packets_len pid counter start (p ∷ ps) = omega (arith, packets_len pid ((counter + 1) % 16) false ps)

cut_few : (section : List ℕ) (pid counter : ℕ) → length section ≤ 4096 → length (cut_packets section pid counter) ≤ 23
unfolding cut_packets
cut_few section pid counter short =
    let n = payload_count (with_pointer section) in
    omega (arith, packets_len pid counter true (payloads n (with_pointer section)), payloads_len n (with_pointer section), short)

section_short : (list : List TimedSection) (index : ℕ) → All IsSendable list → length (section_at list index).bytes ≤ 4096
section_short [] index sendable = omega arith
section_short (s ∷ list) zero sendable = (All-head IsSendable s list sendable).most
section_short (s ∷ list) (suc index) sendable = section_short list index (All-tail IsSendable s list sendable)

-- a turn sends at most 23 packets
sent_few : (list : List TimedSection) (turns : ℕ) → All IsSendable list → length (sent list turns) ≤ 23 * turns
unfolding sent
sent_few list zero sendable = omega arith
sent_few list (suc t) sendable =
    let section = section_of_turn list t in
    let here = cut_packets section.bytes section.pid (counter_before list t section.pid) in
    omega (
      arith,
      length-append (sent list t) here,
      sent_few list t sendable,
      cut_few section.bytes section.pid (counter_before list t section.pid) (section_short list (next_index (dues_before list t)) sendable),
    )

-- the sections of a sample may be sent
abbrev pub AreSendable : ℕ → Type 0
AreSendable number = All IsSendable (sections_of (plan_in number 1) (modules_of number))

packets_few : (number : ℕ) → AreSendable number → length (sent_packets (broadcast_of number)) ≤ 168912
unfolding sent_packets
packets_few number sendable =
    let turns = turns_for (section_total number) in
    let list = sections_of (plan_of number) (modules_of number) in
    let own : All IsSendable list = All-same IsSendable _ _ (same_sections number turns) sendable in
    omega (arith, sent_few list turns own, turns_few number)

-- ---- the faults

-- the fault is want of memory
abbrev pub IsMemory : ChainFault → Type 0
IsMemory Memory = Unit {0}
IsMemory other = ⊥

is_built : (number : ℕ) (before after : SureFlash) (fault : BuildFault) → IsBuildFault (broadcast_of number) (sure_seen before after) fault → ⊥
is_built number before after build_fault.Memory is = is
is_built number before after (build_fault.ImageTooLong name) is = can_be_made number (turns_for (section_total number)) (build_fault.ImageTooLong name) is.0
is_built number before after (build_fault.TooManySections n) is = can_be_made number (turns_for (section_total number)) (build_fault.TooManySections n) is.0

is_loaded : (number : ℕ) (before after : SureFlash) (fault : LoadFault) → IsFormatted before → AreSendable number
    → IsLoadFault (broadcast_of number) the_box (sure_seen before after) fault → ⊥
is_loaded number before after load_fault.Geometry formatted sendable is = is.1.0 (subst IsInLimits (sym formatted.blocks) limits)
is_loaded number before after load_fault.FlashFault formatted sendable is = omega (arith, is.1.1.0)
is_loaded number before after load_fault.Foreign formatted sendable is =
    is.1.1.0 tt (subst (λ (g : Geometry). IsSound g (sure_contents before)) (sym formatted.blocks) formatted.contents.sound)
is_loaded number before after load_fault.Worn formatted sendable is =
    fresh before formatted (subst (λ (g : Geometry). IsWorn g (sure_contents before)) formatted.blocks (is.1.1.0 tt))
is_loaded number before after load_fault.TooLong formatted sendable is = elim is [
  | inl sent ↦ omega (arith, sent.0, packets_few number sendable)
  | inr aired ↦ omega (arith, aired.1.1.0, aired_few number, packets_few number sendable)
]
is_loaded number before after load_fault.ReadFault formatted sendable is = is
is_loaded number before after load_fault.Memory formatted sendable is = is

is_booted : (number : ℕ) (before after : SureFlash) (fault : BootFault) → IsBootFault (broadcast_of number) the_box (sure_seen before after) fault → ⊥
is_booted number before after boot_fault.Flash is = omega (arith, is.0)
is_booted number before after boot_fault.Foreign is = is.0 tt
is_booted number before after boot_fault.Geometry is = is
is_booted number before after boot_fault.Write is = is

pub memory_alone : (number : ℕ) (before after : SureFlash) (fault : ChainFault) → IsFormatted before → AreSendable number
    → IsFault (broadcast_of number) the_box (sure_seen before after) fault → IsMemory fault
memory_alone number before after (Build fault) formatted sendable is = is_built number before after fault is
memory_alone number before after (Load fault) formatted sendable is = is_loaded number before after fault formatted sendable is.1
memory_alone number before after (Boot fault) formatted sendable is = is_booted number before after fault is
memory_alone number before after Memory formatted sendable is = tt
