-- The packets of a broadcast, and what a box hears in them. Lists of packets have the oldest first.
use Rattle.std.specs.Prelude.{◌≡◌, ℕ, ◌<◌, List, [], ◌∷◌, ◌++◌, length, reverse, take}
use Rattle.air_channel.specs.Aired.{aired}
use Rattle.air_channel.specs.Scripts.{ScriptData}
use Rattle.broadcast_laws.specs.OneOf.{IsGroupForBox}
use Rattle.broadcast_laws.specs.Planned.{sent_sections}
use Rattle.broadcast_laws.specs.Undeceived.{IsUndeceived}
use Rattle.flash_layout.specs.Layout.{Geometry}
use Rattle.flash_bank.specs.Leaving.{Installs}
use Rattle.flash_bank.specs.declared.record.Record.{Record}
use Rattle.flash_stage.specs.Keeping.{StagesNone}
use Rattle.head_carousel.specs.Sections.{sections_of}
use Rattle.head_mux.specs.Sent.{sent}
use Rattle.head_plan.specs.Plans.{PlanData}
use Rattle.route_tables.specs.Values.{Receiver}
use Rattle.ssu_answer.specs.declared.chosen.Chosen.{Chosen}
use Rattle.ssu_loader.specs.Decisions.{IsOpen, Reaches, Whole}
use Rattle.ssu_loader.specs.Replays.{record_after}
use Rattle.ssu_route.specs.Queries.{heard_by}
use Rattle.ts_input.specs.Packets.{most_packets}
use Rattle.ts_section.specs.Events.{Heard}

-- A plan with the images of its files, mention by mention, and what happens to the packets on their way.
pub record Broadcast : Type 0 where
  pub plan : PlanData
  pub images : List (List ℕ)
  pub script : ScriptData

-- the packets that are sent: the sections of the plan, turn by turn
unfoldable pub sent_packets : Broadcast → List (List ℕ)
sent_packets b = sent (sections_of b.plan b.images) b.plan.turns

-- the packets that a box is given: those that are sent, as the script changes them
unfoldable pub aired_packets : Broadcast → List (List ℕ)
aired_packets b = aired b.script (sent_packets b)

-- no damaged section of them passes for a right one
abbrev pub IsUnspoilt : Broadcast → Type 0
IsUnspoilt b = IsUndeceived (sent_sections b.plan b.images) (aired_packets b)

-- what a box hears in packets, the newest section first
abbrev pub heard_over : Receiver → List (List ℕ) → List Heard
heard_over me packets = heard_by me (reverse packets)

-- as many of the packets as a box takes at most
abbrev pub packets_taken : Broadcast → List (List ℕ)
packets_taken b = take most_packets (aired_packets b)

-- One of the packets that a run takes, with those before it and behind it.
pub record IsFront (b : Broadcast) : Type 0 where
  pub before : List (List ℕ)
  pub packet : List ℕ
  pub behind : List (List ℕ)
  pub parts : aired_packets b ≡ before ++ packet ∷ behind
  pub within : length before < most_packets

-- those before it, and it
abbrev pub up_to_packet : {b : Broadcast} → IsFront b → List (List ℕ)
up_to_packet front = front.before ++ front.packet ∷ []

-- The packets up to one of them carry this group whole, not without it, and y is x with its image installed, under the record that
-- follows the former one. With the premises that no damaged section passes for a right one, and that no group was staged in x, it is a
-- group of the plan for the box.
pub record IsInstalledFrom (b : Broadcast) (me : Receiver) (g : Geometry) (former : Record) (x y : List ℕ) (chosen : Chosen) : Type 0 where
  pub image : List ℕ
  pub front : IsFront b
  pub reached : Reaches me (heard_over me (up_to_packet front)) (Whole chosen image)
  pub undecided : IsOpen me (heard_over me front.before)
  pub installs : Installs g (record_after former chosen) image x y
  pub planned : IsUnspoilt b → StagesNone g x → IsGroupForBox b.plan b.images me chosen.group chosen.software image
