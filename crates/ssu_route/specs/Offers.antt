-- The groups that a box accepts, and what one section says of them. A section that is not of the format of its message
-- says nothing. ETSI EN 301 192; ETSI TS 102 006.
use Rattle.std.specs.Prelude.{ℕ, Bool, true, ◌&&◌, ◌==◌, List, map, take, Option, Some, None, if◌then◌else◌}
use Rattle.std.specs.List.{filter, list_any}
use Rattle.std.specs.Option.{option_map, option_and_then}
use Rattle.std.specs.Str.{bytes_eq}
use Rattle.ts_section.specs.Events.{Heard}
use Rattle.si_desc.specs.Descriptors.{DescFields, subgroup_association, whole_descriptors}
use Rattle.ssu_compat.specs.Match.{matches, offered, admits}
use Rattle.ssu_compat.specs.declared.rule.SwId.{SwId}
use Rattle.dsmcc_msg.specs.Control.{GroupFields, DsiFields, dsi, DiiFields, dii, dii_message}
use Rattle.route_tables.specs.Values.{Receiver, CarouselFound, same_option, same_list, same_number}
use Rattle.route_tables.specs.Said.{on}
use Rattle.route_tables.specs.Levels.{is_number}

-- A group of a carousel that the box accepts: its id, and the software that it offers, if it names one.
pub record Offer : Type 0 where
  pub group : ℕ
  pub software : Option SwId

abbrev pub same_software : SwId → SwId → Bool
same_software s t = s.model == t.model && s.version == t.version

abbrev pub same_offer : Offer → Offer → Bool
same_offer o p = o.group == p.group && same_option same_software o.software p.software

abbrev pub same_offers : List Offer → List Offer → Bool
same_offers = same_list same_offer

-- the id of a group, or none
abbrev pub same_group : Option ℕ → Option ℕ → Bool
same_group = same_option same_number

-- the message of a DII byte for byte, or none
abbrev pub same_message : Option (List ℕ) → Option (List ℕ) → Bool
same_message = same_option bytes_eq

-- ---- Groups: EN 301 192, 8.1. A DSI lists the groups of a carousel, each with a compatibility descriptor (TS 102 006, 9.5.2).

abbrev pub is_subgroup : ℕ → DescFields → Bool
is_subgroup number d = d.tag == 0x0B && is_number number (subgroup_association.of d.body)

-- A group carries a subgroup if any whole descriptor of its info has tag 0x0B, five bytes and that number. Where none is
-- looked for, each group will do.
abbrev pub carries_subgroup : Option ℕ → GroupFields → Bool
carries_subgroup None g = true
carries_subgroup (Some number) g = list_any (is_subgroup number) (whole_descriptors g.info)

abbrev pub matches_box : Receiver → GroupFields → Bool
matches_box me g = matches me.file.id.oui me.file.id.model me.file.id.version g.compat

abbrev pub offer_of : Receiver → GroupFields → Offer
offer_of me g = record { group = g.id; software = offered me.file.id.oui g.compat }

-- The group is for the hardware of the box, the rule of the box admits what it offers over the software that runs, and
-- it carries the subgroup.
abbrev pub is_accepted : Receiver → CarouselFound → GroupFields → Bool
is_accepted me c g =
    matches_box me g && admits me.file.rule me.running (offered me.file.id.oui g.compat) && carries_subgroup c.subgroup g

-- the first 32 groups that the box accepts
abbrev pub offers_in : Receiver → CarouselFound → DsiFields → List Offer
offers_in me c d = take 32 (map (offer_of me) (filter (is_accepted me c) d.groups))

-- what a DSI of the carousel decides, also where the box accepts none of its groups
unfoldable pub offers_said : Receiver → CarouselFound → Heard → Option (List Offer)
offers_said me c item = option_map (offers_in me c) (option_and_then (λ section. dsi.of section) (on c.pid item))

-- ---- Modules: EN 301 192, 8.1. A DII belongs to the group whose id equals its transactionId in all 32 bits.

abbrev pub dii_if : ℕ → DiiFields → Option DiiFields
dii_if group d = if d.transaction == group then Some d else None

-- the DII of the group, where it was heard on this PID
unfoldable pub dii_said : ℕ → ℕ → Heard → Option DiiFields
dii_said pid group item = option_and_then (dii_if group) (option_and_then (λ section. dii.of section) (on pid item))

-- the DII that a message spells
unfoldable pub dii_of : List ℕ → Option DiiFields
dii_of message = dii_message.of message
