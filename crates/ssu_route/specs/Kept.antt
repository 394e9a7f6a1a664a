-- What is kept of the last two levels, and what it stands for.
use Rattle.std.specs.Prelude.{◌≡◌, ℕ, Bool, true, not, ◌==◌, List, [], map, Option, Some, None, is_some, if◌then◌else◌, ◌&&◌, take}
use Rattle.std.specs.List.{find, filter}
use Rattle.std.specs.Option.{option_map, option_and_then, option_or}
use Rattle.route_part.specs.Part.{since}
use Rattle.route_part.specs.Said.{last_said}
use Rattle.ts_section.specs.Events.{Heard}
use Rattle.dsmcc_msg.specs.Control.{DiiFields, GroupFields, DsiFields}
use Rattle.ssu_group.specs.Refusal.{refusal}
use Rattle.ssu_group.specs.Lays.{IsPlanOf}
use Rattle.route_tables.specs.Values.{Receiver, CarouselFound}
use Rattle.route_tables.specs.Levels.{level_5}
use Rattle.ssu_route.specs.declared.found.Found.{Found}
use Rattle.ssu_route.specs.declared.choice.Choice.{Choice}
use Rattle.ssu_route.specs.Offers.{Offer, same_offers, same_group, dii_said, dii_if, dii_of, carries_subgroup}
use Rattle.ssu_route.specs.Choosing.{is_usable, message_bytes, level_6}
use Rattle.ssu_route.specs.Windows.{offered_by}
use Rattle.arrayvec.specs.ArrayVec.{ArrayVec}
use Rattle.ssu_compat.specs.Match.{matches, offered, admits}
use Rattle.ssu_compat.specs.declared.rule.SwId.{SwId}
use Rattle.dsmcc_msg.specs.declared.group.Group.{Group}
use Rattle.ssu_route.specs.declared.accept.Terms.{Terms}

-- ---- the groups that were found

-- the group of an offer, where `usable` says which groups stand
abbrev pub seen : (ℕ → Bool) → Offer → Found
seen usable o = record { group = o.group; software = o.software; usable = usable o.group }

abbrev pub seen_offer : Found → Offer
seen_offer f = record { group = f.group; software = f.software }

abbrev pub offers_of : List Found → List Offer
offers_of fs = map seen_offer fs

abbrev pub found_group : Found → ℕ
found_group f = f.group

abbrev pub stands : Found → Bool
stands f = f.usable

-- the id of the first group that stands
unfoldable pub first_usable : List Found → Option ℕ
first_usable fs = option_map found_group (find stands fs)

abbrev pub has_group : ℕ → Found → Bool
has_group group f = f.group == group

-- the group where no DII of it was heard
abbrev pub afresh : Offer → Found
afresh o = seen (λ _. true) o

-- the group, of which a DII said whether it stands
abbrev pub mark_if : ℕ → Bool → Found → Found
mark_if group usable f = if f.group == group then record f { usable = usable } else f

-- ---- what they stand for

abbrev pub usable_after : ℕ → ℕ → List Heard → ℕ → Bool
usable_after bank_len pid part group = is_usable bank_len (last_said (dii_said pid group) part)

abbrev pub groups_by : ℕ → Option CarouselFound → List Offer → List Heard → List Found
groups_by bank_len None offers part = []
groups_by bank_len (Some c) offers part = map (seen (usable_after bank_len c.pid part)) offers

-- the groups of level 6, and whether each stands
unfoldable pub groups_found : Receiver → List Heard → List Found
groups_found me heard =
    groups_by me.bank_len (level_5 me heard) (level_6 me heard) (since same_offers (level_6 me) heard)

-- ---- the message of a choice

abbrev pub message_if : Option Choice → Option (List ℕ)
message_if None = None
message_if (Some choice) = Some choice.message.items

-- The choice is of the first group that stands, with its software, and the plan is that of the DII with its message.
pub record IsPlanned (bank_len : ℕ) (groups : List Found) (choice : Choice) : Type 0 where
  pub dii : DiiFields
  pub read : dii_of choice.message.items ≡ Some dii
  pub usable : refusal dii bank_len ≡ None
  pub own : dii.transaction ≡ choice.group
  pub first : first_usable groups ≡ Some choice.group
  pub software : choice.software ≡ offered_by choice.group (offers_of groups)
  pub plan : IsPlanOf dii choice.plan

-- ---- what a DII changes, where the groups stay

abbrev pub marked : ℕ → Option DiiFields → List Found → List Found
marked bank_len None fs = fs
marked bank_len (Some d) fs = map (mark_if d.transaction (not (is_some (refusal d bank_len)))) fs

-- the message of the DII, if it is of the wanted group
abbrev pub message_for : Option ℕ → Option DiiFields → Option (List ℕ)
message_for None d = None
message_for (Some group) d = option_map message_bytes (option_and_then (dii_if group) d)

-- The message that is held after a DII, where this group is wanted now and that one was wanted before.
abbrev pub next_held : Option DiiFields → Option ℕ → Option ℕ → Option (List ℕ) → Option (List ℕ)
next_held d now before held = option_or (message_for now d) (if same_group now before then held else None)

-- ---- which groups a box accepts, by what is kept of the box

-- a group as the code has it, without where its bytes lie
abbrev pub group_view : Group → GroupFields
group_view g = record { id = g.id; size = g.size; compat = g.compat; info = g.info.now }

abbrev pub is_accepted_by : Terms → SwId → Option ℕ → GroupFields → Bool
is_accepted_by terms running wanted g =
    matches terms.id.oui terms.id.model terms.id.version g.compat
    && (admits terms.rule running (offered terms.id.oui g.compat) && carries_subgroup wanted g)

abbrev pub offer_to : Terms → GroupFields → Offer
offer_to terms g = record { group = g.id; software = offered terms.id.oui g.compat }

-- the first 32 groups that the box accepts
unfoldable pub accepted_in : Terms → SwId → Option ℕ → DsiFields → List Offer
accepted_in terms running wanted d = take 32 (map (offer_to terms) (filter (is_accepted_by terms running wanted) d.groups))

abbrev pub found_items : ArrayVec Found → List Found
found_items groups = groups.items
