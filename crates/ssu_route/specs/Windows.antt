-- When the box chooses a group, and the sections that may carry it: ETSI EN 301 192, 8.1. What is chosen is the value of level 7.
use Rattle.std.specs.Prelude.{◌≡◌, ℕ, ◌+◌, min, Bool, false, ◌&&◌, not, ◌==◌, nat_le, List, []}
use Rattle.std.specs.Prelude.{◌∷◌, Option, Some, None, is_some, option_and_then, unwrap_or}
use Rattle.std.specs.Prelude.{if◌then◌else◌}
use Rattle.std.specs.List.{filter_map, find}
use Rattle.route_part.specs.Part.{since}
use Rattle.ts_section.specs.Events.{Heard}
use Rattle.ssu_answer.specs.Software.{no_software}
use Rattle.ssu_compat.specs.declared.rule.SwId.{SwId}
use Rattle.dsmcc_msg.specs.Control.{DiiFields}
use Rattle.ssu_group.specs.Lays.{IsPlanOf}
use Rattle.ssu_route.specs.declared.change.Change.{Change}
use Rattle.ssu_route.specs.declared.change.Change.TheVariants.{Same, Chosen, Lost}
use Rattle.ssu_route.specs.declared.choice.Choice.{Choice}
use Rattle.route_tables.specs.Values.{Receiver, CarouselFound}
use Rattle.route_tables.specs.Said.{on}
use Rattle.route_tables.specs.Levels.{level_5}
use Rattle.ssu_route.specs.Offers.{Offer, same_message, dii_of}
use Rattle.ssu_route.specs.Choosing.{level_6, level_7, wanted}

-- ---- a choice

-- A choice begins where level 7 has a value that differs from the one before.
abbrev pub begins : Option (List ℕ) → Option (List ℕ) → Bool
begins before now = is_some now && not (same_message before now)

-- A choice that stood ends where the value changes, and where another value takes its place a choice begins.
unfoldable pub change_of : Option (List ℕ) → Option (List ℕ) → Change
change_of before now = if same_message before now then Same else (if is_some now then Chosen else Lost)

-- what the section changes that is heard after these
unfoldable pub change_at : Receiver → Heard → List Heard → Change
change_at me item earlier = change_of (level_7 me earlier) (level_7 me (item ∷ earlier))

-- does a choice begin at the section that is heard after these?
unfoldable pub begins_at : Receiver → Heard → List Heard → Bool
begins_at me item earlier = begins (level_7 me earlier) (level_7 me (item ∷ earlier))

-- ---- its window

abbrev pub window_of : Option CarouselFound → List Heard → List (List ℕ)
window_of None part = []
window_of (Some c) part = filter_map (on c.pid) part

-- Where a choice stands, its window: the sections heard on the PID of the carousel after the section that began it. The
-- newest stands first.
unfoldable pub window : Receiver → List Heard → List (List ℕ)
window me heard = window_of (level_5 me heard) (since same_message (level_7 me) heard)

-- ---- at most sixteen choices

-- The most choices of one replay. This limit is the project's own: no standard gives one.
abbrev pub most_choices : ℕ
most_choices = 16

-- at how many sections a choice began, or would have begun if there were no limit
unfoldable pub beginnings : Receiver → List Heard → ℕ
beginnings me [] = 0
beginnings me (item ∷ earlier) = beginnings me earlier + (if begins_at me item earlier then 1 else 0)

-- how many choices began
unfoldable pub choices : Receiver → List Heard → ℕ
choices me heard = min most_choices (beginnings me heard)

-- Does the newest section bring a choice that does not begin, since sixteen began before?
unfoldable pub is_one_too_many : Receiver → List Heard → Bool
is_one_too_many me [] = false
is_one_too_many me (item ∷ earlier) = begins_at me item earlier && choices me earlier == most_choices

-- The message of the choice that stands: that of level 7, unless there were too many choices.
unfoldable pub standing : Receiver → List Heard → Option (List ℕ)
standing me heard = if nat_le (beginnings me heard) most_choices then level_7 me heard else None

-- ---- what is chosen

-- the DII of the value of level 7
unfoldable pub chosen_dii : Receiver → List Heard → Option DiiFields
chosen_dii me heard = option_and_then dii_of (level_7 me heard)

abbrev pub is_group : ℕ → Offer → Bool
is_group group o = o.group == group

abbrev pub software_of : Offer → Option SwId
software_of o = o.software

-- the software that the first entry with the id of the group offers, or else model 0 and version 0
unfoldable pub offered_by : ℕ → List Offer → SwId
offered_by group offers = unwrap_or (option_and_then software_of (find (is_group group) offers)) no_software

-- The choice is the wanted group, with the software that it offers, the message of its DII and the plan that this gives.
pub record IsChoice (me : Receiver) (heard : List Heard) (choice : Choice) : Type 0 where
  pub dii : DiiFields
  pub read : chosen_dii me heard ≡ Some dii
  pub group : wanted me heard ≡ Some choice.group
  pub software : choice.software ≡ offered_by choice.group (level_6 me heard)
  pub plan : IsPlanOf dii choice.plan
  pub message : level_7 me heard ≡ Some choice.message.items
