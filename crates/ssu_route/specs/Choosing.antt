-- The last two of the seven levels of the way to an update: the groups of the carousel, and the modules of one of them.
use Rattle.std.specs.Prelude.{ℕ, Bool, true, not, List, [], Option, Some, None, is_some, unwrap_or}
use Rattle.std.specs.List.{find}
use Rattle.std.specs.Option.{option_map}
use Rattle.route_part.specs.Part.{since}
use Rattle.route_part.specs.Said.{last_said, held_said}
use Rattle.ts_section.specs.Events.{Heard}
use Rattle.dsmcc_msg.specs.Control.{DiiFields}
use Rattle.ssu_group.specs.Refusal.{refusal}
use Rattle.route_tables.specs.Values.{Receiver, CarouselFound, same_carousel}
use Rattle.route_tables.specs.Levels.{level_5}
use Rattle.ssu_route.specs.Offers.{Offer, same_offers, same_group, offers_said, dii_said}

-- ---- Level 6, the group

abbrev pub offers_by : Receiver → Option CarouselFound → List Heard → List Offer
offers_by me None part = []
offers_by me (Some c) part = unwrap_or (last_said (offers_said me c) part) []

-- Since level 5 last changed, the last DSI of the carousel decides. There is no value where the box accepts no group.
unfoldable pub level_6 : Receiver → List Heard → List Offer
level_6 me heard = offers_by me (level_5 me heard) (since same_carousel (level_5 me) heard)

-- ---- Level 7, the modules

-- A group stands if none of its DIIs was heard or the last one is usable for the bank.
abbrev pub is_usable : ℕ → Option DiiFields → Bool
is_usable bank_len None = true
is_usable bank_len (Some d) = not (is_some (refusal d bank_len))

abbrev pub group_of : Offer → ℕ
group_of o = o.group

-- the first of these groups that stands
abbrev pub wanted_by : ℕ → ℕ → List Offer → List Heard → Option ℕ
wanted_by bank_len pid offers part =
    option_map group_of (find (λ o. is_usable bank_len (last_said (dii_said pid o.group) part)) offers)

abbrev pub message_bytes : DiiFields → List ℕ
message_bytes d = d.message

-- the message of the DII of the group, where there is one
abbrev pub message_said : ℕ → Option ℕ → Heard → Option (List ℕ)
message_said pid None item = None
message_said pid (Some group) item = option_map message_bytes (dii_said pid group item)

abbrev pub message_by : ℕ → Option CarouselFound → List Offer → List Heard → Option (List ℕ)
message_by bank_len None offers part = None
message_by bank_len (Some c) offers part =
    held_said same_group (wanted_by bank_len c.pid offers) (message_said c.pid) part

-- Since level 6 last changed: the message of the last DII of the wanted group, if the group was the wanted one directly
-- after that section and ever since.
unfoldable pub level_7 : Receiver → List Heard → Option (List ℕ)
level_7 me heard =
    message_by me.bank_len (level_5 me heard) (level_6 me heard) (since same_offers (level_6 me) heard)

-- The group that the box wants, whether or not a DII of it was heard.
abbrev pub wanted_at : ℕ → Option CarouselFound → List Offer → List Heard → Option ℕ
wanted_at bank_len None offers part = None
wanted_at bank_len (Some c) offers part = wanted_by bank_len c.pid offers part

unfoldable pub wanted : Receiver → List Heard → Option ℕ
wanted me heard = wanted_at me.bank_len (level_5 me heard) (level_6 me heard) (since same_offers (level_6 me) heard)
