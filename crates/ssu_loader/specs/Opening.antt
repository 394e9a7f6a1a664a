-- The places that a choice keeps when it begins: those that the flash had of its message at the opening, or those that the choice
-- before it had kept or filled, if that had the same message. Lists of sections have the newest first.
use Rattle.std.specs.Prelude.{◌≡◌, ℕ, ◌-◌, Bool, true, false, ◌&&◌, ◌==◌, nat_le, List, [], ◌∷◌, ◌++◌, Option, Some, None}
use Rattle.std.specs.Prelude.{if◌then◌else◌, option_and_then, sum_by}
use Rattle.std.specs.Option.{option_or}
use Rattle.ts_section.specs.Events.{Heard}
use Rattle.dsmcc_msg.specs.Control.{DiiFields}
use Rattle.flash_bank.specs.declared.record.Record.{Record}
use Rattle.flash_kept.specs.SpareArea.{SpareArea, spare_area}
use Rattle.flash_kept.specs.Told.{staged_bytes, staged_message}
use Rattle.flash_layout.specs.Layout.{Geometry, mark_count}
use Rattle.route_tables.specs.Values.{Opening, Receiver, nothing_open}
use Rattle.ssu_group.specs.declared.group_plan.GroupPlan.{GroupPlan}
use Rattle.ssu_group.specs.Carried.{Fills, filling, filling_over, nothing_kept}
use Rattle.ssu_group.specs.Plan.{blocks_of}
use Rattle.ssu_route.specs.declared.change.Change.{Change}
use Rattle.ssu_route.specs.declared.change.Change.TheVariants.{Same, Chosen, Lost}
use Rattle.ssu_route.specs.Offers.{dii_of, same_message}
use Rattle.ssu_route.specs.Choosing.{level_7}
use Rattle.ssu_route.specs.Windows.{change_at, window}

-- ---- what is found at the opening

-- what a spare area has staged
abbrev pub opening_in : SpareArea → List ℕ → Opening
opening_in area contents = record { most = Some area.marks; message = staged_message area contents; staged = staged_bytes area contents }

abbrev pub opening_by : Bool → SpareArea → List ℕ → Opening
opening_by true area contents = opening_in area contents
opening_by false area contents = nothing_open

-- the most places of a group that is kept, where this record is the current one
abbrev pub most_kept : Geometry → Record → Option ℕ
most_kept g current = if current.layout == 2 then Some (mark_count g) else None

-- What a stage finds in these contents, of which boot takes this record: what is staged, where the stage keeps its places and the record has
-- layout 2, and else nothing.
abbrev pub opening_of : Bool → Geometry → Record → List ℕ → Opening
opening_of keeps g current contents = opening_by (keeps && current.layout == 2) (spare_area g (1 - current.bank) current.number) contents

-- ---- which groups are kept

-- Has the group few enough places to be kept?
abbrev pub is_within : Option ℕ → ℕ → Bool
is_within None places = false
is_within (Some most) places = nat_le places most

-- as many places as the plan of the DII has
abbrev pub places_in : Option DiiFields → ℕ
places_in None = 0
places_in (Some d) = sum_by (blocks_of d.block_size) d.modules

-- ---- what a choice keeps

-- the message of the last choice, and before the first that of what the flash had at the opening
unfoldable pub last_message : Receiver → List Heard → Option (List ℕ)
last_message me [] = me.opening.message
last_message me (item ∷ heard) = option_or (level_7 me (item ∷ heard)) (last_message me heard)

-- Does a choice that begins at this section keep what the last one had? It has the same message, and its group is one that is
-- kept.
unfoldable pub keeps_at : Receiver → Heard → List Heard → Bool
keeps_at me item heard =
    same_message (last_message me heard) (level_7 me (item ∷ heard))
    && is_within me.opening.most (places_in (option_and_then dii_of (level_7 me (item ∷ heard))))

-- what becomes of a thing where nothing changes, where a choice ends, and where one begins that keeps it or not
abbrev pub by_change : {A : Type 0} → Change → Bool → A → A → A → A
by_change Same keeps same lost none = same
by_change Lost keeps same lost none = lost
by_change Chosen true same lost none = same
by_change Chosen false same lost none = none

-- the places that the flash had at the opening, while they are kept
unfoldable pub staged_still : Receiver → List Heard → Fills
staged_still me [] = me.opening.staged
staged_still me (item ∷ heard) =
    by_change (change_at me item heard) (keeps_at me item heard) (staged_still me heard) (staged_still me heard) nothing_kept

-- the windows of the choices before, one after the other, while the places that they filled are kept
unfoldable pub earlier_windows : Receiver → List Heard → List (List ℕ)
earlier_windows me [] = []
earlier_windows me (item ∷ heard) =
    by_change (change_at me item heard) (keeps_at me item heard) (earlier_windows me heard)
    (window me heard ++ earlier_windows me heard) []

-- what the last choice keeps
abbrev pub kept : Receiver → List Heard → GroupPlan → Fills
kept me heard plan n = option_or (staged_still me heard n) (filling plan (earlier_windows me heard) n)

-- what the choice that stands has: kept, or filled in its window
abbrev pub fills_at : Receiver → List Heard → GroupPlan → Fills
fills_at me heard plan = filling_over (kept me heard plan) plan (window me heard)

-- ---- what the choice that stands has, or the last one had

abbrev pub by_standing : Option (List ℕ) → Fills → Fills → Fills
by_standing None last now = last
by_standing (Some message) last now = now

-- what the choice that stands has, or, where none stands, what the last one had when it ended
abbrev pub has_at : Receiver → List Heard → GroupPlan → Fills
has_at me heard plan = by_standing (level_7 me heard) (kept me heard plan) (fills_at me heard plan)

-- ---- where nothing is kept

-- The flash had nothing at the opening, and nothing is kept from one choice for the next.
abbrev pub KeepsNothing : Receiver → Type 0
KeepsNothing me = me.opening ≡ nothing_open
