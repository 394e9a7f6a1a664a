-- Which entries of the map count, which spare and which slot are the next ones, and which block stands for a logical one.
use Rattle.std.specs.Prelude.{◌≡◌, ℕ, zero, suc, ◌+◌, Bool, ◌&&◌, ◌==◌, nat_lt, nat_le, if◌then◌else◌, List, [], ◌∷◌}
use Rattle.std.specs.Prelude.{◌++◌, take, drop, Option, Some, None}
use Rattle.std.specs.List.{list_all}
use Rattle.flash_remap.specs.Entry.{entry_in}
use Rattle.flash_remap.specs.Layout.{Geometry, slot_place, slots_in, spare_block}
use Rattle.flash_remap.specs.declared.entry.Entry.{Entry}

-- the 16 bytes of the slot with this number
abbrev pub slot_bytes : Geometry → List ℕ → ℕ → List ℕ
slot_bytes g contents slot = take 16 (drop (slot_place g slot) contents)

-- all of these entries have spares below this number
abbrev pub are_below : List Entry → ℕ → Bool
are_below entries spare = list_all (λ f. nat_lt f.spare spare) entries

-- An entry counts, if its block is a logical one, and its spare is one of the spares and above that of every counting entry in
-- a slot before.
abbrev pub is_counting : Geometry → List Entry → Entry → Bool
is_counting g earlier e =
    nat_lt e.block g.logical && (nat_lt e.spare g.spares && are_below earlier e.spare)

-- the counting entries, with what the next slot holds
abbrev pub with_next : Geometry → List Entry → Option Entry → List Entry
with_next g earlier None = earlier
with_next g earlier (Some e) = if is_counting g earlier e then earlier ++ e ∷ [] else earlier

-- the counting entries of the first n slots, in their order
unfoldable pub counting_before : Geometry → List ℕ → ℕ → List Entry
counting_before g contents zero = []
counting_before g contents (suc n) = with_next g (counting_before g contents n) (entry_in (slot_bytes g contents n))

-- and of all
abbrev pub counting : Geometry → List ℕ → List Entry
counting g contents = counting_before g contents (slots_in g)

-- one above the spare of the last of these entries, or this number where there is none
abbrev pub above_last : ℕ → List Entry → ℕ
above_last none [] = none
above_last none (e ∷ es) = above_last (e.spare + 1) es

-- this number is one above the spare of the last entry, and so it is the least above those of all
pub record IsNextOf (entries : List Entry) (next : ℕ) : Type 0 where
  pub last : next ≡ above_last 0 entries
  pub above : (spare : ℕ) → are_below entries spare ≡ nat_le next spare

-- the next spare is one above the last counting one
abbrev pub next_spare : Geometry → List ℕ → ℕ
next_spare g contents = above_last 0 (counting g contents)

-- all of these bytes are erased
abbrev pub is_blank : List ℕ → Bool
is_blank bytes = list_all (λ byte. byte == 255) bytes

-- of the first n slots: the one after the last that is not blank
unfoldable pub next_slot_before : Geometry → List ℕ → ℕ → ℕ
next_slot_before g contents zero = 0
next_slot_before g contents (suc n) = if is_blank (slot_bytes g contents n) then next_slot_before g contents n else suc n

-- the next slot is the one after the last slot that is not blank
abbrev pub next_slot : Geometry → List ℕ → ℕ
next_slot g contents = next_slot_before g contents (slots_in g)

-- these are the next spare and the next slot
pub record AreNext (g : Geometry) (contents : List ℕ) (spare slot : ℕ) : Type 0 where
  pub spare_is : next_spare g contents ≡ spare
  pub slot_is : next_slot g contents ≡ slot

-- the spare of the last of these entries that is for a logical block, or this block where there is none
abbrev pub last_for : Geometry → ℕ → ℕ → List Entry → ℕ
last_for g block none [] = none
last_for g block none (e ∷ es) = last_for g block (if e.block == block then spare_block g e.spare else none) es

-- the block that stands for a logical block: the spare of the last entry for it, or the block itself where there is none
abbrev pub place_among : Geometry → List Entry → ℕ → ℕ
place_among g entries block = last_for g block block entries

-- where these are all counting ones
abbrev pub place_of : Geometry → List ℕ → ℕ → ℕ
place_of g contents block = place_among g (counting g contents) block
