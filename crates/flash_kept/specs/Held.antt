-- What a spare area holds of a group: a relation, since a place may be both marked and slotted, with different bytes.
use Rattle.std.specs.Prelude.{◌≡◌, ℕ, ◌+◌, ◌<◌, ◌≤◌, true, List, Some, None}
use Rattle.dsmcc_msg.specs.Control.{DiiFields, dii_message}
use Rattle.flash_layout.specs.Journal.{IsHeader, header_number, message_len}
use Rattle.flash_layout.specs.Pairs.{byte_at, part}
use Rattle.ssu_group.specs.Refusal.{refusal}
use Rattle.ssu_group.specs.declared.places.Place.{Place}
use Rattle.flash_kept.specs.Counts.{listed}
use Rattle.flash_kept.specs.Places.{place_count, place_of}
use Rattle.flash_kept.specs.Slots.{is_marked, is_slot_of}
use Rattle.flash_kept.specs.SpareArea.{SpareArea, journal_in, slot_bytes}

-- the message of a header
unfoldable pub message_in : List ℕ → List ℕ
message_in journal = listed (λ i. byte_at journal (128 + i)) (message_len journal)

-- A message is held: the header is valid, its number is that of the next record, and its message is this DII, usable for the bank, of
-- at most as many places as there are marks.
pub record HasHeldMessage (area : SpareArea) (c message : List ℕ) (dii : DiiFields) : Type 0 where
  pub header : IsHeader (journal_in area c)
  pub next : header_number (journal_in area c) ≡ area.next
  pub is : message ≡ message_in (journal_in area c)
  pub reads : dii_message.of message ≡ Some dii
  pub usable : refusal dii area.bank_len ≡ None
  pub few : place_count dii ≤ area.marks

-- The place numbered n stands with these bytes: it is marked, and they are the bank's, or a valid slot has its offset and length, and
-- they are the slot's.
pub data Stands (area : SpareArea) (c : List ℕ) (n : ℕ) (p : Place) (bytes : List ℕ) : Type 0 where
  InBank : is_marked area c n ≡ true → bytes ≡ part c (area.bank + p.at) p.len → Stands area c n p bytes
  InSlot : (s : ℕ) → s < 16 → is_slot_of area c p s ≡ true → bytes ≡ part c (slot_bytes area s) p.len → Stands area c n p bytes

-- Under this message the place numbered n is held with these bytes.
pub record IsHeld (area : SpareArea) (c message : List ℕ) (n : ℕ) (bytes : List ℕ) : Type 0 where
  pub dii : DiiFields
  pub under : HasHeldMessage area c message dii
  pub place : Place
  pub is_place : place_of dii n ≡ Some place
  pub stands : Stands area c n place bytes
