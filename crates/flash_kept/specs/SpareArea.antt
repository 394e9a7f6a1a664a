-- The area of layout 2 into which the next image goes: a bank, and behind it the journal of what is stored there.
use Rattle.std.specs.Prelude.{ℕ, ◌+◌, ◌*◌, ◌<◌, ◌≤◌, List}
use Rattle.flash_layout.specs.Layout.{Geometry, area_place, journal_len, journal_place, mark_count, short_len, slots_at}
use Rattle.flash_layout.specs.Pairs.{part}

-- Where the bank begins, and its bytes; where the journal begins, its bytes, the number of its marks, and, from its front, where its
-- slots begin; and the number of the record that is committed next.
pub record SpareArea : Type 0 where
  pub bank : ℕ
  pub bank_len : ℕ
  pub journal : ℕ
  pub journal_len : ℕ
  pub marks : ℕ
  pub slots : ℕ
  pub next : ℕ

-- area k of a flash, while the current record has this number
abbrev pub spare_area : Geometry → ℕ → ℕ → SpareArea
spare_area g k number = record {
  bank = area_place g k;
  bank_len = short_len g;
  journal = journal_place g k;
  journal_len = journal_len g;
  marks = mark_count g;
  slots = slots_at g;
  next = number + 1;
}

-- The journal stands behind the bank; in it the slots stand behind header and marks, and it has room for 16. 32 bits count its bytes.
pub record IsInOrder (area : SpareArea) : Type 0 where
  pub behind : area.bank + area.bank_len ≤ area.journal
  pub marks : 8448 + 2 * area.marks ≤ area.slots
  pub ends : area.slots + 69632 ≤ area.journal_len
  pub addressable : area.journal + area.journal_len < 4294967296

-- the bytes of the journal
abbrev pub journal_in : SpareArea → List ℕ → List ℕ
journal_in area c = part c area.journal area.journal_len

-- where the pairs of the message begin, the pair of mark n, slot s, and the bytes in slot s
abbrev pub message_place : SpareArea → ℕ
message_place area = area.journal + 256

abbrev pub mark_place : SpareArea → ℕ → ℕ
mark_place area n = area.journal + 8448 + 2 * n

abbrev pub slot_place : SpareArea → ℕ → ℕ
slot_place area s = area.journal + area.slots + 4352 * s

abbrev pub slot_bytes : SpareArea → ℕ → ℕ
slot_bytes area s = slot_place area s + 256
