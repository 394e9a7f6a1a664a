-- A journal, by offset: 0 to 31 the fixed part of the header, from 256 on its message, from 8448 on a pair of bytes for each mark, and
-- from a block of its own on 16 slots of 4352 bytes. All stands in pairs but the bytes of the slots.
use Rattle.std.specs.Prelude.{◌≡◌, ◌⊎◌, ℕ, ◌+◌, ◌*◌, ◌/◌, ◌%◌, ◌<◌, ◌≤◌, List, [], ◌∷◌}
use Rattle.flash_layout.specs.Pairs.{AreWhole, byte_at, half_at, pair_sum, paired, word_at}

-- ---- the pairs

-- pair i of a journal whose slots begin at q is one of the head of a slot
pub record IsInSlotHead (q i : ℕ) : Type 0 where
  pub slot : ℕ
  pub is_slot : slot < 16
  pub from : q + 4352 * slot ≤ 2 * i
  pub to : 2 * i < q + 4352 * slot + 16

-- It is one of the fixed part, of the 4,096 places of the message and the m marks behind them, or of the head of a slot.
abbrev pub IsPairPlace : ℕ → ℕ → ℕ → Type 0
IsPairPlace m q i = (i < 16) ⊎ (((128 ≤ i) × (i < 4224 + m)) ⊎ IsInSlotHead q i)

-- none of them is below 255
pub record IsSettled (m q : ℕ) (journal : List ℕ) : Type 0 where
  pub each : (i : ℕ) → IsPairPlace m q i → 255 ≤ pair_sum journal i

-- ---- the header

-- By bytes: 0 to 3 the magic `SSUJ`, 4 to 7 the number, 8 and 9 the length of the message; 10 to 15 are zero.
abbrev pub header_number : List ℕ → ℕ
header_number journal = word_at journal 4

abbrev pub message_len : List ℕ → ℕ
message_len journal = half_at journal 8

-- The header is valid: its fixed part and the pairs of its message are whole, the magic is right, the message has 1 to 4,084 bytes,
-- and the zero bytes are zero.
pub record IsHeader (journal : List ℕ) : Type 0 where
  pub whole : AreWhole journal 16
  pub magic : word_at journal 0 ≡ 0x5353554A
  pub some : 1 ≤ message_len journal
  pub few : message_len journal ≤ 4084
  pub zeros : (i : ℕ) → 10 ≤ i → i < 16 → byte_at journal i ≡ 0
  pub message : (i : ℕ) → i < message_len journal → pair_sum journal (128 + i) ≡ 255

-- the 16 bytes of a fixed part, and the 32 that are programmed for them
abbrev pub header_spelled : ℕ → ℕ → List ℕ
header_spelled number len =
    0x53 ∷ 0x53 ∷ 0x55 ∷ 0x4A
    ∷ (number / 16777216) ∷ (number / 65536 % 256) ∷ (number / 256 % 256) ∷ (number % 256)
    ∷ (len / 256) ∷ (len % 256) ∷ 0 ∷ 0 ∷ 0 ∷ 0 ∷ 0 ∷ 0 ∷ []

abbrev pub header_written : ℕ → ℕ → List ℕ
header_written number len = paired (header_spelled number len)

-- ---- marks

-- the pair of a place that is marked
abbrev pub mark_written : List ℕ
mark_written = 0 ∷ 255 ∷ []
