-- The bytes of a bank of layout 2 with the slots of its journal laid over, as they are read from a flash.
use Rattle.std.specs.Prelude.{◌≡◌, ◌⊎◌, ℕ, zero, suc, ◌+◌, ◌-◌, ◌*◌, ◌<◌, ◌≤◌, List, length, slice_index}
use Rattle.flash_layout.specs.Pairs.{AreWhole, half_at, part}
use Rattle.flash_layout.specs.Slots.{laid_one, slot_at, slot_len}
use Rattle.flash_bank.specs.declared.laid_image.LaidBank.{LaidBank}
use Rattle.flash_bank.specs.declared.laid_image.SlotRange.{SlotRange}

-- the n bytes from `place` on, with the first s of the slots from `slots` on laid over
unfoldable pub laid_from : List ℕ → ℕ → ℕ → ℕ → ℕ → List ℕ
laid_from contents place n slots zero = part contents place n
laid_from contents place n slots (suc s) = laid_one n (part contents (slots + 4352 * s) 4352) (laid_from contents place n slots s)

-- all of them
abbrev pub laid_text : LaidBank → List ℕ → List ℕ
laid_text bank contents = laid_from contents bank.place bank.len bank.slots 16

-- bank and slots lie in a flash of so many bytes
pub record LiesWithin (bank : LaidBank) (size : ℕ) : Type 0 where
  pub place : bank.place + bank.len ≤ size
  pub slots : bank.slots + 69632 ≤ size
  pub addressable : size < 4294967296

-- A piece of a text from byte `at` on takes the bytes of the contents from `bytes` on where the slot's range meets it.
pub record Lays (contents : List ℕ) (bytes : ℕ) (slot : SlotRange) (at : ℕ) (old new : List ℕ) : Type 0 where
  pub size : length new ≡ length old
  pub inside : (k : ℕ) → k < length old → slot.at ≤ at + k → at + k < slot.at + slot.len → slice_index new k ≡ slice_index contents (bytes + (at + k - slot.at))
  pub outside : (k : ℕ) → k < length old → ((at + k < slot.at) ⊎ (slot.at + slot.len ≤ at + k)) → slice_index new k ≡ slice_index old k

-- The head of a valid slot, in its 16 bytes, as a record.
pub record IsSlotHead (n : ℕ) (head : List ℕ) : Type 0 where
  pub whole : AreWhole head 8
  pub sign : half_at head 0 ≡ 0x5350
  pub some : 1 ≤ slot_len head
  pub few : slot_len head ≤ 4066
  pub inside : slot_at head + slot_len head ≤ n
