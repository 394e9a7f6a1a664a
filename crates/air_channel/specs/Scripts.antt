-- What a script says, and the range of each part.
use Rattle.std.specs.Prelude.{◌≡◌, ℕ, ◌+◌, ◌*◌, ◌≤◌, Bool, true, ◌&&◌, nat_le, List, [], ◌∷◌, map, length, Option}
use Rattle.std.specs.List.{All}
use Rattle.std.specs.Option.{ForSome}
use Rattle.air_channel.specs.declared.change.Change.{Change}
use Rattle.air_channel.specs.declared.loss.RegularLoss.{RegularLoss}

-- Packets, and the places at which they are written, are numbered from 0.
pub record ScriptData : Type 0 where
  -- the bytes that are changed
  pub changes : List Change
  -- the packets that change places with the next one
  pub swaps : List ℕ
  -- the places that are left out
  pub drops : List ℕ
  -- the places that are written twice
  pub repeats : List ℕ
  -- the places that are left out at regular distances
  pub loss : Option RegularLoss

-- The first number is `least` or more, and each other one at least `gap` more than the one before it.
abbrev pub rises : ℕ → ℕ → List ℕ → Bool
rises gap least [] = true
rises gap least (n ∷ rest) = nat_le least n && rises gap (n + gap) rest

-- the greatest number of a packet, and how many entries an array has at most
abbrev pub most_number : ℕ
most_number = 16777215

abbrev pub most_entries : ℕ
most_entries = 65536

-- at most 65,536 packet numbers, in strictly ascending order
pub record AreNumbers (numbers : List ℕ) : Type 0 where
  pub few : length numbers ≤ most_entries
  pub ascending : rises 1 0 numbers ≡ true
  pub in_range : All (λ n. n ≤ most_number) numbers

-- a byte of a packet, and what it becomes
pub record IsChange (change : Change) : Type 0 where
  pub packet_in : change.packet ≤ most_number
  pub offset_in : change.offset ≤ 187

-- The number of a byte among those of all packets, which have 188 each. It rises with the number of the packet, and in
-- a packet with the offset.
abbrev pub byte_number : Change → ℕ
byte_number change = 188 * change.packet + change.offset

-- at most 65,536 changes, in strictly ascending order by packet number and offset
pub record AreChanges (changes : List Change) : Type 0 where
  pub few : length changes ≤ most_entries
  pub ascending : rises 1 0 (map byte_number changes) ≡ true
  pub in_range : All IsChange changes

-- one packet of 2 to 65,535, below a number of at most 16,777,216
pub record IsLoss (loss : RegularLoss) : Type 0 where
  pub every_some : 2 ≤ loss.every
  pub every_most : loss.every ≤ 65535
  pub until_most : loss.until ≤ 16777216

-- what the parts of a script have beside the ranges of their lists: packets that change places are at least 2 apart
pub record IsScript (swaps : List ℕ) (loss : Option RegularLoss) : Type 0 where
  pub apart : rises 2 0 swaps ≡ true
  pub loss_in : ForSome loss IsLoss
