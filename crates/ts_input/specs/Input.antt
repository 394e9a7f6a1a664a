-- A run over the packets of an input: how many came, what came last, and what was taken.
use Rattle.std.specs.Prelude.{◌≡◌, ℕ, ◌+◌, ◌*◌, ◌<◌, ◌≤◌, List, length, Option}
use Rattle.ssu_io.specs.Bytes.{Takes}
use Rattle.ts_input.specs.Packets.{packets, most_packets, most_bytes}
use Rattle.ts_input.specs.declared.input.Last.{Last}
use Rattle.ts_input.specs.declared.input.Last.TheVariants.{Packet}
use Rattle.ts_input.specs.declared.input.Ended.{Ended}
use Rattle.ts_input.specs.declared.input.Ended.TheVariants.{End, Failed, TooLong}

pub record InputState : Type 0 where
  -- how many packets came
  pub count : ℕ
  -- the bytes of the last one
  pub packet : List ℕ
  -- what came last
  pub last : Last

-- No packet comes any more: the source is at its end, it failed, or the greatest number of packets came.
abbrev pub IsOver : InputState → Type 0
IsOver input = input.last ≡ Packet → input.count ≡ most_packets

-- Fewer bytes than that were taken.
pub record TakesFewer (before after : Option (List ℕ)) (count : ℕ) : Type 0 where
  pub rest : List ℕ
  pub fewer : length rest < count
  pub takes : Takes before after rest

-- One byte was taken.
pub record TakesOne (before after : Option (List ℕ)) : Type 0 where
  pub byte : List ℕ
  pub one : length byte ≡ 1
  pub takes : Takes before after byte

-- Behind so many packets bytes were taken that are no packet, and with them no more than those of the greatest number.
pub record TakesRest (count : ℕ) (before after : Option (List ℕ)) : Type 0 where
  pub rest : List ℕ
  pub fewer : length rest < 188
  pub within : 188 * count + length rest ≤ most_bytes
  pub takes : Takes before after rest

-- So many bytes were taken, and these are their packets.
pub record TakesPackets (Size : ℕ → Type 0) (before after : Option (List ℕ)) (ps : List (List ℕ)) : Type 0 where
  pub taken : List ℕ
  pub takes : Takes before after taken
  pub size : Size (length taken)
  pub all : packets taken ≡ ps

-- the fact for one way to end
abbrev pub OnEnd : Ended → Type 0 → Type 0
OnEnd End fact = fact
OnEnd other fact = Unit {0}

abbrev pub OnFailed : Ended → Type 0 → Type 0
OnFailed Failed fact = fact
OnFailed other fact = Unit {0}

abbrev pub OnTooLong : Ended → Type 0 → Type 0
OnTooLong TooLong fact = fact
OnTooLong other fact = Unit {0}

-- the fact for each way to end but that
abbrev pub UnlessTooLong : Ended → Type 0 → Type 0
UnlessTooLong TooLong fact = Unit {0}
UnlessTooLong other fact = fact
