-- One packet on its way: what is written when it comes, and what is kept until the next one comes.
use Rattle.std.specs.Prelude.{◌≡◌, ℕ, ◌-◌, ◌==◌, if◌then◌else◌, List, [], ◌++◌, length, replicate, slice_set, Option, Some, None}
use Rattle.std.specs.List.{fold}
use Rattle.ts_input.specs.Packets.{packets}
use Rattle.ts_input.specs.Puts.{Puts}
use Rattle.air_channel.specs.Aired.{aired, aired_bytes, copies, is_in}
use Rattle.air_channel.specs.Scripts.{ScriptData}
use Rattle.air_channel.specs.declared.change.Change.{Change}

-- Packet n with those of the changes that are its own.
abbrev pub changed : List Change → ℕ → List ℕ → List ℕ
changed changes n packet =
    fold (λ p change. if change.packet == n then slice_set p change.offset change.byte else p) packet changes

-- What is written when packet n comes. A packet that was kept changes places with it. Else it waits for the next one if
-- it is to change places with that.
abbrev pub written_at : ScriptData → ℕ → Option (List ℕ) → List ℕ → List (List ℕ)
written_at script n (Some kept) packet =
    replicate (copies script (n - 1)) (changed script.changes n packet) ++ replicate (copies script n) kept
written_at script n None packet =
    if is_in script.swaps n then [] else replicate (copies script n) (changed script.changes n packet)

-- What is kept then.
abbrev pub kept_at : ScriptData → ℕ → Option (List ℕ) → List ℕ → Option (List ℕ)
kept_at script n (Some kept) packet = None
kept_at script n None packet = if is_in script.swaps n then Some (changed script.changes n packet) else None

-- What is written where n packets came and no other one comes: a packet that was kept stays at its place.
abbrev pub written_last : ScriptData → ℕ → Option (List ℕ) → List (List ℕ)
written_last script n (Some kept) = replicate (copies script (n - 1)) kept
written_last script n None = []

-- These bytes were taken from the input, and the sink got what the script makes of their packets, which are n packets.
pub record Airs (script : ScriptData) (n : ℕ) (left left_after got got_after : Option (List ℕ)) : Type 0 where
  pub puts : Puts (aired_bytes script) left left_after got got_after
  pub count : n ≡ length (aired script (packets puts.taken))
