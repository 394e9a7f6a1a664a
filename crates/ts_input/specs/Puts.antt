-- What an output got of a text that the packets of an input determine. `text ps` is the text of the packets ps, the
-- oldest first.
use Rattle.std.specs.Prelude.{ℕ, List, length, Option}
use Rattle.ssu_io.specs.Bytes.{Takes, Gains, GainsPrefix}
use Rattle.ts_input.specs.Packets.{packets, IsWithin, IsOneMore}

-- These bytes were taken from the input, and the output got the text of their packets.
pub record Puts (text : List (List ℕ) → List ℕ) (left left_after got got_after : Option (List ℕ)) : Type 0 where
  pub taken : List ℕ
  pub takes : Takes left left_after taken
  pub puts : Gains got got_after (text (packets taken))
  pub within : IsWithin (length taken)

-- The same, where one byte behind the greatest number of packets was taken.
pub record PutsOfMost (text : List (List ℕ) → List ℕ) (left left_after got got_after : Option (List ℕ)) : Type 0 where
  pub taken : List ℕ
  pub takes : Takes left left_after taken
  pub puts : Gains got got_after (text (packets taken))
  pub one_more : IsOneMore (length taken)

-- The output got only a prefix of it.
pub record PutsPrefix (text : List (List ℕ) → List ℕ) (left left_after got got_after : Option (List ℕ)) : Type 0 where
  pub taken : List ℕ
  pub takes : Takes left left_after taken
  pub puts : GainsPrefix got got_after (text (packets taken))
  pub within : IsWithin (length taken)
