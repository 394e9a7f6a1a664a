-- How far a run over the packets of an input has come.
use Rattle.std.specs.Prelude.{◌≡◌, ℕ, ◌*◌, List, [], length, Option}
use Rattle.ssu_io.specs.Bytes.{Takes}
use Rattle.ssu_io.specs.SinkBuffer.{MovesOn}
use Rattle.ts_input.specs.Packets.{packets}

-- So many packets were taken. Their text went to the output or waits, and what is kept stands for them.
pub record SoFar (text : List (List ℕ) → List ℕ) (Stands : List (List ℕ) → Type 0) (count : ℕ)
    (left left_now got got_now : Option (List ℕ)) (waiting : List ℕ) : Type 0 where
  pub taken : List ℕ
  pub takes : Takes left left_now taken
  pub whole : length taken ≡ 188 * count
  pub moves : MovesOn got got_now [] (text (packets taken)) waiting
  pub stands : Stands (packets taken)
