-- What a verdict puts out.
use Rattle.std.specs.Prelude.{◌≡◌, ℕ, List, [], Bool, true, false}
use Rattle.ssu_answer.specs.declared.verdict.Verdict.{Verdict}
use Rattle.ssu_answer.specs.declared.verdict.Verdict.TheVariants.{Installed}
use Rattle.ssu_io.specs.Bytes.{Gains}
use Rattle.ssu_io.specs.Faults.{Rose}
use Rattle.ssu_io.specs.Seen.{SinkSeen, StopsWriting}
use Rattle.ssu_line.specs.Lines.{loaded_line, verdict_line}
use Rattle.tool_load.specs.Load.{IsVerdict}

-- Its line. A group that was carried whole is told without a software.
abbrev pub line_of : Verdict → List ℕ
line_of (Installed chosen) = loaded_line chosen.group chosen.bytes
line_of other = verdict_line other

-- what is made: the image, where the group was carried whole
abbrev pub made_of : Verdict → List ℕ → List ℕ
made_of (Installed chosen) image = image
made_of other image = []

abbrev pub is_loaded : Verdict → Bool
is_loaded (Installed chosen) = true
is_loaded other = false

-- The verdict of the sections went out: `made` got the image, and `out` the line.
pub record PutsAll (sections : List (List ℕ)) (verdict : Verdict) (made out : SinkSeen) : Type 0 where
  pub image : List ℕ
  pub comes : IsVerdict sections verdict image
  pub makes : Gains made.got made.got_after (made_of verdict image)
  pub prints : Gains out.got out.got_after (line_of verdict)

-- A write failed on the way. Where there is no image `made` is as before, and it was `out` that failed.
pub record PutsPart (sections : List (List ℕ)) (verdict : Verdict) (made out : SinkSeen) : Type 0 where
  pub image : List ℕ
  pub comes : IsVerdict sections verdict image
  pub puts : StopsWriting made out (made_of verdict image) (line_of verdict)
  pub unmade : is_loaded verdict ≡ false → made.same × Rose out.faults out.faults_after
