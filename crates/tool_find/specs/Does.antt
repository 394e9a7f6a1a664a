-- What `find` and `show` do: the packets of the input lead the box of box.toml along the way to an update, `find` prints a
-- line for each level of it, and `show` before them a line for each section that the box hears.
use Rattle.std.specs.Prelude.{◌≡◌, ◌≤◌, Bool}
use Rattle.ssu_io.specs.Faults.{Rose}
use Rattle.ssu_io.specs.Seen.{ShelfSeen, SinkSeen, SourceSeen}
use Rattle.ssu_status.specs.Answers.{IsFault}
use Rattle.ssu_status.specs.Status.{OnAbsent, OnBoxRefused, OnDone, OnReadFault, OnTooLong, OnWriteFault}
use Rattle.ssu_status.specs.declared.status.Status.{Status}
use Rattle.tool_box.specs.Boxes.{RefusesBox, box_name}
use Rattle.tool_box.specs.Fetching.{HasNone, Lacks, SaysAbsent}
use Rattle.tool_box.specs.Shelves.{ReadsShelf}
use Rattle.tool_find.specs.Answers.{ForBox, IsAnswer, NoneWalked, PutsPart}
use Rattle.tool_find.specs.Lines.{text_of, whole_text}
use Rattle.ts_input.specs.Packets.{IsAtEnd}
use Rattle.ts_input.specs.Puts.{Puts, PutsOfMost}

pub record FindDoes (shows : Bool) (result : Status) (shelf : ShelfSeen) (air : SourceSeen) (out : SinkSeen) : Type 0 where
  -- Done: the input was read to its end, and `out` got all lines.
  pub done : OnDone result
      (ForBox shelf.held (λ me. Puts (whole_text shows me) air.left air.left_after out.got out.got_after))
  pub end : OnDone result (IsAtEnd air.left_after)
  -- There is no box: box.toml is not there, or this is its first bad field; then nothing is taken or put.
  pub absent : OnAbsent result (λ name. (name ≡ box_name) × Lacks shelf.held name)
  pub no_box : HasNone shelf.held box_name → SaysAbsent box_name result
  pub box_refused : OnBoxRefused result (λ field. RefusesBox shelf.held field)
  pub unread : NoneWalked result (air.same × out.same)
  -- The input failed, or one byte more came than 16,777,216 packets have: `out` got what `show` prints of the packets taken.
  pub read_fault : OnReadFault result
      (ForBox shelf.held (λ me. Puts (text_of shows me) air.left air.left_after out.got out.got_after))
  pub read_cause : OnReadFault result (Rose air.faults air.faults_after)
  pub too_long : OnTooLong result
      (ForBox shelf.held (λ me. PutsOfMost (text_of shows me) air.left air.left_after out.got out.got_after))
  -- `out` failed: it got a prefix of the lines. The levels come, and `find` puts any line, at the end of the input alone.
  pub write_fault : OnWriteFault result
      (ForBox shelf.held (λ me. PutsPart shows me air.left air.left_after out.got out.got_after))
  pub write_cause : OnWriteFault result (Rose out.faults out.faults_after)
  -- There is no other answer, and without a fault none that tells of one.
  pub answers : IsAnswer result
  pub complete : ¬ Rose shelf.faults shelf.faults_after → ¬ Rose air.faults air.faults_after
      → ¬ Rose out.faults out.faults_after → ¬ IsFault result
  -- The shelf holds what it held, and the counts of faults never fall.
  pub files : ReadsShelf result shelf
  pub air_later : air.faults ≤ air.faults_after
  pub out_later : out.faults ≤ out.faults_after
