-- An object of the outside before a call and after it, as a contract over several objects speaks of it.
use Rattle.std.specs.Prelude.{◌≡◌, ◌⊎◌, ℕ, List, Option}
use Rattle.ssu_io.specs.Bytes.{Gains, GainsPrefix}
use Rattle.ssu_io.specs.Faults.{Rose}
use Rattle.ssu_io.specs.Files.{File}
use Rattle.ssu_io.specs.declared.shelf.Shelf.{Ghosts as ShelfGhosts}
use Rattle.ssu_io.specs.declared.sink.Sink.{Ghosts as SinkGhosts}
use Rattle.ssu_io.specs.declared.source.Source.{Ghosts as SourceGhosts}

-- The bytes that a source has left, where it tells them, and how often it failed.
pub record SourceSeen : Type 1 where
  pub left : Option (List ℕ)
  pub left_after : Option (List ℕ)
  pub faults : ℕ
  pub faults_after : ℕ
  -- nothing of it has changed
  pub same : Type 0

abbrev pub source_seen : {A : Type 0} → SourceGhosts A → A → A → SourceSeen
source_seen source old new = record {
  left = source.left old;
  left_after = source.left new;
  faults = source.faults old;
  faults_after = source.faults new;
  same = new ≡ old;
}

-- The bytes that a sink got, where it tells them, and how often it failed.
pub record SinkSeen : Type 1 where
  pub got : Option (List ℕ)
  pub got_after : Option (List ℕ)
  pub faults : ℕ
  pub faults_after : ℕ
  -- nothing of it has changed
  pub same : Type 0

abbrev pub sink_seen : {W : Type 0} → SinkGhosts W → W → W → SinkSeen
sink_seen sink old new = record {
  got = sink.contents old;
  got_after = sink.contents new;
  faults = sink.faults old;
  faults_after = sink.faults new;
  same = new ≡ old;
}

-- The files of a shelf, where it tells them, how often it failed, and how often it had no file of a name.
pub record ShelfSeen : Type 1 where
  pub held : Option (List File)
  pub held_after : Option (List File)
  pub faults : ℕ
  pub faults_after : ℕ
  pub absences : ℕ
  pub absences_after : ℕ
  -- nothing of it has changed
  pub same : Type 0

abbrev pub shelf_seen : {H : Type 0} → ShelfGhosts H → H → H → ShelfSeen
shelf_seen shelf old new = record {
  held = shelf.held old;
  held_after = shelf.held new;
  faults = shelf.faults old;
  faults_after = shelf.faults new;
  absences = shelf.absences old;
  absences_after = shelf.absences new;
  same = new ≡ old;
}

-- Bytes were to go to one sink and then a line to another, and a write failed: the first got a prefix of the bytes and
-- failed, and the other is as before; or it got them all, and the other got a prefix of the line and failed.
abbrev pub StopsWriting : SinkSeen → SinkSeen → List ℕ → List ℕ → Type 0
StopsWriting made out bytes line =
    (GainsPrefix made.got made.got_after bytes × (out.same × Rose made.faults made.faults_after))
    ⊎ (Gains made.got made.got_after bytes × (GainsPrefix out.got out.got_after line × Rose out.faults out.faults_after))
