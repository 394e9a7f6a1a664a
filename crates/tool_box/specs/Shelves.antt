-- What a command that reads files says of their shelf.
use Rattle.std.specs.Prelude.{◌≡◌, ◌≤◌}
use Rattle.ssu_io.specs.Faults.{Rose}
use Rattle.ssu_io.specs.Seen.{ShelfSeen}
use Rattle.ssu_status.specs.Status.{OnAbsent, OnShelfFault}
use Rattle.ssu_status.specs.declared.status.Status.{Status}

pub record ReadsShelf (result : Status) (shelf : ShelfSeen) : Type 0 where
  -- Absent and ShelfFault come only where the shelf had no file, and where it failed.
  pub absent_cause : OnAbsent result (λ _. Rose shelf.absences shelf.absences_after)
  pub fault_cause : OnShelfFault result (Rose shelf.faults shelf.faults_after)
  -- It holds what it held, and its counts never fall.
  pub held : shelf.held_after ≡ shelf.held
  pub faults_later : shelf.faults ≤ shelf.faults_after
  pub absences_later : shelf.absences ≤ shelf.absences_after
