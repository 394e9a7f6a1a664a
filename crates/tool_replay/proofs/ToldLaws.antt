-- What the answers of `replay` say.
use Rattle.std.proofs.Common.{◌≡◌, ℕ, Bool, List, Option, Some, None, Err, subst, sym}
use Rattle.std.specs.Prelude.{◌≤◌}
use Rattle.arrayvec.specs.ArrayString.{ArrayString}
use Rattle.box_file.specs.declared.file.BoxFile.{BoxFile}
use Rattle.flash_bank.specs.Seen.{FlashSeen}
use Rattle.ssu_io.specs.Bytes.{Gains}
use Rattle.ssu_io.specs.Faults.{Rose}
use Rattle.ssu_io.specs.Files.{File, bytes_of}
use Rattle.ssu_io.specs.Seen.{ShelfSeen, SinkSeen, SourceSeen}
use Rattle.ssu_loader.specs.Replaying.{Fails, IsNotBegun}
use Rattle.ssu_loader.specs.declared.fault.LoadFault.{LoadFault}
use Rattle.ssu_loader.specs.declared.fault.LoadFault.TheVariants as load_fault
use Rattle.ssu_answer.specs.declared.verdict.Verdict.{Verdict}
use Rattle.ssu_answer.specs.declared.verdict.Verdict.TheVariants as verdict
use Rattle.ssu_status.specs.Answers.{IsFault}
use Rattle.ssu_status.specs.Status.{OnAbsent, OnBoxRefused, OnShelfFault, status_of}
use Rattle.ssu_status.specs.declared.status.Status.{Status}
use Rattle.ssu_status.specs.declared.status.Status.TheVariants.{Absent, BoxRefused, NoMemory, ShelfFault, WriteFault}
use Rattle.tool_box.specs.Boxes.{IsBoxRefusal, RefusesBox, TellsBox, box_name}
use Rattle.tool_box.specs.Fetching.{HasNone, Lacks, SaysAbsent, TellsAbsence}
use Rattle.tool_box.specs.Shelves.{ReadsShelf}
use Rattle.tool_replay.specs.Answers.{IsNotCalled, NoneFailed, Refuses, Says, Tells, status_of_fault}

-- ---- a shelf that told a box

pub none_absent : (held : Option (List File)) (b : BoxFile) → TellsBox held b → HasNone held box_name → ⊥
none_absent None b told none = none
none_absent (Some files) b told none = let has = told.has in cc

-- ---- one that has none

absence_lacks : (T : Type 0) (held : Option (List File)) (name : ArrayString) → TellsAbsence {T = T} held box_name (Err (Absent name)) → name.bytes ≡ box_name → Lacks held name.bytes
absence_lacks T None name absence told = tt
absence_lacks T (Some files) name absence told = subst (λ (n : List ℕ). bytes_of files n ≡ None) (sym told) (absence.0 tt)

pub no_box_is_absent : (T : Type 0) (held : Option (List File)) (s : Status) → IsBoxRefusal s → TellsAbsence {T = T} held box_name (Err s) → OnAbsent s (λ told. told ≡ box_name)
    → HasNone held box_name → SaysAbsent box_name s
no_box_is_absent T None s of absence told none = absurd none
no_box_is_absent T (Some files) (Absent name) of absence told none = told
no_box_is_absent T (Some files) (BoxRefused field) of absence told none = absence.1 none
no_box_is_absent T (Some files) ShelfFault of absence told none = absence.1 none
no_box_is_absent T (Some files) NoMemory of absence told none = absence.1 none
no_box_is_absent T (Some files) other of absence told none = absurd of

-- ---- the answers

module _ (in_bank keeps : Bool) (shelf : ShelfSeen) (air : SourceSeen) (flash : FlashSeen) (out : SinkSeen) where
  -- ---- a verdict

  pub says_verdict : (v : Verdict) → Tells in_bank keeps v Gains shelf air flash out → Says in_bank keeps (status_of v) shelf air flash out
  says_verdict (verdict.Installed chosen) told = told
  says_verdict (verdict.Nothing level) told = told
  says_verdict (verdict.Incomplete chosen missing) told = told
  says_verdict (verdict.BadModule id want found) told = told
  says_verdict verdict.Unsettled told = told

  pub no_fault : (v : Verdict) → ¬ IsFault (status_of v)
  no_fault (verdict.Installed chosen) is = is
  no_fault (verdict.Nothing level) is = is
  no_fault (verdict.Incomplete chosen missing) is = is
  no_fault (verdict.BadModule id want found) is = is
  no_fault verdict.Unsettled is = is

  -- ---- no verdict

  pub says_fault : (e : LoadFault) → Refuses keeps e shelf air flash out → Says in_bank keeps (status_of_fault e) shelf air flash out
  says_fault load_fault.Geometry is = is
  says_fault load_fault.FlashFault is = is
  says_fault load_fault.Foreign is = is
  says_fault load_fault.Worn is = is
  says_fault load_fault.Memory is = (is.fails.1, is.unprinted)
  says_fault load_fault.ReadFault is = is
  says_fault load_fault.TooLong is = is

  pub has_failed : (box_file : BoxFile) (e : LoadFault) → Fails keeps box_file air flash e → NoneFailed shelf air flash out → ¬ IsFault (status_of_fault e)
  has_failed box_file load_fault.Geometry fails well is = is
  has_failed box_file load_fault.FlashFault fails well is = well.flash_well fails.1.0
  has_failed box_file load_fault.Foreign fails well is = is
  has_failed box_file load_fault.Worn fails well is = is
  has_failed box_file load_fault.Memory fails well is = is
  has_failed box_file load_fault.ReadFault fails well is = well.air_well fails.0
  has_failed box_file load_fault.TooLong fails well is = is

  -- ---- the shelf

  module _ (held : shelf.held_after ≡ shelf.held) (faults : shelf.faults ≤ shelf.faults_after) (absences : shelf.absences ≤ shelf.absences_after) where
    pub reads_verdict : (v : Verdict) → ReadsShelf (status_of v) shelf
    reads_verdict (verdict.Installed chosen) = record { absent_cause = tt; fault_cause = tt; held = held; faults_later = faults; absences_later = absences }
    reads_verdict (verdict.Nothing level) = record { absent_cause = tt; fault_cause = tt; held = held; faults_later = faults; absences_later = absences }
    reads_verdict (verdict.Incomplete chosen missing) = record { absent_cause = tt; fault_cause = tt; held = held; faults_later = faults; absences_later = absences }
    reads_verdict (verdict.BadModule id want found) = record { absent_cause = tt; fault_cause = tt; held = held; faults_later = faults; absences_later = absences }
    reads_verdict verdict.Unsettled = record { absent_cause = tt; fault_cause = tt; held = held; faults_later = faults; absences_later = absences }

    pub reads_written : ReadsShelf WriteFault shelf
    reads_written = record { absent_cause = tt; fault_cause = tt; held = held; faults_later = faults; absences_later = absences }

    pub reads_fault : (e : LoadFault) → ReadsShelf (status_of_fault e) shelf
    reads_fault load_fault.Geometry = record { absent_cause = tt; fault_cause = tt; held = held; faults_later = faults; absences_later = absences }
    reads_fault load_fault.FlashFault = record { absent_cause = tt; fault_cause = tt; held = held; faults_later = faults; absences_later = absences }
    reads_fault load_fault.Foreign = record { absent_cause = tt; fault_cause = tt; held = held; faults_later = faults; absences_later = absences }
    reads_fault load_fault.Worn = record { absent_cause = tt; fault_cause = tt; held = held; faults_later = faults; absences_later = absences }
    reads_fault load_fault.Memory = record { absent_cause = tt; fault_cause = tt; held = held; faults_later = faults; absences_later = absences }
    reads_fault load_fault.ReadFault = record { absent_cause = tt; fault_cause = tt; held = held; faults_later = faults; absences_later = absences }
    reads_fault load_fault.TooLong = record { absent_cause = tt; fault_cause = tt; held = held; faults_later = faults; absences_later = absences }

  -- ---- no box

  pub says_no_box : (T : Type 0) (s : Status) → IsBoxRefusal s → TellsAbsence {T = T} shelf.held box_name (Err s) → OnAbsent s (λ told. told ≡ box_name)
      → OnBoxRefused s (λ field. RefusesBox shelf.held field) → IsNotCalled air flash out → IsNotBegun air flash → Says in_bank keeps s shelf air flash out
  says_no_box T (Absent name) of absence told refused none begun = (none, (told, absence_lacks T shelf.held name absence told))
  says_no_box T (BoxRefused field) of absence told refused none begun = (none, refused)
  says_no_box T ShelfFault of absence told refused none begun = none
  says_no_box T NoMemory of absence told refused none begun = (begun, none.1.1)
  says_no_box T other of absence told refused none begun = absurd of

  pub no_box_failed : (s : Status) → IsBoxRefusal s → OnShelfFault s (Rose shelf.faults shelf.faults_after) → NoneFailed shelf air flash out → ¬ IsFault s
  no_box_failed (Absent name) of failed well is = is
  no_box_failed (BoxRefused field) of failed well is = is
  no_box_failed ShelfFault of failed well is = well.shelf_well failed
  no_box_failed NoMemory of failed well is = is
  no_box_failed other of failed well is = absurd of
