-- The exit code of a status, its text on standard error, the status of a verdict, and facts for one status.
use Rattle.std.specs.Prelude.{ℕ, List, [], ◌++◌, codes, decimal}
use Rattle.audit_answer.specs.declared.answers.AuditNo.{AuditNo}
use Rattle.ssu_answer.specs.declared.build_fault.BuildFault.{BuildFault}
use Rattle.ssu_answer.specs.declared.build_fault.BuildFault.TheVariants.{ImageTooLong, TooManySections, Memory}
use Rattle.ssu_answer.specs.declared.chosen.Chosen.{Chosen}
use Rattle.ssu_answer.specs.declared.verdict.Verdict.{Verdict}
use Rattle.ssu_answer.specs.declared.verdict.Verdict.TheVariants as verdict
use Rattle.ssu_status.specs.declared.status.Status.{Status}
use Rattle.ssu_status.specs.declared.status.Status.TheVariants.{Done, Installed, Usage, BoxRefused, PlanRefused, Foreign, Nothing, Incomplete, BadModule}
use Rattle.ssu_status.specs.declared.status.Status.TheVariants.{Absent, ReadFault, WriteFault, FlashFault, Worn, TooLong, NoMemory, NoFit, Geometry, ShelfFault}
use Rattle.ssu_status.specs.declared.status.Status.TheVariants.{Unsettled, BuildRefused, AuditRefused}

abbrev pub code_of : Status → ℕ
code_of Done = 0
code_of (Installed chosen) = 0
code_of Usage = 2
code_of (BoxRefused field) = 3
code_of (PlanRefused field) = 4
code_of Foreign = 5
code_of (Nothing level) = 6
code_of (Incomplete chosen missing) = 7
code_of (BadModule id want found) = 8
code_of (Absent name) = 9
code_of ReadFault = 10
code_of WriteFault = 11
code_of FlashFault = 12
code_of Worn = 13
code_of TooLong = 14
code_of NoMemory = 15
code_of NoFit = 16
code_of Geometry = 17
code_of ShelfFault = 18
code_of Unsettled = 19
code_of (BuildRefused fault) = 20
code_of (AuditRefused fact) = 21

abbrev pub refusal_text : BuildFault → List ℕ
refusal_text (ImageTooLong name) = name.bytes ++ codes " is too long"
refusal_text (TooManySections count) = codes "too many sections: " ++ decimal count
refusal_text Memory = []

abbrev pub text_of : Status → List ℕ
text_of Done = []
text_of (Installed chosen) = []
text_of Usage = codes "usage"
text_of (BoxRefused field) = codes "box.toml refused at " ++ field.bytes
text_of (PlanRefused field) = codes "plan refused at " ++ field.bytes
text_of Foreign = codes "flash is foreign"
text_of (Nothing level) = []
text_of (Incomplete chosen missing) = []
text_of (BadModule id want found) = []
text_of (Absent name) = name.bytes ++ codes " is absent"
text_of ReadFault = codes "read failed"
text_of WriteFault = codes "write failed"
text_of FlashFault = codes "flash failed"
text_of Worn = codes "records are worn out"
text_of TooLong = codes "input too long"
text_of NoMemory = codes "out of memory"
text_of NoFit = codes "image does not fit"
text_of Geometry = codes "flash has a wrong geometry"
text_of ShelfFault = codes "file could not be read"
text_of Unsettled = []
text_of (BuildRefused fault) = refusal_text fault
text_of (AuditRefused fact) = []

-- the status of a verdict
abbrev pub status_of : Verdict → Status
status_of (verdict.Installed chosen) = Installed chosen
status_of (verdict.Nothing level) = Nothing level
status_of (verdict.Incomplete chosen missing) = Incomplete chosen missing
status_of (verdict.BadModule id want found) = BadModule id want found
status_of verdict.Unsettled = Unsettled

-- the fact for the verdict that a status tells
abbrev pub OnVerdict : Status → (Verdict → Type 0) → Type 0
OnVerdict (Installed chosen) fact = fact (verdict.Installed chosen)
OnVerdict (Nothing level) fact = fact (verdict.Nothing level)
OnVerdict (Incomplete chosen missing) fact = fact (verdict.Incomplete chosen missing)
OnVerdict (BadModule id want found) fact = fact (verdict.BadModule id want found)
OnVerdict Unsettled fact = fact verdict.Unsettled
OnVerdict other fact = Unit {0}

-- ---- the fact for one status

abbrev pub OnDone : Status → Type 0 → Type 0
OnDone Done fact = fact
OnDone other fact = Unit {0}

abbrev pub OnUsage : Status → Type 0 → Type 0
OnUsage Usage fact = fact
OnUsage other fact = Unit {0}

abbrev pub OnBoxRefused : Status → (List ℕ → Type 0) → Type 0
OnBoxRefused (BoxRefused field) fact = fact field.bytes
OnBoxRefused other fact = Unit {0}

abbrev pub OnPlanRefused : Status → (List ℕ → Type 0) → Type 0
OnPlanRefused (PlanRefused field) fact = fact field.bytes
OnPlanRefused other fact = Unit {0}

abbrev pub OnIncomplete : Status → (Chosen → ℕ → Type 0) → Type 0
OnIncomplete (Incomplete chosen missing) fact = fact chosen missing
OnIncomplete other fact = Unit {0}

abbrev pub OnAbsent : Status → (List ℕ → Type 0) → Type 0
OnAbsent (Absent name) fact = fact name.bytes
OnAbsent other fact = Unit {0}

abbrev pub OnReadFault : Status → Type 0 → Type 0
OnReadFault ReadFault fact = fact
OnReadFault other fact = Unit {0}

abbrev pub OnWriteFault : Status → Type 0 → Type 0
OnWriteFault WriteFault fact = fact
OnWriteFault other fact = Unit {0}

abbrev pub OnTooLong : Status → Type 0 → Type 0
OnTooLong TooLong fact = fact
OnTooLong other fact = Unit {0}

abbrev pub OnNoMemory : Status → Type 0 → Type 0
OnNoMemory NoMemory fact = fact
OnNoMemory other fact = Unit {0}

abbrev pub OnShelfFault : Status → Type 0 → Type 0
OnShelfFault ShelfFault fact = fact
OnShelfFault other fact = Unit {0}

abbrev pub OnBuildRefused : Status → (BuildFault → Type 0) → Type 0
OnBuildRefused (BuildRefused fault) fact = fact fault
OnBuildRefused other fact = Unit {0}

abbrev pub OnAuditRefused : Status → (AuditNo → Type 0) → Type 0
OnAuditRefused (AuditRefused why) fact = fact why
OnAuditRefused other fact = Unit {0}
