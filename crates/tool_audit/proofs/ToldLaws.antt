-- What a status says of the answer that it tells.
use Rattle.std.proofs.Common.{◌≡◌, List, ℕ, Option}
use Rattle.std.specs.Prelude.{Result, Ok, Err}
use Rattle.audit_answer.specs.declared.answers.AuditNo.{AuditNo}
use Rattle.audit_answer.specs.declared.answers.AuditYes.{AuditYes}
use Rattle.ssu_io.specs.Bytes.{Gains, GainsPrefix}
use Rattle.ssu_line.specs.AuditLines.{audit_line, audit_no_line, audit_ok_line}
use Rattle.ssu_status.specs.Answers.{IsFault}
use Rattle.ssu_status.specs.Status.{OnAuditRefused, OnDone, OnNoMemory, OnReadFault, OnTooLong, OnWriteFault}
use Rattle.ssu_status.specs.declared.status.Status.{Status}
use Rattle.ssu_status.specs.declared.status.Status.TheVariants.{Done, AuditRefused, ReadFault, WriteFault, FlashFault, ShelfFault, TooLong, NoMemory}
use Rattle.tool_audit.specs.Answers.{IsAnswer, IsTold, OnNoAnswer, UnlessWriteFault, status_of}

-- the status tells the answer, and this went to the output
abbrev pub Tells : Status → Result AuditYes AuditNo → Option (List ℕ) → Option (List ℕ) → Type 0
Tells s answer got got_after = UnlessWriteFault s ((s ≡ status_of answer) × Gains got got_after (audit_line answer))

pub done_of : (s : Status) (answer : Result AuditYes AuditNo) (got got_after : Option (List ℕ)) (Comes : Result AuditYes AuditNo → Type 0)
    → Tells s answer got got_after → Comes answer → OnDone s ((counts : AuditYes) × (Comes (Ok counts) × Gains got got_after (audit_ok_line counts)))
done_of Done (Ok counts) got got_after Comes tells comes = (counts, (comes, tells.1))
done_of Done (Err why) got got_after Comes tells comes = let is = tells.0 in absurd cc
done_of other answer got got_after Comes tells comes = tt

pub refused_of : (s : Status) (answer : Result AuditYes AuditNo) (got got_after : Option (List ℕ)) (Comes : Result AuditYes AuditNo → Type 0)
    → Tells s answer got got_after → Comes answer → OnAuditRefused s (λ why. Comes (Err why) × Gains got got_after (audit_no_line why))
refused_of (AuditRefused why) (Ok counts) got got_after Comes tells comes = let is = tells.0 in absurd cc
refused_of (AuditRefused why) (Err found) got got_after Comes tells comes = let same : found ≡ why = (let is = tells.0 in cc) in rw (← same) (comes, tells.1)
refused_of other answer got got_after Comes tells comes = tt

pub write_fault_of : (s : Status) (answer : Result AuditYes AuditNo) (got got_after : Option (List ℕ)) (Comes : Result AuditYes AuditNo → Type 0)
    → OnWriteFault s (GainsPrefix got got_after (audit_line answer)) → Comes answer
    → OnWriteFault s ((told : Result AuditYes AuditNo) × (Comes told × GainsPrefix got got_after (audit_line told)))
write_fault_of WriteFault answer got got_after Comes prefix comes = (answer, (comes, prefix))
write_fault_of other answer got got_after Comes prefix comes = tt

-- ---- an answer was told, or its line was not written

pub no_memory_fault : (s : Status) (P : Type 0) → IsTold s → OnNoMemory s P
no_memory_fault NoMemory P is = absurd is
no_memory_fault other P is = tt

pub no_read_fault : (s : Status) (P : Type 0) → IsTold s → OnReadFault s P
no_read_fault ReadFault P is = absurd is
no_read_fault other P is = tt

pub not_too_long : (s : Status) (P : Type 0) → IsTold s → OnTooLong s P
not_too_long TooLong P is = absurd is
not_too_long other P is = tt

pub some_answer : (s : Status) (P : Type 0) → IsTold s → OnNoAnswer s P
some_answer ReadFault P is = absurd is
some_answer TooLong P is = absurd is
some_answer NoMemory P is = absurd is
some_answer other P is = tt

pub answered : (s : Status) → IsTold s → IsAnswer s
answered ReadFault is = tt
answered TooLong is = tt
answered NoMemory is = tt
answered other is = is

pub unfailed : (s : Status) (P : Type 0) → IsTold s → OnWriteFault s P → (P → ⊥) → IsFault s → ⊥
unfailed WriteFault P is cause none fault = none cause
unfailed ReadFault P is cause none fault = is
unfailed FlashFault P is cause none fault = is
unfailed ShelfFault P is cause none fault = is
unfailed other P is cause none fault = fault
