-- What a status says of the verdict that it tells.
use Rattle.std.proofs.Common.{◌≡◌, sym, subst}
use Rattle.ssu_answer.specs.declared.verdict.Verdict.{Verdict}
use Rattle.ssu_answer.specs.declared.verdict.Verdict.TheVariants as verdict
use Rattle.ssu_status.specs.Answers.{IsFault}
use Rattle.ssu_status.specs.Status.{OnNoMemory, OnReadFault, OnTooLong, OnWriteFault}
use Rattle.ssu_status.specs.declared.status.Status.{Status}
use Rattle.ssu_status.specs.declared.status.Status.TheVariants.{Done, Installed, Nothing, Incomplete, BadModule, Unsettled, ReadFault, WriteFault, FlashFault, TooLong, NoMemory, ShelfFault}
use Rattle.tool_load.specs.Told.{IsAnswer, IsConclusion, OnNoVerdict, OnTold, status_of}

told_of : (v : Verdict) (P : Verdict → Type 0) → P v → OnTold (status_of v) P
told_of (verdict.Installed chosen) P p = (chosen, p)
told_of (verdict.Nothing level) P p = p
told_of (verdict.Incomplete chosen missing) P p = p
told_of (verdict.BadModule id want found) P p = p
told_of verdict.Unsettled P p = p

-- the status of a verdict tells what holds of it
pub told : (v : Verdict) (s : Status) (P : Verdict → Type 0) → s ≡ status_of v → P v → OnTold s P
told v s P e p = subst (λ (t : Status). OnTold t P) (sym e) (told_of v P p)

-- what follows of the verdict that a status tells
pub told_then : (s : Status) (P Q : Verdict → Type 0) → OnTold s P → ((v : Verdict) → P v → Q v) → OnTold s Q
told_then Done P Q p f = (p.0, f _ p.1)
told_then (Installed chosen) P Q p f = f _ p
told_then (Nothing level) P Q p f = f _ p
told_then (Incomplete chosen missing) P Q p f = f _ p
told_then (BadModule id want found) P Q p f = f _ p
told_then Unsettled P Q p f = f _ p
told_then other P Q p f = tt

pub write_fault_then : (s : Status) (P Q : Type 0) → OnWriteFault s P → (P → Q) → OnWriteFault s Q
write_fault_then WriteFault P Q p f = f p
write_fault_then other P Q p f = tt

-- ---- a verdict was told, or a write failed on the way

pub no_memory_fault : (s : Status) (P : Type 0) → IsConclusion s → OnNoMemory s P
no_memory_fault NoMemory P is = absurd is
no_memory_fault other P is = tt

pub no_read_fault : (s : Status) (P : Type 0) → IsConclusion s → OnReadFault s P
no_read_fault ReadFault P is = absurd is
no_read_fault other P is = tt

pub not_too_long : (s : Status) (P : Type 0) → IsConclusion s → OnTooLong s P
not_too_long TooLong P is = absurd is
not_too_long other P is = tt

pub some_verdict : (s : Status) (P : Type 0) → IsConclusion s → OnNoVerdict s P
some_verdict ReadFault P is = absurd is
some_verdict TooLong P is = absurd is
some_verdict NoMemory P is = absurd is
some_verdict other P is = tt

pub answered : (s : Status) → IsConclusion s → IsAnswer s
answered ReadFault is = tt
answered TooLong is = tt
answered NoMemory is = tt
answered other is = is

pub unfailed : (s : Status) (P : Type 0) → IsConclusion s → OnWriteFault s P → (P → ⊥) → IsFault s → ⊥
unfailed WriteFault P is cause none fault = none cause
unfailed ReadFault P is cause none fault = is
unfailed FlashFault P is cause none fault = is
unfailed ShelfFault P is cause none fault = is
unfailed other P is cause none fault = fault
