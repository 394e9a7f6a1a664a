-- The status of `audit`, and what it says.
use Rattle.std.specs.Prelude.{Result, Ok, Err}
use Rattle.audit_answer.specs.declared.answers.AuditNo.{AuditNo}
use Rattle.audit_answer.specs.declared.answers.AuditYes.{AuditYes}
use Rattle.ssu_status.specs.declared.status.Status.{Status}
use Rattle.ssu_status.specs.declared.status.Status.TheVariants.{Done, AuditRefused, ReadFault, WriteFault, TooLong, NoMemory}
use Rattle.tool_audit.specs.declared.hearing.Step.{Step}
use Rattle.tool_audit.specs.declared.hearing.Step.TheVariants as step
use Rattle.tool_audit.specs.declared.hearing.Ended.{Ended}
use Rattle.tool_audit.specs.declared.hearing.Ended.TheVariants as ended

-- A yes is Done.
abbrev pub status_of : Result AuditYes AuditNo → Status
status_of (Ok counts) = Done
status_of (Err why) = AuditRefused why

-- an answer was told, or its line was not written
abbrev pub IsTold : Status → Type 0
IsTold Done = Unit {0}
IsTold (AuditRefused why) = Unit {0}
IsTold WriteFault = Unit {0}
IsTold other = ⊥

-- `audit` answers these and no others.
abbrev pub IsAnswer : Status → Type 0
IsAnswer ReadFault = Unit {0}
IsAnswer TooLong = Unit {0}
IsAnswer NoMemory = Unit {0}
IsAnswer other = IsTold other

-- the fact for every status but WriteFault
abbrev pub UnlessWriteFault : Status → Type 0 → Type 0
UnlessWriteFault WriteFault fact = Unit {0}
UnlessWriteFault other fact = fact

-- the fact for the statuses that come without an answer of the audit
abbrev pub OnNoAnswer : Status → Type 0 → Type 0
OnNoAnswer ReadFault fact = fact
OnNoAnswer TooLong fact = fact
OnNoAnswer NoMemory fact = fact
OnNoAnswer other fact = Unit {0}

-- ---- what comes of one packet, and of an input

abbrev pub OnMore : Step → Type 0 → Type 0
OnMore step.More fact = fact
OnMore other fact = Unit {0}

abbrev pub OnStop : Step → (AuditNo → Type 0) → Type 0
OnStop (step.Fact why) fact = fact why
OnStop other fact = Unit {0}

abbrev pub OnFact : Ended → (AuditNo → Type 0) → Type 0
OnFact (ended.Fact why) fact = fact why
OnFact other fact = Unit {0}

abbrev pub OnInput : Ended → Type 0 → Type 0
OnInput ended.Input fact = fact
OnInput other fact = Unit {0}

abbrev pub OnFault : Ended → Type 0 → Type 0
OnFault ended.Fault fact = fact
OnFault other fact = Unit {0}

abbrev pub OnTooLong : Ended → Type 0 → Type 0
OnTooLong ended.TooLong fact = fact
OnTooLong other fact = Unit {0}

abbrev pub OnMemory : Ended → Type 0 → Type 0
OnMemory ended.Memory fact = fact
OnMemory other fact = Unit {0}
