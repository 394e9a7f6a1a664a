-- The status of `load`, and what it says.
use Rattle.ssu_answer.specs.declared.chosen.Chosen.{Chosen}
use Rattle.ssu_answer.specs.declared.verdict.Verdict.{Verdict}
use Rattle.ssu_answer.specs.declared.verdict.Verdict.TheVariants as verdict
use Rattle.ssu_status.specs.Status.{OnVerdict, status_of as status_of_verdict}
use Rattle.ssu_status.specs.declared.status.Status.{Status}
use Rattle.ssu_status.specs.declared.status.Status.TheVariants.{Done, Nothing, Incomplete, BadModule, ReadFault}
use Rattle.ssu_status.specs.declared.status.Status.TheVariants.{WriteFault, TooLong, NoMemory}

-- A group that was carried whole is Done.
abbrev pub status_of : Verdict → Status
status_of (verdict.Installed chosen) = Done
status_of other = status_of_verdict other

-- the fact for the verdict that the status tells
abbrev pub OnTold : Status → (Verdict → Type 0) → Type 0
OnTold Done fact = (chosen : Chosen) × fact (verdict.Installed chosen)
OnTold other fact = OnVerdict other fact

-- the fact for every status but Done and WriteFault
abbrev pub OnNoImage : Status → Type 0 → Type 0
OnNoImage Done fact = Unit {0}
OnNoImage WriteFault fact = Unit {0}
OnNoImage other fact = fact

-- the fact for the statuses that come without a verdict
abbrev pub OnNoVerdict : Status → Type 0 → Type 0
OnNoVerdict ReadFault fact = fact
OnNoVerdict TooLong fact = fact
OnNoVerdict NoMemory fact = fact
OnNoVerdict other fact = Unit {0}

-- a verdict was told, or a write failed on the way
abbrev pub IsConclusion : Status → Type 0
IsConclusion Done = Unit {0}
IsConclusion (Nothing level) = Unit {0}
IsConclusion (Incomplete chosen missing) = Unit {0}
IsConclusion (BadModule id want found) = Unit {0}
IsConclusion WriteFault = Unit {0}
IsConclusion other = ⊥

-- `load` answers these and no others.
abbrev pub IsAnswer : Status → Type 0
IsAnswer ReadFault = Unit {0}
IsAnswer TooLong = Unit {0}
IsAnswer NoMemory = Unit {0}
IsAnswer other = IsConclusion other
