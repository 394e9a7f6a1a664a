-- What a status says, where the script was read.
use Rattle.std.specs.Prelude.{ℕ, List}
use Rattle.ssu_status.specs.Status.{OnAbsent, OnPlanRefused, OnShelfFault}
use Rattle.ssu_status.specs.declared.status.Status.{Status}
use Rattle.ssu_status.specs.declared.status.Status.TheVariants.{Absent, Done, NoMemory, PlanRefused, ReadFault, ShelfFault, TooLong, WriteFault}
use Rattle.tool_air.specs.Airing.{IsAnswer, IsEarly, IsPutAnswer}

pub no_absent : (s : Status) (P : List ℕ → Type 0) → IsPutAnswer s → OnAbsent s P
no_absent (Absent name) P is = absurd is
no_absent other P is = tt

pub no_shelf_fault : (s : Status) (P : Type 0) → IsPutAnswer s → OnShelfFault s P
no_shelf_fault ShelfFault P is = absurd is
no_shelf_fault other P is = tt

pub no_plan_refused : (s : Status) (P : List ℕ → Type 0) → IsPutAnswer s → OnPlanRefused s P
no_plan_refused (PlanRefused field) P is = absurd is
no_plan_refused other P is = tt

pub not_early : (s : Status) → IsPutAnswer s → IsEarly s → ⊥
not_early Done is early = early
not_early ReadFault is early = early
not_early TooLong is early = early
not_early WriteFault is early = early
not_early other is early = is

pub answered : (s : Status) → IsPutAnswer s → IsAnswer s
answered (Absent name) is = tt
answered ShelfFault is = tt
answered (PlanRefused field) is = tt
answered NoMemory is = tt
answered other is = is
