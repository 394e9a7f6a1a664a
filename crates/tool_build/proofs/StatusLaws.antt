-- What a status says, from what other clauses say of it.
use Rattle.ssu_answer.specs.declared.build_fault.BuildFault.{BuildFault}
use Rattle.std.specs.Prelude.{ℕ, List}
use Rattle.ssu_status.specs.Status.{OnAbsent, OnBuildRefused, OnPlanRefused, OnShelfFault, OnWriteFault}
use Rattle.ssu_status.specs.declared.status.Status.{Status}
use Rattle.ssu_status.specs.declared.status.Status.TheVariants.{Absent, BuildRefused, NoMemory, PlanRefused, ShelfFault, WriteFault}
use Rattle.tool_build.specs.Building.{IsAnswer, IsPutAnswer, IsUnrefused, IsMakingRefusal}

-- what follows of a write fault
pub write_fault_map : {P R : Type 0} (s : Status) → (P → R) → OnWriteFault s P → OnWriteFault s R
write_fault_map WriteFault f p = f p
write_fault_map other f p = tt

-- the sections are not made for want of memory, where there is no other reason
pub making_unrefused : (s : Status) (Q : BuildFault → Type 0) → IsMakingRefusal s → OnBuildRefused s Q → ((fault : BuildFault) → Q fault → ⊥) → IsUnrefused s
making_unrefused NoMemory Q is q none = tt
making_unrefused (BuildRefused x) Q is q none = absurd (none x q)
making_unrefused other Q is q none = absurd is

-- ---- the files were read

pub no_absent : (s : Status) (P : List ℕ → Type 0) → IsPutAnswer s → OnAbsent s P
no_absent (Absent name) P is = absurd is
no_absent other P is = tt

pub no_shelf_fault : (s : Status) (P : Type 0) → IsPutAnswer s → OnShelfFault s P
no_shelf_fault ShelfFault P is = absurd is
no_shelf_fault other P is = tt

pub no_plan_refused : (s : Status) (P : List ℕ → Type 0) → IsPutAnswer s → OnPlanRefused s P
no_plan_refused (PlanRefused field) P is = absurd is
no_plan_refused other P is = tt

pub answered : (s : Status) → IsPutAnswer s → IsAnswer s
answered (Absent name) is = tt
answered ShelfFault is = tt
answered (PlanRefused field) is = tt
answered other is = is
