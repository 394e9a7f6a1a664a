-- What `build` does: it reads plan.toml and the files that it mentions, and puts the packets of the plan's turns into `made`
-- and a line that counts them into `out`.
use Rattle.std.specs.Prelude.{◌≡◌, ◌≤◌, ◌⊎◌, ℕ, List, IsSome}
use Rattle.ssu_answer.specs.declared.build_fault.BuildFault.{BuildFault}
use Rattle.ssu_io.specs.Faults.{Rose}
use Rattle.ssu_io.specs.Seen.{ShelfSeen, SinkSeen}
use Rattle.ssu_status.specs.Status.{OnAbsent, OnBuildRefused, OnDone, OnPlanRefused, OnWriteFault}
use Rattle.ssu_status.specs.declared.status.Status.{Status}
use Rattle.tool_box.specs.Fetching.{HasNone, Lacks, SaysAbsent, SaysAbsentOrFails}
use Rattle.tool_box.specs.Shelves.{ReadsShelf}
use Rattle.tool_build.specs.Building.{ForBroadcast, IsAnswer, IsEarly, IsUnrefused, PutsAll, PutsPart}
use Rattle.tool_build.specs.Held.{LacksMention, RefusesBuild, RefusesPlan, plan_name}

pub record BuildDoes (result : Status) (shelf : ShelfSeen) (made out : SinkSeen) : Type 0 where
  -- Done: `made` got all packets, and `out` the line.
  pub done : OnDone result (ForBroadcast shelf.held (PutsAll made out))
  -- A file is not there: plan.toml, or the first of those that the plan mentions, in its order.
  pub absent : OnAbsent result
      (λ name. ((name ≡ plan_name) × Lacks shelf.held name) ⊎ LacksMention shelf.held name)
  pub no_plan : HasNone shelf.held plan_name → SaysAbsent plan_name result
  pub no_file : (name : List ℕ) → IsSome shelf.held → LacksMention shelf.held name → SaysAbsentOrFails name result
  -- This is the first bad field of plan.toml.
  pub plan_refused : OnPlanRefused result (λ field. RefusesPlan shelf.held field)
  -- A file has too many blocks, or there are too many sections.
  pub build_refused : OnBuildRefused result (λ fault. RefusesBuild shelf.held fault)
  -- Each of these, a fault of the shelf, and want of memory come before the first packet is put.
  pub early : IsEarly result → made.same × out.same
  -- A write failed on the way.
  pub write_fault : OnWriteFault result (ForBroadcast shelf.held (PutsPart made out))
  -- There is no other answer, and without a fault and a refusal none that tells of one.
  pub answers : IsAnswer result
  pub complete : ¬ Rose shelf.absences shelf.absences_after → ¬ Rose shelf.faults shelf.faults_after
      → ¬ Rose made.faults made.faults_after → ¬ Rose out.faults out.faults_after
      → ((field : List ℕ) → ¬ RefusesPlan shelf.held field)
      → ((fault : BuildFault) → ¬ RefusesBuild shelf.held fault) → IsUnrefused result
  -- The shelf holds what it held, and the counts of faults never fall.
  pub files : ReadsShelf result shelf
  pub made_later : made.faults ≤ made.faults_after
  pub out_later : out.faults ≤ out.faults_after
