-- A group of the plan that is for a box.
use Rattle.std.specs.Prelude.{◌≡◌, ℕ, Contains, List, Some, true}
use Rattle.std.specs.List.{concat}
use Rattle.head_carousel.specs.GroupFiles.{GroupFiles}
use Rattle.head_carousel.specs.Sections.{plan_groups}
use Rattle.head_plan.specs.Plans.{PlanData}
use Rattle.route_tables.specs.Values.{Receiver}
use Rattle.ssu_compat.specs.Match.{admits}
use Rattle.ssu_compat.specs.declared.rule.SwId.{SwId}

abbrev pub software_of_group : GroupFiles → SwId
software_of_group g = record { model = g.group.software_model; version = g.group.software_version }

-- The image is the joined files of this group of the plan, whose OUI, model and version are the box's and whose software its rule
-- admits over the software that runs. The group has this id and this software.
pub record IsGroupForBox (p : PlanData) (images : List (List ℕ)) (me : Receiver) (id : ℕ) (software : SwId) (image : List ℕ) : Type 0 where
  pub group : GroupFiles
  pub own : Contains (plan_groups p images) group
  pub own_id : group.id ≡ id
  pub oui : p.oui ≡ me.file.id.oui
  pub model : group.group.model ≡ me.file.id.model
  pub version : group.group.version ≡ me.file.id.version
  pub offers : software_of_group group ≡ software
  pub admitted : admits me.file.rule me.running (Some (software_of_group group)) ≡ true
  pub joined : image ≡ concat group.files
