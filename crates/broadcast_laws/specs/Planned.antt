-- The sections of a plan as a box reads them: ISO/IEC 13818-6, 7.3; ETSI EN 301 192, 8.1.
use Rattle.std.specs.Prelude.{◌≡◌, ◌≢◌, ℕ, ◌^◌, ◌<◌, ◌≤◌, Contains, List, length, map}
use Rattle.std.specs.List.{All}
use Rattle.dsmcc_msg.specs.Block.{DdbFields}
use Rattle.dsmcc_msg.specs.Control.{DiiFields, DsiFields}
use Rattle.dsmcc_msg.specs.Written.{dii_of}
use Rattle.head_carousel.specs.Blocks.{block_count, ddb_fields}
use Rattle.head_carousel.specs.Control.{dii_draft, group_fields}
use Rattle.head_carousel.specs.GroupFiles.{GroupFiles, modules_of}
use Rattle.head_carousel.specs.Refusal.{IsBuildable}
use Rattle.head_carousel.specs.Sections.{plan_groups, sections_of}
use Rattle.head_plan.specs.Plans.{GroupData, PlanData}
use Rattle.section_form.specs.Section.{table_id}
use Rattle.ts_section.specs.TimedSection.{TimedSection}

-- the range of each field of a group that is sent
pub record IsGroupInRange (g : GroupData) : Type 0 where
  pub model : g.model < 2 ^ 16
  pub version : g.version < 2 ^ 16
  pub software_model : g.software_model < 2 ^ 16
  pub software_version : g.software_version < 2 ^ 16
  pub block_some : 1 ≤ g.block_size
  pub block_most : g.block_size ≤ 4066
  pub module_version : g.module_version < 2 ^ 8
  pub few_modules : length g.modules ≤ 256

-- A plan with its fields in their ranges, which is built of these images.
pub record IsSent (p : PlanData) (images : List (List ℕ)) : Type 0 where
  pub oui : p.oui < 2 ^ 24
  pub few_groups : length p.group ≤ 16
  pub groups : All IsGroupInRange p.group
  pub buildable : IsBuildable p images

abbrev pub bytes_of_section : TimedSection → List ℕ
bytes_of_section s = s.bytes

-- the bytes of the sections of a plan
unfoldable pub sent_sections : PlanData → List (List ℕ) → List (List ℕ)
sent_sections p images = map bytes_of_section (sections_of p images)

-- The section is one of the plan's, TDTs (table_id 0x70) apart.
abbrev pub IsOfPlan : PlanData → List (List ℕ) → List ℕ → Type 0
IsOfPlan p images section = table_id section ≢ 0x70 → Contains (sent_sections p images) section

-- the one DSI of a plan
abbrev pub dsi_of_plan : PlanData → List (List ℕ) → DsiFields
dsi_of_plan p images = record { transaction = 0x80000000; groups = map (group_fields p.oui) (plan_groups p images) }

-- The DII is that of one group of the plan.
pub record IsPlannedDii (p : PlanData) (images : List (List ℕ)) (d : DiiFields) : Type 0 where
  pub group : GroupFiles
  pub own : Contains (plan_groups p images) group
  pub is : d ≡ dii_of (dii_draft group)

-- The block is one of a module of a group of the plan.
pub record IsPlannedDdb (p : PlanData) (images : List (List ℕ)) (d : DdbFields) : Type 0 where
  pub group : GroupFiles
  pub own : Contains (plan_groups p images) group
  pub file : ℕ × List ℕ
  pub own_file : Contains (modules_of group) file
  pub number : ℕ
  pub below : number < block_count group.group.block_size file.1
  pub is : d ≡ ddb_fields group file number
