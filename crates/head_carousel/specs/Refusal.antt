-- Why a plan is not built. blockNumber has 16 bits; the most sections of a plan are this project's own.
use Rattle.std.specs.Prelude.{◌≡◌, ℕ, ◌<◌, ◌≤◌, Bool, List, [], ◌∷◌, Option, Some, None, nat_lt}
use Rattle.std.specs.List.{flat_map, find}
use Rattle.std.specs.Option.{option_map}
use Rattle.head_plan.specs.Plans.{PlanData}
use Rattle.ssu_answer.specs.declared.build_fault.BuildFault.{BuildFault}
use Rattle.ssu_answer.specs.declared.build_fault.BuildFault.TheVariants.{ImageTooLong, TooManySections, Memory}
use Rattle.head_carousel.specs.Blocks.{block_count}
use Rattle.head_carousel.specs.GroupFiles.{GroupFiles}
use Rattle.head_carousel.specs.Sections.{plan_groups, section_count}

-- A file that a group mentions, and how many blocks it needs.
pub record Mention : Type 0 where
  pub name : List ℕ
  pub blocks : ℕ

-- the mentions of these names, whose files these are
unfoldable pub mentions_in : ℕ → List (List ℕ) → List (List ℕ) → List Mention
mentions_in size [] files = []
mentions_in size (name ∷ names) [] = []
mentions_in size (name ∷ names) (file ∷ files) =
    record { name = name; blocks = block_count size file } ∷ mentions_in size names files

abbrev pub group_mentions : GroupFiles → List Mention
group_mentions g = mentions_in g.group.block_size g.group.modules g.files

-- more than 65,536 blocks
abbrev pub is_too_long : Mention → Bool
is_too_long m = nat_lt 65536 m.blocks

abbrev pub name_of : Mention → List ℕ
name_of m = m.name

-- the first file of more than 65,536 blocks
unfoldable pub first_too_long : List GroupFiles → Option (List ℕ)
first_too_long gs = option_map name_of (find is_too_long (flat_map group_mentions gs))

-- A plan is built where no file is too long, and all sections are at most 65,536.
pub record CanBeMade (p : PlanData) (gs : List GroupFiles) : Type 0 where
  pub short : first_too_long gs ≡ None
  pub few : section_count p gs ≤ 65536

-- All sections are n, which is too many, and no file is too long.
pub record IsTooMany (p : PlanData) (gs : List GroupFiles) (n : ℕ) : Type 0 where
  pub short : first_too_long gs ≡ None
  pub all : n ≡ section_count p gs
  pub many : 65536 < n

-- what each fault says of the plan and its groups
abbrev pub IsFaultOf : PlanData → List GroupFiles → BuildFault → Type 0
IsFaultOf p gs (ImageTooLong name) = first_too_long gs ≡ Some name.bytes
IsFaultOf p gs (TooManySections n) = IsTooMany p gs n
IsFaultOf p gs Memory = Unit {0}

-- the same of a plan whose files, mention by mention, are these
abbrev pub IsBuildable : PlanData → List (List ℕ) → Type 0
IsBuildable p images = CanBeMade p (plan_groups p images)

abbrev pub IsCause : PlanData → List (List ℕ) → BuildFault → Type 0
IsCause p images fault = IsFaultOf p (plan_groups p images) fault
