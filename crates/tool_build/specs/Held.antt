-- What a shelf tells of a plan and of the files that it mentions. A shelf that does not tell its files tells all of this.
use Rattle.std.specs.Prelude.{◌≡◌, ℕ, List, [], ◌∷◌, ◌++◌, Option, codes, Ok, Err}
use Rattle.head_plan.specs.Plans.{PlanData, mentions}
use Rattle.head_plan.specs.PlanText.{plan_of}
use Rattle.ssu_answer.specs.declared.build_fault.BuildFault.{BuildFault}
use Rattle.ssu_answer.specs.declared.build_fault.BuildFault.TheVariants.{ImageTooLong, TooManySections, Memory}
use Rattle.ssu_io.specs.Files.{File, Has}
use Rattle.tool_box.specs.Fetching.{Lacks}
use Rattle.head_carousel.specs.Refusal.{IsCause}

abbrev pub plan_name : List ℕ
plan_name = codes "plan.toml"

-- the shelf has a plan.toml that tells of this plan
pub record TellsPlan (held : Option (List File)) (plan : PlanData) : Type 0 where
  pub text : List ℕ
  pub has : Has held plan_name text
  pub read : plan_of text ≡ Ok plan

-- the shelf has a plan.toml whose first bad field is this one
pub record RefusesPlan (held : Option (List File)) (field : List ℕ) : Type 0 where
  pub text : List ℕ
  pub has : Has held plan_name text
  pub read : plan_of text ≡ Err field

-- the shelf has these bytes for these names, one for each
abbrev pub HasEach : Option (List File) → List (List ℕ) → List (List ℕ) → Type 0
HasEach held [] [] = Unit {0}
HasEach held [] (file ∷ files) = ⊥
HasEach held (name ∷ names) [] = ⊥
HasEach held (name ∷ names) (file ∷ files) = Has held name file × HasEach held names files

-- the shelf has a plan, and the files that it mentions
pub record TellsBroadcast (held : Option (List File)) (plan : PlanData) (images : List (List ℕ)) : Type 0 where
  pub tells : TellsPlan held plan
  pub files : HasEach held (mentions plan.group) images

-- of these names the shelf has those before this one, and not this one
pub record IsFirstMissing (held : Option (List File)) (names : List (List ℕ)) (name : List ℕ) : Type 0 where
  pub before : List (List ℕ)
  pub after : List (List ℕ)
  pub parts : names ≡ before ++ name ∷ after
  pub images : List (List ℕ)
  pub present : HasEach held before images
  pub lacks : Lacks held name

-- a file that the plan mentions, of which the shelf has none; all that are mentioned before it are there
pub record LacksMention (held : Option (List File)) (name : List ℕ) : Type 0 where
  pub plan : PlanData
  pub tells : TellsPlan held plan
  pub first : IsFirstMissing held (mentions plan.group) name

-- no fault of memory
abbrev pub IsLimit : BuildFault → Type 0
IsLimit (ImageTooLong name) = Unit {0}
IsLimit (TooManySections count) = Unit {0}
IsLimit Memory = ⊥

-- the plan and its files are there, and are not to be built for this reason
pub record RefusesBuild (held : Option (List File)) (fault : BuildFault) : Type 0 where
  pub plan : PlanData
  pub images : List (List ℕ)
  pub broadcast : TellsBroadcast held plan images
  pub cause : IsCause plan images fault
  pub limit : IsLimit fault
