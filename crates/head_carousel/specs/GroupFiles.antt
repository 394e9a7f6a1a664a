-- A group of a plan with the bytes of its files.
use Rattle.std.specs.Prelude.{ℕ, suc, ◌+◌, ◌*◌, List, [], ◌∷◌, length, take, drop}
use Rattle.head_plan.specs.Plans.{GroupData}

pub record GroupFiles : Type 0 where
  pub id : ℕ
  pub group : GroupData
  -- in the order of the group's names
  pub files : List (List ℕ)

-- The id of the group with this index, from 0: 0x80000002, 0x80000004 and so on.
abbrev pub group_id : ℕ → ℕ
group_id index = 0x80000002 + 2 * index

-- The groups from an index on. Each takes as many images as it has names.
unfoldable pub groups_from : ℕ → List GroupData → List (List ℕ) → List GroupFiles
groups_from index [] images = []
groups_from index (g ∷ gs) images =
    record { id = group_id index; group = g; files = take (length g.modules) images }
    ∷ groups_from (suc index) gs (drop (length g.modules) images)

-- Items with their numbers, of which the first has this one.
unfoldable pub numbered : {A : Type 0} → ℕ → List A → List (ℕ × A)
numbered n [] = []
numbered n (x ∷ xs) = (n, x) ∷ numbered (n + 1) xs

-- The modules of a group: its files, numbered from 1.
abbrev pub modules_of : GroupFiles → List (ℕ × List ℕ)
modules_of g = numbered 1 g.files
