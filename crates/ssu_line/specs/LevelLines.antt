-- The lines of the seven levels. Each ends with a line feed. A level without a value has `K none`.
use Rattle.std.specs.Prelude.{ℕ, ◌==◌, List, ◌++◌, codes, decimal, Option, None, Some, if◌then◌else◌}

-- K none
abbrev pub none_line : List ℕ → List ℕ
none_line level = level ++ codes "none\n"

-- K NAME N, and K none for 0
abbrev pub counted_line : List ℕ → List ℕ → ℕ → List ℕ
counted_line level name count =
    if count == 0 then none_line level else level ++ name ++ decimal count ++ codes "\n"

-- 1 services N
abbrev pub services_line : ℕ → List ℕ
services_line count = counted_line (codes "1 ") (codes "services ") count

-- 2 program S pid P
abbrev pub program_line : Option (ℕ × ℕ) → List ℕ
program_line None = none_line (codes "2 ")
program_line (Some (service, pid)) = codes "2 program " ++ decimal service ++ codes " pid " ++ decimal pid ++ codes "\n"

-- 3 component P type T
abbrev pub component_line : Option (ℕ × ℕ) → List ℕ
component_line None = none_line (codes "3 ")
component_line (Some (pid, update_type)) =
    codes "3 component " ++ decimal pid ++ codes " type " ++ decimal update_type ++ codes "\n"

-- 4 notices N, and 4 direct where the component has update type 1. Without a component there are no notices.
abbrev pub notices_line : Option (ℕ × ℕ) → ℕ → List ℕ
notices_line None count = none_line (codes "4 ")
notices_line (Some (pid, update_type)) count =
    if update_type == 1 then codes "4 direct\n" else counted_line (codes "4 ") (codes "notices ") count

-- 5 carousel P
abbrev pub carousel_line : Option ℕ → List ℕ
carousel_line None = none_line (codes "5 ")
carousel_line (Some pid) = codes "5 carousel " ++ decimal pid ++ codes "\n"

-- 6 groups N
abbrev pub groups_line : ℕ → List ℕ
groups_line count = counted_line (codes "6 ") (codes "groups ") count

-- 7 modules M bytes L
abbrev pub modules_line : Option (ℕ × ℕ) → List ℕ
modules_line None = none_line (codes "7 ")
modules_line (Some (modules, bytes)) = codes "7 modules " ++ decimal modules ++ codes " bytes " ++ decimal bytes ++ codes "\n"
