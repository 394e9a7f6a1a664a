-- The numbers and names of the levels.
use Rattle.std.specs.Prelude.{ℕ, List, codes}
use Rattle.ssu_answer.specs.declared.level.Level.{Level}
use Rattle.ssu_answer.specs.declared.level.Level.TheVariants.{Linkage, Program, Component, Notice, Window, Group}
use Rattle.ssu_answer.specs.declared.level.Level.TheVariants.{Modules}

abbrev pub number_of : Level → ℕ
number_of Linkage = 1
number_of Program = 2
number_of Component = 3
number_of Notice = 4
number_of Window = 5
number_of Group = 6
number_of Modules = 7

abbrev pub name_of : Level → List ℕ
name_of Linkage = codes "linkage"
name_of Program = codes "program"
name_of Component = codes "component"
name_of Notice = codes "notice"
name_of Window = codes "window"
name_of Group = codes "group"
name_of Modules = codes "modules"
