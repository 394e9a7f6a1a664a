-- The places of the group of a DII.
use Rattle.std.specs.Prelude.{ℕ, List, Option, sum_by}
use Rattle.dsmcc_msg.specs.Control.{DiiFields}
use Rattle.ssu_group.specs.Place.{place_at}
use Rattle.ssu_group.specs.Plan.{block_count, laid_out}
use Rattle.ssu_group.specs.declared.module_plan.ModulePlan.{ModulePlan}
use Rattle.ssu_group.specs.declared.places.Place.{Place}

-- the modules, one behind the other
abbrev pub modules_of : DiiFields → List ModulePlan
modules_of dii = laid_out dii.block_size 0 0 dii.modules

-- how many places they have
abbrev pub place_count : DiiFields → ℕ
place_count dii = sum_by block_count (modules_of dii)

-- the place of that number
abbrev pub place_of : DiiFields → ℕ → Option Place
place_of dii n = place_at dii.block_size (modules_of dii) n
