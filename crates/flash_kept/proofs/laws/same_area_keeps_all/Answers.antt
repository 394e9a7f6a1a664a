use Rattle.flash_kept.proofs.AreaLaws.{area_free, area_held_before, area_holds, area_lost, area_staged, area_stages}
use Rattle.flash_kept.proofs.laws.same_area_keeps_all.Goals as goal

pub returns : goal.returns
returns c = record { held_before = area_held_before; held = area_holds; message = area_stages; staged = area_staged; lost = area_lost; free = area_free }
