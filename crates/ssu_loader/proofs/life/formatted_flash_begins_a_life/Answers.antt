use Rattle.ssu_loader.proofs.FormatLaws.{formatted_begins}
use Rattle.ssu_loader.proofs.life.formatted_flash_begins_a_life.Goals as goal

pub returns : goal.returns
returns c = formatted_begins
