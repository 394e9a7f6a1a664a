use Rattle.ssu_audit.proofs.OneImages.{one_image_per_group}
use Rattle.ssu_audit.proofs.laws.yes_means_one_image.Goals as goal

pub returns : goal.returns
returns c = λ calls counts undecided ends. one_image_per_group calls undecided ends.0
