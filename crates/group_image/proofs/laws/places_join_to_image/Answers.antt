use Rattle.group_image.proofs.ImageLaws.{joined_image}
use Rattle.group_image.proofs.laws.places_join_to_image.Goals as goal

pub returns : goal.returns
returns c = λ plan image text is reads. joined_image plan image text is reads
