use Rattle.group_image.proofs.LengthLaws.{carried_len, filling_len}
use Rattle.group_image.proofs.laws.whole_image_has_all_bytes.Goals as goal

pub returns : goal.returns
returns c = record {
  filled = λ plan sections. filling_len plan sections;
  whole = λ plan fills long filled. carried_len plan fills long filled;
}
