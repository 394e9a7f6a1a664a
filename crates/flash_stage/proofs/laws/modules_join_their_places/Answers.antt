use Rattle.flash_stage.proofs.TextLaws.{carried_module, joined_same, module_below, module_of_texts}
use Rattle.flash_stage.proofs.laws.modules_join_their_places.Goals as goal

pub returns : goal.returns
returns c = record {
  below = λ plan m k among below. module_below plan.block_size plan.modules.items plan.places plan.total m k plan.planned among below;
  texts = λ plan m text among measures. module_of_texts plan text measures m among;
  carried = λ plan fills m long whole among. carried_module plan fills m long whole among;
  same = joined_same;
}
