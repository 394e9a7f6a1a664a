use Rattle.tool_sample.proofs.FlashLaws.{blank_is}
use Rattle.tool_sample.proofs.flash.blank.Goals as goal

pub returns : goal.returns
returns c = blank_is c.blank.result c.blank.ensures.contents c.blank.ensures.blocks c.blank.ensures.block_size
