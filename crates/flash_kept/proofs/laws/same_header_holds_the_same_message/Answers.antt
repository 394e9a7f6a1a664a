use Rattle.flash_kept.proofs.HeaderLaws.{held_same}
use Rattle.flash_kept.proofs.laws.same_header_holds_the_same_message.Goals as goal

pub returns : goal.returns
returns c = held_same
