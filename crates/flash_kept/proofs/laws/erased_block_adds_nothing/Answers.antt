use Rattle.flash_kept.proofs.BackLaws.{cleared_none, clears_holds}
use Rattle.flash_kept.proofs.laws.erased_block_adds_nothing.Goals as goal

pub returns : goal.returns
returns c = record { torn = clears_holds; done = cleared_none }
