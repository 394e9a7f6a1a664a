use Rattle.flash_remap.proofs.copy.copy_some.Goals as goal

pub returns-clause-left : goal.returns-clause-left
returns-clause-left g c = c.copy_piece.ensures.left
