use Rattle.flash_remap.specs.Shape.{geometry}
use Rattle.flash_remap.proofs.LogicalLemmas.{length-logical}
use Rattle.flash_remap.proofs.remap.RemapFlash.blocks.Goals as goal

pub returns-clause-whole : goal.returns-clause-whole
returns-clause-whole g c tells =
    let me = c.args.self.now in
    length-logical (geometry me.layout) (g.F.Flash.contents me.inner)
