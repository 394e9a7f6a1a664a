use Rattle.std.proofs.Common.{ap, ◌∙◌}
use Rattle.ts_crc.specs.Crc.{crc_of}
use Rattle.flash_stage.proofs.RamLemmas.{module_in}
use Rattle.flash_stage.proofs.TextLaws.{module_inside}
use Rattle.flash_stage.proofs.ram_stage.RamStageStage.module_crc.Goals as goal

pub module_crc-requires : goal.module_crc-requires
module_crc-requires g c =
    let s = c.args.self.now in
    module_inside s.block_size s.modules.items s.image.map.places s.image.total c.args.module.now c.requires.ready.planned c.requires.«module»

pub returns-clause-crc : goal.returns-clause-crc
returns-clause-crc g c tells =
    c.module_crc.ensures ∙ ap crc_of (module_in c.args.self.now c.args._bank.now (g.F.Flash.contents c.args._flash.now) c.args.module.now c.requires.ready c.requires.«module»)
