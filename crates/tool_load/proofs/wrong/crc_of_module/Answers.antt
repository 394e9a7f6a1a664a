use Rattle.std.proofs.Common.{ap, ◌∙◌}
use Rattle.ts_crc.specs.Crc.{crc_of}
use Rattle.tool_load.proofs.GrowingLaws.{module_in}
use Rattle.tool_load.proofs.wrong.crc_of_module.Goals as goal

pub returns-in-Some : goal.returns-in-Some
returns-in-Some c =
    c.in-Some.ensures c.args.image.now.buffer c.requires.sums
    ∙ ap crc_of (module_in c.args.image.now c.args.part.now c.requires.inside)
