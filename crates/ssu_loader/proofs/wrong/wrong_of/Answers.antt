use Rattle.ssu_loader.proofs.SettlingLaws.{module_is, module_staged, wrong_answer}
use Rattle.flash_stage.specs.Outline.{module_text}
use Rattle.ssu_group.specs.Carried.{carried_image}
use Rattle.ssu_loader.proofs.wrong.wrong_of.Goals as goal

pub module_crc-requires-clause-whole : goal.module_crc-requires-clause-whole
module_crc-requires-clause-whole g c = module_staged c.args.plan.now (g.S.Stage.has c.args.stage.now) c.args.part.now c.requires.whole c.requires.part

pub returns-clause-wrong : goal.returns-clause-wrong
returns-clause-wrong g c = λ tells fills filled holds.
    let plan = c.args.plan.now in
    let has = g.S.Stage.has c.args.stage.now in
    let text = g.S.Stage.bytes_at c.args.stage.now c.args.bank.now (g.F.Flash.contents c.args.flash.now) in
    wrong_answer (carried_image plan fills) c.args.part.now (module_text text c.args.part.now) c.in-Some.want c.in_ok-found.found c.wrong_if.result
    c.in-Some.is (c.in_ok-found.ensures.crc tells) (module_is plan fills has filled text holds.lengths holds.texts c.requires.whole c.args.part.now c.requires.part) c.wrong_if.ensures
