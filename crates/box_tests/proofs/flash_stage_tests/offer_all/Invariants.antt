use Rattle.std.proofs.Common.{◌≡◌}
use Rattle.flash_bank.specs.Bank.{IsLent}
use Rattle.flash_stage.specs.Leaving.{SameBank}
use Rattle.flash_stage.specs.Outline.{outline_of}
use Rattle.box_tests.proofs.flash_stage_tests.offer_all.Given as goal

abbrev pub invariant-loop-block : goal.invariant-loop-block
invariant-loop-block g l = record {
  lent : IsLent g.F.Flash.tells g.F.Flash.contents g.F.Flash.block_count g.F.Flash.block_len l.bank l.flash;
  ready : g.S.Stage.ready l.stage l.bank;
  agrees : g.F.Flash.tells → g.S.Stage.agrees l.stage l.bank (g.F.Flash.contents l.flash);
  plan : g.S.Stage.plan_of l.stage ≡ outline_of l.plan;
  same_bank : SameBank l.fn.bank l.bank;
}
