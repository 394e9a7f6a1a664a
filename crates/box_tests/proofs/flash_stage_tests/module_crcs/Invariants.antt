use Rattle.std.proofs.Common.{◌≡◌, ℕ}
use Rattle.flash_bank.specs.Bank.{IsLent}
use Rattle.flash_stage.specs.Leaving.{SameBank}
use Rattle.flash_stage.specs.Outline.{outline_of}
use Rattle.box_tests.proofs.flash_stage_tests.module_crcs.Given as goal

abbrev pub invariant-loop-module : goal.invariant-loop-module
invariant-loop-module g l = record {
  lent : IsLent g.F.Flash.tells g.F.Flash.contents g.F.Flash.block_count g.F.Flash.block_len l.bank l.flash;
  ready : g.S.Stage.ready l.stage l.bank;
  agrees : g.F.Flash.tells → g.S.Stage.agrees l.stage l.bank (g.F.Flash.contents l.flash);
  plan : g.S.Stage.plan_of l.stage ≡ outline_of l.plan;
  same : (number : ℕ) → g.S.Stage.has l.stage number ≡ g.S.Stage.has l.fn.stage number;
  same_bank : SameBank l.fn.bank l.bank;
}
