use Rattle.std.proofs.Common.{arith}
use Rattle.ssu_status.proofs.command.made_file.Goals as goal

pub returns-in-None : goal.returns-in-None
returns-in-None c = record {
  made = λ task line. let only = c.in-None.ensures.only task line in cc;
  none = λ _. grind (arith, c.new.ensures);
}
