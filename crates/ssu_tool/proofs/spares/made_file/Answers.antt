use Rattle.std.proofs.Common.{arith}
use Rattle.ssu_tool.proofs.spares.made_file.Goals as goal

pub returns-in-Some : goal.returns-in-Some
returns-in-Some c = record {
  made = λ task line. let is = c.in-Some.ensures.line task line in cc;
  spared = λ task asks. let is = c.in-Some.ensures.spared task asks in cc;
  none = λ line asks. let is = c.in-Some.ensures.none line asks in cc;
}

pub returns-in-None : goal.returns-in-None
returns-in-None c = record {
  made = λ task line. let is = c.in-None.ensures.line task line in cc;
  spared = λ task asks. let is = c.in-None.ensures.spared task asks in cc;
  none = λ line asks. grind (arith, c.new.ensures);
}
