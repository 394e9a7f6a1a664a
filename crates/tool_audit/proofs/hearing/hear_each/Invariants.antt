use Rattle.std.proofs.Common.{List, take}
use Rattle.ssu_audit.specs.Calls.{Call}
use Rattle.ssu_audit.specs.Standing.{Stands}
use Rattle.tool_audit.specs.Following.{onto}
use Rattle.tool_audit.proofs.hearing.hear_each.Given as goal

abbrev pub invariant-loop-k : goal.invariant-loop-k
invariant-loop-k l = record {
  stands : (calls : List Call) → Stands calls l.initial.audit → Stands (onto l.fn.notice (take l.k l.each) calls) l.audit;
}
