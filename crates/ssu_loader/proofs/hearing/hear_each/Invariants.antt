use Rattle.ssu_loader.proofs.HearingLaws.{HeardSoFar}
use Rattle.ssu_loader.proofs.hearing.hear_each.Given as goal

abbrev pub invariant-loop-k : goal.invariant-loop-k
invariant-loop-k g l = HeardSoFar g.S.Stage g.F.Flash l.fn.pid l.each l.k l.initial.collector l.initial.flash l.collector l.flash
