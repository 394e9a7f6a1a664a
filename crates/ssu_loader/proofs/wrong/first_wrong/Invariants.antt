use Rattle.ssu_loader.proofs.SearchLaws.{Searched}
use Rattle.ssu_loader.proofs.wrong.first_wrong.Given as goal

abbrev pub invariant-loop-part : goal.invariant-loop-part
invariant-loop-part g l =
    Searched g.S.Stage g.F.Flash l.plan l.initial.stage l.initial.bank l.initial.flash l.stage l.bank l.flash l.part-items l.part-index
