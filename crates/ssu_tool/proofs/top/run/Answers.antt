use Rattle.std.proofs.Common.{◌≡◌}
use Rattle.ssu_status.specs.Words.{task_of}
use Rattle.ssu_tool.proofs.top.run.Goals as goal

pub returns-in_default-clause-usage : goal.returns-in_default-clause-usage
returns-in_default-clause-usage g c = λ task line. let none = c.in_default.ensures.only task line in cc

pub returns-in_default-clause-does : goal.returns-in_default-clause-does
returns-in_default-clause-does g c = λ task line. let none = c.in_default.ensures.only task line in cc

pub returns-clause-does : goal.returns-clause-does
returns-clause-does g c = λ task line.
    let some = c.in-Some.ensures.only task line in
    let same : task_of c.in-Some.command ≡ task = cc in
    rw (← same) c.dispatch.ensures.does

pub dispatch-requires : goal.dispatch-requires
dispatch-requires g c = c.in-Some.ensures.found.in_range
