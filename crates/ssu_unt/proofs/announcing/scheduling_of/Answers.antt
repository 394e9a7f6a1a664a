use Rattle.std.proofs.Common.{arith}
use Rattle.ssu_unt.proofs.AnnouncedLaws.{scheduling_put}
use Rattle.ssu_unt.proofs.announcing.scheduling_of.Goals as goal

pub returns-clause-read_back : goal.returns-clause-read_back
returns-clause-read_back c =
    scheduling_put c.args.start c.args.end c.args.period_hours c.args.duration_hours c.args.start.in_day c.args.end.in_day (omega (arith, c.ranges.period_hours)) (omega (arith, c.ranges.duration_hours))
