use Rattle.std.proofs.Common.{sym}
use Rattle.ssu_unt.proofs.Counting.{common_loop, own_loop}
use Rattle.ssu_unt.proofs.targeting.counting_loop.Goals as goal

pub returns-in-Some : goal.returns-in-Some
returns-in-Some c = own_loop c.args.tag c.args.common.now c.args.operational.now _ (sym c.in-Some.ensures)

pub returns-in-None : goal.returns-in-None
returns-in-None c = common_loop c.args.tag c.args.common.now c.args.operational.now (sym c.in-None.ensures)
