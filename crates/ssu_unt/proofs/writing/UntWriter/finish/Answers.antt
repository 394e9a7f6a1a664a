use Rattle.std.proofs.Common.{arith}
use Rattle.ssu_unt.proofs.Spelling.{unt_written}
use Rattle.ssu_unt.proofs.writing.UntWriter.finish.Goals as goal

pub returns-in-Ok-clause-read_back : goal.returns-in-Ok-clause-read_back
returns-in-Ok-clause-read_back c = λ common platforms draft.
    unt_written _ common platforms _ (omega (arith, c.in-Ok.ensures.oui)) (omega (arith, c.in-Ok.ensures.hash)) (omega (arith, c.in-Ok.ensures.small)) draft c.in-Ok.ensures.spelled
