use Rattle.ssu_unt.proofs.Spelling.{began}
use Rattle.ssu_unt.proofs.writing.UntWriter.platform.Goals as goal

pub returns-clause-table : goal.returns-clause-table
returns-clause-table c = λ common platforms entries draft spelled.
    began c.begin.result c.args.self.now c.begin.new.self common platforms entries c.args.compat.now draft spelled c.begin.ensures.small c.begin.ensures.begun
