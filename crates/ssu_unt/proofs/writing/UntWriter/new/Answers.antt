use Rattle.ssu_unt.proofs.Spelling.{made}
use Rattle.ssu_unt.proofs.writing.UntWriter.new.Goals as goal

pub returns-clause-table : goal.returns-clause-table
returns-clause-table c = made c.empty.result c.args.oui c.args.version c.args.common.now c.requires.row c.empty.ensures.short c.empty.ensures.made
