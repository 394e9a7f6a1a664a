use Rattle.ssu_unt.proofs.Spelling.{added_pair}
use Rattle.ssu_unt.proofs.writing.UntWriter.pair.Goals as goal

pub returns-clause-table : goal.returns-clause-table
returns-clause-table c = λ common platforms draft.
    added_pair c.add.result c.args.self.now c.add.new.self common platforms c.args.target.now c.args.operational.now draft c.requires.begun c.requires.target c.requires.operational c.add.ensures.short c.add.ensures.added
