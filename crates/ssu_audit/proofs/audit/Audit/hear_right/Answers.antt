use Rattle.std.proofs.Common.{◌∷◌}
use Rattle.ssu_audit.proofs.Answering.{if_ok_then}
use Rattle.ssu_audit.proofs.audit.Audit.hear_right.Goals as goal

pub returns-clause-usable : goal.returns-clause-usable
returns-clause-usable c =
    let calls = c.requires.usable.0 in
    if_ok_then c.hear_one.result _ _ (λ answer stands none. (record { notice = c.args.notice; section = c.args.section.now } ∷ calls, stands none)) (c.hear_one.ensures.stands calls c.requires.usable.1)
