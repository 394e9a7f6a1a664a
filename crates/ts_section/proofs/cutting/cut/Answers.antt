use Rattle.std.proofs.Common.{◌<◌, arith}
use Rattle.ts_section.proofs.CutHeard.{right_heard}
use Rattle.ts_section.proofs.cutting.cut.Goals as goal

pub returns-in-Err-clause-heard : goal.returns-in-Err-clause-heard
returns-in-Err-clause-heard c =
    let fits : c.args.pid < 8192 = omega arith in
    right_heard c.args.section.now c.args.pid c.args.counter fits c.requires.counter c.requires.first

pub returns-clause-heard : goal.returns-clause-heard
returns-clause-heard c =
    let fits : c.args.pid < 8192 = omega arith in
    right_heard c.args.section.now c.args.pid c.args.counter fits c.requires.counter c.requires.first
