use Rattle.std.proofs.Common.{◌/◌, ◌%◌, arith}
use Rattle.ssu_time.proofs.civil_time.number_at.Goals as goal

pub returns-in_err-tens-clause-only : goal.returns-in_err-tens-clause-only
returns-in_err-tens-clause-only c = λ n small at.
    let e = c.digit.ensures.only (n / 10) (omega arith) at.tens in let k = c.in_err-tens.was in cc

pub returns-in_err-ones-clause-only : goal.returns-in_err-ones-clause-only
returns-in_err-ones-clause-only c = λ n small at.
    let e = c.digit-2.ensures.only (n % 10) (omega arith) at.ones in let k = c.in_err-ones.was in cc
