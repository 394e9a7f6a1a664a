use Rattle.std.proofs.Common.{arith}
use Rattle.wire.proofs.Laws.{front_found, front_only_counted, front_none}
use Rattle.ssu_compat.proofs.Exact.{compat_exact}
use Rattle.ssu_compat.proofs.compat.Compat.read.Goals as goal

pub returns-in_err-compat-clause-only : goal.returns-in_err-compat-clause-only
returns-in_err-compat-clause-only c = λ es n le spelled. absurd (front_none compat_exact c.args.bytes.now (c.in_err-compat.ensures {u = tt}) es n le spelled)

pub overflow_sub-result : goal.overflow_sub-result
overflow_sub-result c = (front_found compat_exact c.args.bytes.now c.in_ok-compat.compat c.in_ok-compat.rest.now (c.in_ok-compat.ensures {u = tt})).0

pub returns-clause-found : goal.returns-clause-found
returns-clause-found c = (omega arith, (front_found compat_exact c.args.bytes.now c.in_ok-compat.compat c.in_ok-compat.rest.now (c.in_ok-compat.ensures {u = tt})).1)

pub returns-clause-only : goal.returns-clause-only
returns-clause-only c = front_only_counted compat_exact c.args.bytes.now c.in_ok-compat.compat c.in_ok-compat.rest.now (c.in_ok-compat.ensures {u = tt})
