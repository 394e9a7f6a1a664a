use Rattle.std.proofs.Common.{ap, length, arith}
use Rattle.ts_section.proofs.PidPlaces.{is_among-none}
use Rattle.ts_section.proofs.kept.place_of.Goals as goal

pub returns-clause-among : goal.returns-clause-among
returns-clause-among c =
    let same = ap length c.deref-known-items.ensures.0 in
    is_among-none c.args.pids.now.items c.args.pid (λ k below. c.loop-at.invariant k (omega arith))
