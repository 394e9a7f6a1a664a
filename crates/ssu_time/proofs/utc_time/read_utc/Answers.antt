use Rattle.std.proofs.Common.{ap, Some, arith}
use Rattle.ssu_time.proofs.UtcLemmas.{same_utc, utc_bytes-parts}
use Rattle.ssu_time.proofs.utc_time.read_utc.Goals as goal

pub returns-clause-only : goal.returns-clause-only
returns-clause-only c = λ t _ spelled.
    let parts = utc_bytes-parts c.args.bytes.now t.mjd t.second _ _ _ spelled t.in_day c.in_ok-hour.ensures.value c.in_ok-minute.ensures.value c.in_ok-second.ensures.value in
    ap Some (same_utc _ t (omega arith) parts.1)
