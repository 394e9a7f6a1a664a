-- The format reads what is spelled so, and nothing else.
use Rattle.std.specs.Prelude.{refl}
use Rattle.wire.specs.Exact.{IsFront}
use Rattle.wire.proofs.Laws.{reads_exact, such_exact}
use Rattle.wire.proofs.Numbers.{raw_exact}
use Rattle.ssu_time.specs.UtcField.{is_time, time_fields, utc}

pub utc_exact : IsFront utc
unfolding utc
utc_exact = reads_exact time_fields (such_exact is_time (raw_exact 5 refl))
