use Rattle.crc_join.proofs.Sums.{zero_low, zero_high}
use Rattle.crc_join.proofs.columns.after_zero.Goals as goal

pub returns-then-register-eq0 : goal.returns-then-register-eq0
returns-then-register-eq0 c = zero_low c.args.register c.if-register-eq0.true

pub returns-else-register-eq0 : goal.returns-else-register-eq0
returns-else-register-eq0 c = zero_high c.args.register c.ranges.register.fits c.if-register-eq0.false
