use Rattle.std.proofs.Common.{refl, ap, ◌∙◌, arith}
use Rattle.ts_crc.specs.Crc.{after_bit}
use Rattle.crc_join.specs.Columns.{zero_bits}
use Rattle.crc_join.proofs.Sums.{zeros_more}
use Rattle.crc_join.proofs.columns.first_column.Goals as goal

pub loop-init : goal.loop-init
unfolding zero_bits
loop-init c = refl

pub loop-preserved : goal.loop-preserved
loop-preserved c = c.after_zero-column.ensures ∙ ap (λ r. after_bit r 0) c.loop.invariant ∙ zeros_more c.loop.counter 1

pub returns : goal.returns
returns c = c.loop.invariant ∙ ap (λ k. zero_bits k 1) (omega (arith, c.loop-test.false, c.loop.auto.counter-end))
