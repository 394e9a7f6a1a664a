use Rattle.std.proofs.Common.{◌*◌, refl, ap, ◌∙◌, arith, rules}
use Rattle.ts_crc.specs.Crc.{after_bit}
use Rattle.crc_join.proofs.Sums.{zeros_start, column_more, written_column}
use Rattle.crc_join.proofs.columns.columns_of.Goals as goal

pub loop-i-init : goal.loop-i-init
loop-i-init c = record {
  all = refl;
  column = c.first_column-column.ensures ∙ zeros_start (8 * c.args.len);
  each = λ k below. absurd (omega (arith, below));
}

pub loop-i-preserved : goal.loop-i-preserved
loop-i-preserved c = record {
  all = search rules;
  column = c.after_zero-column.ensures ∙ ap (λ r. after_bit r 0) c.loop-i.invariant.column ∙ column_more (8 * c.args.len) c.loop-i.i;
  each = written_column (8 * c.args.len) c.loop-i.columns c.loop-i.i c.loop-i.column c.loop-i.invariant.all c.loop-i-test.true c.loop-i.invariant.column c.loop-i.invariant.each;
}
