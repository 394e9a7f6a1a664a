use Rattle.std.proofs.Common.{◌≡◌, ◌*◌, ◌/◌, ◌%◌, ◌^◌, sym, ap, ◌∙◌, arith}
use Rattle.crc_join.proofs.Sums.{sum_start, sum_same, sum_more, rest_more, sum_all, even}
use Rattle.crc_join.proofs.columns.sum_of.Goals.{then-rest-eq1, else-rest-eq1}
use Rattle.crc_join.proofs.columns.sum_of.Goals as goal

pub loop-column-init : goal.loop-column-init
loop-column-init c = record {
  rest = omega arith;
  sum = λ len are. sum_start (8 * len) c.args.register;
}

pub loop-column-preserved : goal.loop-column-preserved
loop-column-preserved c = record {
  rest = rest_more c.args.register c.loop-column.column-index c.loop-column.rest c.loop-column.invariant.rest;
  sum = λ len are.
      let x = c.args.register in
      let i = c.loop-column.column-index in
      let bit : c.loop-column.rest % 2 ≡ x / 2 ^ i % 2 = ap (λ r. r % 2) c.loop-column.invariant.rest in
      let before = c.loop-column.invariant.sum len are in
      elim c.if-rest-eq1.branch [
        | then-rest-eq1 w ↦ w.sum-is ∙ sum_more (8 * len) x i c.loop-column.sum _ (sym bit ∙ w.if-rest-eq1.true) (are.each i c.loop-column-test.true) before
        | else-rest-eq1 w ↦ w.sum-is ∙ sum_same (8 * len) x i c.loop-column.sum (sym bit ∙ even c.loop-column.rest w.if-rest-eq1.false) before
      ];
}

pub returns : goal.returns
returns c = λ len are. sum_all (8 * len) c.args.register c.loop-column.column-index c.loop-column.sum c.ranges.register.fits c.loop-column-test.false (c.loop-column.invariant.sum len are)
