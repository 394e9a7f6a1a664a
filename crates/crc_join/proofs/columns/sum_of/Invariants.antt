use Rattle.std.proofs.Common.{◌≡◌, ℕ, ◌*◌, ◌/◌, ◌%◌, ◌^◌}
use Rattle.crc_join.specs.Columns.{zero_bits, AreColumns}
use Rattle.crc_join.proofs.columns.sum_of.Given as goal

abbrev pub invariant-loop-column : goal.invariant-loop-column
invariant-loop-column l = record {
  rest : l.rest ≡ l.register / 2 ^ l.column-index;
  sum : (len : ℕ) → AreColumns len l.columns → l.sum ≡ zero_bits (8 * len) (l.register % 2 ^ l.column-index);
}
