use Rattle.std.proofs.Common.{◌≡◌, ℕ, ◌*◌, ◌^◌, ◌<◌, length, get_or}
use Rattle.crc_join.specs.Columns.{zero_bits}
use Rattle.crc_join.proofs.columns.columns_of.Given as goal

abbrev pub invariant-loop-i : goal.invariant-loop-i
invariant-loop-i l = record {
  all : length l.columns ≡ 32;
  column : l.column ≡ zero_bits (8 * l.len) (zero_bits l.i 1);
  each : (k : ℕ) → k < l.i → get_or l.columns k 0 ≡ zero_bits (8 * l.len) (2 ^ k);
}
