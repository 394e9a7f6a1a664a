use Rattle.std.proofs.Common.{◌≡◌}
use Rattle.crc_join.specs.Columns.{zero_bits}
use Rattle.crc_join.proofs.columns.first_column.Given as goal

abbrev pub invariant-loop : goal.invariant-loop
invariant-loop l = l.column ≡ zero_bits l.counter 1
