use Rattle.std.specs.Prelude.{IsTrue}
use Rattle.format_tests.proofs.ssu_unt_tests.table.Given as goal

abbrev pub invariant-pairs : goal.invariant-pairs
invariant-pairs l = IsTrue l.writer.begun
