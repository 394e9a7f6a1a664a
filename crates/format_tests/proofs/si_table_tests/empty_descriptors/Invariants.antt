use Rattle.si_desc.specs.Descriptors.{IsRow}
use Rattle.format_tests.proofs.si_table_tests.empty_descriptors.Given as goal

abbrev pub invariant-loop : goal.invariant-loop
invariant-loop l = IsRow l.row.items
