use Rattle.std.proofs.Common.{◌≡◌, eqb}
use Rattle.std.specs.List.{find}
use Rattle.std.specs.Option.{option_map}
use Rattle.wire.specs.Items.{items_of}
use Rattle.si_table.specs.Tables.{program}
use Rattle.si_table.specs.Views.{pat_view}
use Rattle.route_tables.proofs.program.pid_of_number.Given as goal

abbrev pub invariant-loop-program : goal.invariant-loop-program
invariant-loop-program l =
    option_map (λ e. e.pid) (find (λ e. eqb e.number l.number) (items_of program l.program-iterator))
    ≡ option_map (λ e. e.pid) (find (λ e. eqb e.number l.number) (pat_view l.pat).programs)
