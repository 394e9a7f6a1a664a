use Rattle.std.proofs.Common.{◌≡◌}
use Rattle.wire.specs.Items.{items_of}
use Rattle.si_table.specs.Tables.{stream}
use Rattle.si_table.specs.Views.{pmt_view}
use Rattle.route_tables.specs.Said.{component_of, first_some}
use Rattle.route_tables.proofs.component.component_in.Given as goal

abbrev pub invariant-loop-stream : goal.invariant-loop-stream
invariant-loop-stream l =
    first_some (component_of l.oui (pmt_view l.pmt)) (items_of stream l.stream-iterator)
    ≡ first_some (component_of l.oui (pmt_view l.pmt)) (pmt_view l.pmt).streams
