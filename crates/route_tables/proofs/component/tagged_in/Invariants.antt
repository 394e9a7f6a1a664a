use Rattle.std.proofs.Common.{◌≡◌, ◌++◌, map}
use Rattle.std.specs.List.{filter_map}
use Rattle.wire.specs.Items.{items_of}
use Rattle.si_table.specs.Tables.{stream}
use Rattle.si_table.specs.Views.{pmt_view}
use Rattle.route_tables.specs.Said.{tagged_stream}
use Rattle.route_tables.specs.Standing.{tagged_view}
use Rattle.route_tables.proofs.component.tagged_in.Given as goal

abbrev pub invariant-loop-stream : goal.invariant-loop-stream
invariant-loop-stream l =
    map tagged_view l.streams.items ++ filter_map tagged_stream (items_of stream l.stream-iterator)
    ≡ filter_map tagged_stream (pmt_view l.pmt).streams
