use Rattle.std.proofs.Common.{◌≡◌, ◌-◌, ◌++◌}
use Rattle.std.specs.Prelude.{map}
use Rattle.std.specs.List.{All, range_with_len}
use Rattle.dsmcc_msg.specs.Written.{ddb_bytes}
use Rattle.head_carousel.specs.Blocks.{block_count, ddb_fields}
use Rattle.head_carousel.specs.Signals.{timed}
use Rattle.head_carousel.specs.WellMade.{IsReady}
use Rattle.head_carousel.proofs.blocks.add_module_blocks.Given as goal

abbrev pub invariant-loop-k : goal.invariant-loop-k
invariant-loop-k l = record {
  added : l.list.items ≡ l.initial.list.items ++ map (timed l.fn.rhythm.pid l.fn.rhythm.period)
      (map (λ k. ddb_bytes (ddb_fields l.fn.group (l.fn.id, l.fn.file) k) (block_count l.fn.group.group.block_size l.fn.file - 1)) (range_with_len 0 l.k));
  ready : All IsReady l.initial.list.items → All IsReady l.list.items;
}
