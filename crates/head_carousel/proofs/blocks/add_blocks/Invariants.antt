use Rattle.std.proofs.Common.{◌≡◌, ◌++◌, take}
use Rattle.std.specs.Prelude.{map}
use Rattle.std.specs.List.{All}
use Rattle.head_carousel.specs.Blocks.{all_blocks}
use Rattle.head_carousel.specs.Signals.{timed}
use Rattle.head_carousel.specs.WellMade.{IsReady}
use Rattle.head_carousel.proofs.blocks.add_blocks.Given as goal

abbrev pub invariant-loop-group : goal.invariant-loop-group
invariant-loop-group l = record {
  added : l.list.items ≡ l.initial.list.items ++ map (timed l.fn.rhythm.pid l.fn.rhythm.period) (all_blocks (take l.group-index l.groups));
  ready : All IsReady l.initial.list.items → All IsReady l.list.items;
}
