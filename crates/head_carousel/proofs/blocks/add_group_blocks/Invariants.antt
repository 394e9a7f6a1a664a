use Rattle.std.proofs.Common.{◌≡◌, ◌++◌, take}
use Rattle.std.specs.Prelude.{map}
use Rattle.std.specs.List.{All, flat_map}
use Rattle.head_carousel.specs.Blocks.{module_blocks}
use Rattle.head_carousel.specs.GroupFiles.{numbered}
use Rattle.head_carousel.specs.Signals.{timed}
use Rattle.head_carousel.specs.WellMade.{IsReady}
use Rattle.head_carousel.proofs.blocks.add_group_blocks.Given as goal

abbrev pub invariant-loop-index : goal.invariant-loop-index
invariant-loop-index l = record {
  added : l.list.items ≡ l.initial.list.items ++ map (timed l.fn.rhythm.pid l.fn.rhythm.period) (flat_map (module_blocks l.fn.group) (numbered 1 (take l.index l.fn.group.files)));
  ready : All IsReady l.initial.list.items → All IsReady l.list.items;
}
