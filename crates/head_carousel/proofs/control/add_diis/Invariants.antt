use Rattle.std.proofs.Common.{◌≡◌, ◌++◌, take}
use Rattle.std.specs.Prelude.{map}
use Rattle.std.specs.List.{All}
use Rattle.head_carousel.specs.Control.{dii_section}
use Rattle.head_carousel.specs.Signals.{timed}
use Rattle.head_carousel.specs.WellMade.{IsReady}
use Rattle.head_carousel.proofs.control.add_diis.Given as goal

abbrev pub invariant-loop-group : goal.invariant-loop-group
invariant-loop-group l = record {
  added : l.list.items ≡ l.initial.list.items ++ map (λ g. timed l.pid l.period (dii_section g)) (take l.group-index l.groups);
  ready : All IsReady l.initial.list.items → All IsReady l.list.items;
}
