use Rattle.ssu_route.proofs.Choices.{carousel_same, carousel_stands, section_joins, section_passes, window-none, window_empty}
use Rattle.ssu_route.proofs.laws.windows_grow.Goals as goal

pub returns : goal.returns
returns c = record {
  none = window-none;
  joins = section_joins;
  passes = section_passes;
  empty = window_empty;
  carousel = carousel_same;
  pid = carousel_stands;
}
