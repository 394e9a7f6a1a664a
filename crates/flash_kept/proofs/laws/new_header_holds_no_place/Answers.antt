use Rattle.flash_kept.proofs.HeadLaws.{head_free, head_holds, head_lost, head_stages, header_done}
use Rattle.flash_kept.proofs.laws.new_header_holds_no_place.Goals as goal

pub returns : goal.returns
returns c = record {
  torn = head_holds;
  stands = λ area message y dii order next some few bytes stands reads usable places. header_done area message y next some few bytes stands dii order reads usable places;
  staged = λ area x y message dii order fits erased changes held. head_stages area x y order fits erased changes dii message held;
  none_lost = λ area x y message dii order fits erased changes held. head_lost area x y order fits erased changes dii message held;
  all_free = head_free;
}
