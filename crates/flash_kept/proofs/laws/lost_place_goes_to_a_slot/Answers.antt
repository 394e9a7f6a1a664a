use Rattle.flash_kept.proofs.OfferLaws.{done_sparing, left_sparing}
use Rattle.flash_kept.proofs.laws.lost_place_goes_to_a_slot.Goals as goal

pub returns : goal.returns
returns c = record {
  sparing = λ area dii message p bytes x y s is below free lost changes. left_sparing area dii message p bytes x is s below free lost y changes;
  done = λ area dii message p bytes x y s is below free lost changes head. done_sparing area dii message p bytes x is s below free lost y changes head;
}
