use Rattle.flash_dev.specs.Changes.{IsTornProgram}
use Rattle.flash_layout.specs.Journal.{mark_written}
use Rattle.flash_kept.proofs.OfferLaws.{done_marking, left_filling, left_marking}
use Rattle.flash_kept.proofs.laws.blank_place_is_filled_and_marked.Goals as goal

pub returns : goal.returns
returns c = record {
  filling = λ area dii message p bytes x y is changes. left_filling area dii message p bytes x is y changes;
  marking = λ area dii message p bytes x z y is filled changes. left_marking area dii message p bytes x is z filled y (IsTornProgram mark_written) changes;
  done = λ area dii message p bytes x z y is filled changes. done_marking area dii message p bytes x is z filled y changes;
}
