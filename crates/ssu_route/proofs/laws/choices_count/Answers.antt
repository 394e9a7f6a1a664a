use Rattle.ssu_route.proofs.Choices.{beginnings-none, begins_exactly, none_begins, one_more_begins}
use Rattle.ssu_route.proofs.laws.choices_count.Goals as goal

pub returns : goal.returns
returns c = record {
  none = beginnings-none;
  begins = begins_exactly;
  one_more = one_more_begins;
  no_more = none_begins;
}
