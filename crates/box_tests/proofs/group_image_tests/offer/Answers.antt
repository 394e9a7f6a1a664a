use Rattle.std.proofs.Common.{sym, ◌∙◌}
use Rattle.group_image.proofs.ImageLaws.{placed_len}
use Rattle.box_tests.proofs.group_image_tests.offer.Goals as goal

pub offer-requires-clause-length : goal.offer-requires-clause-length
offer-requires-clause-length c = placed_len c.args.plan.now _ c.in-Some.place (sym c.place.ensures.exact ∙ c.in-Some.is)

pub returns-in-Some : goal.returns-in-Some
returns-in-Some c = c.offer.ensures.plan c.args.plan.now c.requires
