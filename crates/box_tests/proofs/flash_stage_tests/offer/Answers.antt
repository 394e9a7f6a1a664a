use Rattle.std.proofs.Common.{sym, ◌∙◌}
use Rattle.group_image.proofs.ImageLaws.{placed_len}
use Rattle.box_tests.proofs.flash_stage_tests.offer.Goals as goal

pub offer-requires-clause-length : goal.offer-requires-clause-length
offer-requires-clause-length g c = placed_len c.args.plan.now _ c.in-Some.place (sym c.place.ensures.exact ∙ c.in-Some.is)
