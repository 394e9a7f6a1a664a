use Rattle.group_image.specs.Image.{IsFor}
use Rattle.box_tests.proofs.group_image_tests.places_come_in_any_order.Given as goal

abbrev pub invariant-loop-id : goal.invariant-loop-id
invariant-loop-id g l = IsFor l.plan l.image
