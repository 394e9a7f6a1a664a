use Rattle.tool_load.proofs.BlocksLaws.{holds_none}
use Rattle.tool_load.proofs.GrowingLaws.{none_reached}
use Rattle.tool_load.proofs.blocks.Blocks.new.Goals as goal

pub returns-clause-none : goal.returns-clause-none
returns-clause-none c = holds_none _ _ c.in_ok-image.ensures.plan c.in_ok-image.ensures.none

pub invariant_of-result : goal.invariant_of-result
invariant_of-result c = record {
  is_for = c.in_ok-image.ensures.plan;
  reaches = none_reached c.args.plan c.in_ok-image.image c.in_ok-image.ensures.plan c.in_ok-image.ensures.none;
  summed = c.in_ok-sums.ensures c.in_ok-image.image;
}
