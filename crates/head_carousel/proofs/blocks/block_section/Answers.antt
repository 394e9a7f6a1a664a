use Rattle.std.proofs.Common.{◌≤◌, length, arith}
use Rattle.std.proofs.lemmas.Result.{IfOk-weaker}
use Rattle.head_carousel.proofs.BlockLaws.{ddb_made}
use Rattle.head_carousel.proofs.blocks.block_section.Goals as goal

pub returns-clause-right : goal.returns-clause-right
returns-clause-right c =
    let few : length c.block_of.result.now ≤ 4066 = omega (arith, c.block_of.ensures.len, c.plan.invariant.block_most) in
    IfOk-weaker c.write_ddb.result _ _ (λ s e. ddb_made _ _ s.items (omega (arith, c.ranges.id)) few e) c.write_ddb.ensures.made
