use Rattle.std.proofs.Common.{◌+◌, ◌≤◌, get_or, sym, ◌∙◌, arith}
use Rattle.flash_journal.proofs.PlanLaws.{begins, block_inside, blocks_left, bytes_left, here_is, later_is, none, nothing_left}
use Rattle.flash_journal.proofs.places.nth_place.Goals as goal

pub block_place-requires-clause-begins : goal.block_place-requires-clause-begins
block_place-requires-clause-begins c =
    let plan = c.args.plan.now in
    let l = c.loop-module in
    block_inside plan.block_size l.at l.first c.as_slice-module-items.result.now l.module-index c.loop-module-test.true l.invariant.joined c.args.number plan.planned.least c.if-number-first.true

pub returns-then-number-first : goal.returns-then-number-first
returns-then-number-first c =
    let plan = c.args.plan.now in
    let l = c.loop-module in
    here_is plan.block_size l.at l.first c.as_slice-module-items.result.now l.module-index c.loop-module-test.true l.invariant.joined c.args.number c.block_place.result
    l.invariant.past c.if-number-first.true c.block_place.ensures.number c.block_place.ensures.at c.block_place.ensures.len
    ∙ l.invariant.rest

pub loop-module-preserved : goal.loop-module-preserved
loop-module-preserved c =
    let plan = c.args.plan.now in
    let b = plan.block_size in
    let l = c.loop-module in
    let items = c.as_slice-module-items.result.now in
    let i = l.module-index in
    let lt = c.loop-module-test.true in
    let bytes = bytes_left b l.at l.first items i lt l.invariant.joined in
    let blocks = blocks_left b l.at l.first items i lt l.invariant.joined in
    let all_bytes = l.invariant.bytes in
    let all_blocks = l.invariant.blocks in
    let past : l.first + (get_or items i none).blocks ≤ c.args.number = omega (arith, c.if-number-first.false, l.invariant.past) in
    record {
      items = l.invariant.items;
      joined = (begins b l.at l.first items i lt l.invariant.joined).others;
      bytes = omega (arith, bytes, all_bytes);
      blocks = omega (arith, blocks, all_blocks);
      past = past;
      rest = later_is b l.at l.first items i lt l.invariant.joined c.args.number past ∙ l.invariant.rest;
    }

pub returns : goal.returns
returns c =
    let plan = c.args.plan.now in
    sym (nothing_left plan.block_size c.args.number c.as_slice-module-items.result.now c.loop-module.module-index c.loop-module-test.false) ∙ c.loop-module.invariant.rest
