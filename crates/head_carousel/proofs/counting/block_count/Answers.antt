use Rattle.std.proofs.Common.{length, take, ap, arith}
use Rattle.std.proofs.lemmas.List.{length-append}
use Rattle.std.proofs.lemmas.Result.{err_from_is_err_and}
use Rattle.head_carousel.specs.Blocks.{all_blocks, group_blocks}
use Rattle.head_carousel.proofs.ListLaws.{flat_more}
use Rattle.head_carousel.proofs.RefusalLaws.{all_short, groups_long_here, groups_short_more}
use Rattle.head_carousel.proofs.counting.block_count.Goals as goal

pub returns-in_err-count-clause-long : goal.returns-in_err-count-clause-long
returns-in_err-count-clause-long c =
    let p = err_from_is_err_and c.from_residual.result c.from_residual.ensures.1 in
    let long = groups_long_here c.args.groups.now c.loop-group.group-index c.group-item.result _ c.loop-group-test.true c.group-item.is c.loop-group.invariant.short c.in_err-count.ensures.long in
    rw (p.1, p.2) long

pub loop-group-preserved : goal.loop-group-preserved
loop-group-preserved c =
    let gs = c.args.groups.now in
    let i = c.loop-group.group-index in
    let more = ap length (flat_more group_blocks gs i c.group-item.result c.loop-group-test.true c.group-item.is) in
    let l = length-append (all_blocks (take i gs)) (group_blocks c.group-item.result) in
    record {
      short = groups_short_more gs i c.group-item.result c.loop-group-test.true c.group-item.is c.loop-group.invariant.short c.in_ok-count.ensures.short;
      count = omega (arith, more, l, c.loop-group.invariant.count, c.in_ok-count.ensures.all);
      room = omega (arith, c.loop-group.invariant.room, c.in_ok-count.ensures.room);
    }

pub returns-clause-short : goal.returns-clause-short
returns-clause-short c = all_short c.args.groups.now c.loop-group.group-index (omega arith) c.loop-group.invariant.short
