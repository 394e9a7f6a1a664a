use Rattle.std.proofs.Common.{ap, ◌∙◌, take}
use Rattle.std.specs.Prelude.{map}
use Rattle.std.proofs.lemmas.List.{map-append}
use Rattle.head_carousel.specs.Blocks.{all_blocks, group_blocks}
use Rattle.head_carousel.specs.Signals.{timed}
use Rattle.head_carousel.proofs.ListLaws.{flat_more, grown_to}
use Rattle.head_carousel.proofs.blocks.add_blocks.Goals as goal

pub loop-group-preserved : goal.loop-group-preserved
loop-group-preserved c =
    let gs = c.args.groups.now in
    let i = c.loop-group.group-index in
    let t = timed c.args.rhythm.now.pid c.args.rhythm.now.period in
    let more = ap (map t) (flat_more group_blocks gs i c.group-item.result c.loop-group-test.true c.group-item.is) ∙ map-append t (all_blocks (take i gs)) (group_blocks c.group-item.result) in
    record {
      added = grown_to _ _ _ _ _ _ c.loop-group.invariant.added c.in_ok-add_group_blocks.ensures.added more;
      ready = λ all. c.in_ok-add_group_blocks.ensures.ready (c.loop-group.invariant.ready all);
    }
