use Rattle.head_carousel.specs.Control.{dii_section}
use Rattle.head_carousel.specs.Signals.{timed}
use Rattle.head_carousel.proofs.ListLaws.{grown_to, map_more}
use Rattle.head_carousel.proofs.control.add_diis.Goals as goal

pub loop-group-preserved : goal.loop-group-preserved
loop-group-preserved c =
    let more = map_more (λ g. timed c.args.pid c.args.period (dii_section g)) c.args.groups.now c.loop-group.group-index c.group-item.result c.loop-group-test.true c.group-item.is in
    let added = c.in_ok-add.ensures.added in
    record {
      added = grown_to _ _ _ _ _ _ c.loop-group.invariant.added (rw c.in_ok-dii.ensures.made at added) more;
      ready = λ all. c.in_ok-add.ensures.ready (c.loop-group.invariant.ready all);
    }
