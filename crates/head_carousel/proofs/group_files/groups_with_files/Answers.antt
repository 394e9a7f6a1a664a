use Rattle.std.proofs.Common.{◌≡◌, ◌+◌, ◌++◌, length, drop, ap, ◌∙◌, arith, length-append}
use Rattle.head_plan.specs.Plans.{GroupData, mentions}
use Rattle.head_plan.proofs.MentionLemmas.{mentions-drop}
use Rattle.head_carousel.proofs.GroupLaws.{groups_step, groups_end}
use Rattle.head_carousel.proofs.group_files.groups_with_files.Goals as goal

pub loop-index-preserved : goal.loop-index-preserved
loop-index-preserved c =
    let gs = c.args.groups.now in
    let i = c.loop-index.index in
    let g = c.index-groups-index.result in
    let files : c.group.inside.modules ≡ g.modules = ap (λ (x : GroupData). x.modules) c.group.view_is in
    let n : c.count.result ≡ length g.modules = c.count.ensures.value ∙ ap length files in
    let split : mentions (drop i gs) ≡ g.modules ++ mentions (drop (i + 1) gs) = mentions-drop gs i g c.loop-index-test.true c.index-groups-index.is in
    record {
      same = rw c.in_ok-push.ensures.items (groups_step _ c.loop-index.out.items gs i c.count.result g c.loop-index.rest.now _ _ _ c.loop-index-test.true c.index-groups-index.is n c.split_at.ensures.front c.split_at.ensures.back c.loop-index.invariant.same);
      count = omega (arith, c.loop-index.invariant.count, ap length split, length-append g.modules (mentions (drop (i + 1) gs)), c.split_at.ensures.back_len, n);
    }

pub returns : goal.returns
returns c = groups_end _ c.args.groups.now c.loop-index.index _ _ (omega arith) c.loop-index.invariant.same
