use Rattle.std.proofs.Common.{◌≡◌, ◌-◌, ◌+◌, ◌<◌, ◌≤◌, ◌++◌, length, drop, sym, ap, ◌∙◌, arith, length-append, Some}
use Rattle.std.specs.Prelude.{slice_get}
use Rattle.head_plan.specs.Plans.{GroupData, mentions}
use Rattle.head_plan.proofs.MentionLemmas.{mentions-drop, slice_get-front, slice_get-back}
use Rattle.head_plan.proofs.mentions.file_in.Goals as goal

pub returns-then-left-count : goal.returns-then-left-count
returns-then-left-count c =
    let gs = c.args.groups.now in
    let i = c.loop-group.group-index in
    let files : c.group.inside.modules ≡ c.group-item.result.modules = ap (λ (g : GroupData). g.modules) c.group.view_is in
    let split : mentions (drop i gs) ≡ c.group.inside.modules ++ mentions (drop (i + 1) gs) = rw files (mentions-drop gs i c.group-item.result c.loop-group-test.true c.group-item.is) in
    let low : c.loop-group.left < length c.group.inside.modules = omega arith in
    let here : slice_get (mentions (drop i gs)) c.loop-group.left ≡ Some c.name.result.bytes = rw split (slice_get-front _ _ _ low ∙ c.name.ensures) in
    sym c.loop-group.invariant.same ∙ here

pub loop-group-preserved : goal.loop-group-preserved
loop-group-preserved c =
    let gs = c.args.groups.now in
    let i = c.loop-group.group-index in
    let files : c.group.inside.modules ≡ c.group-item.result.modules = ap (λ (g : GroupData). g.modules) c.group.view_is in
    let split : mentions (drop i gs) ≡ c.group.inside.modules ++ mentions (drop (i + 1) gs) = rw files (mentions-drop gs i c.group-item.result c.loop-group-test.true c.group-item.is) in
    let high : length c.group.inside.modules ≤ c.loop-group.left = omega arith in
    let back : slice_get (mentions (drop i gs)) c.loop-group.left ≡ slice_get (mentions (drop (i + 1) gs)) (c.loop-group.left - length c.group.inside.modules) = rw split (slice_get-back _ _ _ high) in
    record {
      same = rw c.count-count.ensures.value (sym back ∙ c.loop-group.invariant.same);
      within = omega (arith, ap length split, length-append c.group.inside.modules (mentions (drop (i + 1) gs)));
    }
