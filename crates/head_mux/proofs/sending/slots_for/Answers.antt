use Rattle.std.proofs.Common.{max, take, ap, ap₂, sym, ◌∙◌, arith}
use Rattle.std.proofs.lemmas.List.{take_more}
use Rattle.ts_section.specs.TimedSection.{TimedSection}
use Rattle.head_mux.specs.Sent.{greatest_period}
use Rattle.head_mux.proofs.Queue.{greatest_more}
use Rattle.head_mux.proofs.sending.slots_for.Goals as goal

pub loop-section-preserved : goal.loop-section-preserved
loop-section-preserved c =
    let at = c.loop-section-test.true in
    let list = c.args.list.now in
    let i = c.loop-section.section-index in
    let more = ap greatest_period (take_more list i c.section-item.result (omega arith)) ∙ greatest_more (take i list) _ in
    let same = ap (λ (s : TimedSection). s.period) (c.section.view_is ∙ c.section-item.is) in
    let so_far = c.loop-section.invariant.greatest in
    record {
      greatest = c.max-greatest.ensures ∙ ap₂ max same so_far ∙ sym more;
      fits = c.max-greatest.type_inv;
    }
