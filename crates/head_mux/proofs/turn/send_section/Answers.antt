use Rattle.std.proofs.Common.{◌≡◌, ◌∙◌, List, ℕ, refl, ap, sym}
use Rattle.ts_section.specs.TimedSection.{TimedSection}
use Rattle.ts_section.specs.Cut.{payload_count, with_pointer}
use Rattle.head_mux.specs.Sent.{section_at}
use Rattle.head_mux.proofs.Order.{length_cut, section_read}
use Rattle.head_mux.proofs.turn.send_section.Goals as goal

pub returns-clause-count : goal.returns-clause-count
returns-clause-count g c =
    let read : c.index-list-index.result ≡ section_at c.args.list.now c.args.index =
    section_read c.args.list.now c.args.index _ c.index-list-index.result c.index-list-index.is c.requires.index refl in
    let bytes : c.deref-2.result.now ≡ (section_at c.args.list.now c.args.index).bytes =
    c.deref-2.ensures.value ∙ ap (λ (s : TimedSection). s.bytes) (c.section.view_is ∙ read) in
    c.packet_count-count.ensures.count ∙ ap (λ (v : List ℕ). payload_count (with_pointer v)) bytes ∙ sym (length_cut _ _ _)
