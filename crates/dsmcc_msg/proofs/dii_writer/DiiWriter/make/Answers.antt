use Rattle.std.proofs.Common.{◌≡◌, List, ℕ, ap, sym, ◌∙◌, subst, false}
use Rattle.std.specs.Prelude.{IfOk}
use Rattle.section_form.specs.Long.{LongFields}
use Rattle.section_form.specs.Written.{long_bytes}
use Rattle.dsmcc_msg.specs.Control.{dii_id}
use Rattle.dsmcc_msg.specs.Exact.{module_entry_exact}
use Rattle.dsmcc_msg.proofs.RowLaws.{row_lists}
use Rattle.dsmcc_msg.specs.Written.{control_head, dii_payload_bytes, dii_head, dii_bytes}
use Rattle.dsmcc_msg.proofs.dii_writer.DiiWriter.make.Goals as goal

-- the head of the section is that of the draft
head_is : (c : goal.After-drop-payload) → control_head dii_id c.self.inside.transaction c.deref-2.result.now ≡ dii_head c.args.self.now
head_is c =
    let bytes = c.self.inside.modules.items in
    let lists = row_lists module_entry_exact c.self.inside.count bytes c.self.invariant.whole in
    ap (λ (p : List ℕ). control_head dii_id c.self.inside.transaction p) (
    c.deref-2.ensures.value ∙ c.in_ok-payload.ensures {u = tt}
    ∙ ap (λ (u : List ℕ). dii_payload_bytes c.self.inside.download c.self.inside.block_size c.self.inside.count u) c.deref.ensures.value
    ∙ ap (λ (n : ℕ). dii_payload_bytes c.self.inside.download c.self.inside.block_size n bytes) (sym lists.as_many))
    ∙ ap dii_head c.self.view_is

pub returns : goal.returns
unfolding dii_bytes
returns c = subst (λ (h : LongFields). IfOk c.control_section.result (λ s. s.items ≡ long_bytes false h)) (head_is c) c.control_section.ensures
