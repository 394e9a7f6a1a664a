use Rattle.std.proofs.Common.{◌≡◌, List, ℕ, ap, sym, ◌∙◌, subst, false}
use Rattle.std.specs.Prelude.{IfOk}
use Rattle.section_form.specs.Long.{LongFields}
use Rattle.section_form.specs.Written.{long_bytes}
use Rattle.dsmcc_msg.specs.Control.{dsi_id}
use Rattle.dsmcc_msg.specs.Exact.{group_entry_exact}
use Rattle.dsmcc_msg.proofs.RowLaws.{row_lists}
use Rattle.dsmcc_msg.specs.Written.{control_head, dsi_payload_bytes, dsi_head, dsi_bytes}
use Rattle.dsmcc_msg.proofs.dsi_writer.DsiWriter.make.Goals as goal

-- the head of the section is that of the draft
head_is : (c : goal.After-drop-payload) → control_head dsi_id c.self.inside.transaction c.deref-2.result.now ≡ dsi_head c.args.self.now
head_is c =
    let bytes = c.self.inside.groups.items in
    let lists = row_lists group_entry_exact c.self.inside.count bytes c.self.invariant.whole in
    ap (λ (p : List ℕ). control_head dsi_id c.self.inside.transaction p) (
    c.deref-2.ensures.value ∙ c.in_ok-payload.ensures {u = tt}
    ∙ ap (λ (u : List ℕ). dsi_payload_bytes c.self.inside.count u) c.deref.ensures.value
    ∙ ap (λ (n : ℕ). dsi_payload_bytes n bytes) (sym lists.as_many))
    ∙ ap dsi_head c.self.view_is

pub returns : goal.returns
unfolding dsi_bytes
returns c = subst (λ (h : LongFields). IfOk c.control_section.result (λ s. s.items ≡ long_bytes false h)) (head_is c) c.control_section.ensures
