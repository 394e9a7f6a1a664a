use Rattle.std.proofs.Common.{◌≡◌, ◌+◌, ◌≤◌, List, ℕ, ◌++◌, length, arith, sym, subst, refl, ap, ◌∙◌}
use Rattle.std.proofs.lemmas.List.{length-append}
use Rattle.ssu_compat.specs.Compat.{EntryFields, compat}
use Rattle.dsmcc_msg.specs.Control.{group_entry}
use Rattle.dsmcc_msg.specs.Exact.{group_entry_exact}
use Rattle.dsmcc_msg.specs.Written.{IsRow, group_bytes}
use Rattle.dsmcc_msg.proofs.RowLaws.{row_add, row_more}
use Rattle.dsmcc_msg.proofs.Back.{group_put}
use Rattle.dsmcc_msg.proofs.dsi_writer.DsiWriter.group.Goals as goal

piece : goal.After-drop-piece-2 → List ℕ
piece c = group_bytes c.args.id c.args.size c.args.compat.now c.args.info.now

new_bytes : (c : goal.After-drop-piece-2) → c.extend_from_slice.new.self.items ≡ c.self.inside.groups.items ++ piece c
unfolding piece
new_bytes c = (c.in_ok-extend_from_slice.ensures {u = tt}).items ∙ ap (λ (u : List ℕ). c.self.inside.groups.items ++ u) (c.deref.ensures.value ∙ c.in_ok-piece.ensures {u = tt})

room : (c : goal.After-drop-piece-2) → length c.self.inside.groups.items + 10 + length c.args.compat.now + length c.args.info.now ≤ 4044
room c = let sum = c.if-not-fits.ensures.0 refl in let len = c.self.inside.groups.ok.0 in omega arith

spelled : (c : goal.After-drop-piece-2) (entries : List EntryFields) → compat.Spells entries c.args.compat.now →
    group_entry.Spells (record { id = c.args.id; size = c.args.size; compat = entries; info = c.args.info.now }) (piece c)
unfolding piece
spelled c entries s = let r = room c in group_put c.args.id c.args.size entries c.args.compat.now c.args.info.now (omega arith) (omega arith) s (omega arith)

pub invariant_of-self-2 : goal.invariant_of-self-2
unfolding piece
invariant_of-self-2 c =
    let r = room c in
    subst (λ (bytes : List ℕ). IsRow group_entry (c.self.inside.count + 1) 4044 bytes) (sym (new_bytes c))
    (row_add group_entry_exact c.self.inside.count 4044 c.self.inside.groups.items _ (piece c) c.self.invariant (spelled c c.requires.0 c.requires.1)
    (omega (arith, length-append {A = ℕ})))

pub returns-clause-ok : goal.returns-clause-ok
unfolding piece
returns-clause-ok c = λ entries s.
    let more = row_more group_entry_exact c.self.inside.count c.self.inside.groups.items _ (piece c) c.self.invariant.whole (spelled c entries s) in
    rw (← c.self.view_is, new_bytes c, more.items) refl
