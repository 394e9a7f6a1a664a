use Rattle.std.proofs.Common.{◌≡◌, ◌+◌, ◌≤◌, List, ℕ, ◌++◌, length, arith, sym, subst, refl, ap, ◌∙◌}
use Rattle.dsmcc_msg.specs.Control.{module_entry}
use Rattle.dsmcc_msg.specs.Exact.{module_entry_exact}
use Rattle.dsmcc_msg.specs.Written.{IsRow, module_bytes}
use Rattle.dsmcc_msg.proofs.RowLaws.{row_add, row_more}
use Rattle.dsmcc_msg.proofs.Back.{module_put}
use Rattle.dsmcc_msg.proofs.dii_writer.DiiWriter.module.Goals as goal

piece : goal.After-drop-piece-2 → List ℕ
piece c = module_bytes c.args.id c.args.size c.args.version c.args.info.now

new_bytes : (c : goal.After-drop-piece-2) → c.extend_from_slice.new.self.items ≡ c.self.inside.modules.items ++ piece c
unfolding piece
new_bytes c = (c.in_ok-extend_from_slice.ensures {u = tt}).items ∙ ap (λ (u : List ℕ). c.self.inside.modules.items ++ u) (c.deref.ensures.value ∙ c.in_ok-piece.ensures {u = tt})

room : (c : goal.After-drop-piece-2) → length c.self.inside.modules.items + 8 + length c.args.info.now ≤ 4050
room c = let sum = c.if-not-fits.ensures.0 refl in let len = c.self.inside.modules.ok.0 in omega arith

spelled : (c : goal.After-drop-piece-2) → module_entry.Spells (record { id = c.args.id; size = c.args.size; version = c.args.version; info = c.args.info.now }) (piece c)
unfolding piece
spelled c = module_put c.args.id c.args.size c.args.version c.args.info.now (omega arith) (omega arith) (omega arith) (omega arith)

pub invariant_of-self-2 : goal.invariant_of-self-2
unfolding piece
invariant_of-self-2 c =
    let r = room c in
    subst (λ (bytes : List ℕ). IsRow module_entry (c.self.inside.count + 1) 4050 bytes) (sym (new_bytes c))
    (row_add module_entry_exact c.self.inside.count 4050 c.self.inside.modules.items _ (piece c) c.self.invariant (spelled c) (omega arith))

pub returns-clause-ok : goal.returns-clause-ok
unfolding piece
returns-clause-ok c =
    let more = row_more module_entry_exact c.self.inside.count c.self.inside.modules.items _ (piece c) c.self.invariant.whole (spelled c) in
    rw (← c.self.view_is, new_bytes c, more.items) refl
