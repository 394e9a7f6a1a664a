use Rattle.std.proofs.Common.{List, ℕ, arith, subst, sym}
use Rattle.dsmcc_msg.specs.Control.{dsi}
use Rattle.dsmcc_msg.specs.Exact.{group_entry_exact}
use Rattle.dsmcc_msg.proofs.RowLaws.{row_lists}
use Rattle.dsmcc_msg.proofs.Back.{IsDsi, dsi_back}
use Rattle.dsmcc_msg.proofs.dsi_writer.DsiWriter.finish.Goals as goal

pub returns-in-Ok-clause-read_back : goal.returns-in-Ok-clause-read_back
returns-in-Ok-clause-read_back c =
    let row = c.self.invariant in
    let lists = row_lists group_entry_exact c.self.inside.count c.self.inside.groups.items row.whole in
    let count = lists.as_many in
    let few = row.few in
    let is : IsDsi c.args.self = subst IsDsi c.self.view_is (record { transaction = omega arith; few = omega arith; room = row.room; each = lists.each }) in
    subst (λ (u : List ℕ). dsi.Spells (record { transaction = c.args.self.transaction; groups = c.args.self.groups }) u) (sym c.in-Ok.ensures) (dsi_back c.args.self is)
