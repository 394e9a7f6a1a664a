use Rattle.std.proofs.Common.{List, ℕ, arith, subst, sym}
use Rattle.dsmcc_msg.specs.Control.{dii}
use Rattle.dsmcc_msg.specs.Exact.{module_entry_exact}
use Rattle.dsmcc_msg.proofs.RowLaws.{row_lists}
use Rattle.dsmcc_msg.specs.Written.{dii_of}
use Rattle.dsmcc_msg.proofs.Back.{IsDii, dii_back}
use Rattle.dsmcc_msg.proofs.dii_writer.DiiWriter.finish.Goals as goal

pub returns-in-Ok-clause-read_back : goal.returns-in-Ok-clause-read_back
returns-in-Ok-clause-read_back c =
    let row = c.self.invariant in
    let lists = row_lists module_entry_exact c.self.inside.count c.self.inside.modules.items row.whole in
    let count = lists.as_many in
    let few = row.few in
    let is : IsDii c.args.self = subst IsDii c.self.view_is (record { transaction = omega arith; download = omega arith; block_size = omega arith; few = omega arith; room = row.room; each = lists.each }) in
    subst (λ (u : List ℕ). dii.Spells (dii_of c.args.self) u) (sym c.in-Ok.ensures) (dii_back c.args.self is)
