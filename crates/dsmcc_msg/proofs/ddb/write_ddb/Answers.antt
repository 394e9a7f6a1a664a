use Rattle.std.proofs.Common.{List, ℕ, arith, subst, sym}
use Rattle.dsmcc_msg.specs.Block.{ddb}
use Rattle.dsmcc_msg.specs.View.{ddb_view}
use Rattle.dsmcc_msg.proofs.Back.{IsDdb, ddb_back}
use Rattle.dsmcc_msg.proofs.ddb.write_ddb.Goals as goal

pub returns-clause-read_back : goal.returns-clause-read_back
returns-clause-read_back c =
    let d = ddb_view c.args.ddb in
    let is : IsDdb d = record { download = omega arith; module_id = omega arith; version = omega arith; block = omega arith; bytes = c.requires.short } in
    subst (λ (u : List ℕ). ddb.Spells d u) (sym (c.in_ok-section.ensures {u = tt})) (ddb_back d c.args.last_block is)
