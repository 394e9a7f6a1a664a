use Rattle.std.proofs.Common.{refl}
use Rattle.dsmcc_msg.proofs.Exact.{ddb_exact}
use Rattle.dsmcc_msg.specs.View.{ddb_view}
use Rattle.section_kind.proofs.Reading.{unread}
use Rattle.section_kind.proofs.readers.block.Goals as goal

pub returns-in_err-_ddb : goal.returns-in_err-_ddb
returns-in_err-_ddb c =
    let e = unread ddb_exact c.args.section.now (λ d s. let k = c.in_err-_ddb.ensures.only d s in cc) in
    rw e c.from_residual.ensures

pub returns : goal.returns
returns c = let e = ddb_exact.again (ddb_view c.in_ok-_ddb._ddb) c.args.section.now c.in_ok-_ddb.ensures.found in rw e refl
