use Rattle.std.proofs.Common.{refl}
use Rattle.dsmcc_msg.proofs.Exact.{dsi_exact}
use Rattle.section_kind.proofs.Reading.{unread}
use Rattle.section_kind.proofs.readers.dsi.Goals as goal

pub returns-in_err-_dsi : goal.returns-in_err-_dsi
returns-in_err-_dsi c =
    let e = unread dsi_exact c.args.section.now (λ d s. let k = c.in_err-_dsi.ensures.only d s in cc) in
    rw e c.from_residual.ensures

pub returns : goal.returns
returns c = let e = dsi_exact.again c.in_ok-_dsi._dsi c.args.section.now c.in_ok-_dsi.ensures.found in rw e refl
