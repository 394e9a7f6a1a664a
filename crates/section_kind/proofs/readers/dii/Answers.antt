use Rattle.std.proofs.Common.{refl}
use Rattle.dsmcc_msg.proofs.Exact.{dii_exact}
use Rattle.section_kind.proofs.Reading.{unread}
use Rattle.section_kind.proofs.readers.dii.Goals as goal

pub returns-in_err-_dii : goal.returns-in_err-_dii
returns-in_err-_dii c =
    let e = unread dii_exact c.args.section.now (λ d s. let k = c.in_err-_dii.ensures.only d s in cc) in
    rw e c.from_residual.ensures

pub returns : goal.returns
returns c = let e = dii_exact.again c.in_ok-_dii._dii c.args.section.now c.in_ok-_dii.ensures.found in rw e refl
