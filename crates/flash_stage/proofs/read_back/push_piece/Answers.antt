use Rattle.std.proofs.Common.{◌≡◌, ◌++◌, List, ℕ, length, sym, ap, ◌∙◌, rules}
use Rattle.ts_crc.specs.Crc.{crc_of}
use Rattle.flash_stage.proofs.InBankLemmas.{read_part}
use Rattle.flash_stage.proofs.read_back.push_piece.Goals as goal

pub returns-clause-join : goal.returns-clause-join
returns-clause-join g c tells before is =
    let size : length c.peek.new.buf ≡ length c.args.piece.now = search rules in
    c.push.ensures.join before is
    ∙ ap (λ (xs : List ℕ). crc_of (before ++ xs)) (sym (read_part c.args.bank.now (g.F.Flash.contents c.args.flash.now) c.peek.new.buf c.args.at (length c.args.piece.now)
    (c.requires.lent.fits tells) size c.requires.inside (c.in_ok-peek.ensures.bytes tells)))
