use Rattle.std.proofs.Common.{◌≡◌, ◌+◌, ◌++◌, List, ℕ, length, sym, ap, ◌∙◌, rules}
use Rattle.ts_crc.specs.Crc.{crc_of}
use Rattle.flash_journal.proofs.TextLaws.{read_part}
use Rattle.flash_journal.proofs.read_back.push_piece.Goals as goal

pub returns-clause-join : goal.returns-clause-join
returns-clause-join g c tells before is =
    let size : length c.read.new.buf ≡ length c.args.piece.now = search rules in
    c.push.ensures.join before is
    ∙ ap (λ (xs : List ℕ). crc_of (before ++ xs)) (sym (read_part c.args.side c.args.bank.now (g.F.Flash.contents c.args.flash.now) c.read.new.buf c.args.at (length c.args.piece.now)
    (c.requires.lent.fits tells) c.requires.two size c.requires.inside (c.in_ok-read.ensures.bytes tells)))
