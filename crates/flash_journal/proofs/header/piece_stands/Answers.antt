use Rattle.std.proofs.Common.{◌≡◌, ◌+◌, length, ◌∙◌, rules}
use Rattle.flash_bank.specs.Bank.{spare_journal}
use Rattle.flash_journal.proofs.BlankLaws.{held_read}
use Rattle.flash_journal.proofs.header.piece_stands.Goals as goal

pub returns-clause-found : goal.returns-clause-found
returns-clause-found g c tells =
    let same : length c.read.new.buf ≡ length c.args.piece.now = search rules in
    let both = held_read (g.F.Flash.contents c.args.flash.now) c.read.new.buf c.args.wanted.now (spare_journal c.args.bank.now + c.args.at) (same ∙ c.requires.size) (c.in_ok-read.ensures.bytes tells) in
    (λ yes. both.0 (c.are_same.ensures.0 yes), λ all. c.are_same.ensures.1 (both.1 all))
