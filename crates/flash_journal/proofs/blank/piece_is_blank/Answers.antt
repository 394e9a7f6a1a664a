use Rattle.std.proofs.Common.{◌≡◌, ◌+◌, length, ◌∙◌, rules}
use Rattle.flash_journal.specs.Side.{side_place}
use Rattle.flash_journal.proofs.BlankLaws.{blank_read}
use Rattle.flash_journal.proofs.blank.piece_is_blank.Goals as goal

pub returns-clause-found : goal.returns-clause-found
returns-clause-found g c tells =
    let same : length c.read.new.buf ≡ length c.args.piece.now = search rules in
    let both = blank_read (g.F.Flash.contents c.args.flash.now) c.read.new.buf (side_place c.args.side c.args.bank.now + c.args.at) c.args.len (same ∙ c.requires.size) (c.in_ok-read.ensures.bytes tells) in
    (λ yes. both.0 (c.is_erased.ensures.0 yes), λ all. c.is_erased.ensures.1 (both.1 all))
