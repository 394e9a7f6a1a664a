use Rattle.std.specs.Prelude.{OnOk}
use Rattle.std.proofs.Common.{◌+◌, ◌≤◌, length, sym, subst, arith}
use Rattle.flash_dev.specs.Changes.{Holds}
use Rattle.flash_bank.specs.Bank.{geometry_of}
use Rattle.flash_journal.specs.Side.{side_len, side_place}
use Rattle.flash_journal.specs.declared.side.Side.{Side}
use Rattle.flash_journal.proofs.LenLaws.{journal_len_two}
use Rattle.flash_layout.specs.Layout.{journal_len}
use Rattle.flash_journal.proofs.side.read.Goals as goal

pub glance-requires-clause-inside : goal.glance-requires-clause-inside
glance-requires-clause-inside g c =
    let b = c.args.bank.now in
    let inside : c.args.at + length c.args.buf.now ≤ journal_len (geometry_of b) = subst (λ (s : Side). c.args.at + length c.args.buf.now ≤ side_len s b) c.in-InJournal.is c.requires.inside in
    let len = journal_len_two b (c.requires.two c.in-InJournal.is) in
    omega (arith, inside, len)

pub returns-in-InBank-clause-bytes : goal.returns-in-InBank-clause-bytes
returns-in-InBank-clause-bytes g c tells =
    let x = g.F.Flash.contents c.args.flash.now in
    subst (λ (s : Side). OnOk c.peek.result (Holds x (side_place s c.args.bank.now + c.args.at) c.peek.new.buf)) (sym c.in-InBank.is) (c.peek.ensures.bytes tells)

pub returns-in-InJournal-clause-bytes : goal.returns-in-InJournal-clause-bytes
returns-in-InJournal-clause-bytes g c tells =
    let x = g.F.Flash.contents c.args.flash.now in
    subst (λ (s : Side). OnOk c.glance.result (Holds x (side_place s c.args.bank.now + c.args.at) c.glance.new.buf)) (sym c.in-InJournal.is) (c.glance.ensures.bytes tells)
