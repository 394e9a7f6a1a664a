use Rattle.std.proofs.Common.{refl, ◌∙◌, arith}
use Rattle.flash_dev.proofs.Moments.{weaker}
use Rattle.flash_bank.specs.Journal.{LeavesResumed}
use Rattle.flash_bank.proofs.JournalCallLemmas.{leaves_resumed, resumed_still}
use Rattle.flash_bank.proofs.bank.Bank.resume.Goals as goal

pub returns-in_err-clear_record-clause-held : goal.returns-in_err-clear_record-clause-held
returns-in_err-clear_record-clause-held g c tells =
    let F = g.F.Flash in
    leaves_resumed c.args.self.now (F.contents c.args.flash.now) (c.requires.lent.fits tells) (F.contents c.clear_record.new.flash) (c.clear_record.ensures.held tells)

pub returns-clause-held : goal.returns-clause-held
returns-clause-held g c tells =
    let F = g.F.Flash in
    leaves_resumed c.args.self.now (F.contents c.args.flash.now) (c.requires.lent.fits tells) (F.contents c.clear_record.new.flash) (c.clear_record.ensures.held tells)

pub returns-in_err-clear_record-clause-left : goal.returns-in_err-clear_record-clause-left
returns-in_err-clear_record-clause-left g c tells =
    let F = g.F.Flash in
    let b = c.args.self.now in
    let x = F.contents c.args.flash.now in
    weaker F.moment F.left_since c.args.flash.now c.clear_record.new.flash _ (LeavesResumed b x) (λ y h. leaves_resumed b x (c.requires.lent.fits tells) y h) (c.clear_record.ensures.left tells)

pub returns-clause-left : goal.returns-clause-left
returns-clause-left g c tells =
    let F = g.F.Flash in
    let b = c.args.self.now in
    let x = F.contents c.args.flash.now in
    weaker F.moment F.left_since c.args.flash.now c.clear_record.new.flash _ (LeavesResumed b x) (λ y h. leaves_resumed b x (c.requires.lent.fits tells) y h) (c.clear_record.ensures.left tells)

pub returns-clause-resumed : goal.returns-clause-resumed
returns-clause-resumed g c tells = c.in_ok-clear_record.ensures.cleared tells

pub returns-clause-lent : goal.returns-clause-lent
returns-clause-lent g c =
    record {
      usable = refl;
      blocks = c.clear_record.ensures.blocks ∙ c.requires.lent.blocks;
      block_size = c.clear_record.ensures.block_size ∙ c.requires.lent.block_size;
      fits = λ tells.
          let F = g.F.Flash in
          let k = resumed_still c.args.self.now (F.contents c.args.flash.now) (c.requires.lent.fits tells) (F.contents c.clear_record.new.flash) (c.clear_record.ensures.held tells) in
          record { sound = k.sound; current = k.current; head = k.head; blank = λ is i lt. (c.in_ok-clear_record.ensures.cleared tells).blank i (omega arith) };
    }
