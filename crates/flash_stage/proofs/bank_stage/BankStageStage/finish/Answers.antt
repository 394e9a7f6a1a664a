use Rattle.flash_dev.proofs.Moments.{weaker}
use Rattle.flash_bank.specs.Bank.{LeavesCommitted, current_of, geometry_of}
use Rattle.flash_bank.specs.Sound.{Commits, boot_of}
use Rattle.flash_bank.proofs.LeavingLemmas.{committed_installs}
use Rattle.flash_bank.specs.Record.{next_record}
use Rattle.flash_stage.specs.InBank.{bytes_in_bank, outline_in_bank}
use Rattle.flash_stage.specs.Outline.{group_text}
use Rattle.flash_stage.proofs.InBankLemmas.{whole_bank}
use Rattle.flash_stage.proofs.LeavingLaws.{committed_leaves, on_ok}
use Rattle.flash_stage.proofs.KeptLaws.{committed_no_more}
use Rattle.flash_stage.proofs.bank_stage.BankStageStage.finish.Goals as goal

pub returns-clause-done : goal.returns-clause-done
returns-clause-done g c tells =
    let s = c.args.self.now in
    let b = c.args.bank.now in
    let x = g.F.Flash.contents c.args.flash.now in
    let y = g.F.Flash.contents c.commit.new.flash in
    let new = next_record (current_of b) s.total c.args.software c.args.group in
    on_ok (Commits (geometry_of b) (boot_of (geometry_of b) x new) x y) _ c.commit.result
    (λ commits. committed_installs b x (c.requires.lent.fits tells) new (group_text (bytes_in_bank s b x) (outline_in_bank s)) y (whole_bank s b x (c.requires.lent.fits tells) (c.requires.agrees tells).journal c.requires.ready c.args.software c.args.group) (c.commit.ensures.held tells) commits)
    (c.commit.ensures.committed tells)

pub returns-clause-held : goal.returns-clause-held
returns-clause-held g c tells =
    let s = c.args.self.now in
    let b = c.args.bank.now in
    let x = g.F.Flash.contents c.args.flash.now in
    let y = g.F.Flash.contents c.commit.new.flash in
    let new = next_record (current_of b) s.total c.args.software c.args.group in
    committed_leaves b x (c.requires.lent.fits tells) new (group_text (bytes_in_bank s b x) (outline_in_bank s)) y (whole_bank s b x (c.requires.lent.fits tells) (c.requires.agrees tells).journal c.requires.ready c.args.software c.args.group) (c.commit.ensures.held tells)

pub returns-clause-left : goal.returns-clause-left
returns-clause-left g c tells =
    let s = c.args.self.now in
    let b = c.args.bank.now in
    let x = g.F.Flash.contents c.args.flash.now in
    let new = next_record (current_of b) s.total c.args.software c.args.group in
    weaker g.F.Flash.moment g.F.Flash.left_since c.args.flash.now c.commit.new.flash (LeavesCommitted b new x) _
    (λ y. committed_leaves b x (c.requires.lent.fits tells) new (group_text (bytes_in_bank s b x) (outline_in_bank s)) y (whole_bank s b x (c.requires.lent.fits tells) (c.requires.agrees tells).journal c.requires.ready c.args.software c.args.group)) (c.commit.ensures.left tells)

pub returns-clause-no_more : goal.returns-clause-no_more
returns-clause-no_more g c tells = committed_no_more c.args.bank.now c.args.self.now.total c.args.software c.args.group _ _ (c.requires.lent.fits tells) (c.commit.ensures.held tells)

pub returns-clause-no_more_left : goal.returns-clause-no_more_left
returns-clause-no_more_left g c tells =
    let s = c.args.self.now in
    let b = c.args.bank.now in
    let x = g.F.Flash.contents c.args.flash.now in
    weaker g.F.Flash.moment g.F.Flash.left_since c.args.flash.now c.commit.new.flash (LeavesCommitted b (next_record (current_of b) s.total c.args.software c.args.group) x) _
    (λ y. committed_no_more b s.total c.args.software c.args.group x y (c.requires.lent.fits tells)) (c.commit.ensures.left tells)
