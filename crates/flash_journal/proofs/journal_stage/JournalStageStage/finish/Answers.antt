use Rattle.std.proofs.Common.{◌≡◌, ℕ, List, sym, ap, subst}
use Rattle.bank_kept.proofs.AreaLaws.{one_area}
use Rattle.bank_kept.proofs.BankLaws.{bank_area, committed_area}
use Rattle.bank_kept.proofs.CallLaws.{all_kept}
use Rattle.bank_kept.specs.Bank.{area_of_bank}
use Rattle.flash_dev.proofs.Moments.{weaker}
use Rattle.flash_bank.specs.Bank.{LeavesCommitted, current_of, geometry_of}
use Rattle.flash_bank.specs.Sound.{Commits, boot_of}
use Rattle.flash_bank.proofs.LeavingLemmas.{committed_installs}
use Rattle.flash_bank.specs.Record.{next_record}
use Rattle.flash_stage.specs.Outline.{group_text}
use Rattle.flash_stage.proofs.KeptLaws.{committed_no_more}
use Rattle.flash_stage.proofs.LeavingLaws.{committed_leaves, on_ok}
use Rattle.flash_journal.proofs.CallLaws.{committed_keeps}
use Rattle.flash_journal.proofs.ImageLaws.{whole_image}
use Rattle.flash_journal.specs.InJournal.{bytes_in_journal, outline_in_journal}
use Rattle.flash_journal.proofs.journal_stage.JournalStageStage.finish.Goals as goal

pub returns-clause-done : goal.returns-clause-done
returns-clause-done g c tells =
    let F = g.F.Flash in
    let s = c.args.self.now in
    let b = c.args.bank.now in
    let x = F.contents c.args.flash.now in
    let fits = c.requires.lent.fits tells in
    let new = next_record (current_of b) s.total c.args.software c.args.group in
    let image = whole_image s b x c.requires.ready fits (c.requires.agrees tells) c.args.software c.args.group in
    on_ok (Commits (geometry_of b) (boot_of (geometry_of b) x new) x (F.contents c.commit.new.flash)) _ c.commit.result
    (λ commits. committed_installs b x fits new (group_text (bytes_in_journal s b x) (outline_in_journal s)) _ image (c.commit.ensures.held tells) commits) (c.commit.ensures.committed tells)

pub returns-clause-held : goal.returns-clause-held
returns-clause-held g c tells =
    let F = g.F.Flash in
    let s = c.args.self.now in
    let b = c.args.bank.now in
    let x = F.contents c.args.flash.now in
    let fits = c.requires.lent.fits tells in
    let new = next_record (current_of b) s.total c.args.software c.args.group in
    let image = whole_image s b x c.requires.ready fits (c.requires.agrees tells) c.args.software c.args.group in
    committed_leaves b x fits new (group_text (bytes_in_journal s b x) (outline_in_journal s)) _ image (c.commit.ensures.held tells)

pub returns-clause-left : goal.returns-clause-left
returns-clause-left g c tells =
    let F = g.F.Flash in
    let s = c.args.self.now in
    let b = c.args.bank.now in
    let x = F.contents c.args.flash.now in
    let fits = c.requires.lent.fits tells in
    let new = next_record (current_of b) s.total c.args.software c.args.group in
    let image = whole_image s b x c.requires.ready fits (c.requires.agrees tells) c.args.software c.args.group in
    weaker F.moment F.left_since c.args.flash.now c.commit.new.flash (LeavesCommitted b new x) _ (λ y. committed_leaves b x fits new (group_text (bytes_in_journal s b x) (outline_in_journal s)) y image) (c.commit.ensures.left tells)

pub returns-clause-no_more : goal.returns-clause-no_more
returns-clause-no_more g c tells =
    let F = g.F.Flash in
    let s = c.args.self.now in
    let b = c.args.bank.now in
    let x = F.contents c.args.flash.now in
    let fits = c.requires.lent.fits tells in
    let new = next_record (current_of b) s.total c.args.software c.args.group in
    let image = whole_image s b x c.requires.ready fits (c.requires.agrees tells) c.args.software c.args.group in
    committed_no_more b s.total c.args.software c.args.group x _ fits (c.commit.ensures.held tells)

pub returns-clause-no_more_left : goal.returns-clause-no_more_left
returns-clause-no_more_left g c tells =
    let F = g.F.Flash in
    let s = c.args.self.now in
    let b = c.args.bank.now in
    let x = F.contents c.args.flash.now in
    let fits = c.requires.lent.fits tells in
    let new = next_record (current_of b) s.total c.args.software c.args.group in
    let image = whole_image s b x c.requires.ready fits (c.requires.agrees tells) c.args.software c.args.group in
    weaker F.moment F.left_since c.args.flash.now c.commit.new.flash (LeavesCommitted b new x) _ (λ y. committed_no_more b s.total c.args.software c.args.group x y fits) (c.commit.ensures.left tells)

pub returns-clause-staged_held : goal.returns-clause-staged_held
returns-clause-staged_held g c tells is keeps =
    let F = g.F.Flash in
    let s = c.args.self.now in
    let b = c.args.bank.now in
    let x = F.contents c.args.flash.now in
    let fits = c.requires.lent.fits tells in
    let new = next_record (current_of b) s.total c.args.software c.args.group in
    let image = whole_image s b x c.requires.ready fits (c.requires.agrees tells) c.args.software c.args.group in
    committed_keeps b new x _ fits (c.commit.ensures.held tells) keeps

pub returns-clause-staged_left : goal.returns-clause-staged_left
returns-clause-staged_left g c tells is =
    let F = g.F.Flash in
    let s = c.args.self.now in
    let b = c.args.bank.now in
    let x = F.contents c.args.flash.now in
    let fits = c.requires.lent.fits tells in
    let new = next_record (current_of b) s.total c.args.software c.args.group in
    let image = whole_image s b x c.requires.ready fits (c.requires.agrees tells) c.args.software c.args.group in
    weaker F.moment F.left_since c.args.flash.now c.commit.new.flash (LeavesCommitted b new x) _ (λ y leaves keeps. committed_keeps b new x y fits leaves keeps) (c.commit.ensures.left tells)
