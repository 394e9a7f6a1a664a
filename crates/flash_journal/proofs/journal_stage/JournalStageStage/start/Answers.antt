use Rattle.std.specs.Prelude.{◌↔◌, OnOk}
use Rattle.std.proofs.Common.{◌≡◌, ◌<◌, ◌≤◌, ℕ, Bool, true, false, List, Some, refl, sym, ap, subst, ◌∙◌, arith}
use Rattle.bank_kept.proofs.BankLaws.{resumed_area}
use Rattle.bank_kept.specs.Bank.{area_of_bank}
use Rattle.bank_kept.specs.Contents.{StagesGroup, StagesPlace}
use Rattle.bank_kept.specs.Leaving.{HoldsNoMore, KeepsStaged}
use Rattle.dsmcc_msg.specs.Control.{DiiFields}
use Rattle.flash_bank.proofs.LeavingLemmas.{keeps_boot_same, resumed_keeps_boot}
use Rattle.flash_bank.specs.Bank.{Fits, LeavesBegun, current_of, geometry_of, is_begun, spare_bank}
use Rattle.flash_bank.specs.Journal.{LeavesResumed}
use Rattle.flash_bank.specs.Leaving.{KeepsBoot}
use Rattle.flash_bank.specs.declared.bank.Bank.{Bank}
use Rattle.flash_bank.specs.declared.record.Record.{Record}
use Rattle.flash_dev.proofs.Moments.{joined, weaker}
use Rattle.flash_dev.specs.Changes.{IsBlank}
use Rattle.flash_kept.proofs.Cases.{true_false}
use Rattle.flash_layout.specs.Layout.{Geometry, area_len, mark_count}
use Rattle.flash_journal.proofs.ReadingLaws.{area_same}
use Rattle.ssu_group.specs.Place.{place_at}
use Rattle.ssu_group.specs.declared.places.Place.{Place}
use Rattle.flash_stage.proofs.InBankLemmas.{few_places}
use Rattle.flash_stage.proofs.KeptLaws.{begun_no_more, same_no_more}
use Rattle.flash_stage.proofs.LeavingLaws.{always_ok, on_ok}
use Rattle.flash_stage.specs.Keeping.{HasWholeMargin, IsKeptIn, IsStagedIn}
use Rattle.flash_stage.specs.Leaving.{SameBank}
use Rattle.flash_journal.proofs.MessageLaws.{message_few}
use Rattle.flash_journal.proofs.CallLaws.{resumed_keeps, resumed_no_more}
use Rattle.flash_journal.proofs.KeptLaws.{kept_same}
use Rattle.flash_journal.proofs.LooksLaws.{looks_joined}
use Rattle.flash_journal.proofs.PlainLaws.{never_kept}
use Rattle.flash_journal.proofs.StartLaws.{began_agrees, began_margin, both_ok, cleared_moved, looked, new_agrees, IsOf, area_moved, boot_moved, holds_moved, keeps_moved, kept_moved, marks_moved, no_place, none_staged, place_in_plan, plain_none, ready_for, resumed_agrees, resumed_has, resumed_text, staged_moved}
use Rattle.flash_journal.specs.Beginning.{LeavesCleared, StagesNew}
use Rattle.flash_journal.specs.InJournal.{has_in_journal}
use Rattle.flash_journal.specs.StageLaws.{kept_from}
use Rattle.flash_journal.specs.declared.journal_stage.JournalStage.{JournalStage}
use Rattle.flash_journal.proofs.journal_stage.JournalStageStage.start.Goals as goal

pub clear-requires : goal.clear-requires
clear-requires g c =
    few_places c.args.plan.now c.args.self.now.most c.args.self.now.map.most c.args.self.now.room (omega (arith, c.requires.inside, c.requires.made_for))

pub replace_message-requires-clause-few : goal.replace_message-requires-clause-few
replace_message-requires-clause-few g c =
    message_few c.args.message.now c.requires.of_message.dii c.requires.of_message.reads

pub returns-then-not-self-clause-agrees : goal.returns-then-not-self-clause-agrees
returns-then-not-self-clause-agrees g c tells =
    let F = g.F.Flash in
    let b = c.args.bank.now in
    let m = c.args.message.now in
    let plan = c.args.plan.now in
    let x = F.contents c.args.flash.now in
    let fits = c.requires.lent.fits tells in
    let never = never_kept b plan.places (sym c.keeps_places-self.ensures ∙ c.if-not-self.true) in
    let same : SameBank b c.begin.new.self = record { geometry = c.begin.ensures.geometry; current = c.begin.ensures.current; block = c.begin.ensures.block } in
    both_ok (IsBlank (F.contents c.begin.new.flash) (spare_bank b) (area_len (geometry_of b))) (Fits c.begin.new.self (F.contents c.begin.new.flash)) _ c.begin.result
    (λ erased after. began_agrees _ b c.begin.new.self (F.contents c.begin.new.flash) m plan (record { block_size = refl; modules = c.replace_modules.ensures.items ∙ c.as_slice.ensures.value; places = c.clear.ensures.places; message_is = c.replace_message.ensures.items }) same after never c.requires.inside erased)
    (c.begin.ensures.erased_area tells) (on_ok _ _ c.begin.result (λ lent. lent.fits tells) c.begin.ensures.lent)

pub returns-then-not-self-clause-kept : goal.returns-then-not-self-clause-kept
returns-then-not-self-clause-kept g c tells keeping =
    let F = g.F.Flash in
    let b = c.args.bank.now in
    let m = c.args.message.now in
    let plan = c.args.plan.now in
    let x = F.contents c.args.flash.now in
    let fits = c.requires.lent.fits tells in
    let never = never_kept b plan.places (sym c.keeps_places-self.ensures ∙ c.if-not-self.true) in
    let none = plain_none b x m plan fits c.requires.of_message never in
    always_ok _ c.begin.result (λ number lt. none_staged (geometry_of b) x m none _ number (c.clear.ensures.none number lt))

pub returns-then-not-self-clause-kept_bytes : goal.returns-then-not-self-clause-kept_bytes
returns-then-not-self-clause-kept_bytes g c tells keeping =
    let F = g.F.Flash in
    let b = c.args.bank.now in
    let m = c.args.message.now in
    let plan = c.args.plan.now in
    let x = F.contents c.args.flash.now in
    let fits = c.requires.lent.fits tells in
    let never = never_kept b plan.places (sym c.keeps_places-self.ensures ∙ c.if-not-self.true) in
    let none = plain_none b x m plan fits c.requires.of_message never in
    always_ok _ c.begin.result (λ number bytes place. absurd (no_place (geometry_of b) x m none number bytes place))

pub returns-then-not-self-clause-left : goal.returns-then-not-self-clause-left
returns-then-not-self-clause-left g c tells =
    let F = g.F.Flash in
    let b = c.args.bank.now in
    let m = c.args.message.now in
    let plan = c.args.plan.now in
    let x = F.contents c.args.flash.now in
    weaker F.moment F.left_since c.args.flash.now c.begin.new.flash (LeavesBegun (geometry_of b) x) _ (λ y leaves. leaves.keeps) (c.begin.ensures.left tells)

pub returns-then-not-self-clause-no_more : goal.returns-then-not-self-clause-no_more
returns-then-not-self-clause-no_more g c tells =
    let F = g.F.Flash in
    let b = c.args.bank.now in
    let m = c.args.message.now in
    let plan = c.args.plan.now in
    let x = F.contents c.args.flash.now in
    let fits = c.requires.lent.fits tells in
    begun_no_more b x _ fits (c.begin.ensures.held tells)

pub returns-then-not-self-clause-no_more_left : goal.returns-then-not-self-clause-no_more_left
returns-then-not-self-clause-no_more_left g c tells =
    let F = g.F.Flash in
    let b = c.args.bank.now in
    let m = c.args.message.now in
    let plan = c.args.plan.now in
    let x = F.contents c.args.flash.now in
    let fits = c.requires.lent.fits tells in
    weaker F.moment F.left_since c.args.flash.now c.begin.new.flash (LeavesBegun (geometry_of b) x) _ (λ y. begun_no_more b x y fits) (c.begin.ensures.left tells)

pub returns-then-not-self-clause-resumed : goal.returns-then-not-self-clause-resumed
returns-then-not-self-clause-resumed g c tells keeping dii group =
    let F = g.F.Flash in
    let b = c.args.bank.now in
    let m = c.args.message.now in
    let plan = c.args.plan.now in
    let x = F.contents c.args.flash.now in
    let fits = c.requires.lent.fits tells in
    let never = never_kept b plan.places (sym c.keeps_places-self.ensures ∙ c.if-not-self.true) in
    let none = plain_none b x m plan fits c.requires.of_message never in
    absurd (none dii group)

pub returns-then-not-self-clause-resumed_left : goal.returns-then-not-self-clause-resumed_left
returns-then-not-self-clause-resumed_left g c tells keeping dii group =
    let F = g.F.Flash in
    let b = c.args.bank.now in
    let m = c.args.message.now in
    let plan = c.args.plan.now in
    let x = F.contents c.args.flash.now in
    let fits = c.requires.lent.fits tells in
    let never = never_kept b plan.places (sym c.keeps_places-self.ensures ∙ c.if-not-self.true) in
    let none = plain_none b x m plan fits c.requires.of_message never in
    absurd (none dii group)

pub returns-then-not-self-clause-fresh : goal.returns-then-not-self-clause-fresh
returns-then-not-self-clause-fresh g c tells keeping new =
    let F = g.F.Flash in
    let b = c.args.bank.now in
    let m = c.args.message.now in
    let plan = c.args.plan.now in
    let x = F.contents c.args.flash.now in
    let fits = c.requires.lent.fits tells in
    let never = never_kept b plan.places (sym c.keeps_places-self.ensures ∙ c.if-not-self.true) in
    let same : SameBank b c.begin.new.self = record { geometry = c.begin.ensures.geometry; current = c.begin.ensures.current; block = c.begin.ensures.block } in
    both_ok (IsBlank (F.contents c.begin.new.flash) (spare_bank b) (area_len (geometry_of b))) (Fits c.begin.new.self (F.contents c.begin.new.flash)) _ c.begin.result (λ erased after. began_margin b c.begin.new.self (F.contents c.begin.new.flash) same after erased) (c.begin.ensures.erased_area tells) (on_ok _ _ c.begin.result (λ lent. lent.fits tells) c.begin.ensures.lent)

pub returns-in_err-staged-clause-held : goal.returns-in_err-staged-clause-held
returns-in_err-staged-clause-held g c tells =
    let F = g.F.Flash in
    let b = c.args.bank.now in
    let m = c.args.message.now in
    let plan = c.args.plan.now in
    let x = F.contents c.args.flash.now in
    let fits = c.requires.lent.fits tells in
    let looks = c.is_staged.ensures.looks in
    let same = looks.reads.same tells in
    subst (λ (y : List ℕ). KeepsBoot (geometry_of b) x y) (sym same) (keeps_boot_same (geometry_of b) x fits.sound)

pub returns-in_err-staged-clause-left : goal.returns-in_err-staged-clause-left
returns-in_err-staged-clause-left g c tells =
    let F = g.F.Flash in
    let b = c.args.bank.now in
    let m = c.args.message.now in
    let plan = c.args.plan.now in
    let x = F.contents c.args.flash.now in
    let fits = c.requires.lent.fits tells in
    let looks = c.is_staged.ensures.looks in
    let same = looks.reads.same tells in
    looked F.moment F.left_since c.args.flash.now c.is_staged.new.flash x (KeepsBoot (geometry_of b) x) (keeps_boot_same (geometry_of b) x fits.sound) (looks.reads.left tells)

pub returns-in_err-staged-clause-no_more : goal.returns-in_err-staged-clause-no_more
returns-in_err-staged-clause-no_more g c tells =
    let F = g.F.Flash in
    let b = c.args.bank.now in
    let m = c.args.message.now in
    let plan = c.args.plan.now in
    let x = F.contents c.args.flash.now in
    let fits = c.requires.lent.fits tells in
    let looks = c.is_staged.ensures.looks in
    let same = looks.reads.same tells in
    subst (λ (y : List ℕ). HoldsNoMore (geometry_of b) x y) (sym same) (same_no_more (geometry_of b) x)

pub returns-in_err-staged-clause-no_more_left : goal.returns-in_err-staged-clause-no_more_left
returns-in_err-staged-clause-no_more_left g c tells =
    let F = g.F.Flash in
    let b = c.args.bank.now in
    let m = c.args.message.now in
    let plan = c.args.plan.now in
    let x = F.contents c.args.flash.now in
    let fits = c.requires.lent.fits tells in
    let looks = c.is_staged.ensures.looks in
    let same = looks.reads.same tells in
    looked F.moment F.left_since c.args.flash.now c.is_staged.new.flash x (HoldsNoMore (geometry_of b) x) (same_no_more (geometry_of b) x) (looks.reads.left tells)

pub returns-in_err-staged-clause-resumed : goal.returns-in_err-staged-clause-resumed
returns-in_err-staged-clause-resumed g c tells keeping dii group =
    let F = g.F.Flash in
    let b = c.args.bank.now in
    let m = c.args.message.now in
    let plan = c.args.plan.now in
    let x = F.contents c.args.flash.now in
    let fits = c.requires.lent.fits tells in
    let looks = c.is_staged.ensures.looks in
    let same = looks.reads.same tells in
    subst (λ (y : List ℕ). KeepsStaged (geometry_of b) 0 0 x y) (sym same) (kept_same (geometry_of b) x 0 0)

pub returns-in_err-staged-clause-resumed_left : goal.returns-in_err-staged-clause-resumed_left
returns-in_err-staged-clause-resumed_left g c tells keeping dii group =
    let F = g.F.Flash in
    let b = c.args.bank.now in
    let m = c.args.message.now in
    let plan = c.args.plan.now in
    let x = F.contents c.args.flash.now in
    let fits = c.requires.lent.fits tells in
    let looks = c.is_staged.ensures.looks in
    let same = looks.reads.same tells in
    looked F.moment F.left_since c.args.flash.now c.is_staged.new.flash x (KeepsStaged (geometry_of b) 0 0 x) (kept_same (geometry_of b) x 0 0) (looks.reads.left tells)

pub returns-in_err-mark_stored-clause-held : goal.returns-in_err-mark_stored-clause-held
returns-in_err-mark_stored-clause-held g c tells =
    let F = g.F.Flash in
    let b = c.args.bank.now in
    let m = c.args.message.now in
    let plan = c.args.plan.now in
    let x = F.contents c.args.flash.now in
    let fits = c.requires.lent.fits tells in
    let looks = looks_joined F.tells F.contents F.block_count F.block_len F.moment F.left_since c.args.flash.now c.is_staged.new.flash c.mark_stored.new.flash b c.is_staged.new.bank c.mark_stored.new.bank c.is_staged.ensures.looks c.mark_stored.ensures.looks in
    let same = looks.reads.same tells in
    subst (λ (y : List ℕ). KeepsBoot (geometry_of b) x y) (sym same) (keeps_boot_same (geometry_of b) x fits.sound)

pub returns-in_err-mark_stored-clause-left : goal.returns-in_err-mark_stored-clause-left
returns-in_err-mark_stored-clause-left g c tells =
    let F = g.F.Flash in
    let b = c.args.bank.now in
    let m = c.args.message.now in
    let plan = c.args.plan.now in
    let x = F.contents c.args.flash.now in
    let fits = c.requires.lent.fits tells in
    let looks = looks_joined F.tells F.contents F.block_count F.block_len F.moment F.left_since c.args.flash.now c.is_staged.new.flash c.mark_stored.new.flash b c.is_staged.new.bank c.mark_stored.new.bank c.is_staged.ensures.looks c.mark_stored.ensures.looks in
    let same = looks.reads.same tells in
    looked F.moment F.left_since c.args.flash.now c.mark_stored.new.flash x (KeepsBoot (geometry_of b) x) (keeps_boot_same (geometry_of b) x fits.sound) (looks.reads.left tells)

pub returns-in_err-mark_stored-clause-no_more : goal.returns-in_err-mark_stored-clause-no_more
returns-in_err-mark_stored-clause-no_more g c tells =
    let F = g.F.Flash in
    let b = c.args.bank.now in
    let m = c.args.message.now in
    let plan = c.args.plan.now in
    let x = F.contents c.args.flash.now in
    let fits = c.requires.lent.fits tells in
    let looks = looks_joined F.tells F.contents F.block_count F.block_len F.moment F.left_since c.args.flash.now c.is_staged.new.flash c.mark_stored.new.flash b c.is_staged.new.bank c.mark_stored.new.bank c.is_staged.ensures.looks c.mark_stored.ensures.looks in
    let same = looks.reads.same tells in
    subst (λ (y : List ℕ). HoldsNoMore (geometry_of b) x y) (sym same) (same_no_more (geometry_of b) x)

pub returns-in_err-mark_stored-clause-no_more_left : goal.returns-in_err-mark_stored-clause-no_more_left
returns-in_err-mark_stored-clause-no_more_left g c tells =
    let F = g.F.Flash in
    let b = c.args.bank.now in
    let m = c.args.message.now in
    let plan = c.args.plan.now in
    let x = F.contents c.args.flash.now in
    let fits = c.requires.lent.fits tells in
    let looks = looks_joined F.tells F.contents F.block_count F.block_len F.moment F.left_since c.args.flash.now c.is_staged.new.flash c.mark_stored.new.flash b c.is_staged.new.bank c.mark_stored.new.bank c.is_staged.ensures.looks c.mark_stored.ensures.looks in
    let same = looks.reads.same tells in
    looked F.moment F.left_since c.args.flash.now c.mark_stored.new.flash x (HoldsNoMore (geometry_of b) x) (same_no_more (geometry_of b) x) (looks.reads.left tells)

pub returns-in_err-mark_stored-clause-resumed : goal.returns-in_err-mark_stored-clause-resumed
returns-in_err-mark_stored-clause-resumed g c tells keeping dii group =
    let F = g.F.Flash in
    let b = c.args.bank.now in
    let m = c.args.message.now in
    let plan = c.args.plan.now in
    let x = F.contents c.args.flash.now in
    let fits = c.requires.lent.fits tells in
    let looks = looks_joined F.tells F.contents F.block_count F.block_len F.moment F.left_since c.args.flash.now c.is_staged.new.flash c.mark_stored.new.flash b c.is_staged.new.bank c.mark_stored.new.bank c.is_staged.ensures.looks c.mark_stored.ensures.looks in
    let same = looks.reads.same tells in
    subst (λ (y : List ℕ). KeepsStaged (geometry_of b) 0 0 x y) (sym same) (kept_same (geometry_of b) x 0 0)

pub returns-in_err-mark_stored-clause-resumed_left : goal.returns-in_err-mark_stored-clause-resumed_left
returns-in_err-mark_stored-clause-resumed_left g c tells keeping dii group =
    let F = g.F.Flash in
    let b = c.args.bank.now in
    let m = c.args.message.now in
    let plan = c.args.plan.now in
    let x = F.contents c.args.flash.now in
    let fits = c.requires.lent.fits tells in
    let looks = looks_joined F.tells F.contents F.block_count F.block_len F.moment F.left_since c.args.flash.now c.is_staged.new.flash c.mark_stored.new.flash b c.is_staged.new.bank c.mark_stored.new.bank c.is_staged.ensures.looks c.mark_stored.ensures.looks in
    let same = looks.reads.same tells in
    looked F.moment F.left_since c.args.flash.now c.mark_stored.new.flash x (KeepsStaged (geometry_of b) 0 0 x) (kept_same (geometry_of b) x 0 0) (looks.reads.left tells)

pub returns-then-not-staged-clause-agrees : goal.returns-then-not-staged-clause-agrees
returns-then-not-staged-clause-agrees g c tells =
    let F = g.F.Flash in
    let b = c.args.bank.now in
    let m = c.args.message.now in
    let plan = c.args.plan.now in
    let x = F.contents c.args.flash.now in
    let fits = c.requires.lent.fits tells in
    let kept = kept_from b plan.places (sym c.keeps_places-self.ensures ∙ c.if-not-self.false) in
    let n = c.is_staged.new.bank in
    let z = F.contents c.is_staged.new.flash in
    let y = F.contents c.begin_kept.new.flash in
    let looks = c.is_staged.ensures.looks in
    let z_is = looks.reads.same tells in
    let none : (dii : DiiFields) → StagesGroup (geometry_of b) x m dii → ⊥ = λ dii group. true_false _ ((c.in_ok-staged.ensures.found tells).1 (dii, group)) c.if-not-staged.true in
    let at : IsKeptIn n plan.places = kept_moved b n plan.places looks.geometry looks.current kept in
    on_ok (StagesNew (geometry_of n) m y) _ c.begin_kept.result
    (λ stages. new_agrees _ n c.begin_kept.new.bank y m plan (record { block_size = refl; modules = c.replace_modules.ensures.items ∙ c.as_slice.ensures.value; places = c.clear.ensures.places; message_is = c.replace_message.ensures.items }) c.begin_kept.ensures.same_bank at c.clear.ensures.none stages) (c.begin_kept.ensures.staged tells)

pub returns-then-not-staged-clause-kept : goal.returns-then-not-staged-clause-kept
returns-then-not-staged-clause-kept g c tells keeping =
    let F = g.F.Flash in
    let b = c.args.bank.now in
    let m = c.args.message.now in
    let plan = c.args.plan.now in
    let x = F.contents c.args.flash.now in
    let fits = c.requires.lent.fits tells in
    let n = c.is_staged.new.bank in
    let z = F.contents c.is_staged.new.flash in
    let y = F.contents c.begin_kept.new.flash in
    let looks = c.is_staged.ensures.looks in
    let z_is = looks.reads.same tells in
    let none : (dii : DiiFields) → StagesGroup (geometry_of b) x m dii → ⊥ = λ dii group. true_false _ ((c.in_ok-staged.ensures.found tells).1 (dii, group)) c.if-not-staged.true in
    always_ok _ c.begin_kept.result (λ number lt. none_staged (geometry_of b) x m none _ number (c.clear.ensures.none number lt))

pub returns-then-not-staged-clause-kept_bytes : goal.returns-then-not-staged-clause-kept_bytes
returns-then-not-staged-clause-kept_bytes g c tells keeping =
    let F = g.F.Flash in
    let b = c.args.bank.now in
    let m = c.args.message.now in
    let plan = c.args.plan.now in
    let x = F.contents c.args.flash.now in
    let fits = c.requires.lent.fits tells in
    let n = c.is_staged.new.bank in
    let z = F.contents c.is_staged.new.flash in
    let y = F.contents c.begin_kept.new.flash in
    let looks = c.is_staged.ensures.looks in
    let z_is = looks.reads.same tells in
    let none : (dii : DiiFields) → StagesGroup (geometry_of b) x m dii → ⊥ = λ dii group. true_false _ ((c.in_ok-staged.ensures.found tells).1 (dii, group)) c.if-not-staged.true in
    always_ok _ c.begin_kept.result (λ number bytes place. absurd (no_place (geometry_of b) x m none number bytes place))

pub returns-then-not-staged-clause-held : goal.returns-then-not-staged-clause-held
returns-then-not-staged-clause-held g c tells =
    let F = g.F.Flash in
    let b = c.args.bank.now in
    let m = c.args.message.now in
    let plan = c.args.plan.now in
    let x = F.contents c.args.flash.now in
    let fits = c.requires.lent.fits tells in
    let n = c.is_staged.new.bank in
    let z = F.contents c.is_staged.new.flash in
    let y = F.contents c.begin_kept.new.flash in
    let looks = c.is_staged.ensures.looks in
    let z_is = looks.reads.same tells in
    let none : (dii : DiiFields) → StagesGroup (geometry_of b) x m dii → ⊥ = λ dii group. true_false _ ((c.in_ok-staged.ensures.found tells).1 (dii, group)) c.if-not-staged.true in
    (cleared_moved (geometry_of n) (geometry_of b) z x y looks.geometry z_is (c.begin_kept.ensures.held tells)).keeps

pub returns-then-not-staged-clause-left : goal.returns-then-not-staged-clause-left
returns-then-not-staged-clause-left g c tells =
    let F = g.F.Flash in
    let b = c.args.bank.now in
    let m = c.args.message.now in
    let plan = c.args.plan.now in
    let x = F.contents c.args.flash.now in
    let fits = c.requires.lent.fits tells in
    let n = c.is_staged.new.bank in
    let z = F.contents c.is_staged.new.flash in
    let y = F.contents c.begin_kept.new.flash in
    let looks = c.is_staged.ensures.looks in
    let z_is = looks.reads.same tells in
    let none : (dii : DiiFields) → StagesGroup (geometry_of b) x m dii → ⊥ = λ dii group. true_false _ ((c.in_ok-staged.ensures.found tells).1 (dii, group)) c.if-not-staged.true in
    joined F.moment F.left_since c.args.flash.now c.is_staged.new.flash c.begin_kept.new.flash (KeepsBoot (geometry_of b) x)
    (looked F.moment F.left_since c.args.flash.now c.is_staged.new.flash x (KeepsBoot (geometry_of b) x) (keeps_boot_same (geometry_of b) x fits.sound) (looks.reads.left tells))
    (weaker F.moment F.left_since c.is_staged.new.flash c.begin_kept.new.flash (LeavesCleared (geometry_of n) z) (KeepsBoot (geometry_of b) x) (λ w leaves. (cleared_moved (geometry_of n) (geometry_of b) z x w looks.geometry z_is leaves).keeps) (c.begin_kept.ensures.left tells))

pub returns-then-not-staged-clause-no_more : goal.returns-then-not-staged-clause-no_more
returns-then-not-staged-clause-no_more g c tells =
    let F = g.F.Flash in
    let b = c.args.bank.now in
    let m = c.args.message.now in
    let plan = c.args.plan.now in
    let x = F.contents c.args.flash.now in
    let fits = c.requires.lent.fits tells in
    let n = c.is_staged.new.bank in
    let z = F.contents c.is_staged.new.flash in
    let y = F.contents c.begin_kept.new.flash in
    let looks = c.is_staged.ensures.looks in
    let z_is = looks.reads.same tells in
    let none : (dii : DiiFields) → StagesGroup (geometry_of b) x m dii → ⊥ = λ dii group. true_false _ ((c.in_ok-staged.ensures.found tells).1 (dii, group)) c.if-not-staged.true in
    (cleared_moved (geometry_of n) (geometry_of b) z x y looks.geometry z_is (c.begin_kept.ensures.held tells)).no_more

pub returns-then-not-staged-clause-no_more_left : goal.returns-then-not-staged-clause-no_more_left
returns-then-not-staged-clause-no_more_left g c tells =
    let F = g.F.Flash in
    let b = c.args.bank.now in
    let m = c.args.message.now in
    let plan = c.args.plan.now in
    let x = F.contents c.args.flash.now in
    let fits = c.requires.lent.fits tells in
    let n = c.is_staged.new.bank in
    let z = F.contents c.is_staged.new.flash in
    let y = F.contents c.begin_kept.new.flash in
    let looks = c.is_staged.ensures.looks in
    let z_is = looks.reads.same tells in
    let none : (dii : DiiFields) → StagesGroup (geometry_of b) x m dii → ⊥ = λ dii group. true_false _ ((c.in_ok-staged.ensures.found tells).1 (dii, group)) c.if-not-staged.true in
    joined F.moment F.left_since c.args.flash.now c.is_staged.new.flash c.begin_kept.new.flash (HoldsNoMore (geometry_of b) x)
    (looked F.moment F.left_since c.args.flash.now c.is_staged.new.flash x (HoldsNoMore (geometry_of b) x) (same_no_more (geometry_of b) x) (looks.reads.left tells))
    (weaker F.moment F.left_since c.is_staged.new.flash c.begin_kept.new.flash (LeavesCleared (geometry_of n) z) (HoldsNoMore (geometry_of b) x) (λ w leaves. (cleared_moved (geometry_of n) (geometry_of b) z x w looks.geometry z_is leaves).no_more) (c.begin_kept.ensures.left tells))

pub returns-then-not-staged-clause-resumed : goal.returns-then-not-staged-clause-resumed
returns-then-not-staged-clause-resumed g c tells keeping dii group =
    let F = g.F.Flash in
    let b = c.args.bank.now in
    let m = c.args.message.now in
    let plan = c.args.plan.now in
    let x = F.contents c.args.flash.now in
    let fits = c.requires.lent.fits tells in
    let n = c.is_staged.new.bank in
    let z = F.contents c.is_staged.new.flash in
    let y = F.contents c.begin_kept.new.flash in
    let looks = c.is_staged.ensures.looks in
    let z_is = looks.reads.same tells in
    let none : (dii : DiiFields) → StagesGroup (geometry_of b) x m dii → ⊥ = λ dii group. true_false _ ((c.in_ok-staged.ensures.found tells).1 (dii, group)) c.if-not-staged.true in
    absurd (none dii group)

pub returns-then-not-staged-clause-resumed_left : goal.returns-then-not-staged-clause-resumed_left
returns-then-not-staged-clause-resumed_left g c tells keeping dii group =
    let F = g.F.Flash in
    let b = c.args.bank.now in
    let m = c.args.message.now in
    let plan = c.args.plan.now in
    let x = F.contents c.args.flash.now in
    let fits = c.requires.lent.fits tells in
    let n = c.is_staged.new.bank in
    let z = F.contents c.is_staged.new.flash in
    let y = F.contents c.begin_kept.new.flash in
    let looks = c.is_staged.ensures.looks in
    let z_is = looks.reads.same tells in
    let none : (dii : DiiFields) → StagesGroup (geometry_of b) x m dii → ⊥ = λ dii group. true_false _ ((c.in_ok-staged.ensures.found tells).1 (dii, group)) c.if-not-staged.true in
    absurd (none dii group)

pub returns-then-not-staged-clause-fresh : goal.returns-then-not-staged-clause-fresh
returns-then-not-staged-clause-fresh g c tells keeping new =
    let F = g.F.Flash in
    let b = c.args.bank.now in
    let m = c.args.message.now in
    let plan = c.args.plan.now in
    let x = F.contents c.args.flash.now in
    let fits = c.requires.lent.fits tells in
    let n = c.is_staged.new.bank in
    let z = F.contents c.is_staged.new.flash in
    let y = F.contents c.begin_kept.new.flash in
    let looks = c.is_staged.ensures.looks in
    let z_is = looks.reads.same tells in
    let none : (dii : DiiFields) → StagesGroup (geometry_of b) x m dii → ⊥ = λ dii group. true_false _ ((c.in_ok-staged.ensures.found tells).1 (dii, group)) c.if-not-staged.true in
    on_ok (StagesNew (geometry_of n) m y) _ c.begin_kept.result (λ stages. subst (λ (q : Geometry). HasWholeMargin q y) looks.geometry stages.margin) (c.begin_kept.ensures.staged tells)

pub returns-clause-held : goal.returns-clause-held
returns-clause-held g c tells =
    let F = g.F.Flash in
    let b = c.args.bank.now in
    let m = c.args.message.now in
    let plan = c.args.plan.now in
    let x = F.contents c.args.flash.now in
    let fits = c.requires.lent.fits tells in
    let kept = kept_from b plan.places (sym c.keeps_places-self.ensures ∙ c.if-not-self.false) in
    let n = c.mark_stored.new.bank in
    let z = F.contents c.mark_stored.new.flash in
    let y = F.contents c.resume.new.flash in
    let looks = looks_joined F.tells F.contents F.block_count F.block_len F.moment F.left_since c.args.flash.now c.is_staged.new.flash c.mark_stored.new.flash b c.is_staged.new.bank c.mark_stored.new.bank c.is_staged.ensures.looks c.mark_stored.ensures.looks in
    let z_is = looks.reads.same tells in
    let lent = c.in_ok-mark_stored.ensures.lent.fits tells in
    let two : (current_of n).layout ≡ 2 = ap (λ (h : Record). h.layout) looks.current ∙ kept.two in
    boot_moved (geometry_of n) (geometry_of b) z x y looks.geometry z_is (resumed_keeps_boot n z lent y (c.resume.ensures.held tells))

pub returns-clause-left : goal.returns-clause-left
returns-clause-left g c tells =
    let F = g.F.Flash in
    let b = c.args.bank.now in
    let m = c.args.message.now in
    let plan = c.args.plan.now in
    let x = F.contents c.args.flash.now in
    let fits = c.requires.lent.fits tells in
    let kept = kept_from b plan.places (sym c.keeps_places-self.ensures ∙ c.if-not-self.false) in
    let n = c.mark_stored.new.bank in
    let z = F.contents c.mark_stored.new.flash in
    let y = F.contents c.resume.new.flash in
    let looks = looks_joined F.tells F.contents F.block_count F.block_len F.moment F.left_since c.args.flash.now c.is_staged.new.flash c.mark_stored.new.flash b c.is_staged.new.bank c.mark_stored.new.bank c.is_staged.ensures.looks c.mark_stored.ensures.looks in
    let z_is = looks.reads.same tells in
    let lent = c.in_ok-mark_stored.ensures.lent.fits tells in
    let two : (current_of n).layout ≡ 2 = ap (λ (h : Record). h.layout) looks.current ∙ kept.two in
    joined F.moment F.left_since c.args.flash.now c.mark_stored.new.flash c.resume.new.flash (KeepsBoot (geometry_of b) x)
    (looked F.moment F.left_since c.args.flash.now c.mark_stored.new.flash x (KeepsBoot (geometry_of b) x) (keeps_boot_same (geometry_of b) x fits.sound) (looks.reads.left tells))
    (weaker F.moment F.left_since c.mark_stored.new.flash c.resume.new.flash (LeavesResumed n z) (KeepsBoot (geometry_of b) x) (λ w leaves. boot_moved (geometry_of n) (geometry_of b) z x w looks.geometry z_is (resumed_keeps_boot n z lent w leaves)) (c.resume.ensures.left tells))

pub returns-clause-no_more : goal.returns-clause-no_more
returns-clause-no_more g c tells =
    let F = g.F.Flash in
    let b = c.args.bank.now in
    let m = c.args.message.now in
    let plan = c.args.plan.now in
    let x = F.contents c.args.flash.now in
    let fits = c.requires.lent.fits tells in
    let kept = kept_from b plan.places (sym c.keeps_places-self.ensures ∙ c.if-not-self.false) in
    let n = c.mark_stored.new.bank in
    let z = F.contents c.mark_stored.new.flash in
    let y = F.contents c.resume.new.flash in
    let looks = looks_joined F.tells F.contents F.block_count F.block_len F.moment F.left_since c.args.flash.now c.is_staged.new.flash c.mark_stored.new.flash b c.is_staged.new.bank c.mark_stored.new.bank c.is_staged.ensures.looks c.mark_stored.ensures.looks in
    let z_is = looks.reads.same tells in
    let lent = c.in_ok-mark_stored.ensures.lent.fits tells in
    let two : (current_of n).layout ≡ 2 = ap (λ (h : Record). h.layout) looks.current ∙ kept.two in
    holds_moved (geometry_of n) (geometry_of b) z x y looks.geometry z_is (resumed_no_more n z y lent (c.resume.ensures.held tells))

pub returns-clause-no_more_left : goal.returns-clause-no_more_left
returns-clause-no_more_left g c tells =
    let F = g.F.Flash in
    let b = c.args.bank.now in
    let m = c.args.message.now in
    let plan = c.args.plan.now in
    let x = F.contents c.args.flash.now in
    let fits = c.requires.lent.fits tells in
    let kept = kept_from b plan.places (sym c.keeps_places-self.ensures ∙ c.if-not-self.false) in
    let n = c.mark_stored.new.bank in
    let z = F.contents c.mark_stored.new.flash in
    let y = F.contents c.resume.new.flash in
    let looks = looks_joined F.tells F.contents F.block_count F.block_len F.moment F.left_since c.args.flash.now c.is_staged.new.flash c.mark_stored.new.flash b c.is_staged.new.bank c.mark_stored.new.bank c.is_staged.ensures.looks c.mark_stored.ensures.looks in
    let z_is = looks.reads.same tells in
    let lent = c.in_ok-mark_stored.ensures.lent.fits tells in
    let two : (current_of n).layout ≡ 2 = ap (λ (h : Record). h.layout) looks.current ∙ kept.two in
    joined F.moment F.left_since c.args.flash.now c.mark_stored.new.flash c.resume.new.flash (HoldsNoMore (geometry_of b) x)
    (looked F.moment F.left_since c.args.flash.now c.mark_stored.new.flash x (HoldsNoMore (geometry_of b) x) (same_no_more (geometry_of b) x) (looks.reads.left tells))
    (weaker F.moment F.left_since c.mark_stored.new.flash c.resume.new.flash (LeavesResumed n z) (HoldsNoMore (geometry_of b) x) (λ w leaves. holds_moved (geometry_of n) (geometry_of b) z x w looks.geometry z_is (resumed_no_more n z w lent leaves)) (c.resume.ensures.left tells))

pub returns-clause-resumed : goal.returns-clause-resumed
returns-clause-resumed g c tells keeping dii group =
    let F = g.F.Flash in
    let b = c.args.bank.now in
    let m = c.args.message.now in
    let plan = c.args.plan.now in
    let x = F.contents c.args.flash.now in
    let fits = c.requires.lent.fits tells in
    let kept = kept_from b plan.places (sym c.keeps_places-self.ensures ∙ c.if-not-self.false) in
    let n = c.mark_stored.new.bank in
    let z = F.contents c.mark_stored.new.flash in
    let y = F.contents c.resume.new.flash in
    let looks = looks_joined F.tells F.contents F.block_count F.block_len F.moment F.left_since c.args.flash.now c.is_staged.new.flash c.mark_stored.new.flash b c.is_staged.new.bank c.mark_stored.new.bank c.is_staged.ensures.looks c.mark_stored.ensures.looks in
    let z_is = looks.reads.same tells in
    let lent = c.in_ok-mark_stored.ensures.lent.fits tells in
    let two : (current_of n).layout ≡ 2 = ap (λ (h : Record). h.layout) looks.current ∙ kept.two in
    staged_moved (geometry_of n) (geometry_of b) z x y looks.geometry z_is (resumed_keeps n z y lent (c.resume.ensures.held tells))

pub returns-clause-resumed_left : goal.returns-clause-resumed_left
returns-clause-resumed_left g c tells keeping dii group =
    let F = g.F.Flash in
    let b = c.args.bank.now in
    let m = c.args.message.now in
    let plan = c.args.plan.now in
    let x = F.contents c.args.flash.now in
    let fits = c.requires.lent.fits tells in
    let kept = kept_from b plan.places (sym c.keeps_places-self.ensures ∙ c.if-not-self.false) in
    let n = c.mark_stored.new.bank in
    let z = F.contents c.mark_stored.new.flash in
    let y = F.contents c.resume.new.flash in
    let looks = looks_joined F.tells F.contents F.block_count F.block_len F.moment F.left_since c.args.flash.now c.is_staged.new.flash c.mark_stored.new.flash b c.is_staged.new.bank c.mark_stored.new.bank c.is_staged.ensures.looks c.mark_stored.ensures.looks in
    let z_is = looks.reads.same tells in
    let lent = c.in_ok-mark_stored.ensures.lent.fits tells in
    let two : (current_of n).layout ≡ 2 = ap (λ (h : Record). h.layout) looks.current ∙ kept.two in
    joined F.moment F.left_since c.args.flash.now c.mark_stored.new.flash c.resume.new.flash (KeepsStaged (geometry_of b) 0 0 x)
    (looked F.moment F.left_since c.args.flash.now c.mark_stored.new.flash x (KeepsStaged (geometry_of b) 0 0 x) (kept_same (geometry_of b) x 0 0) (looks.reads.left tells))
    (weaker F.moment F.left_since c.mark_stored.new.flash c.resume.new.flash (LeavesResumed n z) (KeepsStaged (geometry_of b) 0 0 x) (λ w leaves. staged_moved (geometry_of n) (geometry_of b) z x w looks.geometry z_is (resumed_keeps n z w lent leaves)) (c.resume.ensures.left tells))

pub returns-clause-fresh : goal.returns-clause-fresh
returns-clause-fresh g c tells keeping new =
    let F = g.F.Flash in
    let b = c.args.bank.now in
    let m = c.args.message.now in
    let plan = c.args.plan.now in
    let x = F.contents c.args.flash.now in
    let fits = c.requires.lent.fits tells in
    let staged = (c.in_ok-staged.ensures.found tells).0 c.if-not-staged.false in
    absurd (new staged.0 staged.1)

pub returns-clause-agrees : goal.returns-clause-agrees
returns-clause-agrees g c tells =
    let F = g.F.Flash in
    let b = c.args.bank.now in
    let m = c.args.message.now in
    let plan = c.args.plan.now in
    let x = F.contents c.args.flash.now in
    let fits = c.requires.lent.fits tells in
    let kept = kept_from b plan.places (sym c.keeps_places-self.ensures ∙ c.if-not-self.false) in
    let n = c.mark_stored.new.bank in
    let z = F.contents c.mark_stored.new.flash in
    let y = F.contents c.resume.new.flash in
    let looks = looks_joined F.tells F.contents F.block_count F.block_len F.moment F.left_since c.args.flash.now c.is_staged.new.flash c.mark_stored.new.flash b c.is_staged.new.bank c.mark_stored.new.bank c.is_staged.ensures.looks c.mark_stored.ensures.looks in
    let z_is = looks.reads.same tells in
    let lent = c.in_ok-mark_stored.ensures.lent.fits tells in
    let two : (current_of n).layout ≡ 2 = ap (λ (h : Record). h.layout) looks.current ∙ kept.two in
    let staged = (c.in_ok-staged.ensures.found tells).0 c.if-not-staged.false in
    let first = c.is_staged.ensures.looks in
    let d = c.is_staged.new.bank in
    let of : IsOf _ m plan = record { block_size = refl; modules = c.replace_modules.ensures.items ∙ c.as_slice.ensures.value; places = c.mark_stored.ensures.places ∙ c.clear.ensures.places; message_is = c.replace_message.ensures.items } in
    let same : SameBank b c.resume.new.self = record {
      geometry = c.resume.ensures.geometry ∙ looks.geometry;
      current = c.resume.ensures.current ∙ looks.current;
      block = c.resume.ensures.block ∙ looks.block;
    } in
    let group = subst (λ (w : List ℕ). StagesGroup (geometry_of b) x w staged.0) (sym c.replace_message.ensures.items) staged.1 in
    let leaves = c.resume.ensures.held tells in
    let keeps = keeps_moved (geometry_of n) (geometry_of b) z x y looks.geometry z_is leaves.keeps in
    let area_is = area_moved (area_of_bank n) (area_of_bank b) z x y (area_same b n looks.geometry looks.current) z_is (resumed_area n z y leaves) in
    let kept_t : IsKeptIn b _ = record { two = kept.two; few = subst (λ (k : ℕ). k ≤ mark_count (geometry_of b)) (sym of.places) kept.few } in
    let marks = λ (k : ℕ) (p : Place) (at : place_at plan.block_size c.replace_modules.new.modules.items k ≡ Some p).
    marks_moved (area_of_bank d) (area_of_bank b) (F.contents c.is_staged.new.flash) x k p (area_same b d first.geometry first.current) (first.reads.same tells) _
    (c.in_ok-mark_stored.ensures.marks tells k p (sym (place_in_plan _ m plan of k) ∙ at)) in
    both_ok (Fits c.resume.new.self y) (is_begun c.resume.new.self ≡ true) _ c.resume.result
    (λ after begun. resumed_agrees _ b c.resume.new.self x y (ready_for _ b c.resume.new.self m plan of refl c.keeps_places-self.ensures c.requires.of_message same c.requires.inside begun) fits same kept_t staged.0 group keeps area_is after marks)
    (on_ok _ _ c.resume.result (λ lent. lent.fits tells) c.resume.ensures.lent) c.resume.ensures.begun

pub returns-clause-kept : goal.returns-clause-kept
returns-clause-kept g c tells keeping =
    let F = g.F.Flash in
    let b = c.args.bank.now in
    let m = c.args.message.now in
    let plan = c.args.plan.now in
    let x = F.contents c.args.flash.now in
    let fits = c.requires.lent.fits tells in
    let kept = kept_from b plan.places (sym c.keeps_places-self.ensures ∙ c.if-not-self.false) in
    let n = c.mark_stored.new.bank in
    let z = F.contents c.mark_stored.new.flash in
    let y = F.contents c.resume.new.flash in
    let looks = looks_joined F.tells F.contents F.block_count F.block_len F.moment F.left_since c.args.flash.now c.is_staged.new.flash c.mark_stored.new.flash b c.is_staged.new.bank c.mark_stored.new.bank c.is_staged.ensures.looks c.mark_stored.ensures.looks in
    let z_is = looks.reads.same tells in
    let lent = c.in_ok-mark_stored.ensures.lent.fits tells in
    let two : (current_of n).layout ≡ 2 = ap (λ (h : Record). h.layout) looks.current ∙ kept.two in
    let staged = (c.in_ok-staged.ensures.found tells).0 c.if-not-staged.false in
    let first = c.is_staged.ensures.looks in
    let d = c.is_staged.new.bank in
    let t : JournalStage = record {
      most = c.args.self.now.most;
      block_size = plan.block_size;
      modules = c.replace_modules.new.modules;
      total = plan.total;
      map = c.mark_stored.new.map;
      message = c.replace_message.new.message;
      keeps = c.keeps_places-self.result;
      room = let was = c.args.self.now.room in let one = c.mark_stored.ensures.most in let two = c.clear.ensures.most in omega (arith, was, one, two);
      modules_room = c.replace_modules.ensures.room;
      message_room = c.replace_message.ensures.room;
    } in
    let of : IsOf t m plan = record { block_size = refl; modules = c.replace_modules.ensures.items ∙ c.as_slice.ensures.value; places = c.mark_stored.ensures.places ∙ c.clear.ensures.places; message_is = c.replace_message.ensures.items } in
    let same : SameBank b c.resume.new.self = record {
      geometry = c.resume.ensures.geometry ∙ looks.geometry;
      current = c.resume.ensures.current ∙ looks.current;
      block = c.resume.ensures.block ∙ looks.block;
    } in
    let group = subst (λ (w : List ℕ). StagesGroup (geometry_of b) x w staged.0) (sym c.replace_message.ensures.items) staged.1 in
    let leaves = c.resume.ensures.held tells in
    let keeps = keeps_moved (geometry_of n) (geometry_of b) z x y looks.geometry z_is leaves.keeps in
    let area_is = area_moved (area_of_bank n) (area_of_bank b) z x y (area_same b n looks.geometry looks.current) z_is (resumed_area n z y leaves) in
    let kept_t : IsKeptIn b t.map.places = record { two = kept.two; few = subst (λ (k : ℕ). k ≤ mark_count (geometry_of b)) (sym of.places) kept.few } in
    let marks = λ (k : ℕ) (p : Place) (at : place_at plan.block_size c.replace_modules.new.modules.items k ≡ Some p).
    marks_moved (area_of_bank d) (area_of_bank b) (F.contents c.is_staged.new.flash) x k p (area_same b d first.geometry first.current) (first.reads.same tells) _
    (c.in_ok-mark_stored.ensures.marks tells k p (sym (place_in_plan t m plan of k) ∙ at)) in
    both_ok (Fits c.resume.new.self y) (is_begun c.resume.new.self ≡ true) _ c.resume.result
    (λ after begun. λ number lt. subst (λ (w : List ℕ). (has_in_journal t number ≡ true) ↔ IsStagedIn (geometry_of b) x w number) c.replace_message.ensures.items (resumed_has t b c.resume.new.self x y (ready_for t b c.resume.new.self m plan of refl c.keeps_places-self.ensures c.requires.of_message same c.requires.inside begun) fits same kept_t staged.0 group keeps area_is after marks number (let is = of.places in omega (arith, lt, is))))
    (on_ok _ _ c.resume.result (λ lent. lent.fits tells) c.resume.ensures.lent) c.resume.ensures.begun

pub returns-clause-kept_bytes : goal.returns-clause-kept_bytes
returns-clause-kept_bytes g c tells keeping =
    let F = g.F.Flash in
    let b = c.args.bank.now in
    let m = c.args.message.now in
    let plan = c.args.plan.now in
    let x = F.contents c.args.flash.now in
    let fits = c.requires.lent.fits tells in
    let kept = kept_from b plan.places (sym c.keeps_places-self.ensures ∙ c.if-not-self.false) in
    let n = c.mark_stored.new.bank in
    let z = F.contents c.mark_stored.new.flash in
    let y = F.contents c.resume.new.flash in
    let looks = looks_joined F.tells F.contents F.block_count F.block_len F.moment F.left_since c.args.flash.now c.is_staged.new.flash c.mark_stored.new.flash b c.is_staged.new.bank c.mark_stored.new.bank c.is_staged.ensures.looks c.mark_stored.ensures.looks in
    let z_is = looks.reads.same tells in
    let lent = c.in_ok-mark_stored.ensures.lent.fits tells in
    let two : (current_of n).layout ≡ 2 = ap (λ (h : Record). h.layout) looks.current ∙ kept.two in
    let staged = (c.in_ok-staged.ensures.found tells).0 c.if-not-staged.false in
    let first = c.is_staged.ensures.looks in
    let d = c.is_staged.new.bank in
    let of : IsOf _ m plan = record { block_size = refl; modules = c.replace_modules.ensures.items ∙ c.as_slice.ensures.value; places = c.mark_stored.ensures.places ∙ c.clear.ensures.places; message_is = c.replace_message.ensures.items } in
    let same : SameBank b c.resume.new.self = record {
      geometry = c.resume.ensures.geometry ∙ looks.geometry;
      current = c.resume.ensures.current ∙ looks.current;
      block = c.resume.ensures.block ∙ looks.block;
    } in
    let group = subst (λ (w : List ℕ). StagesGroup (geometry_of b) x w staged.0) (sym c.replace_message.ensures.items) staged.1 in
    let leaves = c.resume.ensures.held tells in
    let keeps = keeps_moved (geometry_of n) (geometry_of b) z x y looks.geometry z_is leaves.keeps in
    let area_is = area_moved (area_of_bank n) (area_of_bank b) z x y (area_same b n looks.geometry looks.current) z_is (resumed_area n z y leaves) in
    let kept_t : IsKeptIn b _ = record { two = kept.two; few = subst (λ (k : ℕ). k ≤ mark_count (geometry_of b)) (sym of.places) kept.few } in
    let marks = λ (k : ℕ) (p : Place) (at : place_at plan.block_size c.replace_modules.new.modules.items k ≡ Some p).
    marks_moved (area_of_bank d) (area_of_bank b) (F.contents c.is_staged.new.flash) x k p (area_same b d first.geometry first.current) (first.reads.same tells) _
    (c.in_ok-mark_stored.ensures.marks tells k p (sym (place_in_plan _ m plan of k) ∙ at)) in
    both_ok (Fits c.resume.new.self y) (is_begun c.resume.new.self ≡ true) _ c.resume.result
    (λ after begun. λ number bytes place. resumed_text _ b c.resume.new.self x y (ready_for _ b c.resume.new.self m plan of refl c.keeps_places-self.ensures c.requires.of_message same c.requires.inside begun) fits same kept_t staged.0 group keeps area_is after marks number bytes (subst (λ (w : List ℕ). StagesPlace (geometry_of b) x w number bytes) (sym c.replace_message.ensures.items) place))
    (on_ok _ _ c.resume.result (λ lent. lent.fits tells) c.resume.ensures.lent) c.resume.ensures.begun
