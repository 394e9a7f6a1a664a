use Rattle.std.proofs.Common.{◌≡◌, ⊎_elim, inr, ℕ, List, length, sym, subst, ap}
use Rattle.flash_dev.specs.Changes.{Changes, IsBlank, IsProgrammed, IsTornProgram}
use Rattle.flash_dev.proofs.Moments.{goes_on, joined, weaker}
use Rattle.flash_layout.specs.Shape.{geometry}
use Rattle.flash_bank.specs.Migrate.{LeavesMoved, moved_record}
use Rattle.flash_bank.specs.Record.{written}
use Rattle.flash_bank.proofs.MigrateLemmas.{first_leaves, leaves_moved, second_leaves, third_blank, third_done, third_leaves}
use Rattle.flash_bank.proofs.migration.move_record.Goals as goal

pub returns-in_err-erase_spare-clause-held : goal.returns-in_err-erase_spare-clause-held
returns-in_err-erase_spare-clause-held g c tells =
    let F = g.F.Flash in
    let s = geometry c.args.shape in
    let r = c.args.block in
    let old = c.args.old in
    let x = F.contents c.args.flash.now in
    let can = c.requires.can tells in
    first_leaves s c.requires.limits c.requires.room r old c.requires.bank x can _ (c.erase_spare.ensures.held tells)

pub returns-in_err-erase_spare-clause-left : goal.returns-in_err-erase_spare-clause-left
returns-in_err-erase_spare-clause-left g c tells =
    let F = g.F.Flash in
    let s = geometry c.args.shape in
    let r = c.args.block in
    let old = c.args.old in
    let x = F.contents c.args.flash.now in
    let can = c.requires.can tells in
    weaker F.moment F.left_since c.args.flash.now c.erase_spare.new.flash _ (LeavesMoved s x)
    (λ z h. first_leaves s c.requires.limits c.requires.room r old c.requires.bank x can z h) (c.erase_spare.ensures.left tells)

pub returns-in_err-erase_journal-clause-held : goal.returns-in_err-erase_journal-clause-held
returns-in_err-erase_journal-clause-held g c tells =
    let F = g.F.Flash in
    let s = geometry c.args.shape in
    let r = c.args.block in
    let old = c.args.old in
    let x = F.contents c.args.flash.now in
    let can = c.requires.can tells in
    let m = F.contents c.erase_spare.new.flash in
    let cleared = c.in_ok-erase_spare.ensures.done tells in
    second_leaves s c.requires.limits c.requires.room r old c.requires.bank x can m cleared _ (c.erase_journal.ensures.held tells)

pub returns-in_err-erase_journal-clause-left : goal.returns-in_err-erase_journal-clause-left
returns-in_err-erase_journal-clause-left g c tells =
    let F = g.F.Flash in
    let s = geometry c.args.shape in
    let r = c.args.block in
    let old = c.args.old in
    let x = F.contents c.args.flash.now in
    let can = c.requires.can tells in
    let m = F.contents c.erase_spare.new.flash in
    let cleared = c.in_ok-erase_spare.ensures.done tells in
    let first = weaker F.moment F.left_since c.args.flash.now c.erase_spare.new.flash _ (LeavesMoved s x)
    (λ z h. first_leaves s c.requires.limits c.requires.room r old c.requires.bank x can z h) (c.erase_spare.ensures.left tells) in
    let second = weaker F.moment F.left_since c.erase_spare.new.flash c.erase_journal.new.flash _ (LeavesMoved s x)
    (λ z h. second_leaves s c.requires.limits c.requires.room r old c.requires.bank x can m cleared z h) (c.erase_journal.ensures.left tells) in
    joined F.moment F.left_since c.args.flash.now c.erase_spare.new.flash c.erase_journal.new.flash (LeavesMoved s x) first second

pub program-requires-clause-blank : goal.program-requires-clause-blank
program-requires-clause-blank g c tells =
    let F = g.F.Flash in
    let s = geometry c.args.shape in
    let r = c.args.block in
    let old = c.args.old in
    let x = F.contents c.args.flash.now in
    let can = c.requires.can tells in
    let m = F.contents c.erase_spare.new.flash in
    let cleared = c.in_ok-erase_spare.ensures.done tells in
    let n = F.contents c.erase_journal.new.flash in
    let cuts = c.erase_journal.ensures.held tells in
    let done = c.in_ok-erase_journal.ensures.done tells in
    let blank = third_blank s c.requires.limits c.requires.room r old c.requires.bank x can m cleared n cuts done in
    let size : length c.encoded.result ≡ 64 = ap length c.encoded.ensures.bytes in
    subst (λ (w : ℕ). IsBlank n c.record_place.result w) (sym size) (subst (λ (p : ℕ). IsBlank n p 64) (sym c.record_place.ensures) blank)

pub returns-in_err-program-clause-held : goal.returns-in_err-program-clause-held
returns-in_err-program-clause-held g c tells =
    let F = g.F.Flash in
    let s = geometry c.args.shape in
    let r = c.args.block in
    let old = c.args.old in
    let x = F.contents c.args.flash.now in
    let can = c.requires.can tells in
    let m = F.contents c.erase_spare.new.flash in
    let cleared = c.in_ok-erase_spare.ensures.done tells in
    let n = F.contents c.erase_journal.new.flash in
    let cuts = c.erase_journal.ensures.held tells in
    let done = c.in_ok-erase_journal.ensures.done tells in
    let torn = λ (y : List ℕ) (h : Changes c.record_place.result (length c.encoded.result) (IsTornProgram c.encoded.result) n y).
    third_leaves s c.requires.limits c.requires.room r old c.requires.bank x can m cleared n cuts done c.encoded.ensures.in_range y
    (subst (λ (p : ℕ). Changes p 64 (IsTornProgram (written (moved_record old))) n y) c.record_place.ensures
    (subst (λ (bs : List ℕ). Changes c.record_place.result (length bs) (IsTornProgram bs) n y) c.encoded.ensures.bytes h)) in
    torn (F.contents c.program.new.self) (c.in_err-program.ensures.torn tells)

pub returns-clause-done : goal.returns-clause-done
returns-clause-done g c tells =
    let F = g.F.Flash in
    let s = geometry c.args.shape in
    let r = c.args.block in
    let old = c.args.old in
    let x = F.contents c.args.flash.now in
    let can = c.requires.can tells in
    let m = F.contents c.erase_spare.new.flash in
    let cleared = c.in_ok-erase_spare.ensures.done tells in
    let n = F.contents c.erase_journal.new.flash in
    let cuts = c.erase_journal.ensures.held tells in
    let done = c.in_ok-erase_journal.ensures.done tells in
    third_done s c.requires.limits c.requires.room r old c.requires.bank x can m cleared n cuts done c.encoded.ensures.in_range (F.contents c.program.new.self)
    (subst (λ (p : ℕ). Changes p 64 (IsProgrammed (written (moved_record old))) n (F.contents c.program.new.self)) c.record_place.ensures
    (subst (λ (bs : List ℕ). Changes c.record_place.result (length bs) (IsProgrammed bs) n (F.contents c.program.new.self)) c.encoded.ensures.bytes (c.in_ok-program.ensures.done tells)))

pub returns-clause-held : goal.returns-clause-held
returns-clause-held g c tells =
    let F = g.F.Flash in
    let s = geometry c.args.shape in
    let r = c.args.block in
    let old = c.args.old in
    let x = F.contents c.args.flash.now in
    let can = c.requires.can tells in
    leaves_moved s r old x can (F.contents c.program.new.self) (inr (returns-clause-done g c tells).commits) (returns-clause-done g c tells).moves.outside

pub returns-in_err-program-clause-left : goal.returns-in_err-program-clause-left
returns-in_err-program-clause-left g c tells =
    let F = g.F.Flash in
    let s = geometry c.args.shape in
    let r = c.args.block in
    let old = c.args.old in
    let x = F.contents c.args.flash.now in
    let can = c.requires.can tells in
    let m = F.contents c.erase_spare.new.flash in
    let cleared = c.in_ok-erase_spare.ensures.done tells in
    let n = F.contents c.erase_journal.new.flash in
    let cuts = c.erase_journal.ensures.held tells in
    let done = c.in_ok-erase_journal.ensures.done tells in
    let torn = λ (y : List ℕ) (h : Changes c.record_place.result (length c.encoded.result) (IsTornProgram c.encoded.result) n y).
    third_leaves s c.requires.limits c.requires.room r old c.requires.bank x can m cleared n cuts done c.encoded.ensures.in_range y
    (subst (λ (p : ℕ). Changes p 64 (IsTornProgram (written (moved_record old))) n y) c.record_place.ensures
    (subst (λ (bs : List ℕ). Changes c.record_place.result (length bs) (IsTornProgram bs) n y) c.encoded.ensures.bytes h)) in
    let first = weaker F.moment F.left_since c.args.flash.now c.erase_spare.new.flash _ (LeavesMoved s x)
    (λ z h. first_leaves s c.requires.limits c.requires.room r old c.requires.bank x can z h) (c.erase_spare.ensures.left tells) in
    let second = weaker F.moment F.left_since c.erase_spare.new.flash c.erase_journal.new.flash _ (LeavesMoved s x)
    (λ z h. second_leaves s c.requires.limits c.requires.room r old c.requires.bank x can m cleared z h) (c.erase_journal.ensures.left tells) in
    let so_far = joined F.moment F.left_since c.args.flash.now c.erase_spare.new.flash c.erase_journal.new.flash (LeavesMoved s x) first second in
    goes_on F.moment F.left_since c.args.flash.now c.erase_journal.new.flash c.program.new.self (LeavesMoved s x) _ so_far c.program.ensures.time
    (λ y. ⊎_elim (λ h. torn y h) (λ is. subst (LeavesMoved s x) (sym is) (returns-in_err-program-clause-held g c tells)))

pub returns-clause-left : goal.returns-clause-left
returns-clause-left g c tells =
    let F = g.F.Flash in
    let s = geometry c.args.shape in
    let r = c.args.block in
    let old = c.args.old in
    let x = F.contents c.args.flash.now in
    let can = c.requires.can tells in
    let m = F.contents c.erase_spare.new.flash in
    let cleared = c.in_ok-erase_spare.ensures.done tells in
    let n = F.contents c.erase_journal.new.flash in
    let cuts = c.erase_journal.ensures.held tells in
    let done = c.in_ok-erase_journal.ensures.done tells in
    let torn = λ (y : List ℕ) (h : Changes c.record_place.result (length c.encoded.result) (IsTornProgram c.encoded.result) n y).
    third_leaves s c.requires.limits c.requires.room r old c.requires.bank x can m cleared n cuts done c.encoded.ensures.in_range y
    (subst (λ (p : ℕ). Changes p 64 (IsTornProgram (written (moved_record old))) n y) c.record_place.ensures
    (subst (λ (bs : List ℕ). Changes c.record_place.result (length bs) (IsTornProgram bs) n y) c.encoded.ensures.bytes h)) in
    let first = weaker F.moment F.left_since c.args.flash.now c.erase_spare.new.flash _ (LeavesMoved s x)
    (λ z h. first_leaves s c.requires.limits c.requires.room r old c.requires.bank x can z h) (c.erase_spare.ensures.left tells) in
    let second = weaker F.moment F.left_since c.erase_spare.new.flash c.erase_journal.new.flash _ (LeavesMoved s x)
    (λ z h. second_leaves s c.requires.limits c.requires.room r old c.requires.bank x can m cleared z h) (c.erase_journal.ensures.left tells) in
    let so_far = joined F.moment F.left_since c.args.flash.now c.erase_spare.new.flash c.erase_journal.new.flash (LeavesMoved s x) first second in
    goes_on F.moment F.left_since c.args.flash.now c.erase_journal.new.flash c.program.new.self (LeavesMoved s x) _ so_far c.program.ensures.time
    (λ y. ⊎_elim (λ h. torn y h) (λ is. subst (LeavesMoved s x) (sym is) (returns-clause-held g c tells)))
