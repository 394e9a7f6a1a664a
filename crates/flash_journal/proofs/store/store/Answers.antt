use Rattle.std.proofs.Common.{◌≡◌, ℕ, ◌+◌, Bool, false, true, List, length, Option, None, Some, refl, sym, ap, subst, ◌∙◌, arith}
use Rattle.flash_bank.specs.Journal.{LeavesPut, Puts, slot_place}
use Rattle.flash_bank.specs.declared.record.Record.{Record}
use Rattle.flash_dev.proofs.Moments.{weaker}
use Rattle.flash_kept.specs.Counts.{find_below}
use Rattle.flash_kept.specs.Lost.{is_lost, is_untouched}
use Rattle.flash_kept.specs.Slots.{is_free}
use Rattle.flash_layout.specs.Slots.{slot_written}
use Rattle.flash_stage.proofs.LeavingLaws.{on_ok}
use Rattle.bank_kept.specs.Bank.{area_of_bank}
use Rattle.flash_bank.proofs.LeavingLemmas.{keeps_boot_same}
use Rattle.flash_bank.specs.Bank.{geometry_of}
use Rattle.flash_journal.proofs.LooksLaws.{looks_joined}
use Rattle.flash_journal.proofs.ReadingLaws.{area_same}
use Rattle.flash_journal.proofs.StoreLaws.{find_is, leaves_moved, left_moved, looked_left, moved_free, moved_lost, moved_none, offered_lost, offered_moved, slot_blank, slot_for, spared_offers, sparing_leaves, stored_moved, stored_none}
use Rattle.flash_journal.specs.Storing.{LeavesStored}
use Rattle.flash_journal.proofs.store.store.Goals as goal

pub returns-in_err-untouched-clause-held : goal.returns-in_err-untouched-clause-held
returns-in_err-untouched-clause-held g c tells dii message is =
    let F = g.F.Flash in
    let b = c.args.bank.now in
    let x = F.contents c.args.flash.now in
    subst (λ (y : List ℕ). LeavesStored (geometry_of b) (area_of_bank b) dii message c.args.place.number c.args.bytes.now x y) (sym (c.is_untouched.ensures.looks.reads.same tells))
    (stored_none (geometry_of b) (area_of_bank b) dii message c.args.place c.args.bytes.now x is (keeps_boot_same (geometry_of b) x (c.requires.lent.fits tells).sound))

pub returns-in_err-untouched-clause-left : goal.returns-in_err-untouched-clause-left
returns-in_err-untouched-clause-left g c tells dii message is =
    let F = g.F.Flash in
    let b = c.args.bank.now in
    let x = F.contents c.args.flash.now in
    looked_left F.moment F.left_since (geometry_of b) (geometry_of b) (area_of_bank b) (area_of_bank b) x x dii message c.args.place c.args.bytes.now c.args.flash.now c.is_untouched.new.flash
    (c.is_untouched.ensures.looks.reads.left tells) is (keeps_boot_same (geometry_of b) x (c.requires.lent.fits tells).sound)

pub returns-then-untouched-clause-stored : goal.returns-then-untouched-clause-stored
returns-then-untouched-clause-stored g c tells =
    let F = g.F.Flash in
    let b = c.args.bank.now in
    let looks = c.is_untouched.ensures.looks in
    stored_moved c.fill_and_mark.result (area_of_bank c.is_untouched.new.bank) (area_of_bank b) (F.contents c.is_untouched.new.flash) (F.contents c.args.flash.now) _ c.args.place c.args.bytes.now
    (area_same b c.is_untouched.new.bank looks.geometry looks.current) (looks.reads.same tells) (c.fill_and_mark.ensures.stored tells)

pub returns-then-untouched-clause-held : goal.returns-then-untouched-clause-held
returns-then-untouched-clause-held g c tells dii message is =
    let F = g.F.Flash in
    let b = c.args.bank.now in
    let m = c.is_untouched.new.bank in
    let x = F.contents c.args.flash.now in
    let z = F.contents c.is_untouched.new.flash in
    let looks = c.is_untouched.ensures.looks in
    let area = area_same b m looks.geometry looks.current in
    leaves_moved (geometry_of m) (geometry_of b) (area_of_bank m) (area_of_bank b) z x _ dii message c.args.place c.args.bytes.now looks.geometry area (looks.reads.same tells)
    (c.fill_and_mark.ensures.held tells dii message (offered_moved (area_of_bank m) (area_of_bank b) z x dii message c.args.place c.args.bytes.now area (looks.reads.same tells) is))

pub returns-then-untouched-clause-left : goal.returns-then-untouched-clause-left
returns-then-untouched-clause-left g c tells dii message is =
    let F = g.F.Flash in
    let b = c.args.bank.now in
    let m = c.is_untouched.new.bank in
    let x = F.contents c.args.flash.now in
    let z = F.contents c.is_untouched.new.flash in
    let looks = c.is_untouched.ensures.looks in
    let area = area_same b m looks.geometry looks.current in
    left_moved F.moment F.left_since (geometry_of m) (geometry_of b) (area_of_bank m) (area_of_bank b) z x dii message c.args.place c.args.bytes.now c.args.flash.now c.is_untouched.new.flash c.fill_and_mark.new.flash
    looks.geometry area (looks.reads.same tells) (looks.reads.left tells) is (keeps_boot_same (geometry_of b) x (c.requires.lent.fits tells).sound)
    (c.fill_and_mark.ensures.left tells dii message (offered_moved (area_of_bank m) (area_of_bank b) z x dii message c.args.place c.args.bytes.now area (looks.reads.same tells) is))

pub returns-in_err-slot-clause-held : goal.returns-in_err-slot-clause-held
returns-in_err-slot-clause-held g c tells dii message is =
    let F = g.F.Flash in
    let b = c.args.bank.now in
    let n = c.first_free.new.bank in
    let p = c.args.place in
    let bytes = c.args.bytes.now in
    let x = F.contents c.args.flash.now in
    let w = F.contents c.first_free.new.flash in
    let looks = looks_joined F.tells F.contents F.block_count F.block_len F.moment F.left_since c.args.flash.now c.is_untouched.new.flash c.first_free.new.flash b c.is_untouched.new.bank n
    c.is_untouched.ensures.looks c.first_free.ensures.looks in
    let same = looks.reads.same tells in
    let area = area_same b n looks.geometry looks.current in
    let keeps = keeps_boot_same (geometry_of b) x (c.requires.lent.fits tells).sound in
    subst (λ (y : List ℕ). LeavesStored (geometry_of b) (area_of_bank b) dii message p.number bytes x y) (sym same) (stored_none (geometry_of b) (area_of_bank b) dii message p bytes x is keeps)

pub returns-in_err-slot-clause-left : goal.returns-in_err-slot-clause-left
returns-in_err-slot-clause-left g c tells dii message is =
    let F = g.F.Flash in
    let b = c.args.bank.now in
    let n = c.first_free.new.bank in
    let p = c.args.place in
    let bytes = c.args.bytes.now in
    let x = F.contents c.args.flash.now in
    let w = F.contents c.first_free.new.flash in
    let looks = looks_joined F.tells F.contents F.block_count F.block_len F.moment F.left_since c.args.flash.now c.is_untouched.new.flash c.first_free.new.flash b c.is_untouched.new.bank n
    c.is_untouched.ensures.looks c.first_free.ensures.looks in
    let same = looks.reads.same tells in
    let area = area_same b n looks.geometry looks.current in
    let keeps = keeps_boot_same (geometry_of b) x (c.requires.lent.fits tells).sound in
    looked_left F.moment F.left_since (geometry_of b) (geometry_of b) (area_of_bank b) (area_of_bank b) x x dii message p bytes c.args.flash.now c.first_free.new.flash (looks.reads.left tells) is keeps

pub spare-requires-clause-blank : goal.spare-requires-clause-blank
spare-requires-clause-blank g c tells =
    let F = g.F.Flash in
    let b = c.args.bank.now in
    let n = c.first_free.new.bank in
    let p = c.args.place in
    let bytes = c.args.bytes.now in
    let x = F.contents c.args.flash.now in
    let w = F.contents c.first_free.new.flash in
    let looks = looks_joined F.tells F.contents F.block_count F.block_len F.moment F.left_since c.args.flash.now c.is_untouched.new.flash c.first_free.new.flash b c.is_untouched.new.bank n
    c.is_untouched.ensures.looks c.first_free.ensures.looks in
    let same = looks.reads.same tells in
    let area = area_same b n looks.geometry looks.current in
    let keeps = keeps_boot_same (geometry_of b) x (c.requires.lent.fits tells).sound in
    let never : is_untouched (area_of_bank b) x p.number p ≡ false = sym (c.in_ok-untouched.ensures.found tells) ∙ c.if-untouched.false in
    let found = find_is (is_free (area_of_bank c.is_untouched.new.bank) (F.contents c.is_untouched.new.flash)) 16 c.in-Some.slot (sym (c.in_ok-slot.ensures.found tells) ∙ c.in-Some.is) in
    let free : is_free (area_of_bank n) w c.in-Some.slot ≡ true =
    moved_free (area_of_bank c.is_untouched.new.bank) (area_of_bank n) (F.contents c.is_untouched.new.flash) w c.in-Some.slot
    (area_same c.is_untouched.new.bank n c.first_free.ensures.looks.geometry c.first_free.ensures.looks.current) (c.first_free.ensures.looks.reads.same tells) found.1 in
    slot_blank (area_of_bank n) w c.in-Some.slot free

pub fill_and_mark-requires-in-None-clause-blank : goal.fill_and_mark-requires-in-None-clause-blank
fill_and_mark-requires-in-None-clause-blank g c tells =
    let F = g.F.Flash in
    let b = c.args.bank.now in
    let n = c.first_free.new.bank in
    let p = c.args.place in
    let bytes = c.args.bytes.now in
    let x = F.contents c.args.flash.now in
    let w = F.contents c.first_free.new.flash in
    let looks = looks_joined F.tells F.contents F.block_count F.block_len F.moment F.left_since c.args.flash.now c.is_untouched.new.flash c.first_free.new.flash b c.is_untouched.new.bank n
    c.is_untouched.ensures.looks c.first_free.ensures.looks in
    let same = looks.reads.same tells in
    let area = area_same b n looks.geometry looks.current in
    let keeps = keeps_boot_same (geometry_of b) x (c.requires.lent.fits tells).sound in
    let never : is_untouched (area_of_bank b) x p.number p ≡ false = sym (c.in_ok-untouched.ensures.found tells) ∙ c.if-untouched.false in
    let offered = c.requires.offered tells in
    let first = c.is_untouched.ensures.looks in
    let none : find_below (is_free (area_of_bank b) x) 16 ≡ None =
    moved_none (area_of_bank b) (area_of_bank c.is_untouched.new.bank) x (F.contents c.is_untouched.new.flash) (area_same b c.is_untouched.new.bank first.geometry first.current) (first.reads.same tells)
    (sym (c.in_ok-slot.ensures.found tells) ∙ c.in-None.is) in
    absurd (slot_for (area_of_bank b) offered.dii offered.message p bytes x offered.is never none)

pub returns-in-Some-clause-stored : goal.returns-in-Some-clause-stored
returns-in-Some-clause-stored g c tells =
    let F = g.F.Flash in
    let b = c.args.bank.now in
    let n = c.first_free.new.bank in
    let p = c.args.place in
    let bytes = c.args.bytes.now in
    let x = F.contents c.args.flash.now in
    let w = F.contents c.first_free.new.flash in
    let looks = looks_joined F.tells F.contents F.block_count F.block_len F.moment F.left_since c.args.flash.now c.is_untouched.new.flash c.first_free.new.flash b c.is_untouched.new.bank n
    c.is_untouched.ensures.looks c.first_free.ensures.looks in
    let same = looks.reads.same tells in
    let area = area_same b n looks.geometry looks.current in
    let keeps = keeps_boot_same (geometry_of b) x (c.requires.lent.fits tells).sound in
    let never : is_untouched (area_of_bank b) x p.number p ≡ false = sym (c.in_ok-untouched.ensures.found tells) ∙ c.if-untouched.false in
    let found = find_is (is_free (area_of_bank c.is_untouched.new.bank) (F.contents c.is_untouched.new.flash)) 16 c.in-Some.slot (sym (c.in_ok-slot.ensures.found tells) ∙ c.in-Some.is) in
    let free : is_free (area_of_bank n) w c.in-Some.slot ≡ true =
    moved_free (area_of_bank c.is_untouched.new.bank) (area_of_bank n) (F.contents c.is_untouched.new.flash) w c.in-Some.slot
    (area_same c.is_untouched.new.bank n c.first_free.ensures.looks.geometry c.first_free.ensures.looks.current) (c.first_free.ensures.looks.reads.same tells) found.1 in
    let y = F.contents c.spare.new.flash in
    let offered = c.requires.offered tells in
    let two = ap (λ (h : Record). h.layout) looks.current ∙ c.requires.two in
    let fits = c.in_ok-slot.ensures.lent.fits tells in
    let lost : is_lost (area_of_bank n) w p.number (Some p) ≡ true = moved_lost (area_of_bank b) (area_of_bank n) x w p area same (offered_lost (area_of_bank b) offered.dii offered.message p bytes x offered.is never) in
    stored_moved c.spare.result (area_of_bank n) (area_of_bank b) w x y p bytes area same
    (on_ok (Puts (slot_place n c.in-Some.slot + 256) bytes (slot_place n c.in-Some.slot) (slot_written p.at (length bytes)) w y) _ c.spare.result
    (λ puts dii message is. spared_offers n w fits two c.in-Some.slot found.0 p bytes c.requires.few c.requires.length free lost dii message is y puts) (c.spare.ensures.spared tells))

pub returns-in-Some-clause-held : goal.returns-in-Some-clause-held
returns-in-Some-clause-held g c tells dii message is =
    let F = g.F.Flash in
    let b = c.args.bank.now in
    let n = c.first_free.new.bank in
    let p = c.args.place in
    let bytes = c.args.bytes.now in
    let x = F.contents c.args.flash.now in
    let w = F.contents c.first_free.new.flash in
    let looks = looks_joined F.tells F.contents F.block_count F.block_len F.moment F.left_since c.args.flash.now c.is_untouched.new.flash c.first_free.new.flash b c.is_untouched.new.bank n
    c.is_untouched.ensures.looks c.first_free.ensures.looks in
    let same = looks.reads.same tells in
    let area = area_same b n looks.geometry looks.current in
    let keeps = keeps_boot_same (geometry_of b) x (c.requires.lent.fits tells).sound in
    let never : is_untouched (area_of_bank b) x p.number p ≡ false = sym (c.in_ok-untouched.ensures.found tells) ∙ c.if-untouched.false in
    let found = find_is (is_free (area_of_bank c.is_untouched.new.bank) (F.contents c.is_untouched.new.flash)) 16 c.in-Some.slot (sym (c.in_ok-slot.ensures.found tells) ∙ c.in-Some.is) in
    let free : is_free (area_of_bank n) w c.in-Some.slot ≡ true =
    moved_free (area_of_bank c.is_untouched.new.bank) (area_of_bank n) (F.contents c.is_untouched.new.flash) w c.in-Some.slot
    (area_same c.is_untouched.new.bank n c.first_free.ensures.looks.geometry c.first_free.ensures.looks.current) (c.first_free.ensures.looks.reads.same tells) found.1 in
    let two = ap (λ (h : Record). h.layout) looks.current ∙ c.requires.two in
    let fits = c.in_ok-slot.ensures.lent.fits tells in
    let lost : is_lost (area_of_bank n) w p.number (Some p) ≡ true = moved_lost (area_of_bank b) (area_of_bank n) x w p area same (offered_lost (area_of_bank b) dii message p bytes x is never) in
    leaves_moved (geometry_of n) (geometry_of b) (area_of_bank n) (area_of_bank b) w x _ dii message p bytes looks.geometry area same
    (sparing_leaves n w fits two c.in-Some.slot found.0 p bytes c.requires.few c.requires.length free lost dii message
    (offered_moved (area_of_bank n) (area_of_bank b) w x dii message p bytes area same is) _ (c.spare.ensures.held tells))

pub returns-in-Some-clause-left : goal.returns-in-Some-clause-left
returns-in-Some-clause-left g c tells dii message is =
    let F = g.F.Flash in
    let b = c.args.bank.now in
    let n = c.first_free.new.bank in
    let p = c.args.place in
    let bytes = c.args.bytes.now in
    let x = F.contents c.args.flash.now in
    let w = F.contents c.first_free.new.flash in
    let looks = looks_joined F.tells F.contents F.block_count F.block_len F.moment F.left_since c.args.flash.now c.is_untouched.new.flash c.first_free.new.flash b c.is_untouched.new.bank n
    c.is_untouched.ensures.looks c.first_free.ensures.looks in
    let same = looks.reads.same tells in
    let area = area_same b n looks.geometry looks.current in
    let keeps = keeps_boot_same (geometry_of b) x (c.requires.lent.fits tells).sound in
    let never : is_untouched (area_of_bank b) x p.number p ≡ false = sym (c.in_ok-untouched.ensures.found tells) ∙ c.if-untouched.false in
    let found = find_is (is_free (area_of_bank c.is_untouched.new.bank) (F.contents c.is_untouched.new.flash)) 16 c.in-Some.slot (sym (c.in_ok-slot.ensures.found tells) ∙ c.in-Some.is) in
    let free : is_free (area_of_bank n) w c.in-Some.slot ≡ true =
    moved_free (area_of_bank c.is_untouched.new.bank) (area_of_bank n) (F.contents c.is_untouched.new.flash) w c.in-Some.slot
    (area_same c.is_untouched.new.bank n c.first_free.ensures.looks.geometry c.first_free.ensures.looks.current) (c.first_free.ensures.looks.reads.same tells) found.1 in
    let two = ap (λ (h : Record). h.layout) looks.current ∙ c.requires.two in
    let fits = c.in_ok-slot.ensures.lent.fits tells in
    let lost : is_lost (area_of_bank n) w p.number (Some p) ≡ true = moved_lost (area_of_bank b) (area_of_bank n) x w p area same (offered_lost (area_of_bank b) dii message p bytes x is never) in
    let own = offered_moved (area_of_bank n) (area_of_bank b) w x dii message p bytes area same is in
    left_moved F.moment F.left_since (geometry_of n) (geometry_of b) (area_of_bank n) (area_of_bank b) w x dii message p bytes c.args.flash.now c.first_free.new.flash c.spare.new.flash
    looks.geometry area same (looks.reads.left tells) is keeps
    (weaker F.moment F.left_since c.first_free.new.flash c.spare.new.flash
    (LeavesPut (geometry_of n) (slot_place n c.in-Some.slot + 256) bytes (slot_place n c.in-Some.slot) (slot_written p.at (length bytes)) w) _
    (λ y. sparing_leaves n w fits two c.in-Some.slot found.0 p bytes c.requires.few c.requires.length free lost dii message own y) (c.spare.ensures.left tells))

pub returns-in-None-clause-stored : goal.returns-in-None-clause-stored
returns-in-None-clause-stored g c tells =
    let F = g.F.Flash in
    let b = c.args.bank.now in
    let n = c.first_free.new.bank in
    let p = c.args.place in
    let bytes = c.args.bytes.now in
    let x = F.contents c.args.flash.now in
    let w = F.contents c.first_free.new.flash in
    let looks = looks_joined F.tells F.contents F.block_count F.block_len F.moment F.left_since c.args.flash.now c.is_untouched.new.flash c.first_free.new.flash b c.is_untouched.new.bank n
    c.is_untouched.ensures.looks c.first_free.ensures.looks in
    let same = looks.reads.same tells in
    let area = area_same b n looks.geometry looks.current in
    let keeps = keeps_boot_same (geometry_of b) x (c.requires.lent.fits tells).sound in
    stored_moved c.fill_and_mark-in-None.result (area_of_bank n) (area_of_bank b) w x _ p bytes area same (c.fill_and_mark-in-None.ensures.stored tells)

pub returns-in-None-clause-held : goal.returns-in-None-clause-held
returns-in-None-clause-held g c tells dii message is =
    let F = g.F.Flash in
    let b = c.args.bank.now in
    let n = c.first_free.new.bank in
    let p = c.args.place in
    let bytes = c.args.bytes.now in
    let x = F.contents c.args.flash.now in
    let w = F.contents c.first_free.new.flash in
    let looks = looks_joined F.tells F.contents F.block_count F.block_len F.moment F.left_since c.args.flash.now c.is_untouched.new.flash c.first_free.new.flash b c.is_untouched.new.bank n
    c.is_untouched.ensures.looks c.first_free.ensures.looks in
    let same = looks.reads.same tells in
    let area = area_same b n looks.geometry looks.current in
    let keeps = keeps_boot_same (geometry_of b) x (c.requires.lent.fits tells).sound in
    leaves_moved (geometry_of n) (geometry_of b) (area_of_bank n) (area_of_bank b) w x _ dii message p bytes looks.geometry area same
    (c.fill_and_mark-in-None.ensures.held tells dii message (offered_moved (area_of_bank n) (area_of_bank b) w x dii message p bytes area same is))

pub returns-in-None-clause-left : goal.returns-in-None-clause-left
returns-in-None-clause-left g c tells dii message is =
    let F = g.F.Flash in
    let b = c.args.bank.now in
    let n = c.first_free.new.bank in
    let p = c.args.place in
    let bytes = c.args.bytes.now in
    let x = F.contents c.args.flash.now in
    let w = F.contents c.first_free.new.flash in
    let looks = looks_joined F.tells F.contents F.block_count F.block_len F.moment F.left_since c.args.flash.now c.is_untouched.new.flash c.first_free.new.flash b c.is_untouched.new.bank n
    c.is_untouched.ensures.looks c.first_free.ensures.looks in
    let same = looks.reads.same tells in
    let area = area_same b n looks.geometry looks.current in
    let keeps = keeps_boot_same (geometry_of b) x (c.requires.lent.fits tells).sound in
    left_moved F.moment F.left_since (geometry_of n) (geometry_of b) (area_of_bank n) (area_of_bank b) w x dii message p bytes c.args.flash.now c.first_free.new.flash c.fill_and_mark-in-None.new.flash
    looks.geometry area same (looks.reads.left tells) is keeps
    (c.fill_and_mark-in-None.ensures.left tells dii message (offered_moved (area_of_bank n) (area_of_bank b) w x dii message p bytes area same is))
