use Rattle.std.proofs.Common.{◌≡◌, ℕ, ◌+◌, ◌<◌, ◌≤◌, List, length, get_or, None, sym, ap, subst, ◌∙◌, arith}
use Rattle.flash_bank.specs.Bank.{LeavesBegun, current_of, geometry_of, len_of, spare_bank, spare_journal}
use Rattle.flash_bank.specs.Journal.{LeavesPut, Puts}
use Rattle.flash_bank.specs.declared.bank.Bank.{Bank}
use Rattle.flash_bank.specs.declared.record.Record.{Record}
use Rattle.flash_dev.proofs.Moments.{joined, weaker}
use Rattle.flash_dev.specs.Changes.{IsBlank}
use Rattle.flash_layout.specs.Journal.{header_written}
use Rattle.flash_layout.specs.Layout.{area_len, mark_count}
use Rattle.flash_layout.specs.Pairs.{paired}
use Rattle.flash_stage.proofs.LeavingLaws.{len_same, on_ok}
use Rattle.flash_stage.specs.Leaving.{SameBank}
use Rattle.ssu_group.specs.Refusal.{refusal}
use Rattle.flash_journal.specs.Beginning.{LeavesCleared, StagesNew}
use Rattle.flash_journal.proofs.BeginLaws.{began_cleared, erased_same, head_cleared, header_blank, headed_stages, message_blank}
use Rattle.flash_journal.proofs.MessageLaws.{message_few, message_some}
use Rattle.flash_journal.proofs.begin.begin_kept.Goals as goal

pub head-requires-clause-some : goal.head-requires-clause-some
head-requires-clause-some g c = message_some c.args.message.now c.requires.spells.dii c.requires.spells.reads

pub head-requires-clause-few : goal.head-requires-clause-few
head-requires-clause-few g c = message_few c.args.message.now c.requires.spells.dii c.requires.spells.reads

pub head-requires-clause-blank : goal.head-requires-clause-blank
head-requires-clause-blank g c tells =
    let b = c.args.bank.now in
    let mid = g.F.Flash.contents c.begin.new.flash in
    let same : SameBank b c.begin.new.self = record { geometry = c.begin.ensures.geometry; current = c.begin.ensures.current; block = c.begin.ensures.block } in
    let two = ap (λ (h : Record). h.layout) c.begin.ensures.current ∙ c.requires.two in
    header_blank c.begin.new.self two mid (erased_same b c.begin.new.self mid same (c.in_ok-begin.ensures.erased_area tells))

pub head-requires-clause-message_blank : goal.head-requires-clause-message_blank
head-requires-clause-message_blank g c tells =
    let b = c.args.bank.now in
    let mid = g.F.Flash.contents c.begin.new.flash in
    let same : SameBank b c.begin.new.self = record { geometry = c.begin.ensures.geometry; current = c.begin.ensures.current; block = c.begin.ensures.block } in
    let two = ap (λ (h : Record). h.layout) c.begin.ensures.current ∙ c.requires.two in
    message_blank c.begin.new.self two mid (length c.args.message.now) (message_few c.args.message.now c.requires.spells.dii c.requires.spells.reads)
    (erased_same b c.begin.new.self mid same (c.in_ok-begin.ensures.erased_area tells))

pub returns-in_err-begin-clause-held : goal.returns-in_err-begin-clause-held
returns-in_err-begin-clause-held g c tells = began_cleared c.args.bank.now _ _ (c.requires.lent.fits tells) (c.begin.ensures.held tells)

pub returns-in_err-begin-clause-left : goal.returns-in_err-begin-clause-left
returns-in_err-begin-clause-left g c tells =
    let F = g.F.Flash in
    let b = c.args.bank.now in
    let x = F.contents c.args.flash.now in
    weaker F.moment F.left_since c.args.flash.now c.begin.new.flash (LeavesBegun (geometry_of b) x) _ (λ y. began_cleared b x y (c.requires.lent.fits tells)) (c.begin.ensures.left tells)

pub returns-clause-staged : goal.returns-clause-staged
returns-clause-staged g c tells =
    let b = c.args.bank.now in
    let n = c.begin.new.self in
    let m = c.args.message.now in
    let x = g.F.Flash.contents c.args.flash.now in
    let mid = g.F.Flash.contents c.begin.new.flash in
    let y = g.F.Flash.contents c.head.new.flash in
    let same : SameBank b n = record { geometry = c.begin.ensures.geometry; current = c.begin.ensures.current; block = c.begin.ensures.block } in
    let two = ap (λ (h : Record). h.layout) c.begin.ensures.current ∙ c.requires.two in
    let spells = c.requires.spells in
    on_ok (Puts (spare_journal n + 256) (paired m) (spare_journal n) (header_written ((current_of n).number + 1) (length m)) mid y) _ c.head.result
    (λ puts. headed_stages b n m x mid same (c.requires.lent.fits tells) (c.begin.ensures.held tells) (c.in_ok-begin.ensures.lent.fits tells) two
    (erased_same b n mid same (c.in_ok-begin.ensures.erased_area tells)) (message_few m spells.dii spells.reads) y (c.head.ensures.held tells).keeps.keeps puts
    (omega (arith, c.requires.next_fits, ap (λ (h : Record). h.number) c.begin.ensures.current)) (λ i lt. omega (arith, c.type_inv.message i)) spells.dii spells.reads
    (subst (λ (k : ℕ). refusal spells.dii k ≡ None) (sym (len_same b n same)) spells.usable) (omega (arith, spells.few, ap mark_count c.begin.ensures.geometry)))
    (c.head.ensures.headed tells)

pub returns-clause-held : goal.returns-clause-held
returns-clause-held g c tells =
    let b = c.args.bank.now in
    let n = c.begin.new.self in
    let m = c.args.message.now in
    let x = g.F.Flash.contents c.args.flash.now in
    let mid = g.F.Flash.contents c.begin.new.flash in
    let same : SameBank b n = record { geometry = c.begin.ensures.geometry; current = c.begin.ensures.current; block = c.begin.ensures.block } in
    let two = ap (λ (h : Record). h.layout) c.begin.ensures.current ∙ c.requires.two in
    head_cleared b n m x mid same (c.requires.lent.fits tells) (c.begin.ensures.held tells) (c.in_ok-begin.ensures.lent.fits tells) two
    (erased_same b n mid same (c.in_ok-begin.ensures.erased_area tells)) (message_few m c.requires.spells.dii c.requires.spells.reads) _ (c.head.ensures.held tells)

pub returns-clause-left : goal.returns-clause-left
returns-clause-left g c tells =
    let F = g.F.Flash in
    let b = c.args.bank.now in
    let n = c.begin.new.self in
    let m = c.args.message.now in
    let x = F.contents c.args.flash.now in
    let mid = F.contents c.begin.new.flash in
    let same : SameBank b n = record { geometry = c.begin.ensures.geometry; current = c.begin.ensures.current; block = c.begin.ensures.block } in
    let two = ap (λ (h : Record). h.layout) c.begin.ensures.current ∙ c.requires.two in
    let P = LeavesCleared (geometry_of b) x in
    joined F.moment F.left_since c.args.flash.now c.begin.new.flash c.head.new.flash P
    (weaker F.moment F.left_since c.args.flash.now c.begin.new.flash (LeavesBegun (geometry_of b) x) P (λ y. began_cleared b x y (c.requires.lent.fits tells)) (c.begin.ensures.left tells))
    (weaker F.moment F.left_since c.begin.new.flash c.head.new.flash (LeavesPut (geometry_of n) (spare_journal n + 256) (paired m) (spare_journal n) (header_written ((current_of n).number + 1) (length m)) mid) P
    (λ y. head_cleared b n m x mid same (c.requires.lent.fits tells) (c.begin.ensures.held tells) (c.in_ok-begin.ensures.lent.fits tells) two
    (erased_same b n mid same (c.in_ok-begin.ensures.erased_area tells)) (message_few m c.requires.spells.dii c.requires.spells.reads) y) (c.head.ensures.left tells))
