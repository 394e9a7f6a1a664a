use Rattle.std.specs.Prelude.{◌↔◌, IfOk, IsTrue}
use Rattle.std.proofs.Common.{◌≡◌, ◌+◌, ◌≤◌, List, ℕ, length, sym, ap, subst, ◌∙◌, arith}
use Rattle.flash_bank.specs.Bank.{current_of, spare_journal}
use Rattle.flash_bank.specs.declared.record.Record.{Record}
use Rattle.flash_dev.specs.Changes.{Holds}
use Rattle.flash_layout.specs.Journal.{header_written}
use Rattle.flash_layout.specs.Layout.{Geometry, journal_len}
use Rattle.flash_layout.specs.Pairs.{paired}
use Rattle.flash_journal.specs.declared.side.Side.TheVariants.{InJournal}
use Rattle.flash_journal.proofs.HeaderLaws.{fixed_stands, found_header, header_room}
use Rattle.flash_journal.proofs.LooksLaws.{looks_joined, side_place_same}
use Rattle.flash_journal.proofs.header.header_stands.Goals as goal

pub returns-then-not-fixed_stands-clause-found : goal.returns-then-not-fixed_stands-clause-found
returns-then-not-fixed_stands-clause-found g c tells =
    let x = g.F.Flash.contents c.args.flash.now in
    let is : c.header_bytes-fixed.result ≡ header_written ((current_of c.args.bank.now).number + 1) (length c.args.message.now) =
    c.header_bytes-fixed.ensures ∙ ap (λ (h : Record). header_written (h.number + 1) (length c.args.message.now)) c.current.ensures.value in
    (λ never. absurd (cc never), λ stands. sym c.if-not-fixed_stands.true ∙ (c.in_ok-fixed_stands.ensures.found tells).1 (fixed_stands c.args.bank.now x c.args.message.now c.header_bytes-fixed.result is stands))

pub bytes_stand-requires-clause-inside : goal.bytes_stand-requires-clause-inside
bytes_stand-requires-clause-inside g c =
    let room = header_room c.args.bank.now in
    let size : length c.header_bytes-fixed.result ≡ 32 = ap (λ (l : List ℕ). length l) c.header_bytes-fixed.ensures in
    omega (arith, room, size)

pub message_stands-requires-clause-inside : goal.message_stands-requires-clause-inside
message_stands-requires-clause-inside g c =
    subst (λ (s : Geometry). 8448 ≤ journal_len s) (sym c.bytes_stand.ensures.looks.geometry) (header_room c.args.bank.now)

pub returns-clause-looks : goal.returns-clause-looks
returns-clause-looks g c =
    let F = g.F.Flash in
    looks_joined F.tells F.contents F.block_count F.block_len F.moment F.left_since c.args.flash.now c.bytes_stand.new.flash c.message_stands.new.flash c.args.bank.now c.bytes_stand.new.bank c.message_stands.new.bank
    c.bytes_stand.ensures.looks c.message_stands.ensures.looks

pub returns-clause-found : goal.returns-clause-found
returns-clause-found g c tells =
    let x = g.F.Flash.contents c.args.flash.now in
    let m = c.args.message.now in
    let looks = c.bytes_stand.ensures.looks in
    let is : c.header_bytes-fixed.result ≡ header_written ((current_of c.args.bank.now).number + 1) (length m) =
    c.header_bytes-fixed.ensures ∙ ap (λ (h : Record). header_written (h.number + 1) (length m)) c.current.ensures.value in
    let first : Holds x (spare_journal c.args.bank.now + 0) c.header_bytes-fixed.result = (c.in_ok-fixed_stands.ensures.found tells).0 c.if-not-fixed_stands.false in
    let place : spare_journal c.bytes_stand.new.bank + 256 ≡ spare_journal c.args.bank.now + 256 = omega (arith, side_place_same InJournal c.args.bank.now c.bytes_stand.new.bank looks.geometry looks.current) in
    found_header c.args.bank.now x m c.header_bytes-fixed.result c.message_stands.result is first
    (subst (λ (p : ℕ). IfOk c.message_stands.result (λ t. IsTrue t ↔ Holds x p (paired m))) place
    (subst (λ (l : List ℕ). IfOk c.message_stands.result (λ t. IsTrue t ↔ Holds l (spare_journal c.bytes_stand.new.bank + 256) (paired m))) (looks.reads.same tells) (c.message_stands.ensures.found tells)))
