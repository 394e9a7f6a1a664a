use Rattle.std.specs.Prelude.{IfSome}
use Rattle.std.proofs.Common.{◌≡◌, ◌+◌, ◌*◌, ◌<◌, ◌++◌, ℕ, List, Option, Some, true, sym, ap, subst, ◌∙◌, arith}
use Rattle.bank_kept.specs.Bank.{area_of_bank}
use Rattle.flash_bank.specs.Bank.{geometry_of, len_of}
use Rattle.flash_kept.specs.SpareArea.{slot_bytes}
use Rattle.flash_layout.specs.Layout.{Geometry, IsInLimits, blocks_of, slots_at}
use Rattle.flash_layout.specs.Pairs.{part}
use Rattle.ts_crc.specs.Crc.{crc_of}
use Rattle.flash_journal.specs.Side.{side_place}
use Rattle.flash_journal.specs.Texts.{slot_text, text_of}
use Rattle.flash_journal.specs.declared.side.Side.TheVariants.{InBank, InJournal}
use Rattle.flash_journal.proofs.LooksLaws.{looks_joined, side_len_same, side_place_same}
use Rattle.flash_journal.proofs.PlaceTextLaws.{on_ok_each}
use Rattle.flash_journal.proofs.RangeLaws.{journal_small, slot_room}
use Rattle.flash_journal.proofs.texts.push_place.Goals as goal

pub push_range-requires-clause-two : goal.push_range-requires-clause-two
push_range-requires-clause-two g c e = absurd cc

pub push_range-requires-clause-inside : goal.push_range-requires-clause-inside
push_range-requires-clause-inside g c =
    let looks = c.slot_with.ensures.looks in
    let same : len_of c.slot_with.new.bank ≡ len_of c.args.bank.now = side_len_same InBank c.args.bank.now c.slot_with.new.bank looks.geometry looks.current in
    let len : c.from.result ≡ c.args.place.len = cc in
    let inside = c.requires.inside in
    omega (arith, same, len, inside)

pub overflow_mul-begin : goal.overflow_mul-begin
overflow_mul-begin g c =
    let both = subst (λ (o : Option ℕ). IfSome o (λ s. (c.args.keeps ≡ true) × (s < 16))) c.in-Some.is c.in_ok-slot_with.ensures.below in
    omega (arith, both.1)

pub overflow_add-begin : goal.overflow_add-begin
overflow_add-begin g c =
    let F = g.F.Flash in
    let b = c.slot_with.new.bank in
    let both = subst (λ (o : Option ℕ). IfSome o (λ s. (c.args.keeps ≡ true) × (s < 16))) c.in-Some.is c.in_ok-slot_with.ensures.below in
    let lent = c.in_ok-slot_with.ensures.lent in
    let here : blocks_of F c.slot_with.new.flash ≡ geometry_of b = (λ i. record { blocks = lent.blocks i; block_len = lent.block_size i }) in
    let begin = (subst (λ (s : Geometry). IsInLimits s → c.slots_begin.result ≡ slots_at s) here c.slots_begin.ensures) b.limits in
    let two = ap (λ r. r.layout) c.slot_with.ensures.looks.current ∙ c.requires.two both.0 in
    let room = slot_room b c.in-Some.slot both.1 in
    let small = journal_small b two in
    omega (arith, begin, room, small)

pub overflow_add-begin-in-Some : goal.overflow_add-begin-in-Some
overflow_add-begin-in-Some g c =
    let F = g.F.Flash in
    let b = c.slot_with.new.bank in
    let both = subst (λ (o : Option ℕ). IfSome o (λ s. (c.args.keeps ≡ true) × (s < 16))) c.in-Some.is c.in_ok-slot_with.ensures.below in
    let lent = c.in_ok-slot_with.ensures.lent in
    let here : blocks_of F c.slot_with.new.flash ≡ geometry_of b = (λ i. record { blocks = lent.blocks i; block_len = lent.block_size i }) in
    let begin = (subst (λ (s : Geometry). IsInLimits s → c.slots_begin.result ≡ slots_at s) here c.slots_begin.ensures) b.limits in
    let two = ap (λ r. r.layout) c.slot_with.ensures.looks.current ∙ c.requires.two both.0 in
    let room = slot_room b c.in-Some.slot both.1 in
    let small = journal_small b two in
    omega (arith, begin, room, small)

pub push_range-requires-in-Some-clause-two : goal.push_range-requires-in-Some-clause-two
push_range-requires-in-Some-clause-two g c e =
    let both = subst (λ (o : Option ℕ). IfSome o (λ s. (c.args.keeps ≡ true) × (s < 16))) c.in-Some.is c.in_ok-slot_with.ensures.below in
    ap (λ r. r.layout) c.slot_with.ensures.looks.current ∙ c.requires.two both.0

pub push_range-requires-in-Some-clause-inside : goal.push_range-requires-in-Some-clause-inside
push_range-requires-in-Some-clause-inside g c =
    let F = g.F.Flash in
    let b = c.slot_with.new.bank in
    let both = subst (λ (o : Option ℕ). IfSome o (λ s. (c.args.keeps ≡ true) × (s < 16))) c.in-Some.is c.in_ok-slot_with.ensures.below in
    let lent = c.in_ok-slot_with.ensures.lent in
    let here : blocks_of F c.slot_with.new.flash ≡ geometry_of b = (λ i. record { blocks = lent.blocks i; block_len = lent.block_size i }) in
    let begin = (subst (λ (s : Geometry). IsInLimits s → c.slots_begin.result ≡ slots_at s) here c.slots_begin.ensures) b.limits in
    let room = slot_room b c.in-Some.slot both.1 in
    let len : c.from-in-Some.result ≡ c.args.place.len = cc in
    let few = c.requires.few in
    omega (arith, begin, room, len, few)

pub returns-in-None-clause-join : goal.returns-in-None-clause-join
returns-in-None-clause-join g c tells =
    let F = g.F.Flash in
    let x = F.contents c.args.flash.now in
    let b = c.args.bank.now in
    let p = c.args.place in
    let looks = c.slot_with.ensures.looks in
    let len : c.from.result ≡ p.len = cc in
    let same : part (F.contents c.slot_with.new.flash) (side_place InBank c.slot_with.new.bank + p.at) c.from.result ≡ text_of c.args.keeps b x (Some p) =
    ap (λ (l : List ℕ). part l (side_place InBank c.slot_with.new.bank + p.at) c.from.result) (looks.reads.same tells)
    ∙ (ap (λ (q : ℕ). part x (q + p.at) c.from.result) (side_place_same InBank b c.slot_with.new.bank looks.geometry looks.current)
    ∙ (ap (λ (n : ℕ). part x (side_place InBank b + p.at) n) len
    ∙ (sym (ap (λ (o : Option ℕ). slot_text (area_of_bank b) x p o) c.in-None.is) ∙ c.in_ok-slot_with.ensures.text tells))) in
    on_ok_each c.push_range.result
    ((before : List ℕ) → c.args.register.now ≡ crc_of before → c.push_range.new.register ≡ crc_of (before ++ part (F.contents c.slot_with.new.flash) (side_place InBank c.slot_with.new.bank + p.at) c.from.result))
    ((before : List ℕ) → c.args.register.now ≡ crc_of before → c.push_range.new.register ≡ crc_of (before ++ text_of c.args.keeps b x (Some p)))
    (λ join before is. join before is ∙ ap (λ (t : List ℕ). crc_of (before ++ t)) same) (c.push_range.ensures.join tells)

pub returns-in-None-clause-looks : goal.returns-in-None-clause-looks
returns-in-None-clause-looks g c =
    let F = g.F.Flash in
    looks_joined F.tells F.contents F.block_count F.block_len F.moment F.left_since c.args.flash.now c.slot_with.new.flash c.push_range.new.flash c.args.bank.now c.slot_with.new.bank c.push_range.new.bank
    c.slot_with.ensures.looks c.push_range.ensures.looks

pub returns-in-Some-clause-join : goal.returns-in-Some-clause-join
returns-in-Some-clause-join g c tells =
    let F = g.F.Flash in
    let x = F.contents c.args.flash.now in
    let b = c.args.bank.now in
    let p = c.args.place in
    let s = c.in-Some.slot in
    let looks = c.slot_with.ensures.looks in
    let lent = c.in_ok-slot_with.ensures.lent in
    let here : blocks_of F c.slot_with.new.flash ≡ geometry_of b = (λ i. record { blocks = lent.blocks i; block_len = lent.block_size i }) ∙ looks.geometry in
    let begin = (subst (λ (g : Geometry). IsInLimits g → c.slots_begin.result ≡ slots_at g) here c.slots_begin.ensures) b.limits in
    let len : c.from-in-Some.result ≡ p.len = cc in
    let place : side_place InJournal c.slot_with.new.bank + (c.slots_begin.result + 4352 * s + 256) ≡ slot_bytes (area_of_bank b) s =
    omega (arith, side_place_same InJournal b c.slot_with.new.bank looks.geometry looks.current, begin) in
    let same : part (F.contents c.slot_with.new.flash) (side_place InJournal c.slot_with.new.bank + (c.slots_begin.result + 4352 * s + 256)) c.from-in-Some.result ≡ text_of c.args.keeps b x (Some p) =
    ap (λ (l : List ℕ). part l (side_place InJournal c.slot_with.new.bank + (c.slots_begin.result + 4352 * s + 256)) c.from-in-Some.result) (looks.reads.same tells)
    ∙ (ap (λ (q : ℕ). part x q c.from-in-Some.result) place
    ∙ (ap (λ (n : ℕ). part x (slot_bytes (area_of_bank b) s) n) len
    ∙ (sym (ap (λ (o : Option ℕ). slot_text (area_of_bank b) x p o) c.in-Some.is) ∙ c.in_ok-slot_with.ensures.text tells))) in
    on_ok_each c.push_range-in-Some.result
    ((before : List ℕ) → c.args.register.now ≡ crc_of before → c.push_range-in-Some.new.register ≡ crc_of (before ++ part (F.contents c.slot_with.new.flash) (side_place InJournal c.slot_with.new.bank + (c.slots_begin.result + 4352 * s + 256)) c.from-in-Some.result))
    ((before : List ℕ) → c.args.register.now ≡ crc_of before → c.push_range-in-Some.new.register ≡ crc_of (before ++ text_of c.args.keeps b x (Some p)))
    (λ join before is. join before is ∙ ap (λ (t : List ℕ). crc_of (before ++ t)) same) (c.push_range-in-Some.ensures.join tells)

pub returns-in-Some-clause-looks : goal.returns-in-Some-clause-looks
returns-in-Some-clause-looks g c =
    let F = g.F.Flash in
    looks_joined F.tells F.contents F.block_count F.block_len F.moment F.left_since c.args.flash.now c.slot_with.new.flash c.push_range-in-Some.new.flash c.args.bank.now c.slot_with.new.bank c.push_range-in-Some.new.bank
    c.slot_with.ensures.looks c.push_range-in-Some.ensures.looks
