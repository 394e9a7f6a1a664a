-- What `begin` and `forget` leave of what is held.
use Rattle.std.specs.Prelude.{◌==◌}
use Rattle.std.proofs.Common.{◌≡◌, ◌⊎◌, inl, inr, ℕ, ◌+◌, ◌*◌, ◌%◌, ◌<◌, ◌≤◌, true, List, length, get_or, refl, sym, ap, subst, ◌∙◌, arith}
use Rattle.std.proofs.lemmas.Bool.{cases_lt, eq-eqb, eqb-true}
use Rattle.dsmcc_msg.specs.Control.{DiiFields}
use Rattle.flash_dev.specs.Changes.{IsBlank}
use Rattle.flash_layout.specs.Journal.{IsSettled}
use Rattle.flash_layout.specs.Pairs.{pair_sum}
use Rattle.flash_layout.proofs.PartLemmas.{get_or-part, part_same}
use Rattle.flash_kept.specs.Held.{HasHeldMessage, IsHeld, InBank, InSlot, Stands}
use Rattle.flash_kept.specs.Leaving.{ClearsFirst, PlacesLie, RaisesFirst, SameIn}
use Rattle.flash_kept.specs.Slots.{is_marked}
use Rattle.flash_kept.specs.SpareArea.{IsInOrder, SpareArea, journal_in, mark_place, message_place, slot_bytes, slot_place}
use Rattle.flash_kept.proofs.CountLaws.{and_both, and_left, and_right}
use Rattle.flash_kept.proofs.HeaderLaws.{counts_of, held_back}
use Rattle.flash_kept.proofs.PairLaws.{PairBack, PairsBack, back_same, same_back, same_within, sum_of}
use Rattle.flash_kept.proofs.PlaceLaws.{held_lie}
use Rattle.flash_kept.proofs.SlotLaws.{slot_of_same, slot_whole}

-- ---- where all pairs go back, what is held in y was held in x

-- The pairs of header, marks and slot heads go back, and no byte that may stand for a place differs.
pub record Backs (area : SpareArea) (x y : List ℕ) : Type 0 where
  pub size : length y ≡ length x
  pub fixed : PairsBack area.journal 16 x y
  pub text : PairsBack (message_place area) 4096 x y
  pub marks : PairsBack (mark_place area 0) area.marks x y
  pub heads : (s : ℕ) → s < 16 → PairsBack (slot_place area s) 8 x y
  pub bank : SameIn area.bank area.bank_len x y
  pub bytes : (s : ℕ) → s < 16 → SameIn (slot_bytes area s) 4096 x y

mark_zero : (area : SpareArea) (n : ℕ) → mark_place area 0 + 2 * n ≡ mark_place area n
mark_zero area n = omega arith

pub mark_back : (area : SpareArea) (x y : List ℕ) (n : ℕ) → n < area.marks → PairsBack (mark_place area 0) area.marks x y → is_marked area y n ≡ true → is_marked area x n ≡ true
unfolding is_marked
mark_back area x y n lt back marked =
    let first : get_or y (mark_place area n + 0) 0 ≡ 0 = eqb-true (get_or y (mark_place area n + 0) 0) 0 (and_left _ _ marked) in
    let second : get_or y (mark_place area n + 1) 0 ≡ 255 = eqb-true (get_or y (mark_place area n + 1) 0) 255 (and_right (get_or y (mark_place area n + 0) 0 == 0) (get_or y (mark_place area n + 1) 0 == 255) marked) in
    let pair : PairBack (mark_place area n) x y = subst (λ (p : ℕ). PairBack p x y) (mark_zero area n) (back n lt) in
    let here0 : mark_place area n + 0 ≡ mark_place area n = omega arith in
    let f = ap (λ (p : ℕ). get_or y p 0) here0 in
    let g = ap (λ (p : ℕ). get_or x p 0) here0 in
    let sum : get_or y (mark_place area n) 0 + get_or y (mark_place area n + 1) 0 ≡ 255 = omega (arith, first, second, f) in
    let both = pair sum in
    let one = both.0 in let two = both.1 in
    and_both _ _ (eq-eqb (get_or x (mark_place area n + 0) 0) 0 (omega (arith, first, f, g, one))) (eq-eqb (get_or x (mark_place area n + 1) 0) 255 (omega (arith, second, two)))

module _ (area : SpareArea) (x y : List ℕ) (order : IsInOrder area) (fits : area.journal + area.journal_len ≤ length y) where
  pub holds_back : Backs area x y → (message : List ℕ) (n : ℕ) (b : List ℕ) → IsHeld area y message n b → IsHeld area x message n b
  holds_back backs message n b holds =
      let l = held_lie area y message holds.dii order holds.under in
      record {
        dii = holds.dii;
        under = held_back area x y message holds.dii order backs.fixed backs.text holds.under;
        place = holds.place;
        is_place = holds.is_place;
        stands = by_stand l holds.stands;
      }
    where
      by_stand : PlacesLie area holds.dii → Stands area y n holds.place b → Stands area x n holds.place b
      by_stand l (InBank marked at) =
          let below = l.below n holds.place holds.is_place in let few = l.few in let inside = l.inside n holds.place holds.is_place in
          InBank (mark_back area x y n (omega (arith, below, few)) backs.marks marked)
          (at ∙ part_same x y (area.bank + holds.place.at) holds.place.len backs.size (same_within area.bank area.bank_len (area.bank + holds.place.at) holds.place.len x y (omega arith) (omega (arith, inside)) backs.bank))
      by_stand l (InSlot s lt valid at) =
          let whole = slot_whole area y order fits s lt (and_left _ _ valid) in
          let size = l.not_empty n holds.place holds.is_place in
          InSlot s lt (sym (slot_of_same area holds.place s x y backs.size (same_back (slot_place area s) 8 x y (backs.heads s lt) whole)) ∙ valid)
          (at ∙ part_same x y (slot_bytes area s) holds.place.len backs.size (same_within (slot_bytes area s) 4096 (slot_bytes area s) holds.place.len x y (omega arith) (omega (arith, size)) (backs.bytes s lt)))

-- ---- the first block of the journal, erased or on its way

no_header : (area : SpareArea) (c message : List ℕ) (dii : DiiFields) → IsInOrder area → get_or c (area.journal + 0) 0 ≡ 255 → get_or c (area.journal + 1) 0 ≡ 255 → HasHeldMessage area c message dii → ⊥
no_header area c message dii order first second held = let sum = (counts_of area c message dii order held).whole 0 (omega arith) in omega (arith, first, second, sum)

-- a pair lies in the first block or behind it
pair_way : (area : SpareArea) (block : ℕ) (x y : List ℕ) (from at : ℕ) → RaisesFirst area block x y → block % 2 ≡ 0 → from % 2 ≡ 0 → at ≡ area.journal + from → from + 1 < area.journal_len
    → 255 ≤ get_or x at 0 + get_or x (at + 1) 0 → PairBack at x y
pair_way area block x y from at way even even_from here within least whole = by_side (cases_lt from block)
  where
    by_side : (from < block) ⊎ (block ≤ from) → (get_or y at 0 ≡ get_or x at 0) × (get_or y (at + 1) 0 ≡ get_or x (at + 1) 0)
    by_side (inl below) =
        let first = way.above from below in
        let second = way.above (from + 1) (omega (arith, below, even, even_from)) in
        let here0 : area.journal + from ≡ at = sym here in
        let here1 : area.journal + (from + 1) ≡ at + 1 = omega (arith, here) in
        let a = ap (λ (p : ℕ). get_or x p 0) here0 in let b = ap (λ (p : ℕ). get_or y p 0) here0 in
        let c = ap (λ (p : ℕ). get_or x p 0) here1 in let d = ap (λ (p : ℕ). get_or y p 0) here1 in
        (omega (arith, least, whole, first, second, a, b, c, d), omega (arith, least, whole, first, second, a, b, c, d))
    by_side (inr past) = (
      subst (λ (p : ℕ). get_or y p 0 ≡ get_or x p 0) (sym here) (way.rest from past (omega (arith, within))),
      (let here1 : area.journal + (from + 1) ≡ at + 1 = omega (arith, here) in subst (λ (p : ℕ). get_or y p 0 ≡ get_or x p 0) here1 (way.rest (from + 1) (omega (arith, past)) within)),
    )

-- no pair of header and marks is below 255
record PairsNotBelow (area : SpareArea) (c : List ℕ) : Type 0 where
  fixed : (i : ℕ) → i < 16 → 255 ≤ sum_of c area.journal i
  text : (i : ℕ) → i < 4096 → 255 ≤ sum_of c (message_place area) i
  marks : (i : ℕ) → i < area.marks → 255 ≤ sum_of c (mark_place area 0) i

not_below : (area : SpareArea) (c : List ℕ) → IsInOrder area → IsSettled area.marks area.slots (journal_in area c) → PairsNotBelow area c
not_below area c order settled = record {
  fixed = λ i lt. let s = settled.each (0 + i) (inl (omega (arith, lt))) in let e = pair_at i 0 area.journal (omega arith) (omega (arith, marks, ends, lt)) in omega (arith, s, e);
  text = λ i lt.
      let s = settled.each (128 + i) (inr (inl (omega arith, omega (arith, lt)))) in
      let e = pair_at i 128 (message_place area) (omega arith) (omega (arith, marks, ends, lt)) in omega (arith, s, e);
  marks = λ i lt.
      let s = settled.each (4224 + i) (inr (inl (omega arith, omega (arith, lt)))) in
      let e = pair_at i 4224 (mark_place area 0) (omega arith) (omega (arith, marks, ends, lt)) in omega (arith, s, e);
}
  where
    marks : 8448 + 2 * area.marks ≤ area.slots
    marks = order.marks

    ends : area.slots + 69632 ≤ area.journal_len
    ends = order.ends

    byte_at_place : (k from j at : ℕ) → area.journal + k ≡ at + j → k < area.journal_len → get_or (journal_in area c) k 0 ≡ get_or c (at + j) 0
    byte_at_place k from j at here lt = get_or-part c area.journal area.journal_len k lt ∙ ap (λ (p : ℕ). get_or c p 0) here

    -- pair i from pair `from` on
    pair_at : (i from at : ℕ) → at ≡ area.journal + 2 * from → 2 * (from + i) + 1 < area.journal_len → pair_sum (journal_in area c) (from + i) ≡ sum_of c at i
    pair_at i from at here lt =
        let first = byte_at_place (2 * (from + i)) from (2 * i) at (omega (arith, here)) (omega (arith, lt)) in
        let second = byte_at_place (2 * (from + i) + 1) from (2 * i + 1) at (omega (arith, here)) lt in
        omega (arith, first, second)

way_backs : (area : SpareArea) (block : ℕ) (x y : List ℕ) → IsInOrder area → block ≤ area.slots → block % 2 ≡ 0 → PairsNotBelow area x → RaisesFirst area block x y → Backs area x y
way_backs area block x y order first even stand way =
    let marks = order.marks in let ends = order.ends in
    record {
      size = way.size;
      fixed = λ i lt. let s = stand.fixed i lt in let here1 : area.journal + (2 * i + 1) ≡ area.journal + 2 * i + 1 = omega arith in let e = ap (λ (p : ℕ). get_or x p 0) here1 in
          pair_way area block x y (2 * i) (area.journal + 2 * i) way even (omega arith) refl (omega (arith, lt, marks, ends)) (omega (arith, s, e));
      text = λ i lt. let s = stand.text i lt in let here1 : message_place area + (2 * i + 1) ≡ message_place area + 2 * i + 1 = omega arith in let e = ap (λ (p : ℕ). get_or x p 0) here1 in
          pair_way area block x y (256 + 2 * i) (message_place area + 2 * i) way even (omega arith) (omega arith) (omega (arith, lt, marks, ends)) (omega (arith, s, e));
      marks = λ i lt. let s = stand.marks i lt in let here1 : mark_place area 0 + (2 * i + 1) ≡ mark_place area 0 + 2 * i + 1 = omega arith in let e = ap (λ (p : ℕ). get_or x p 0) here1 in
          pair_way area block x y (8448 + 2 * i) (mark_place area 0 + 2 * i) way even (omega arith) (omega arith) (omega (arith, lt, marks, ends)) (omega (arith, s, e));
      heads = λ s ls. back_same (slot_place area s) 8 x y (λ k lt. let here1 : area.journal + (area.slots + 4352 * s + k) ≡ slot_place area s + k = omega arith in
          subst (λ (p : ℕ). get_or y p 0 ≡ get_or x p 0) here1 (way.rest (area.slots + 4352 * s + k) (omega (arith, first)) (omega (arith, ls, lt, ends))));
      bank = way.bank;
      bytes = λ s ls k lt. let here1 : area.journal + (area.slots + 4352 * s + 256 + k) ≡ slot_bytes area s + k = omega arith in
          subst (λ (p : ℕ). get_or y p 0 ≡ get_or x p 0) here1 (way.rest (area.slots + 4352 * s + 256 + k) (omega (arith, first)) (omega (arith, ls, lt, ends)));
    }

-- `begin` and `forget` add nothing to what is held, wherever the power goes
pub clears_holds : (area : SpareArea) (block_len : ℕ) (x y : List ℕ) → IsInOrder area → 2 ≤ block_len → block_len ≤ area.slots → block_len % 2 ≡ 0 → IsSettled area.marks area.slots (journal_in area x)
    → area.journal + area.journal_len ≤ length x → ClearsFirst area block_len x y → (message : List ℕ) (n : ℕ) (b : List ℕ) → IsHeld area y message n b → IsHeld area x message n b
clears_holds area block_len x y order two first even settled fits (inl blank) message n b holds = absurd (no_header area y message holds.dii order (blank 0 (omega (arith, two))) (blank 1 (omega (arith, two))) holds.under)
clears_holds area block_len x y order two first even settled fits (inr way) message n b holds =
    let size = way.size in
    holds_back area x y order (omega (arith, fits, size)) (way_backs area block_len x y order first even (not_below area x order settled) way) message n b holds

-- once the block is erased no message is held
pub cleared_none : (area : SpareArea) (block_len : ℕ) (y : List ℕ) → IsInOrder area → 2 ≤ block_len → IsBlank y area.journal block_len
    → (message : List ℕ) (dii : DiiFields) → HasHeldMessage area y message dii → ⊥
cleared_none area block_len y order two blank message dii held = no_header area y message dii order (blank 0 (omega (arith, two))) (blank 1 (omega (arith, two))) held
