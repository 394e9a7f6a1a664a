-- What `head` leaves, over an area that is erased: nothing is held, and once the header stands its message is staged with no place.
use Rattle.std.specs.Prelude.{◌==◌}
use Rattle.std.proofs.Common.{◌≡◌, inl, inr, ℕ, zero, suc, ◌+◌, ◌*◌, ◌^◌, ◌<◌, ◌≤◌, Bool, true, false, List, [], ◌∷◌, length, get_or, Option, Some, None, refl, sym, ap, subst, ◌∙◌, arith}
use Rattle.std.proofs.lemmas.Bool.{eq-eqb, eqb-true}
use Rattle.dsmcc_msg.specs.Control.{DiiFields, dii_message}
use Rattle.flash_layout.specs.Journal.{header_spelled, header_written}
use Rattle.flash_layout.specs.Pairs.{AreWhole}
use Rattle.flash_layout.proofs.PairsLemmas.{byte_of as each_byte, first-paired, whole-paired}
use Rattle.ssu_group.specs.Refusal.{refusal}
use Rattle.ssu_group.specs.declared.places.Place.{Place}
use Rattle.flash_kept.specs.Counts.{listed}
use Rattle.flash_kept.specs.Held.{HasHeldMessage, IsHeld, InBank, InSlot, Stands}
use Rattle.flash_kept.specs.Leaving.{ChangesHeader, HeaderStands, IsErasedArea, PlacesLie}
use Rattle.flash_kept.specs.Lost.{is_lost, is_lost_as, is_untouched, lost_places}
use Rattle.flash_kept.specs.Places.{place_count, place_of}
use Rattle.flash_kept.specs.Slots.{free_slots, is_blank, is_free, is_marked, is_slotted, is_valid_slot}
use Rattle.flash_kept.specs.SpareArea.{IsInOrder, SpareArea, mark_place, message_place, slot_place}
use Rattle.flash_kept.specs.Staged.{HasStagedMessage}
use Rattle.flash_kept.proofs.CountLaws.{all_of, and_both, and_left, count_all, count_none}
use Rattle.flash_kept.proofs.HeaderLaws.{HeaderCounts, counts_header, room_of, text_is, text_len, text_of}
use Rattle.flash_kept.proofs.PairLaws.{byte_of}
use Rattle.flash_kept.proofs.PlaceLaws.{held_lie}
use Rattle.flash_kept.proofs.SlotLaws.{free_no_slot}

-- ---- once it is done the header stands

written_whole : (number len : ℕ) → number < 2 ^ 32 → len < 65536 → AreWhole (header_written number len) 16
written_whole number len fits few = whole-paired (header_spelled number len) (λ i lt. each_byte (header_spelled number len)
    (omega arith, (omega arith, (omega arith, (omega arith, (omega arith, (omega arith, (omega arith, (omega arith, (omega arith, (omega arith, (omega arith, (omega arith, (omega arith, (omega arith, (omega arith, (omega arith, tt)))))))))))))))) i)

listed_all : (xs : List ℕ) (f : ℕ → ℕ) → ((i : ℕ) → i < length xs → f i ≡ get_or xs i 0) → listed f (length xs) ≡ xs
unfolding listed
listed_all [] f same = refl
listed_all (x ∷ xs) f same =
    let first : f 0 ≡ x = same 0 (omega arith) in
    let rest = listed_all xs (λ k. f (suc k)) (λ i lt. same (suc i) (omega arith)) in
    (λ i. first i ∷ rest i)

module _ (area : SpareArea) (message y : List ℕ) (next_fits : area.next < 2 ^ 32) (some : 1 ≤ length message) (few : length message ≤ 4084)
    (bytes : (i : ℕ) → i < length message → get_or message i 0 ≤ 255) (stands : HeaderStands area message y) where
  text_len_is : text_len area y ≡ length message
  text_len_is = let a16 = stands.fixed 16 (omega arith) in let a18 = stands.fixed 18 (omega arith) in omega (arith, a16, a18, few)

  zero_at : (i : ℕ) → i < 6 → byte_of y area.journal (10 + i) ≡ 0
  zero_at i lt = stands.fixed (2 * (10 + i)) (omega (arith, lt)) ∙ is_zero i lt
    where
      is_zero : (i : ℕ) → i < 6 → get_or (header_written area.next (length message)) (2 * (10 + i)) 0 ≡ 0
      is_zero zero lt = refl
      is_zero (suc zero) lt = refl
      is_zero (suc (suc zero)) lt = refl
      is_zero (suc (suc (suc zero))) lt = refl
      is_zero (suc (suc (suc (suc zero)))) lt = refl
      is_zero (suc (suc (suc (suc (suc zero))))) lt = refl
      is_zero (suc (suc (suc (suc (suc (suc i)))))) lt = absurd (omega arith)

  written_counts : HeaderCounts area y
  written_counts =
      let at = stands.fixed in
      let a0 = at 0 (omega arith) in let a2 = at 2 (omega arith) in let a4 = at 4 (omega arith) in let a6 = at 6 (omega arith) in
      let a8 = at 8 (omega arith) in let a10 = at 10 (omega arith) in let a12 = at 12 (omega arith) in let a14 = at 14 (omega arith) in
      let len = text_len_is in
      record {
        whole = λ i lt. let w = (written_whole area.next (length message) next_fits (omega (arith, few))).each i lt in
            let first = at (2 * i) (omega (arith, lt)) in let second = at (2 * i + 1) (omega (arith, lt)) in omega (arith, w, first, second);
        magic = omega (arith, a0, a2, a4, a6);
        number = omega (arith, a8, a10, a12, a14);
        some = omega (arith, len, some);
        few = omega (arith, len, few);
        zeros = zero_at;
        message = λ i lt.
            let below : i < length message = omega (arith, lt, len) in
            let w = (whole-paired message bytes).each i below in
            let first = stands.pairs (2 * i) (omega (arith, below)) in let second = stands.pairs (2 * i + 1) (omega (arith, below)) in omega (arith, w, first, second);
      }

  written_text : text_of area y ≡ message
  written_text =
      ap (λ (k : ℕ). listed (byte_of y (message_place area)) k) text_len_is
      ∙ listed_all message (byte_of y (message_place area)) (λ i lt. stands.pairs (2 * i) (omega (arith, lt)) ∙ first-paired message i lt)

  pub header_done : (dii : DiiFields) → IsInOrder area → dii_message.of message ≡ Some dii → refusal dii area.bank_len ≡ None → place_count dii ≤ area.marks → HasHeldMessage area y message dii
  header_done dii order reads usable few_places =
      let room = room_of area order in
      let counts = written_counts in
      let header = counts_header area y room counts in
      record {
        header = header.0;
        next = header.1;
        is = sym (text_is area y room counts.few ∙ written_text);
        reads = reads;
        usable = usable;
        few = few_places;
      }

-- ---- and what it leaves of places and slots

module _ (area : SpareArea) (x y : List ℕ) (order : IsInOrder area) (fits : area.journal + area.journal_len ≤ length x) (erased : IsErasedArea area x) (ch : ChangesHeader area x y) where
  journal_blank : (k : ℕ) → 8448 ≤ k → k < area.journal_len → get_or y (area.journal + k) 0 ≡ 255
  journal_blank k past within = ch.same (area.journal + k) (inr (omega (arith, past))) ∙ erased.journal k within

  bank_blank : (k : ℕ) → k < area.bank_len → get_or y (area.bank + k) 0 ≡ 255
  bank_blank k lt = let behind = order.behind in ch.same (area.bank + k) (inl (omega (arith, behind, lt))) ∙ erased.bank k lt

  slot_blank : (s : ℕ) → s < 16 → (k : ℕ) → k < 4352 → get_or y (slot_place area s + k) 0 ≡ 255
  slot_blank s ls k lt =
      let marks = order.marks in let ends = order.ends in
      let here1 : area.journal + (area.slots + 4352 * s + k) ≡ slot_place area s + k = omega arith in
      subst (λ (p : ℕ). get_or y p 0 ≡ 255) here1 (journal_blank (area.slots + 4352 * s + k) (omega (arith, marks)) (omega (arith, ls, lt, ends)))

  mark_blank : (n : ℕ) → n < area.marks → (k : ℕ) → k < 2 → get_or y (mark_place area n + k) 0 ≡ 255
  mark_blank n below k lt =
      let marks = order.marks in let ends = order.ends in
      let here1 : area.journal + (8448 + 2 * n + k) ≡ mark_place area n + k = omega arith in
      subst (λ (p : ℕ). get_or y p 0 ≡ 255) here1 (journal_blank (8448 + 2 * n + k) (omega arith) (omega (arith, marks, ends, below, lt)))

  blank_is : (at n : ℕ) → ((k : ℕ) → k < n → get_or y (at + k) 0 ≡ 255) → is_blank y at n ≡ true
  unfolding is_blank
  blank_is at n blank = all_of (λ k. get_or y (at + k) 0 == 255) n (λ k lt. eq-eqb (get_or y (at + k) 0) 255 (blank k lt))

  all_free : (s : ℕ) → s < 16 → is_free area y s ≡ true
  unfolding is_free
  all_free s ls = blank_is (slot_place area s) 4352 (slot_blank s ls)

  not_marked : (n : ℕ) → n < area.marks → is_marked area y n ≡ true → ⊥
  unfolding is_marked
  not_marked n lt marked =
      let first = eqb-true (get_or y (mark_place area n + 0) 0) 0 (and_left _ _ marked) in
      let is = mark_blank n lt 0 (omega arith) in
      omega (arith, first, is)

  no_slot : (s : ℕ) → s < 16 → is_valid_slot area y s ≡ true → ⊥
  no_slot s ls valid = let size = ch.size in free_no_slot area y order (omega (arith, fits, size)) s ls (all_free s ls) valid

  -- nothing is held, wherever the power goes
  pub head_holds : (message : List ℕ) (n : ℕ) (b : List ℕ) → IsHeld area y message n b → ⊥
  head_holds message n b holds = by_stand (held_lie area y message holds.dii order holds.under) holds.stands
    where
      by_stand : PlacesLie area holds.dii → Stands area y n holds.place b → ⊥
      by_stand l (InBank marked at) = let below = l.below n holds.place holds.is_place in let few = l.few in not_marked n (omega (arith, below, few)) marked
      by_stand l (InSlot s ls valid at) = no_slot s ls (and_left _ _ valid)

  -- all slots are free
  pub head_free : free_slots area y ≡ 16
  unfolding free_slots
  head_free = count_all (is_free area y) 16 all_free

  -- once the header stands, no place is staged and the margin is 16
  module _ (dii : DiiFields) (message : List ℕ) (held : HasHeldMessage area y message dii) where
    lie : PlacesLie area dii
    lie = held_lie area y message dii order held

    none_lost : (n : ℕ) → n < place_count dii → is_lost area y n (place_of dii n) ≡ false
    unfolding is_lost
    none_lost n below = by_place (place_of dii n) refl
      where
        fresh_as : (m s f : Bool) → f ≡ true → is_lost_as m s f ≡ false
        fresh_as true s f e = refl
        fresh_as false true f e = refl
        fresh_as false false true e = refl
        fresh_as false false false e = absurd cc

        by_place : (q : Option Place) → place_of dii n ≡ q → is_lost area y n q ≡ false
        by_place None e = refl
        by_place (Some p) e =
            let inside = lie.inside n p e in let few = lie.few in
            fresh_as (is_marked area y n) (is_slotted area y p) (is_untouched area y n p)
            (and_both _ _ (blank_is (area.bank + p.at) p.len (λ k lt. let here1 : area.bank + (p.at + k) ≡ area.bank + p.at + k = omega arith in subst (λ (q : ℕ). get_or y q 0 ≡ 255) here1 (bank_blank (p.at + k) (omega (arith, inside, lt)))))
            (blank_is (mark_place area n) 2 (mark_blank n (omega (arith, below, few)))))

    pub head_lost : lost_places area dii y ≡ 0
    unfolding lost_places
    head_lost = count_none (λ n. is_lost area y n (place_of dii n)) (place_count dii) none_lost

    pub head_stages : HasStagedMessage area y message dii
    head_stages = record {
      held = held;
      slots = record {
        each = λ s ls valid. absurd (no_slot s ls valid);
        unmarked = λ s n p ls e valid. absurd (no_slot s ls (and_left _ _ valid));
        another = λ s t n p ls lt e f g. absurd (no_slot s ls (and_left _ _ f));
      };
      enough = let l = head_lost in omega (arith, l);
    }
