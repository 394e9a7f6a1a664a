-- What a change of contents leaves of records, images and journals.
use Rattle.std.proofs.Common.{◌≡◌, ◌⊎◌, inl, inr, ⊎_elim, ℕ, zero, suc, ◌+◌, ◌-◌, ◌<◌, ◌≤◌, List, length, refl, sym, ◌∙◌, ap, subst, arith}
use Rattle.flash_layout.specs.Journal.{IsHeader, IsSettled, header_number}
use Rattle.flash_layout.specs.Pairs.{NoneBelow, word_at}
use Rattle.flash_bank.specs.Record.{IsValid, layout_of, record_of}
use Rattle.flash_layout.specs.Layout.{Geometry, HasJournals, journal_bytes, mark_count, record_bytes, slots_at}
use Rattle.flash_bank.specs.Layout.{Allows, HoldsRecord}
use Rattle.flash_bank.specs.Sound.{IsSound, IsCurrent, JournalsFit, HoldsTwo, HoldsOne, Boot, BootOf, PrevOf, Keeps, KeepsBoth, boot_in, image_of, number_in, record_in}
use Rattle.flash_bank.specs.declared.record.Record.{Record}

-- only one block holds the current record
pub one_current : (g : Geometry) (c : List ℕ) (r s : ℕ) → IsCurrent g c r → IsCurrent g c s → r ≡ s
one_current g c zero zero a b = refl
one_current g c zero (suc zero) a b = let first = a.newest b.valid in let second = b.newest a.valid in absurd (omega (arith, first, second))
one_current g c (suc zero) zero a b = let first = a.newest b.valid in let second = b.newest a.valid in absurd (omega (arith, first, second))
one_current g c (suc zero) (suc zero) a b = refl
one_current g c (suc (suc r)) s a b = let lt = a.is_block in absurd (omega arith)
one_current g c zero (suc (suc s)) a b = let lt = b.is_block in absurd (omega arith)
one_current g c (suc zero) (suc (suc s)) a b = let lt = b.is_block in absurd (omega arith)

-- a record of layout 2 says that there is room for it
pub two_room : (g : Geometry) (c : List ℕ) (r : ℕ) → HoldsTwo g c r → HasJournals g
two_room g c r (valid, two) = ⊎_elim (λ one. absurd (one_not_two (word_at (record_bytes g c r) 0) one.magic_is two)) (λ allowed. allowed.room) valid.allowed
  where
    one_not_two : (magic : ℕ) → magic ≡ 0x53535531 → layout_of magic ≡ 2 → ⊥
    one_not_two magic is two = let one : 1 ≡ 2 = sym (ap layout_of is) ∙ two in omega (arith, one)

-- of two numbers below 2, one or the other
pub one_or_other : (k r : ℕ) → k < 2 → r < 2 → (k ≡ r) ⊎ (k ≡ 1 - r)
one_or_other zero zero a b = inl refl
one_or_other zero (suc zero) a b = inr refl
one_or_other (suc zero) zero a b = inr refl
one_or_other (suc zero) (suc zero) a b = inl refl
one_or_other (suc (suc k)) r a b = absurd (omega arith)
one_or_other zero (suc (suc r)) a b = absurd (omega arith)
one_or_other (suc zero) (suc (suc r)) a b = absurd (omega arith)

-- a record stands with its image where its block and its image are the same
pub same_boot : (g : Geometry) (x y : List ℕ) (r : ℕ) → record_bytes g y r ≡ record_bytes g x r
    → image_of g y (record_in g x r) ≡ image_of g x (record_in g x r) → boot_in g y r ≡ boot_in g x r
same_boot g x y r same_head same_image =
    let head : record_in g y r ≡ record_in g x r = ap record_of same_head in
    let image : image_of g y (record_in g y r) ≡ image_of g x (record_in g x r) = ap (image_of g y) head ∙ same_image in
    (λ i. record { head = head i; image = image i })

module _ (g : Geometry) (x y : List ℕ) (size : length y ≡ length x) (sound : IsSound g x) where
  -- y has a record of layout 2, whose journals fit in x
  abbrev pub InTwo : Type 0
  InTwo = HasJournals g × JournalsFit g x × ((q : ℕ) × (q < 2) × HoldsTwo g y q)

  -- Current record and its image are the same. The spare record block has no pair below 255, and holds no valid record
  -- but the one of before, with its image. In layout 2 the spare journal is settled and has no valid header but the
  -- one of before, or one with the next number where the spare record block holds no valid record.
  pub record Stays (r : ℕ) : Type 0 where
    pub current : IsCurrent g x r
    pub bank_lt : (record_in g x r).bank < 2
    pub head : record_bytes g y r ≡ record_bytes g x r
    pub image : image_of g y (record_in g x r) ≡ image_of g x (record_in g x r)
    pub journal : InTwo → journal_bytes g y (record_in g x r).bank ≡ journal_bytes g x (record_in g x r).bank
    pub other_settled : NoneBelow (record_bytes g y (1 - r)) 32
    pub other : HoldsRecord g y (1 - r) → record_bytes g y (1 - r) ≡ record_bytes g x (1 - r)
    pub other_image : HoldsRecord g y (1 - r) → HoldsRecord g x (1 - r) → image_of g y (record_in g x (1 - r)) ≡ image_of g x (record_in g x (1 - r))
    pub settled : InTwo → IsSettled (mark_count g) (slots_at g) (journal_bytes g y (1 - (record_in g x r).bank))
    pub header : InTwo → IsHeader (journal_bytes g y (1 - (record_in g x r).bank))
        → (IsHeader (journal_bytes g x (1 - (record_in g x r).bank)) × (header_number (journal_bytes g y (1 - (record_in g x r).bank)) ≡ header_number (journal_bytes g x (1 - (record_in g x r).bank))))
        ⊎ ((header_number (journal_bytes g y (1 - (record_in g x r).bank)) ≡ number_in g x r + 1) × (HoldsRecord g y (1 - r) → ⊥))

  module _ (r : ℕ) (s : Stays r) where
    abbrev a : ℕ
    a = (record_in g x r).bank

    holds_still : HoldsRecord g y r
    holds_still = subst (IsValid (Allows g r)) (sym s.head) s.current.valid

    -- a valid record of y is one of x
    same_record : (q : ℕ) → q < 2 → HoldsRecord g y q → record_bytes g y q ≡ record_bytes g x q
    same_record q lt valid = pick (one_or_other q r lt s.current.is_block)
      where
        pick : (q ≡ r) ⊎ (q ≡ 1 - r) → record_bytes g y q ≡ record_bytes g x q
        pick (inl is) = subst (λ (k : ℕ). record_bytes g y k ≡ record_bytes g x k) (sym is) s.head
        pick (inr is) = subst (λ (k : ℕ). record_bytes g y k ≡ record_bytes g x k) (sym is) (s.other (subst (HoldsRecord g y) is valid))

    held_before : (q : ℕ) → q < 2 → HoldsRecord g y q → HoldsRecord g x q
    held_before q lt valid = subst (IsValid (Allows g q)) (same_record q lt valid) valid

    record_before : (q : ℕ) → q < 2 → HoldsRecord g y q → record_in g y q ≡ record_in g x q
    record_before q lt valid = ap record_of (same_record q lt valid)

    two_before : (q : ℕ) → q < 2 → HoldsTwo g y q → HoldsTwo g x q
    two_before q lt (valid, two) = (held_before q lt valid, ap (λ (h : Record). h.layout) (sym (record_before q lt valid)) ∙ two)

    one_before : (q : ℕ) → q < 2 → HoldsOne g y q → HoldsOne g x q
    one_before q lt (valid, one) = (held_before q lt valid, ap (λ (h : Record). h.layout) (sym (record_before q lt valid)) ∙ one)

    other_lt : 1 - r < 2
    other_lt = omega arith

    newest_still : HoldsRecord g y (1 - r) → number_in g y (1 - r) < number_in g y r
    newest_still valid =
        let other : record_in g y (1 - r) ≡ record_in g x (1 - r) = record_before (1 - r) other_lt valid in
        let own : record_in g y r ≡ record_in g x r = ap record_of s.head in
        omega (arith, s.current.newest (held_before (1 - r) other_lt valid), ap (λ (h : Record). h.number) other, ap (λ (h : Record). h.number) own)

    pub current_still : IsCurrent g y r
    current_still = record { is_block = s.current.is_block; valid = holds_still; newest = newest_still }

    abbrev Number : ℕ → ℕ
    Number k = header_number (journal_bytes g y k)

    -- a valid header of y is one of x, or has the next number and there is no other record
    header_cases : InTwo → (k : ℕ) → k < 2 → IsHeader (journal_bytes g y k)
        → (IsHeader (journal_bytes g x k) × (Number k ≡ header_number (journal_bytes g x k)))
        ⊎ ((k ≡ 1 - a) × ((Number k ≡ number_in g x r + 1) × (HoldsRecord g y (1 - r) → ⊥)))
    header_cases fit k lt header = pick (one_or_other k a lt s.bank_lt)
      where
        pick : (k ≡ a) ⊎ (k ≡ 1 - a) → (IsHeader (journal_bytes g x k) × (Number k ≡ header_number (journal_bytes g x k)))
            ⊎ ((k ≡ 1 - a) × ((Number k ≡ number_in g x r + 1) × (HoldsRecord g y (1 - r) → ⊥)))
        pick (inl is) =
            let same : journal_bytes g y k ≡ journal_bytes g x k = subst (λ (q : ℕ). journal_bytes g y q ≡ journal_bytes g x q) (sym is) (s.journal fit) in
            inl (subst IsHeader same header, ap header_number same)
        pick (inr is) = ⊎_elim
            (λ both. inl (subst (λ (q : ℕ). IsHeader (journal_bytes g x q)) (sym is) both.0, subst (λ (q : ℕ). Number q ≡ header_number (journal_bytes g x q)) (sym is) both.1))
            (λ both. inr (is, (subst (λ (q : ℕ). Number q ≡ number_in g x r + 1) (sym is) both.0, both.1)))
            (s.header fit (subst (λ (q : ℕ). IsHeader (journal_bytes g y q)) is header))

    number_before : (q : ℕ) → q < 2 → HoldsRecord g y q → number_in g y q ≡ number_in g x q
    number_before q lt valid = ap (λ (h : Record). h.number) (record_before q lt valid)

    bank_before : (q : ℕ) → q < 2 → HoldsRecord g y q → (record_in g y q).bank ≡ (record_in g x q).bank
    bank_before q lt valid = ap (λ (h : Record). h.bank) (record_before q lt valid)

    next_still : InTwo → (k q : ℕ) → k < 2 → q < 2 → IsHeader (journal_bytes g y k) → HoldsRecord g y q → Number k ≤ number_in g y q + 1
    next_still fit k q k_lt q_lt header valid = pick (header_cases fit k k_lt header)
      where
        pick : (IsHeader (journal_bytes g x k) × (Number k ≡ header_number (journal_bytes g x k)))
            ⊎ ((k ≡ 1 - a) × ((Number k ≡ number_in g x r + 1) × (HoldsRecord g y (1 - r) → ⊥))) → Number k ≤ number_in g y q + 1
        pick (inl (was, is)) = omega (arith, is, fit.1.next k q k_lt q_lt was (held_before q q_lt valid), number_before q q_lt valid)
        pick (inr (_, (is, none))) = here (one_or_other q r q_lt s.current.is_block)
          where
            here : (q ≡ r) ⊎ (q ≡ 1 - r) → Number k ≤ number_in g y q + 1
            here (inl own) = omega (arith, is, number_before q q_lt valid, ap (number_in g x) own)
            here (inr other) = absurd (none (subst (HoldsRecord g y) other valid))

    named_still : InTwo → (k q : ℕ) → k < 2 → q < 2 → IsHeader (journal_bytes g y k) → HoldsRecord g y q → (record_in g y q).bank ≡ k → Number k ≤ number_in g y q
    named_still fit k q k_lt q_lt header valid names = pick (header_cases fit k k_lt header)
      where
        pick : (IsHeader (journal_bytes g x k) × (Number k ≡ header_number (journal_bytes g x k)))
            ⊎ ((k ≡ 1 - a) × ((Number k ≡ number_in g x r + 1) × (HoldsRecord g y (1 - r) → ⊥))) → Number k ≤ number_in g y q
        pick (inl (was, is)) = omega (arith, is, fit.1.named k q k_lt q_lt was (held_before q q_lt valid) (sym (bank_before q q_lt valid) ∙ names), number_before q q_lt valid)
        pick (inr (spare, (is, none))) = here (one_or_other q r q_lt s.current.is_block)
          where
            here : (q ≡ r) ⊎ (q ≡ 1 - r) → Number k ≤ number_in g y q
            here (inl own) = let own_bank : (record_in g x q).bank ≡ a = ap (λ (p : ℕ). (record_in g x p).bank) own in absurd (omega (arith, names, bank_before q q_lt valid, own_bank, spare, s.bank_lt))
            here (inr other) = absurd (none (subst (HoldsRecord g y) other valid))

    settled_still : InTwo → (k : ℕ) → k < 2 → IsSettled (mark_count g) (slots_at g) (journal_bytes g y k)
    settled_still fit k lt = pick (one_or_other k a lt s.bank_lt)
      where
        pick : (k ≡ a) ⊎ (k ≡ 1 - a) → IsSettled (mark_count g) (slots_at g) (journal_bytes g y k)
        pick (inl is) = subst (λ (q : ℕ). IsSettled (mark_count g) (slots_at g) (journal_bytes g y q)) (sym is) (subst (IsSettled (mark_count g) (slots_at g)) (sym (s.journal fit)) (fit.1.settled a s.bank_lt))
        pick (inr is) = subst (λ (q : ℕ). IsSettled (mark_count g) (slots_at g) (journal_bytes g y q)) (sym is) (s.settled fit)

    journals_still : InTwo → JournalsFit g y
    journals_still fit = record {
      settled = settled_still fit;
      next = next_still fit;
      named = named_still fit;
      apart = λ first second. λ is. fit.1.apart (two_before 0 (omega arith) first) (two_before 1 (omega arith) second)
          (sym (bank_before 0 (omega arith) first.0) ∙ (is ∙ bank_before 1 (omega arith) second.0));
      short = λ q lt one. omega (arith, fit.1.short q lt (one_before q lt one), ap (λ (h : Record). h.length) (record_before q lt one.0));
    }

    sound_settled : (q : ℕ) → q < 2 → NoneBelow (record_bytes g y q) 32
    sound_settled q lt = pick (one_or_other q r lt s.current.is_block)
      where
        pick : (q ≡ r) ⊎ (q ≡ 1 - r) → NoneBelow (record_bytes g y q) 32
        pick (inl is) = subst (λ (k : ℕ). NoneBelow (record_bytes g y k) 32) (sym is) (subst (λ (l : List ℕ). NoneBelow l 32) (sym s.head) (sound.settled r s.current.is_block))
        pick (inr is) = subst (λ (k : ℕ). NoneBelow (record_bytes g y k) 32) (sym is) s.other_settled

    pub sound_still : IsSound g y
    sound_still = record {
      size = size ∙ sound.size;
      settled = sound_settled;
      some = some_at r s.current.is_block holds_still;
      distinct = λ first second. λ is. sound.distinct (held_before 0 (omega arith) first) (held_before 1 (omega arith) second)
          (sym (number_before 0 (omega arith) first) ∙ (is ∙ number_before 1 (omega arith) second));
      journals = λ q lt two. journals_still (two_room g y q two, sound.journals q lt (two_before q lt two), (q, lt, two));
    }
      where
        some_at : (q : ℕ) → q < 2 → HoldsRecord g y q → HoldsRecord g y 0 ⊎ HoldsRecord g y 1
        some_at zero lt valid = inl valid
        some_at (suc zero) lt valid = inr valid
        some_at (suc (suc q)) lt valid = absurd (omega arith)

    pub keeps : Keeps g x y
    keeps = record {
      sound = sound_still;
      current = λ q is. subst (IsCurrent g y) (sym (one_current g x q r is s.current)) current_still;
      boot = λ b from. boot_still b from;
      prev = λ b from. prev_before b from;
    }
      where
        boot_still : (b : Boot) → BootOf g x b → BootOf g y b
        boot_still b from =
            let is : from.block ≡ r = one_current g x from.block r from.current s.current in
            record { block = r; current = current_still; is = from.is ∙ (ap (boot_in g x) is ∙ sym (same_boot g x y r s.head s.image)) }

        prev_before : (b : Boot) → PrevOf g y b → PrevOf g x b
        prev_before b from =
            let is : from.block ≡ r = one_current g y from.block r from.current current_still in
            let valid : HoldsRecord g y (1 - r) = subst (λ (q : ℕ). HoldsRecord g y (1 - q)) is from.valid in
            let before = held_before (1 - r) other_lt valid in
            record {
              block = r;
              current = s.current;
              valid = before;
              is = from.is ∙ (ap (λ (q : ℕ). boot_in g y (1 - q)) is ∙ same_boot g x y (1 - r) (s.other valid) (s.other_image valid before));
            }

    -- where the spare record block is as before too, what boot took before is there still
    pub keeps_both : record_bytes g y (1 - r) ≡ record_bytes g x (1 - r) → KeepsBoth g x y
    keeps_both same = record { keeps = keeps; prev = λ b from. prev_still b from }
      where
        prev_still : (b : Boot) → PrevOf g x b → PrevOf g y b
        prev_still b from =
            let is : from.block ≡ r = one_current g x from.block r from.current s.current in
            let before : HoldsRecord g x (1 - r) = subst (λ (q : ℕ). HoldsRecord g x (1 - q)) is from.valid in
            let valid : HoldsRecord g y (1 - r) = subst (IsValid (Allows g (1 - r))) (sym same) before in
            record {
              block = r;
              current = current_still;
              valid = valid;
              is = from.is ∙ (ap (λ (q : ℕ). boot_in g x (1 - q)) is ∙ sym (same_boot g x y (1 - r) same (s.other_image valid before)));
            }

-- contents keep what boot takes of them
pub keeps_same : (g : Geometry) (x : List ℕ) → IsSound g x → Keeps g x x
keeps_same g x sound = record { sound = sound; current = λ r is. is; boot = λ b from. from; prev = λ b from. from }

-- and one change after another does
pub keeps_joined : (g : Geometry) (x y z : List ℕ) → Keeps g x y → Keeps g y z → Keeps g x z
keeps_joined g x y z first second = record {
  sound = second.sound;
  current = λ r is. second.current r (first.current r is);
  boot = λ b from. second.boot b (first.boot b from);
  prev = λ b from. first.prev b (second.prev b from);
}

-- sound contents have one boot only
pub one_boot : (g : Geometry) (c : List ℕ) (a b : Boot) → BootOf g c a → BootOf g c b → a ≡ b
one_boot g c a b first second =
    first.is ∙ (ap (boot_in g c) (one_current g c first.block second.block first.current second.current) ∙ sym second.is)
