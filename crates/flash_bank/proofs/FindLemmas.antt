-- The current record, out of what was found in both record blocks.
use Rattle.std.specs.Prelude.{Bool, true, false, if◌then◌else◌, Option, Some, None, Result, Ok, Err, IfOk, IsTrue, IsSome, IfSome, ◌↔◌, MatchOption}
use Rattle.std.proofs.Common.{◌≡◌, ◌≢◌, ◌⊎◌, inl, inr, ⊎_elim, ℕ, zero, suc, ◌*◌, ◌<◌, ◌≤◌, List, length, refl, sym, ◌∙◌, ap, subst, arith}
use Rattle.std.proofs.lemmas.Bool.{cases_lt}
use Rattle.std.proofs.lemmas.Bool.Decides.{nat_tests}
use Rattle.flash_bank.specs.Find.{ChecksJournals, Describes, DescribesArea, Finds, FindsWith, GoTogether, HeaderFits, IsShort, IsTwo, NameApart, NumberFits, current_of_two, newer_of, valid_of}
use Rattle.flash_layout.specs.Journal.{IsHeader, IsSettled, header_number}
use Rattle.flash_layout.specs.Layout.{Geometry, HasJournals, journal_bytes, mark_count, record_bytes, short_len, slots_at}
use Rattle.flash_bank.specs.Layout.{HoldsRecord, IsPlaced}
use Rattle.flash_layout.specs.Pairs.{NoneBelow}
use Rattle.flash_bank.specs.Sound.{IsSound, HoldsOne, HoldsTwo, JournalsFit, number_in, record_in}
use Rattle.flash_bank.specs.declared.find.Block.{Block}
use Rattle.flash_bank.specs.declared.find.Current.{Current}
use Rattle.flash_bank.specs.declared.find.Journal.{Journal}
use Rattle.flash_bank.specs.declared.record.Record.{Record}

newer_first : (a b : Record) → b.number < a.number → newer_of a b ≡ Some (record { block = 0; head = a })
newer_first a b lt = grind (arith, nat_tests)

newer_second : (a b : Record) → a.number < b.number → newer_of a b ≡ Some (record { block = 1; head = b })
newer_second a b lt = grind (arith, nat_tests)

newer_none : (a b : Record) → a.number ≡ b.number → newer_of a b ≡ None
newer_none a b is = grind (arith, nat_tests)

-- ---- where the images of both records have their places

module _ (g : Geometry) where
  abbrev Placed : Option Record → Type 0
  Placed o = IfSome o (λ head. IsPlaced g head)

  abbrev Good : Option Current → Type 0
  Good o = IfSome o (λ current. (current.block < 2) × IsPlaced g current.head)

  placed_newer : (a b : Record) → IsPlaced g a → IsPlaced g b → Good (newer_of a b)
  placed_newer a b one two = pick (cases_lt b.number a.number) (cases_lt a.number b.number)
    where
      pick : (b.number < a.number) ⊎ (a.number ≤ b.number) → (a.number < b.number) ⊎ (b.number ≤ a.number) → Good (newer_of a b)
      pick (inl lt) _ = subst Good (sym (newer_first a b lt)) (omega arith, one)
      pick (inr le) (inl lt) = subst Good (sym (newer_second a b lt)) (omega arith, two)
      pick (inr le) (inr ge) = subst Good (sym (newer_none a b (omega arith))) tt

  placed_valid : (p q : Option Record) → Placed p → Placed q → Good (valid_of p q)
  placed_valid None None one two = tt
  placed_valid (Some a) None one two = (omega arith, one)
  placed_valid None (Some b) one two = (omega arith, two)
  placed_valid (Some a) (Some b) one two = placed_newer a b one two

  placed_where : (t u : Bool) (o : Option Current) → Good o → Good (if t then (if u then o else None) else None)
  placed_where true true o good = good
  placed_where true false o good = tt
  placed_where false u o good = tt

  pub placed_two : (first second : Block) → Placed first.head → Placed second.head → Good (current_of_two first second)
  placed_two first second one two = placed_where first.settled second.settled (valid_of first.head second.head) (placed_valid first.head second.head one two)

  pub placed_checked : (first second : Block) (front back : Journal) (o : Option Current) → Placed first.head → Placed second.head → ChecksJournals g first second front back o → Good o
  placed_checked first second front back o one two (inl (go, is)) = subst Good (sym is) (placed_two first second one two)
  placed_checked first second front back o one two (inr (never, is)) = subst Good (sym is) tt

  -- a record of layout 2 has its place only where there is room for journals
  pub room_of : (p q : Option Record) → Placed p → Placed q → IsTwo p ⊎ IsTwo q → HasJournals g
  room_of None q one two (inl never) = absurd never
  room_of (Some a) q one two (inl is) = one.room is
  room_of p None one two (inr never) = absurd never
  room_of p (Some b) one two (inr is) = two.room is

module _ (g : Geometry) (c : List ℕ) (size : length c ≡ g.blocks * g.block_len) where
  abbrev Found : Option Current → Type 0
  Found o = MatchOption o (IsSound g c → ⊥) (λ current. Finds g c current)

  module _ (first : NoneBelow (record_bytes g c 0) 32) (second : NoneBelow (record_bytes g c 1) 32)
      (journals : (r : ℕ) → r < 2 → HoldsTwo g c r → JournalsFit g c) where
    both_settled : (r : ℕ) → r < 2 → NoneBelow (record_bytes g c r) 32
    both_settled zero lt = first
    both_settled (suc zero) lt = second
    both_settled (suc (suc r)) lt = absurd (omega arith)

    only_first : (a : Record) → HoldsRecord g c 0 → a ≡ record_in g c 0 → (HoldsRecord g c 1 → ⊥) → Finds g c (record { block = 0; head = a })
    only_first a valid is none = record {
      sound = record { size = size; settled = both_settled; some = inl valid; distinct = λ own other. absurd (none other); journals = journals };
      current = record { is_block = omega arith; valid = valid; newest = λ other. absurd (none other) };
      head = is;
    }

    only_second : (b : Record) → HoldsRecord g c 1 → b ≡ record_in g c 1 → (HoldsRecord g c 0 → ⊥) → Finds g c (record { block = 1; head = b })
    only_second b valid is none = record {
      sound = record { size = size; settled = both_settled; some = inr valid; distinct = λ other own. absurd (none other); journals = journals };
      current = record { is_block = omega arith; valid = valid; newest = λ other. absurd (none other) };
      head = is;
    }

    both : (a b : Record) → HoldsRecord g c 0 → HoldsRecord g c 1 → a ≡ record_in g c 0 → b ≡ record_in g c 1 → Found (newer_of a b)
    both a b va vb ia ib = pick (cases_lt b.number a.number) (cases_lt a.number b.number)
      where
        na : a.number ≡ number_in g c 0
        na = ap (λ (h : Record). h.number) ia

        nb : b.number ≡ number_in g c 1
        nb = ap (λ (h : Record). h.number) ib

        pick : (b.number < a.number) ⊎ (a.number ≤ b.number) → (a.number < b.number) ⊎ (b.number ≤ a.number) → Found (newer_of a b)
        pick (inl lt) _ = subst Found (sym (newer_first a b lt)) (record {
          sound = record { size = size; settled = both_settled; some = inl va; distinct = λ own other is. absurd (omega (arith, na, nb, is)); journals = journals };
          current = record { is_block = omega arith; valid = va; newest = λ other. omega (arith, na, nb) };
          head = ia;
        })
        pick (inr le) (inl lt) = subst Found (sym (newer_second a b lt)) (record {
          sound = record { size = size; settled = both_settled; some = inr vb; distinct = λ own other is. absurd (omega (arith, na, nb, is)); journals = journals };
          current = record { is_block = omega arith; valid = vb; newest = λ other. omega (arith, na, nb) };
          head = ib;
        })
        pick (inr le) (inr ge) = subst Found (sym (newer_none a b (omega arith))) (λ sound. sound.distinct va vb (omega (arith, na, nb)))

    found_valid : (h0 h1 : Option Record) → (IsSome h0 ↔ HoldsRecord g c 0) → IfSome h0 (λ r. r ≡ record_in g c 0)
        → (IsSome h1 ↔ HoldsRecord g c 1) → IfSome h1 (λ r. r ≡ record_in g c 1) → Found (valid_of h0 h1)
    found_valid None None v0 i0 v1 i1 = λ sound. ⊎_elim (λ v. let no = v0.1 v in absurd (cc no)) (λ v. let no = v1.1 v in absurd (cc no)) sound.some
    found_valid (Some a) None v0 i0 v1 i1 = only_first a (v0.0 refl) i0 (λ v. let no = v1.1 v in cc no)
    found_valid None (Some b) v0 i0 v1 i1 = only_second b (v1.0 refl) i1 (λ v. let no = v0.1 v in cc no)
    found_valid (Some a) (Some b) v0 i0 v1 i1 = both a b (v0.0 refl) (v1.0 refl) i0 i1

  found_settled : (s0 s1 : Bool) (h0 h1 : Option Record) → (IsTrue s0 ↔ NoneBelow (record_bytes g c 0) 32) → (IsTrue s1 ↔ NoneBelow (record_bytes g c 1) 32)
      → (IsSome h0 ↔ HoldsRecord g c 0) → IfSome h0 (λ r. r ≡ record_in g c 0)
      → (IsSome h1 ↔ HoldsRecord g c 1) → IfSome h1 (λ r. r ≡ record_in g c 1)
      → ((r : ℕ) → r < 2 → HoldsTwo g c r → JournalsFit g c)
      → Found (current_of_two (record { settled = s0; head = h0 }) (record { settled = s1; head = h1 }))
  found_settled false s1 h0 h1 n0 n1 v0 i0 v1 i1 journals = λ sound. let no = n0.1 (sound.settled 0 (omega arith)) in cc no
  found_settled true false h0 h1 n0 n1 v0 i0 v1 i1 journals = λ sound. let no = n1.1 (sound.settled 1 (omega arith)) in cc no
  found_settled true true h0 h1 n0 n1 v0 i0 v1 i1 journals = found_valid (n0.0 refl) (n1.0 refl) journals h0 h1 v0 i0 v1 i1

  module _ (first second : Block) (d0 : Describes g first (record_bytes g c 0) 0) (d1 : Describes g second (record_bytes g c 1) 1) where
    found_where : ((r : ℕ) → r < 2 → HoldsTwo g c r → JournalsFit g c) → Found (current_of_two first second)
    found_where journals = found_settled first.settled second.settled first.head second.head d0.settled d1.settled d0.valid d0.value d1.valid d1.value journals

    -- a record that is there and is not of layout 2
    not_two : (r : ℕ) (o : Option Record) → (IsSome o ↔ HoldsRecord g c r) → IfSome o (λ h. h ≡ record_in g c r) → (IsTwo o → ⊥) → HoldsTwo g c r → ⊥
    not_two r None valid is none two = let no = valid.1 two.0 in absurd (cc no)
    not_two r (Some h) valid is none two = none (ap (λ (q : Record). q.layout) is ∙ two.1)

    -- no record is of layout 2
    pub found : (IsTwo first.head → ⊥) → (IsTwo second.head → ⊥) → Found (current_of_two first second)
    found none other = found_where journals
      where
        journals : (r : ℕ) → r < 2 → HoldsTwo g c r → JournalsFit g c
        journals zero lt two = absurd (not_two 0 first.head d0.valid d0.value none two)
        journals (suc zero) lt two = absurd (not_two 1 second.head d1.valid d1.value other two)
        journals (suc (suc r)) lt two = absurd (omega arith)

    -- ---- with both journals

    use_fits : (area : ℕ) (o : Option ℕ) (p : Option Record) (n : ℕ) (h : Record) → HeaderFits area o p → IsSome o → IsSome p → IfSome o (λ m. m ≡ n) → IfSome p (λ q. q ≡ h) → NumberFits area n h
    use_fits area None p n h fits some other is same = absurd (cc some)
    use_fits area (Some m) None n h fits some other is same = absurd (cc other)
    use_fits area (Some m) (Some q) n h fits some other is same = subst (λ (k : ℕ). NumberFits area k h) is (subst (λ (r : Record). NumberFits area m r) same fits)

    make_fits : (area : ℕ) (o : Option ℕ) (p : Option Record) (n : ℕ) (h : Record) → (IsSome o → IsSome p → NumberFits area n h) → IfSome o (λ m. m ≡ n) → IfSome p (λ q. q ≡ h) → HeaderFits area o p
    make_fits area None p n h fits is same = tt
    make_fits area (Some m) None n h fits is same = tt
    make_fits area (Some m) (Some q) n h fits is same = subst (λ (r : Record). NumberFits area m r) (sym same) (subst (λ (k : ℕ). NumberFits area k h) (sym is) (fits refl refl))

    use_short : (o : Option Record) (h : Record) → IsShort g o → IsSome o → IfSome o (λ q. q ≡ h) → h.layout ≡ 1 → h.length ≤ short_len g
    use_short None h short some same = absurd (cc some)
    use_short (Some q) h short some same = subst (λ (r : Record). r.layout ≡ 1 → r.length ≤ short_len g) same short

    make_short : (o : Option Record) (h : Record) → (IsSome o → h.layout ≡ 1 → h.length ≤ short_len g) → IfSome o (λ q. q ≡ h) → IsShort g o
    make_short None h short same = tt
    make_short (Some q) h short same = subst (λ (r : Record). r.layout ≡ 1 → r.length ≤ short_len g) (sym same) (short refl)

    use_apart : (o p : Option Record) (h k : Record) → NameApart o p → IsSome o → IsSome p → IfSome o (λ q. q ≡ h) → IfSome p (λ q. q ≡ k) → h.layout ≡ 2 → k.layout ≡ 2 → h.bank ≢ k.bank
    use_apart None p h k apart some other same is = absurd (cc some)
    use_apart (Some q) None h k apart some other same is = absurd (cc other)
    use_apart (Some q) (Some r) h k apart some other same is =
        subst (λ (a : Record). h.layout ≡ 2 → a.layout ≡ 2 → h.bank ≢ a.bank) is (subst (λ (a : Record). a.layout ≡ 2 → r.layout ≡ 2 → a.bank ≢ r.bank) same apart)

    make_apart : (o p : Option Record) (h k : Record) → (IsSome o → IsSome p → h.layout ≡ 2 → k.layout ≡ 2 → h.bank ≢ k.bank) → IfSome o (λ q. q ≡ h) → IfSome p (λ q. q ≡ k) → NameApart o p
    make_apart None p h k apart same is = tt
    make_apart (Some q) None h k apart same is = tt
    make_apart (Some q) (Some r) h k apart same is =
        subst (λ (a : Record). a.layout ≡ 2 → r.layout ≡ 2 → a.bank ≢ r.bank) (sym same) (subst (λ (a : Record). h.layout ≡ 2 → a.layout ≡ 2 → h.bank ≢ a.bank) (sym is) (apart refl refl))

    module _ (front back : Journal) (j0 : DescribesArea g front c 0) (j1 : DescribesArea g back c 1) where
      go_fit : GoTogether g first.head second.head front back → JournalsFit g c
      go_fit go = record {
        settled = settled;
        next = λ k r k_lt r_lt header valid. (number k r k_lt r_lt header valid).0;
        named = λ k r k_lt r_lt header valid names. (number k r k_lt r_lt header valid).1 names;
        apart = λ a b. use_apart first.head second.head (record_in g c 0) (record_in g c 1) go.apart (d0.valid.1 a.0) (d1.valid.1 b.0) d0.value d1.value a.1 b.1;
        short = short;
      }
        where
          settled : (k : ℕ) → k < 2 → IsSettled (mark_count g) (slots_at g) (journal_bytes g c k)
          settled zero lt = j0.settled.0 go.front_settled
          settled (suc zero) lt = j1.settled.0 go.back_settled
          settled (suc (suc k)) lt = absurd (omega arith)

          number : (k r : ℕ) → k < 2 → r < 2 → IsHeader (journal_bytes g c k) → HoldsRecord g c r → NumberFits k (header_number (journal_bytes g c k)) (record_in g c r)
          number zero zero k_lt r_lt header valid = use_fits 0 front.number first.head _ _ go.first_front (j0.header.1 header) (d0.valid.1 valid) j0.number d0.value
          number zero (suc zero) k_lt r_lt header valid = use_fits 0 front.number second.head _ _ go.second_front (j0.header.1 header) (d1.valid.1 valid) j0.number d1.value
          number (suc zero) zero k_lt r_lt header valid = use_fits 1 back.number first.head _ _ go.first_back (j1.header.1 header) (d0.valid.1 valid) j1.number d0.value
          number (suc zero) (suc zero) k_lt r_lt header valid = use_fits 1 back.number second.head _ _ go.second_back (j1.header.1 header) (d1.valid.1 valid) j1.number d1.value
          number (suc (suc k)) r k_lt r_lt header valid = absurd (omega arith)
          number zero (suc (suc r)) k_lt r_lt header valid = absurd (omega arith)
          number (suc zero) (suc (suc r)) k_lt r_lt header valid = absurd (omega arith)

          short : (r : ℕ) → r < 2 → HoldsOne g c r → (record_in g c r).length ≤ short_len g
          short zero lt one = use_short first.head _ go.first_short (d0.valid.1 one.0) d0.value one.1
          short (suc zero) lt one = use_short second.head _ go.second_short (d1.valid.1 one.0) d1.value one.1
          short (suc (suc r)) lt one = absurd (omega arith)

      fit_go : JournalsFit g c → GoTogether g first.head second.head front back
      fit_go fit = record {
        front_settled = j0.settled.1 (fit.settled 0 (omega arith));
        back_settled = j1.settled.1 (fit.settled 1 (omega arith));
        first_front = make_fits 0 front.number first.head _ _ (λ some other. number 0 0 (omega arith) (omega arith) (j0.header.0 some) (d0.valid.0 other)) j0.number d0.value;
        first_back = make_fits 1 back.number first.head _ _ (λ some other. number 1 0 (omega arith) (omega arith) (j1.header.0 some) (d0.valid.0 other)) j1.number d0.value;
        second_front = make_fits 0 front.number second.head _ _ (λ some other. number 0 1 (omega arith) (omega arith) (j0.header.0 some) (d1.valid.0 other)) j0.number d1.value;
        second_back = make_fits 1 back.number second.head _ _ (λ some other. number 1 1 (omega arith) (omega arith) (j1.header.0 some) (d1.valid.0 other)) j1.number d1.value;
        apart = make_apart first.head second.head _ _ (λ some other a b. fit.apart (d0.valid.0 some, a) (d1.valid.0 other, b)) d0.value d1.value;
        first_short = make_short first.head _ (λ some one. fit.short 0 (omega arith) (d0.valid.0 some, one)) d0.value;
        second_short = make_short second.head _ (λ some one. fit.short 1 (omega arith) (d1.valid.0 some, one)) d1.value;
      }
        where
          number : (k r : ℕ) → k < 2 → r < 2 → IsHeader (journal_bytes g c k) → HoldsRecord g c r → NumberFits k (header_number (journal_bytes g c k)) (record_in g c r)
          number k r k_lt r_lt header valid = (fit.next k r k_lt r_lt header valid, fit.named k r k_lt r_lt header valid)

      -- some record is of layout 2: contents are sound only where all goes together
      holds_two : (r : ℕ) (o : Option Record) → (IsSome o ↔ HoldsRecord g c r) → IfSome o (λ h. h ≡ record_in g c r) → IsTwo o → HoldsTwo g c r
      holds_two r None valid is two = absurd two
      holds_two r (Some h) valid is two = (valid.0 refl, ap (λ (q : Record). q.layout) (sym is) ∙ two)

      pub found_with : (o : Option Current) → IsTwo first.head ⊎ IsTwo second.head → ChecksJournals g first second front back o → Found o
      found_with o some (inl (go, is)) = subst Found (sym is) (found_where (λ r lt two. go_fit go))
      found_with o some (inr (never, is)) = subst Found (sym is) (λ sound. never (fit_go (fit_of sound some)))
        where
          fit_of : IsSound g c → IsTwo first.head ⊎ IsTwo second.head → JournalsFit g c
          fit_of sound (inl two) = sound.journals 0 (omega arith) (holds_two 0 first.head d0.valid d0.value two)
          fit_of sound (inr two) = sound.journals 1 (omega arith) (holds_two 1 second.head d1.valid d1.value two)

    pub found_if : {E : Type 0} (r : Result (Option Current) E) → IsTwo first.head ⊎ IsTwo second.head → IfOk r (λ o. FindsWith g c first second o) → IfOk r Found
    found_if (Ok o) some (front, back, j0, j1, checks) = found_with front back j0 j1 o some checks
    found_if (Err e) some found = tt
