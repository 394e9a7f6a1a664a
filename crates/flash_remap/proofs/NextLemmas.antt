-- The next spare and the next slot.
use Rattle.std.proofs.Common.{◌≡◌, ⊎_elim, ℕ, zero, suc, ◌+◌, ◌*◌, ◌/◌, ◌%◌, ◌<◌, ◌≤◌, Bool, true, false, ◌==◌, cond, List, [], ◌∷◌, length, drop, get_or, refl, sym, ◌∙◌, ap, subst, arith, length-take}
use Rattle.std.proofs.lemmas.Bool.{and_from, and_parts, cases_Bool, cases_eq, cases_lt, cond-true, cond-false, cond_both, eqb-true, eq-eqb}
use Rattle.flash_remap.specs.Entry.{entry_in}
use Rattle.flash_remap.specs.Layout.{Geometry, map_place, slot_place, slots_in}
use Rattle.flash_remap.specs.Map.{counting_before, is_blank, next_slot, next_slot_before, slot_bytes, with_next}
use Rattle.flash_remap.specs.Replaced.{IsBlankFrom}
use Rattle.flash_remap.proofs.SlotLemmas.{slot_at, slot_kept, slot_len}

blank_all : (xs : List ℕ) → ((k : ℕ) → k < length xs → get_or xs k 0 ≡ 255) → is_blank xs ≡ true
blank_all [] each = refl
blank_all (x ∷ xs) each = and_from (x == 255) (is_blank xs) (eq-eqb _ _ (each zero (omega arith))) (blank_all xs (λ k lt. each (suc k) (omega (arith, lt))))

blank_byte : (xs : List ℕ) (k : ℕ) → is_blank xs ≡ true → k < length xs → get_or xs k 0 ≡ 255
blank_byte [] k is lt = absurd (omega (arith, lt))
blank_byte (x ∷ xs) zero is lt = eqb-true _ _ (and_parts (x == 255) (is_blank xs) is).0
blank_byte (x ∷ xs) (suc k) is lt = blank_byte xs k (and_parts (x == 255) (is_blank xs) is).1 (omega (arith, lt))

pub cond_most : (b : Bool) (x y most : ℕ) → x ≤ most → y ≤ most → cond b x y ≤ most
cond_most b x y most first second = cond_both b x y (λ (n : ℕ). n ≤ most) (λ yes. first) (λ no. second)

module _ (g : Geometry) where
  -- a slot of erased bytes
  pub blank_slot : (x : List ℕ) (slot : ℕ) → IsBlankFrom g x slot → (k : ℕ) → slot ≤ k → k < slots_in g → is_blank (slot_bytes g x k) ≡ true
  blank_slot x slot blank k from lt = blank_all (slot_bytes g x k) (λ i within.
      let in_slot : i < 16 = omega (arith, within, length-take 16 (drop (slot_place g k) x)) in
      let place : slot_place g k + i ≡ map_place g + (16 * k + i) = omega arith in
      slot_at g x k i in_slot ∙ (ap (λ (p : ℕ). get_or x p 0) place ∙ blank.each (16 * k + i) (omega (arith, from)) (omega (arith, lt, in_slot))))

  -- slots from n on are blank
  next_rest : (y : List ℕ) (n m : ℕ) → n ≤ m → ((k : ℕ) → n ≤ k → k < m → is_blank (slot_bytes g y k) ≡ true) → next_slot_before g y m ≡ next_slot_before g y n
  unfolding next_slot_before
  next_rest y n zero le blank = let is : zero ≡ n = omega (arith, le) in ap (next_slot_before g y) is
  next_rest y n (suc m) le blank =
      ⊎_elim
      (λ below.
      cond-true (is_blank (slot_bytes g y m)) _ _ (blank m (omega (arith, below)) (omega arith)) ∙ next_rest y n m (omega (arith, below)) (λ k from to. blank k from (omega (arith, to))))
      (λ past. let is : suc m ≡ n = omega (arith, past, le) in ap (next_slot_before g y) is)
      (cases_lt n (suc m))

  -- the slot behind one that is used is the next one, where all behind it are erased
  pub next_used : (y : List ℕ) (slot : ℕ) → slot < slots_in g → is_blank (slot_bytes g y slot) ≡ false → IsBlankFrom g y (slot + 1) → next_slot g y ≡ slot + 1
  unfolding next_slot_before
  next_used y slot lt used blank =
      let behind = next_rest y (suc slot) (slots_in g) (omega (arith, lt)) (λ k from to. blank_slot y (slot + 1) blank k (omega (arith, from)) to) in
      let here : next_slot_before g y (suc slot) ≡ suc slot = cond-false (is_blank (slot_bytes g y slot)) _ _ used in
      let one : suc slot ≡ slot + 1 = omega arith in
      behind ∙ (here ∙ one)

  blank_after : (x : List ℕ) (m k : ℕ) → next_slot_before g x m ≤ k → k < m → is_blank (slot_bytes g x k) ≡ true
  unfolding next_slot_before
  blank_after x zero k le lt = absurd (omega (arith, lt))
  blank_after x (suc m) k le lt = ⊎_elim
      (λ is.
      let next : next_slot_before g x (suc m) ≡ next_slot_before g x m = cond-true (is_blank (slot_bytes g x m)) _ _ is in
      ⊎_elim (λ here. ap (λ (i : ℕ). is_blank (slot_bytes g x i)) here ∙ is) (λ not. blank_after x m k (omega (arith, next, le)) (omega (arith, lt, not))) (cases_eq k m))
      (λ used.
      let next : next_slot_before g x (suc m) ≡ suc m = cond-false (is_blank (slot_bytes g x m)) _ _ used in
      absurd (omega (arith, next, le, lt)))
      (cases_Bool (is_blank (slot_bytes g x m)))

  -- from the next slot on the map is erased
  pub blank_from_next : (x : List ℕ) (slot : ℕ) → map_place g + g.block_len ≤ length x → next_slot g x ≡ slot → IsBlankFrom g x slot
  blank_from_next x slot whole is = record {
    each = λ k le lt.
        let blank = blank_after x (slots_in g) (k / 16) (omega (arith, is, le)) (omega (arith, lt)) in
        let in_slot : k % 16 < 16 = omega arith in
        let place : map_place g + k ≡ slot_place g (k / 16) + k % 16 = omega arith in
        let long : length (slot_bytes g x (k / 16)) ≡ 16 = slot_len g x (k / 16) (omega (arith, whole, lt)) in
        ap (λ (p : ℕ). get_or x p 0) place ∙ (sym (slot_at g x (k / 16) (k % 16) in_slot) ∙ blank_byte (slot_bytes g x (k / 16)) (k % 16) blank (omega (arith, long, in_slot)));
  }

  -- slot by slot
  pub counting_step : (x : List ℕ) (n : ℕ) → counting_before g x (n + 1) ≡ with_next g (counting_before g x n) (entry_in (slot_bytes g x n))
  unfolding counting_before
  counting_step x n = let next : n + 1 ≡ suc n = omega arith in ap (counting_before g x) next

  pub next_step : (x : List ℕ) (n : ℕ) → next_slot_before g x (n + 1) ≡ cond (is_blank (slot_bytes g x n)) (next_slot_before g x n) (n + 1)
  unfolding next_slot_before
  next_step x n =
      let next : n + 1 ≡ suc n = omega arith in
      ap (next_slot_before g x) next ∙ ap (λ (m : ℕ). cond (is_blank (slot_bytes g x n)) (next_slot_before g x n) m) (sym next)

  pub none_counting : (x : List ℕ) → counting_before g x 0 ≡ []
  unfolding counting_before
  none_counting x = refl

  pub none_used : (x : List ℕ) → next_slot_before g x 0 ≡ 0
  unfolding next_slot_before
  none_used x = refl

  next_same : (x y : List ℕ) (n : ℕ) → ((k : ℕ) → k < n → slot_bytes g y k ≡ slot_bytes g x k) → next_slot_before g y n ≡ next_slot_before g x n
  unfolding next_slot_before
  next_same x y zero same = refl
  next_same x y (suc n) same =
      let before : next_slot_before g y n ≡ next_slot_before g x n = next_same x y n (λ k lt. same k (omega (arith, lt))) in
      ap (λ (m : ℕ). cond (is_blank (slot_bytes g y n)) m (suc n)) before
      ∙ ap (λ (s : List ℕ). cond (is_blank s) (next_slot_before g x n) (suc n)) (same n (omega arith))

  -- where the map is as it was, so is the next slot
  pub next_slot_kept : (x y : List ℕ) → length y ≡ length x → ((k : ℕ) → k < 16 * slots_in g → get_or y (map_place g + k) 0 ≡ get_or x (map_place g + k) 0) → next_slot g y ≡ next_slot g x
  next_slot_kept x y size same = next_same x y (slots_in g) (slot_kept g x y size same)
