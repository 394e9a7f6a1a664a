-- Parts of contents, place by place.
use Rattle.std.proofs.Common.{◌≡◌, ◌⊎◌, inl, inr, ℕ, zero, suc, ◌+◌, ◌*◌, ◌/◌, ◌<◌, ◌≤◌, List, [], ◌∷◌, length, get_or, take, drop, refl, sym, ◌∙◌, ap, subst, arith, length-take, length-drop, get_or-take, get_or-drop}
use Rattle.std.proofs.lemmas.Bool.{cases_eq, cases_lt}
use Rattle.std.proofs.lemmas.List.{get_or_past}
use Rattle.flash_dev.specs.Changes.{Changes, Holds}
use Rattle.flash_dev.proofs.ChangesLemmas.{same_bytes}
use Rattle.flash_layout.specs.Pairs.{part, pair_sum, NoneBelow, AreWhole}
use Rattle.flash_layout.proofs.PairsLemmas.{half_cases, same_pair}

pub length-part : (c : List ℕ) (at n : ℕ) → at + n ≤ length c → length (part c at n) ≡ n
length-part c at n fits = omega (arith, length-take n (drop at c), length-drop at c)

pub get_or-part : (c : List ℕ) (at n k : ℕ) → k < n → get_or (part c at n) k 0 ≡ get_or c (at + k) 0
get_or-part c at n k lt = get_or-take n (drop at c) k 0 lt ∙ get_or-drop at c k 0

-- parts are the same where each place has the same byte
pub part_same : (x y : List ℕ) (at n : ℕ) → length y ≡ length x → ((k : ℕ) → k < n → get_or y (at + k) 0 ≡ get_or x (at + k) 0) → part y at n ≡ part x at n
part_same x y at n size same =
    let long : length (part y at n) ≤ n = omega (arith, length-take n (drop at y)) in
    let sizes : length (part y at n) ≡ length (part x at n) = omega (arith, size, length-take n (drop at y), length-drop at y, length-take n (drop at x), length-drop at x) in
    same_bytes (part y at n) (part x at n) sizes
    (λ k lt. let below : k < n = omega arith in get_or-part y at n k below ∙ (same k below ∙ sym (get_or-part x at n k below)))

-- bytes that the contents hold are their part
pub part_held : (c bytes : List ℕ) (at n : ℕ) → length bytes ≡ n → at + n ≤ length c → Holds c at bytes → part c at n ≡ bytes
part_held c bytes at n size fits holds =
    let sizes : length (part c at n) ≡ length bytes = length-part c at n fits ∙ sym size in
    same_bytes (part c at n) bytes sizes
    (λ k lt. let below : k < n = omega arith in get_or-part c at n k below ∙ holds k (omega arith))

-- less of a front is less of all
pub take_less : (l : List ℕ) (n m : ℕ) → n ≤ m → take n (take m l) ≡ take n l
take_less l zero m le = refl
take_less [] (suc n) zero le = refl
take_less [] (suc n) (suc m) le = refl
take_less (a ∷ l) (suc n) zero le = absurd (omega arith)
take_less (a ∷ l) (suc n) (suc m) le = ap (λ (xs : List ℕ). a ∷ xs) (take_less l n m (omega arith))

-- less of parts that are the same is the same
pub part_less : (x y : List ℕ) (at n m : ℕ) → n ≤ m → part y at m ≡ part x at m → part y at n ≡ part x at n
part_less x y at n m le same = sym (take_less (drop at y) n m le) ∙ (ap (λ (l : List ℕ). take n l) same ∙ take_less (drop at x) n m le)

-- What is nowhere below bytes whose pairs are not below 255, and is whole, is the same bytes. Both facts on torn
-- calls are this one: of an erase over what stood there, and of a program over what is to stand there.
pub whole_is : (v s : List ℕ) (n : ℕ) → length v ≡ 2 * n → length s ≡ 2 * n → NoneBelow v n
    → ((k : ℕ) → k < 2 * n → get_or v k 0 ≤ get_or s k 0) → AreWhole s n → s ≡ v
whole_is v s n long_v long_s least above whole =
    same_bytes s v (long_s ∙ sym long_v) (λ k lt. at_place k (omega arith) (half_cases k))
  where
    pick : (k i : ℕ) → (k ≡ 2 * i) ⊎ (k ≡ 2 * i + 1) → (get_or s (2 * i) 0 ≡ get_or v (2 * i) 0) × (get_or s (2 * i + 1) 0 ≡ get_or v (2 * i + 1) 0) → get_or s k 0 ≡ get_or v k 0
    pick k i (inl even) both = ap (λ (p : ℕ). get_or s p 0) even ∙ (both.0 ∙ ap (λ (p : ℕ). get_or v p 0) (sym even))
    pick k i (inr odd) both = ap (λ (p : ℕ). get_or s p 0) odd ∙ (both.1 ∙ ap (λ (p : ℕ). get_or v p 0) (sym odd))

    at_place : (k : ℕ) → k < 2 * n → (k ≡ 2 * (k / 2)) ⊎ (k ≡ 2 * (k / 2) + 1) → get_or s k 0 ≡ get_or v k 0
    at_place k lt half =
        let i = k / 2 in
        let inside : i < n = omega arith in
        let both = same_pair (get_or v (2 * i) 0) (get_or v (2 * i + 1) 0) (get_or s (2 * i) 0) (get_or s (2 * i + 1) 0)
        (above (2 * i) (omega arith)) (above (2 * i + 1) (omega arith)) (least.each i inside) (whole.each i inside) in
        pick k i half both

-- it is not below them either
pub none_below_above : (v s : List ℕ) (n : ℕ) → NoneBelow v n → ((k : ℕ) → k < 2 * n → get_or v k 0 ≤ get_or s k 0) → NoneBelow s n
none_below_above v s n least above = record { each = λ i lt. omega (arith, least.each i lt, above (2 * i) (omega arith), above (2 * i + 1) (omega arith)) }

pub whole_none_below : (v : List ℕ) (n : ℕ) → AreWhole v n → NoneBelow v n
whole_none_below v n whole = record { each = λ i lt. omega (arith, whole.each i lt) }

-- pairs are whole, or one of them is not
pub whole_or_not : (v : List ℕ) (n : ℕ) → AreWhole v n ⊎ (AreWhole v n → ⊥)
whole_or_not v zero = inl (record { each = λ i lt. absurd (omega arith) })
whole_or_not v (suc n) = both (whole_or_not v n) (nat_cases (pair_sum v n) 255)
  where
    nat_cases : (a b : ℕ) → (a ≡ b) ⊎ (a ≡ b → ⊥)
    nat_cases a b = cases_eq a b

    last_or_below : (i n : ℕ) → i < suc n → (i < n) ⊎ (i ≡ n)
    last_or_below i n lt = grind arith

    at_pair : (i : ℕ) → i < suc n → AreWhole v n → pair_sum v n ≡ 255 → (i < n) ⊎ (i ≡ n) → pair_sum v i ≡ 255
    at_pair i lt front last (inl below) = front.each i below
    at_pair i lt front last (inr is) = ap (λ (j : ℕ). pair_sum v j) is ∙ last

    both : AreWhole v n ⊎ (AreWhole v n → ⊥) → (pair_sum v n ≡ 255) ⊎ (pair_sum v n ≡ 255 → ⊥) → AreWhole v (suc n) ⊎ (AreWhole v (suc n) → ⊥)
    both (inl front) (inl last) = inl (record { each = λ i lt. at_pair i lt front last (last_or_below i n lt) })
    both (inr not_front) _ = inr (λ whole. not_front (record { each = λ i lt. whole.each i (omega arith) }))
    both (inl front) (inr not_last) = inr (λ whole. not_last (whole.each n (omega arith)))

-- a change within a part is one of the part
pub part_changes : (x y : List ℕ) (base len at n : ℕ) (P : ℕ → ℕ → ℕ → Type 0) → at + n ≤ len → base + len ≤ length x → Changes (base + at) n P x y → Changes at n P (part x base len) (part y base len)
part_changes x y base len at n P inside fits changes = record {
  size = length-part y base len (omega (arith, changes.size)) ∙ sym (length-part x base len fits);
  before = λ k lt. let here : k < len = omega arith in get_or-part y base len k here ∙ (changes.before (base + k) (omega arith) ∙ sym (get_or-part x base len k here));
  after = λ k le. after_at k le (cases_lt k len);
  inside = λ k lt.
      let here : at + k < len = omega arith in
      let spot : base + (at + k) ≡ base + at + k = omega arith in
      let old : get_or (part x base len) (at + k) 0 ≡ get_or x (base + at + k) 0 = get_or-part x base len (at + k) here ∙ ap (λ (p : ℕ). get_or x p 0) spot in
      let new : get_or (part y base len) (at + k) 0 ≡ get_or y (base + at + k) 0 = get_or-part y base len (at + k) here ∙ ap (λ (p : ℕ). get_or y p 0) spot in
      subst (λ (b : ℕ). P k (get_or (part x base len) (at + k) 0) b) (sym new) (subst (λ (b : ℕ). P k b (get_or y (base + at + k) 0)) (sym old) (changes.inside k lt));
}
  where
    after_at : (k : ℕ) → at + n ≤ k → (k < len) ⊎ (len ≤ k) → get_or (part y base len) k 0 ≡ get_or (part x base len) k 0
    after_at k le (inl here) = get_or-part y base len k here ∙ (changes.after (base + k) (omega arith) ∙ sym (get_or-part x base len k here))
    after_at k le (inr past) =
        get_or_past (part y base len) k 0 (omega (arith, length-part y base len (omega (arith, changes.size)))) ∙ sym (get_or_past (part x base len) k 0 (omega (arith, length-part x base len fits)))

-- what is nowhere below is so in a part
pub part_raised : (x y : List ℕ) (base len : ℕ) → base + len ≤ length x → ((k : ℕ) → k < len → get_or x (base + k) 0 ≤ get_or y (base + k) 0) → (k : ℕ) → get_or (part x base len) k 0 ≤ get_or (part y base len) k 0
part_raised x y base len fits above k = pick (cases_lt k len)
  where
    pick : (k < len) ⊎ (len ≤ k) → get_or (part x base len) k 0 ≤ get_or (part y base len) k 0
    pick (inl here) = omega (arith, get_or-part x base len k here, get_or-part y base len k here, above k here)
    pick (inr past) = omega (arith, get_or_past (part x base len) k 0 (omega (arith, length-part x base len fits)))
