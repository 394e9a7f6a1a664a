-- Ranges of contents, place by place.
use Rattle.std.proofs.Common.{◌≡◌, ◌≢◌, ◌⊎◌, inl, inr, subst, ℕ, zero, suc, ◌+◌, ◌<◌, ◌≤◌, List, [], ◌∷◌, length, get_or, set, refl, sym, ◌∙◌, ap, arith, get_or-set_other, get_or-set_same}
use Rattle.std.proofs.Math.ListN.{length-set}
use Rattle.std.proofs.lemmas.Bool.{cases_lt}
use Rattle.std.proofs.lemmas.Bool.Decides.{nat_tests}
use Rattle.std.proofs.Common.{◌-◌, if◌then◌else◌, nat_lt, zero-add, take, drop, ◌++◌}
use Rattle.std.proofs.lemmas.List.{take_at}
use Rattle.flash_dev.specs.Changes.{Changes}
use Rattle.flash_dev.specs.Calls.{each_from, changed_in}

-- lists of one length are equal where each place has the same byte
pub same_bytes : (xs ys : List ℕ) → length xs ≡ length ys → ((k : ℕ) → k < length xs → get_or xs k 0 ≡ get_or ys k 0) → xs ≡ ys
same_bytes [] [] len same = refl
same_bytes [] (y ∷ ys) len same = absurd (omega arith)
same_bytes (x ∷ xs) [] len same = absurd (omega arith)
same_bytes (x ∷ xs) (y ∷ ys) len same =
    let first : x ≡ y = same 0 (omega arith) in
    let rest : xs ≡ ys = same_bytes xs ys (omega arith) (λ k lt. same (suc k) (omega arith)) in
    (λ i. first i ∷ rest i)

-- nothing changed yet
pub changes_none : (at : ℕ) (P : ℕ → ℕ → ℕ → Type 0) (xs : List ℕ) → Changes at 0 P xs xs
changes_none at P xs = record { size = refl; before = λ k lt. refl; after = λ k le. refl; inside = λ k lt. absurd (omega arith) }

-- below n + 1 is below n, or n
last_or_below : (k n m : ℕ) → m ≡ n + 1 → k < m → (k < n) ⊎ (k ≡ n)
last_or_below k n m is_next below = grind arith

changes_inside : (at n place : ℕ) (P : ℕ → ℕ → ℕ → Type 0) (old mid : List ℕ) (v : ℕ)
    → Changes at n P old mid → place ≡ at + n → place < length mid → P n (get_or old place 0) v
    → (k : ℕ) → (k < n) ⊎ (k ≡ n) → P k (get_or old (at + k) 0) (get_or (set mid place v) (at + k) 0)
changes_inside at n place P old mid v so_far here lt fits k (inl below) =
    let other : at + k ≢ place = omega arith in
    rw get_or-set_other (so_far.inside k below)
changes_inside at n place P old mid v so_far here lt fits k (inr is_last) =
    let spot : at + k ≡ place = omega arith in
    let Q : ℕ → Type 0 = λ p. P k (get_or old p 0) (get_or (set mid place v) p 0) in
    let R : ℕ → Type 0 = λ j. P j (get_or old place 0) v in
    let now : P k (get_or old place 0) v = subst R (sym is_last) fits in
    subst Q (sym spot) (rw get_or-set_same now)

-- one byte more
pub changes_more : (at n m place : ℕ) (P : ℕ → ℕ → ℕ → Type 0) (old mid : List ℕ) (v : ℕ)
    → Changes at n P old mid → m ≡ n + 1 → place ≡ at + n → place < length mid → P n (get_or old place 0) v → Changes at m P old (set mid place v)
changes_more at n m place P old mid v so_far is_next here lt fits = record {
  size = length-set mid place v ∙ so_far.size;
  before = λ k below. let other : k ≢ place = omega arith in rw get_or-set_other (so_far.before k below);
  after = λ k past. let other : k ≢ place = omega arith in rw get_or-set_other (so_far.after k (omega arith));
  inside = λ k below. changes_inside at n place P old mid v so_far here lt fits k (last_or_below k n m is_next below);
}

length-each_from : (f : ℕ → ℕ → ℕ) (p : ℕ) (xs : List ℕ) → length (each_from f p xs) ≡ length xs
length-each_from f p [] = refl
length-each_from f p (x ∷ xs) = ap suc (length-each_from f (suc p) xs)

get_or-each_from : (f : ℕ → ℕ → ℕ) (p : ℕ) (xs : List ℕ) (k : ℕ) → k < length xs → get_or (each_from f p xs) k 0 ≡ f (p + k) (get_or xs k 0)
get_or-each_from f p [] k lt = absurd (omega arith)
get_or-each_from f p (x ∷ xs) zero lt = let same : p ≡ p + 0 = omega arith in ap (λ (q : ℕ). f q x) same
get_or-each_from f p (x ∷ xs) (suc k) lt =
    let same : suc p + k ≡ p + suc k = omega arith in
    get_or-each_from f (suc p) xs k (omega arith) ∙ ap (λ (q : ℕ). f q (get_or xs k 0)) same

if_below : (k at : ℕ) (x y : ℕ) → k < at → (if nat_lt k at then x else y) ≡ x
if_below k at x y lt = grind (arith, nat_tests)

if_past : (k at : ℕ) (x y : ℕ) → at ≤ k → (if nat_lt k at then x else y) ≡ y
if_past k at x y le = grind (arith, nat_tests)

exact_at : (at n : ℕ) (f : ℕ → ℕ → ℕ) (old new : List ℕ) → Changes at n (λ k a b. b ≡ f k a) old new → (k : ℕ)
    → (k < at) ⊎ (at ≤ k) → (k < at + n) ⊎ (at + n ≤ k)
    → get_or new k 0 ≡ (if nat_lt k at then get_or old k 0 else if nat_lt k (at + n) then f (k - at) (get_or old k 0) else get_or old k 0)
exact_at at n f old new changes k (inl lt) _ = changes.before k lt ∙ sym (if_below k at _ _ lt)
exact_at at n f old new changes k (inr le) (inr past) = changes.after k past ∙ (sym (if_past k (at + n) _ _ past) ∙ sym (if_past k at _ _ le))
exact_at at n f old new changes k (inr le) (inl within) =
    let spot : at + (k - at) ≡ k = omega arith in
    let here : get_or new k 0 ≡ f (k - at) (get_or old k 0) = subst (λ (p : ℕ). get_or new p 0 ≡ f (k - at) (get_or old p 0)) spot (changes.inside (k - at) (omega arith)) in
    here ∙ (sym (if_below k (at + n) _ _ within) ∙ sym (if_past k at _ _ le))

-- a change that is exact is a function of what was held
pub changed_exact : (at n : ℕ) (f : ℕ → ℕ → ℕ) (old new : List ℕ) → Changes at n (λ k a b. b ≡ f k a) old new → new ≡ changed_in at n f old
changed_exact at n f old new changes =
    same_bytes new (changed_in at n f old) (changes.size ∙ sym (length-each_from _ 0 old)) (λ k lt. at_place at n f old new changes k (omega (arith, changes.size)))
  where
    at_place : (at n : ℕ) (f : ℕ → ℕ → ℕ) (old new : List ℕ) → Changes at n (λ k a b. b ≡ f k a) old new → (k : ℕ) → k < length old → get_or new k 0 ≡ get_or (changed_in at n f old) k 0
    at_place at n f old new changes k lt =
        exact_at at n f old new changes k (cases_lt k at) (cases_lt k (at + n))
        ∙ sym (get_or-each_from (λ p byte. if nat_lt p at then byte else if nat_lt p (at + n) then f (p - at) byte else byte) 0 old k lt ∙ ap (λ (p : ℕ). if nat_lt p at then get_or old k 0 else if nat_lt p (at + n) then f (p - at) (get_or old k 0) else get_or old k 0) (zero-add k))

-- a borrowed vector written back whole
pub written_back : (len : ℕ) (new old : List ℕ) → length new ≡ length old → length old ≡ len → take len (new ++ drop (length new) old) ≡ new
written_back len new old same is = take_at new (drop (length new) old) len (same ∙ is)
