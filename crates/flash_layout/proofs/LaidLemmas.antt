-- The bytes of a bank with slots laid over, place by place.
use Rattle.std.specs.Prelude.{Bool, true, false, ◌&&◌, ◌==◌, nat_le}
use Rattle.std.proofs.Common.{◌≡◌, ◌⊎◌, inl, inr, ℕ, zero, suc, ◌+◌, ◌-◌, ◌*◌, ◌<◌, ◌≤◌, List, [], ◌∷◌, length, get_or, take, refl, sym, ◌∙◌, ap, subst, arith, nat_lt, zero-add, if◌then◌else◌}
use Rattle.std.proofs.lemmas.Bool.{cases_lt}
use Rattle.std.proofs.lemmas.Bool.Decides.{nat_tests}
use Rattle.std.proofs.lemmas.List.{get_or_past}
use Rattle.flash_dev.specs.Changes.{Changes, IsBlank}
use Rattle.flash_dev.specs.Calls.{each_from, changed_in}
use Rattle.flash_layout.specs.Pairs.{half_at, part}
use Rattle.flash_layout.specs.Slots.{are_pairs_whole, is_slot, laid, laid_one, slot_at, slot_len}
use Rattle.flash_layout.proofs.PartLemmas.{get_or-part}

-- ---- a range that a function changes

length-each_from : (f : ℕ → ℕ → ℕ) (p : ℕ) (xs : List ℕ) → length (each_from f p xs) ≡ length xs
length-each_from f p [] = refl
length-each_from f p (x ∷ xs) = ap suc (length-each_from f (suc p) xs)

get_or-each_from : (f : ℕ → ℕ → ℕ) (p : ℕ) (xs : List ℕ) (k : ℕ) → k < length xs → get_or (each_from f p xs) k 0 ≡ f (p + k) (get_or xs k 0)
get_or-each_from f p [] k lt = absurd (omega arith)
get_or-each_from f p (x ∷ xs) zero lt = let same : p ≡ p + 0 = omega arith in ap (λ (q : ℕ). f q x) same
get_or-each_from f p (x ∷ xs) (suc k) lt =
    let same : suc p + k ≡ p + suc k = omega arith in
    get_or-each_from f (suc p) xs k (omega arith) ∙ ap (λ (q : ℕ). f q (get_or xs k 0)) same

if_below : (k at : ℕ) (x y : ℕ) → k < at → (if nat_lt k at then x else y) ≡ x
if_below k at x y lt = grind (arith, nat_tests)

if_past : (k at : ℕ) (x y : ℕ) → at ≤ k → (if nat_lt k at then x else y) ≡ y
if_past k at x y le = grind (arith, nat_tests)

pub length-changed_in : (at n : ℕ) (f : ℕ → ℕ → ℕ) (old : List ℕ) → length (changed_in at n f old) ≡ length old
length-changed_in at n f old = length-each_from _ 0 old

-- what a function makes of a range is a change of it
pub changes_in : (at n : ℕ) (f : ℕ → ℕ → ℕ) (old : List ℕ) → at + n ≤ length old → Changes at n (λ k a b. b ≡ f k a) old (changed_in at n f old)
changes_in at n f old fits = record {
  size = length-each_from _ 0 old;
  before = λ k lt. before_at k lt (cases_lt k (length old));
  after = λ k le. after_at k le (cases_lt k (length old));
  inside = λ k lt. inside_at k lt;
}
  where
    byte_of : ℕ → ℕ → ℕ
    byte_of p byte = if nat_lt p at then byte else if nat_lt p (at + n) then f (p - at) byte else byte

    at_place : (k : ℕ) → k < length old → get_or (changed_in at n f old) k 0 ≡ byte_of k (get_or old k 0)
    at_place k lt = get_or-each_from (λ p byte. if nat_lt p at then byte else if nat_lt p (at + n) then f (p - at) byte else byte) 0 old k lt ∙ ap (λ (p : ℕ). byte_of p (get_or old k 0)) (zero-add k)

    past : (k : ℕ) → length old ≤ k → get_or (changed_in at n f old) k 0 ≡ get_or old k 0
    past k le = get_or_past (changed_in at n f old) k 0 (omega (arith, length-each_from (λ p byte. if nat_lt p at then byte else if nat_lt p (at + n) then f (p - at) byte else byte) 0 old)) ∙ sym (get_or_past old k 0 le)

    before_at : (k : ℕ) → k < at → (k < length old) ⊎ (length old ≤ k) → get_or (changed_in at n f old) k 0 ≡ get_or old k 0
    before_at k lt (inl here) = at_place k here ∙ if_below k at _ _ lt
    before_at k lt (inr le) = past k le

    after_at : (k : ℕ) → at + n ≤ k → (k < length old) ⊎ (length old ≤ k) → get_or (changed_in at n f old) k 0 ≡ get_or old k 0
    after_at k le (inl here) = at_place k here ∙ (if_past k at _ _ (omega arith) ∙ if_past k (at + n) _ _ le)
    after_at k le (inr out) = past k out

    inside_at : (k : ℕ) → k < n → get_or (changed_in at n f old) (at + k) 0 ≡ f k (get_or old (at + k) 0)
    inside_at k lt =
        let spot : at + k - at ≡ k = omega arith in
        at_place (at + k) (omega arith) ∙ (if_past (at + k) at _ _ (omega arith) ∙ (if_below (at + k) (at + n) _ _ (omega arith) ∙ ap (λ (i : ℕ). f i (get_or old (at + k) 0)) spot))

-- ---- slots

-- a slot that is not valid changes nothing
pub laid_none : (n : ℕ) (slot bank : List ℕ) → is_slot n slot ≡ false → laid_one n slot bank ≡ bank
laid_none n slot bank none = ap (λ (t : Bool). if t then changed_in (slot_at slot) (slot_len slot) (λ k byte. get_or slot (256 + k) 0) bank else bank) none

-- a valid one puts its bytes at its place
pub laid_some : (n : ℕ) (slot bank : List ℕ) → is_slot n slot ≡ true → slot_at slot + slot_len slot ≤ length bank
    → Changes (slot_at slot) (slot_len slot) (λ k old new. new ≡ get_or slot (256 + k) 0) bank (laid_one n slot bank)
laid_some n slot bank some fits =
    subst (Changes (slot_at slot) (slot_len slot) (λ k old new. new ≡ get_or slot (256 + k) 0) bank)
    (sym (ap (λ (t : Bool). if t then changed_in (slot_at slot) (slot_len slot) (λ k byte. get_or slot (256 + k) 0) bank else bank) some))
    (changes_in (slot_at slot) (slot_len slot) (λ k byte. get_or slot (256 + k) 0) bank fits)

pub laid_zero : (n : ℕ) (slots bank : List ℕ) → laid n slots bank 0 ≡ bank
unfolding laid
laid_zero n slots bank = refl

pub laid_next : (n : ℕ) (slots bank : List ℕ) (s : ℕ) → laid n slots bank (suc s) ≡ laid_one n (part slots (4352 * s) 4352) (laid n slots bank s)
unfolding laid
laid_next n slots bank s = refl

-- two bytes 255 make no whole pair
blank_no_slot : (slot : List ℕ) → get_or slot 0 0 ≡ 255 → get_or slot 1 0 ≡ 255 → are_pairs_whole (take 16 slot) ≡ false
unfolding are_pairs_whole
blank_no_slot [] first second = absurd (omega arith)
blank_no_slot (a ∷ []) first second = absurd (omega arith)
blank_no_slot (a ∷ b ∷ rest) first second =
    let sum : a + b ≡ 510 = omega arith in
    ap (λ (s : ℕ). (s == 255) && are_pairs_whole (take 14 rest)) sum

pub blank_laid_none : (n : ℕ) (slot bank : List ℕ) → get_or slot 0 0 ≡ 255 → get_or slot 1 0 ≡ 255 → laid_one n slot bank ≡ bank
blank_laid_none n slot bank first second =
    laid_none n slot bank (ap (λ (t : Bool). t && (half_at slot 0 == 0x5350) && nat_le 1 (slot_len slot) && nat_le (slot_len slot) 4066 && nat_le (slot_at slot + slot_len slot) n)
    (blank_no_slot slot first second))

-- erased slots leave the bank as it is
pub laid_blank : (n : ℕ) (slots bank : List ℕ) (s : ℕ) → IsBlank slots 0 (4352 * s) → laid n slots bank s ≡ bank
laid_blank n slots bank zero blank = laid_zero n slots bank
laid_blank n slots bank (suc s) blank =
    let slot = part slots (4352 * s) 4352 in
    let before = laid_blank n slots bank s (λ k lt. blank k (omega arith)) in
    laid_next n slots bank s ∙ (ap (laid_one n slot) before ∙ blank_laid_none n slot bank (at 0 (omega arith)) (at 1 (omega arith)))
  where
    at : (k : ℕ) → k < 4352 → get_or (part slots (4352 * s) 4352) k 0 ≡ 255
    at k lt =
        let spot : 0 + (4352 * s + k) ≡ 4352 * s + k = omega arith in
        get_or-part slots (4352 * s) 4352 k lt ∙ (ap (λ (p : ℕ). get_or slots p 0) (sym spot) ∙ blank (4352 * s + k) (omega arith))
