-- Maps of places, and the number of places that are missing.
use Rattle.std.proofs.Common.{◌≡◌, ◌≢◌, ℕ, zero, suc, ◌+◌, ◌-◌, ◌*◌, ◌/◌, ◌%◌, ◌^◌, ◌<◌, ◌≤◌, Bool, true, false, ◌||◌, eqb, List, length, get_or, w8, refl, sym, ap, ◌∙◌, arith}
use Rattle.std.proofs.Math.ListN.{set}
use Rattle.std.specs.Prelude.{bit_or}
use Rattle.std.proofs.lemmas.Bool.{eq-eqb, eqb-true}
use Rattle.std.proofs.lemmas.List.{get_or-set_other}
use Rattle.std.proofs.lemmas.Grind.{get_or-set_at}
use Rattle.std.proofs.lemmas.Nat.Bits.{bit_at_set_same, bit_at_set_other, bit_at-zero}
use Rattle.ssu_group.specs.Map.{missing_below, is_set, IsMap}

decided : (a b : ℕ) (same : Bool) → eqb a b ≡ same → a ≢ b → eqb a b ≡ false
decided a b true e differ = absurd (differ (eqb-true a b e))
decided a b false e differ = e

different : (a b : ℕ) → a ≢ b → eqb a b ≡ false
different a b differ = decided a b (eqb a b) refl differ

apart : (a b : ℕ) → eqb a b ≡ false → a ≢ b
apart a b e same = let yes : eqb a b ≡ true = eq-eqb a b same in cc

-- ---- a bit that is set

-- the byte with that bit set
abbrev pub with_bit : ℕ → ℕ → ℕ
with_bit byte n = bit_or byte (1 * 2 ^ (n % 8) % 2 ^ 8)

abbrev IsMarked : List ℕ → ℕ → ℕ → Type 0
IsMarked bits n k = is_set (set bits (n / 8) (with_bit (get_or bits (n / 8) 0) n)) k ≡ (eqb k n || is_set bits k)

pub set_bit_is : (bits : List ℕ) (n k : ℕ) → n / 8 < length bits → IsMarked bits n k
set_bit_is bits n k within = by_byte (eqb (k / 8) (n / 8)) refl (eqb (k % 8) (n % 8)) refl
  where
    byte : ℕ
    byte = get_or bits (n / 8) 0

    by_byte : (same_byte : Bool) → eqb (k / 8) (n / 8) ≡ same_byte → (same_bit : Bool) → eqb (k % 8) (n % 8) ≡ same_bit → IsMarked bits n k
    by_byte true e true f =
        let there : k / 8 ≡ n / 8 = eqb-true (k / 8) (n / 8) e in
        let bit : k % 8 ≡ n % 8 = eqb-true (k % 8) (n % 8) f in
        let is : k ≡ n = omega arith in
        let small : n % 8 < 8 = omega arith in
        rw (eq-eqb k n is, get_or-set_at bits (n / 8) (k / 8) (with_bit (get_or bits (n / 8) 0) n) 0 there within, bit, bit_at_set_same w8 (get_or bits (n / 8) 0) (n % 8) small) refl
    by_byte true e false f =
        let there : k / 8 ≡ n / 8 = eqb-true (k / 8) (n / 8) e in
        let other : k % 8 ≢ n % 8 = apart (k % 8) (n % 8) f in
        let differ : k ≢ n = λ (is : k ≡ n). other (ap (λ (x : ℕ). x % 8) is) in
        let small : n % 8 < 8 = omega arith in
        rw (different k n differ, get_or-set_at bits (n / 8) (k / 8) (with_bit (get_or bits (n / 8) 0) n) 0 there within, bit_at_set_other w8 (get_or bits (n / 8) 0) (n % 8) small (k % 8) other, there) refl
    by_byte false e bit f =
        let other : k / 8 ≢ n / 8 = apart (k / 8) (n / 8) e in
        let differ : k ≢ n = λ (is : k ≡ n). other (ap (λ (x : ℕ). x / 8) is) in
        rw (different k n differ, get_or-set_other bits (n / 8) (k / 8) (with_bit (get_or bits (n / 8) 0) n) 0 other) refl

-- ---- how many are missing

pub missing_none : (marked : ℕ → Bool) → missing_below marked 0 ≡ 0
unfolding missing_below
missing_none marked = refl

pub missing_all : (marked : ℕ → Bool) (n : ℕ) → ((k : ℕ) → k < n → marked k ≡ false) → missing_below marked n ≡ n
unfolding missing_below
missing_all marked zero none = refl
missing_all marked (suc n) none =
    let others : missing_below marked n ≡ n = missing_all marked n (λ k below. none k (omega arith)) in
    let last : marked n ≡ false = none n (omega arith) in
    rw (others, last) (omega arith)

pub missing_same : (old new : ℕ → Bool) (n : ℕ) → ((k : ℕ) → k < n → new k ≡ old k) → missing_below new n ≡ missing_below old n
unfolding missing_below
missing_same old new zero same = refl
missing_same old new (suc n) same =
    let others : missing_below new n ≡ missing_below old n = missing_same old new n (λ k below. same k (omega arith)) in
    let last : new n ≡ old n = same n (omega arith) in
    rw (others, last) refl

-- one number more is marked
pub missing_less : (old new : ℕ → Bool) (m n : ℕ) → m < n → old m ≡ false → ((k : ℕ) → k < n → new k ≡ (eqb k m || old k)) →
    missing_below old n ≡ missing_below new n + 1
unfolding missing_below
missing_less old new m zero below free marked = absurd (omega arith)
missing_less old new m (suc n) below free marked = here (eqb n m) refl (λ less. missing_less old new m n less free (λ k under. marked k (omega arith)))
  where
    here : (is : Bool) → eqb n m ≡ is → (m < n → missing_below old n ≡ missing_below new n + 1) → missing_below old (suc n) ≡ missing_below new (suc n) + 1
    here true e more =
        let is : n ≡ m = eqb-true n m e in
        let others : missing_below new n ≡ missing_below old n = missing_same old new n (λ k less. marked k (omega arith) ∙ ap (λ (b : Bool). b || old k) (different k m (λ same. absurd (omega arith)))) in
        let last : new n ≡ true = marked n (omega arith) ∙ ap (λ (b : Bool). b || old n) e in
        let was : old n ≡ false = ap old is ∙ free in
        rw (others, last, was) (omega arith)
    here false e more =
        let other : n ≢ m = apart n m e in
        let others : missing_below old n ≡ missing_below new n + 1 = more (omega arith) in
        let last : new n ≡ old n = marked n (omega arith) ∙ ap (λ (b : Bool). b || old n) e in
        rw (others, last) (omega arith)

pub missing_some : (marked : ℕ → Bool) (m n : ℕ) → m < n → marked m ≡ false → 1 ≤ missing_below marked n
missing_some marked m n below free =
    let less = missing_less marked (λ k. eqb k m || marked k) m n below free (λ k l. refl) in
    omega arith

-- where none is missing, all are marked
pub all_marked : (marked : ℕ → Bool) (n : ℕ) → missing_below marked n ≡ 0 → (k : ℕ) → k < n → marked k ≡ true
all_marked marked n none k below = by_mark (marked k) refl
  where
    by_mark : (is : Bool) → marked k ≡ is → marked k ≡ true
    by_mark true e = e
    by_mark false e = let some = missing_some marked k n below e in absurd (omega arith)

-- ---- a map

-- bytes of 0 have no bit
pub none_set : (bits : List ℕ) (places : ℕ) → places ≤ 8 * length bits → ((i : ℕ) → i < length bits → get_or bits i 0 ≡ 0) → (k : ℕ) → k < places → is_set bits k ≡ false
none_set bits places room blank k below =
    let inside : k / 8 < length bits = omega arith in
    rw (blank (k / 8) inside, bit_at-zero (k % 8)) refl

pub cleared : (old bits : List ℕ) (most places : ℕ) → most ≤ 8 * length old → places ≤ most → length bits ≡ length old → ((i : ℕ) → i < length bits → get_or bits i 0 ≡ 0) →
    IsMap bits most places places
cleared old bits most places room within len blank = record {
  room = omega arith;
  within = within;
  counted = sym (missing_all (is_set bits) places (none_set bits places (omega arith) blank));
}

pub one_marked : (old bits : List ℕ) (most places missing n : ℕ) → IsMap old most places missing → n < places → is_set old n ≡ false → length bits ≡ length old →
    ((k : ℕ) → is_set bits k ≡ (eqb k n || is_set old k)) → IsMap bits most places (missing - 1)
one_marked old bits most places missing n is below free len marked =
    let room = is.room in
    let less = missing_less (is_set old) (is_set bits) n places below free (λ k under. marked k) in
    let counted = is.counted in
    record { room = omega arith; within = is.within; counted = omega arith }

pub one_missing : (bits : List ℕ) (most places missing n : ℕ) → IsMap bits most places missing → n < places → is_set bits n ≡ false → 1 ≤ missing
one_missing bits most places missing n is below free =
    let some = missing_some (is_set bits) n places below free in
    let counted = is.counted in
    omega arith
