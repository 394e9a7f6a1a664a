-- The columns of the bits that are set, one more at a time.
use Rattle.std.proofs.Common.{◌≡◌, ◌≢◌, ℕ, zero, suc, ◌+◌, ◌*◌, ◌/◌, ◌%◌, ◌^◌, ◌<◌, ◌≤◌, ◌==◌, Bool, true, false, List, length, get_or, eqb, refl, sym, ap, ap₂, subst, ◌∙◌, arith, rules, bit_xor}
use Rattle.std.specs.Prelude.{slice_set}
use Rattle.std.proofs.lemmas.Bool.{eqb-true, eq-eqb}
use Rattle.std.proofs.lemmas.Nat.{mod-pow-add, shr-shr, pow_below, mod_below, pow_pos}
use Rattle.std.proofs.Math.Nat.{mod-eq_of_lt, pow-le-pow_right, pow-suc}
use lib.Bits.{xor_shifted, xor_comm}
use Rattle.ts_crc.specs.Crc.{polynomial, after_bit}
use Rattle.crc_join.specs.Columns.{zero_bits}
use Rattle.crc_join.proofs.Linear.{zeros_xor, zeros_none, zeros_front}

-- ---- each column

-- a bit that is not the highest moves up
bit_up : (i : ℕ) → i < 31 → after_bit (2 ^ i) 0 ≡ 2 ^ suc i
unfolding after_bit
bit_up i h =
    let below : 2 ^ i < 2 ^ 31 = pow_below i 31 h in
    let next : 2 ^ suc i ≡ 2 ^ i * 2 = pow-suc 2 i in
    let low : (2 ^ i / 2 ^ 31 % 2 == 0) ≡ true = let z : 2 ^ i / 2 ^ 31 % 2 ≡ 0 = omega (arith, below) in rw z refl in
    rw low (omega (arith, below, next))

pub bit_at : (i : ℕ) → i < 32 → zero_bits i 1 ≡ 2 ^ i
unfolding zero_bits
bit_at zero h = refl
bit_at (suc i) h = ap (λ r. after_bit r 0) (bit_at i (omega (arith, h))) ∙ bit_up i (omega (arith, h))

pub column_more : (n i : ℕ) → after_bit (zero_bits n (zero_bits i 1)) 0 ≡ zero_bits n (zero_bits (i + 1) 1)
unfolding zero_bits
column_more n i =
    let e : i + 1 ≡ suc i = omega arith in
    sym (zeros_front n (zero_bits i 1)) ∙ ap (λ k. zero_bits n (zero_bits k 1)) (sym e)

-- ---- their sum

low_more : (x i : ℕ) → x % 2 ^ (i + 1) ≡ (x / 2 ^ i % 2) * 2 ^ i + x % 2 ^ i
low_more x i =
    let e : i + 1 ≡ 1 + i = omega arith in
    ap (λ k. x % 2 ^ k) e ∙ mod-pow-add x 1 i

pub sum_same : (n x i sum : ℕ) → x / 2 ^ i % 2 ≡ 0 → sum ≡ zero_bits n (x % 2 ^ i) → sum ≡ zero_bits n (x % 2 ^ (i + 1))
sum_same n x i sum bit is =
    let e : x % 2 ^ (i + 1) ≡ x % 2 ^ i = low_more x i ∙ ap (λ b. b * 2 ^ i + x % 2 ^ i) bit ∙ omega arith in
    is ∙ ap (zero_bits n) (sym e)

pub sum_more : (n x i sum column : ℕ) → x / 2 ^ i % 2 ≡ 1 → column ≡ zero_bits n (2 ^ i) → sum ≡ zero_bits n (x % 2 ^ i)
    → bit_xor sum column ≡ zero_bits n (x % 2 ^ (i + 1))
sum_more n x i sum column bit col is =
    let low : x % 2 ^ i < 2 ^ i = mod_below x (2 ^ i) (pow_pos i) in
    let one : 1 * 2 ^ i ≡ 2 ^ i = omega arith in
    let e : x % 2 ^ (i + 1) ≡ bit_xor (2 ^ i) (x % 2 ^ i) =
    low_more x i ∙ ap (λ b. b * 2 ^ i + x % 2 ^ i) bit ∙ sym (xor_shifted 1 i (x % 2 ^ i) low) ∙ ap (λ a. bit_xor a (x % 2 ^ i)) one in
    xor_comm sum column
    ∙ ap₂ bit_xor col is
    ∙ sym (zeros_xor n (2 ^ i) (x % 2 ^ i))
    ∙ ap (zero_bits n) (sym e)

pub rest_more : (x i rest : ℕ) → rest ≡ x / 2 ^ i → rest / 2 ≡ x / 2 ^ (i + 1)
rest_more x i rest e = ap (λ r. r / 2) e ∙ shr-shr x i 1

pub sum_start : (n x : ℕ) → 0 ≡ zero_bits n (x % 2 ^ 0)
sum_start n x = let e : x % 1 ≡ 0 = omega arith in sym (ap (zero_bits n) e ∙ zeros_none n)

pub sum_all : (n x i sum : ℕ) → x < 2 ^ 32 → 32 ≤ i → sum ≡ zero_bits n (x % 2 ^ i) → sum ≡ zero_bits n x
sum_all n x i sum small all is =
    let wide : 2 ^ 32 ≤ 2 ^ i = pow-le-pow_right {n = 2} (omega arith) {i = 32} {j = i} all in
    is ∙ ap (zero_bits n) (mod-eq_of_lt (omega (arith, small, wide)))

-- ---- the register after a bit 0, by its highest bit

pub zero_low : (x : ℕ) → x / 2 ^ 31 ≡ 0 → x * 2 % 2 ^ 32 ≡ after_bit x 0
unfolding after_bit
zero_low x top =
    let e : (x / 2 ^ 31 % 2 == 0) ≡ true = rw top refl in
    rw e refl

pub zero_high : (x : ℕ) → x < 2 ^ 32 → x / 2 ^ 31 ≢ 0 → bit_xor (x * 2 % 2 ^ 32) polynomial ≡ after_bit x 0
unfolding after_bit
zero_high x small top =
    let one : x / 2 ^ 31 % 2 ≡ 1 = omega (arith, small, top) in
    let e : (x / 2 ^ 31 % 2 == 0) ≡ false = rw one refl in
    rw e refl

pub zeros_more : (n x : ℕ) → after_bit (zero_bits n x) 0 ≡ zero_bits (n + 1) x
unfolding zero_bits
zeros_more n x = let e : n + 1 ≡ suc n = omega arith in sym (ap (λ k. zero_bits k x) e)

pub zeros_start : (n : ℕ) → zero_bits n 1 ≡ zero_bits n (zero_bits 0 1)
unfolding zero_bits
zeros_start n = refl

-- one column more is written
pub written_column : (n : ℕ) (columns : List ℕ) (i column : ℕ) → length columns ≡ 32 → i < 32 → column ≡ zero_bits n (zero_bits i 1)
    → ((k : ℕ) → k < i → get_or columns k 0 ≡ zero_bits n (2 ^ k))
    → (k : ℕ) → k < i + 1 → get_or (slice_set columns i column) k 0 ≡ zero_bits n (2 ^ k)
written_column n columns i column all below is earlier k h = by_test (eqb k i) refl
  where
    by_test : (same : Bool) → eqb k i ≡ same → get_or (slice_set columns i column) k 0 ≡ zero_bits n (2 ^ k)
    by_test true e =
        let own : k ≡ i = eqb-true k i e in
        subst (λ (j : ℕ). get_or (slice_set columns i column) j 0 ≡ zero_bits n (2 ^ j)) (sym own)
        ((search rules) ∙ is ∙ ap (zero_bits n) (bit_at i below))
    by_test false e =
        let other : k ≢ i = (λ same. let yes : eqb k i ≡ true = eq-eqb k i same in cc) in
        (search (rules, other)) ∙ earlier k (omega (arith, h, other))

pub even : (n : ℕ) → n % 2 ≢ 1 → n % 2 ≡ 0
even n other = omega (arith, other)
