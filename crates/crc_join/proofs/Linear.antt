-- A register over zeros is linear over exclusive or.
use Rattle.std.proofs.Common.{◌≡◌, ℕ, zero, suc, ◌+◌, ◌*◌, ◌/◌, ◌%◌, ◌^◌, ◌<◌, ◌==◌, Bool, true, false, cond, List, [], ◌∷◌, length, add-zero, refl, sym, ap, ap₂, ◌∙◌, arith, bit_xor, fold}
use lib.Bits.{xor_assoc, xor_comm, xor_zero_r, xor_shr, xor_mod, xor_block}
use Rattle.ts_crc.specs.Crc.{polynomial, after_bit, after_byte, after_bytes}
use Rattle.crc_join.specs.Columns.{zero_bits}

-- (a + b) + (c + d) = (a + c) + (b + d)
crossed : (a b c d : ℕ) → bit_xor (bit_xor a b) (bit_xor c d) ≡ bit_xor (bit_xor a c) (bit_xor b d)
crossed a b c d =
    xor_assoc a b (bit_xor c d)
    ∙ ap (bit_xor a) (sym (xor_assoc b c d) ∙ ap (λ x. bit_xor x d) (xor_comm b c) ∙ xor_assoc c b d)
    ∙ sym (xor_assoc a c (bit_xor b d))

-- ---- one bit

twice : ℕ → ℕ
twice x = x * 2 % 2 ^ 32

high : ℕ → ℕ
high x = x / 2 ^ 31 % 2

-- what is added where the highest bit is t and the bit b comes
added : ℕ → ℕ → ℕ
added t b = cond (t == b) 0 polynomial

added_is : (x : ℕ) (same : Bool) → cond same x (bit_xor x polynomial) ≡ bit_xor x (cond same 0 polynomial)
added_is x true = sym (xor_zero_r x)
added_is x false = refl

bit_is : (x b : ℕ) → after_bit x b ≡ bit_xor (twice x) (added (high x) b)
unfolding after_bit twice high added
bit_is x b = added_is (x * 2 % 2 ^ 32) (x / 2 ^ 31 % 2 == b)

twice_xor : (x y : ℕ) → twice (bit_xor x y) ≡ bit_xor (twice x) (twice y)
unfolding twice
twice_xor x y =
    let block : bit_xor (x * 2) (y * 2) ≡ bit_xor x y * 2 = simp add-zero at (xor_block 1 x y 0 0 (omega arith) (omega arith)) in
    ap (λ n. n % 2 ^ 32) (sym block) ∙ xor_mod (x * 2) (y * 2) 32

high_xor : (x y : ℕ) → high (bit_xor x y) ≡ bit_xor (high x) (high y)
unfolding high
high_xor x y = ap (λ n. n % 2) (xor_shr x y 31) ∙ xor_mod (x / 2 ^ 31) (y / 2 ^ 31) 1

high_small : (x : ℕ) → high x < 2
unfolding high
high_small x = omega arith

on_digit : (P : ℕ → Type 0) → P 0 → P 1 → (n : ℕ) → n < 2 → P n
on_digit P p q zero h = p
on_digit P p q (suc zero) h = q
on_digit P p q (suc (suc n)) h = absurd (omega arith)

added_xor : (t u b : ℕ) → t < 2 → u < 2 → b < 2 → added (bit_xor t u) b ≡ bit_xor (added t 0) (added u b)
unfolding added
added_xor t u b f g h =
    on_digit (λ t. added (bit_xor t u) b ≡ bit_xor (added t 0) (added u b))
    (on_digit (λ u. added (bit_xor 0 u) b ≡ bit_xor (added 0 0) (added u b))
    (on_digit (λ b. added (bit_xor 0 0) b ≡ bit_xor (added 0 0) (added 0 b)) refl refl b h)
    (on_digit (λ b. added (bit_xor 0 1) b ≡ bit_xor (added 0 0) (added 1 b)) refl refl b h) u g)
    (on_digit (λ u. added (bit_xor 1 u) b ≡ bit_xor (added 1 0) (added u b))
    (on_digit (λ b. added (bit_xor 1 0) b ≡ bit_xor (added 1 0) (added 0 b)) refl refl b h)
    (on_digit (λ b. added (bit_xor 1 1) b ≡ bit_xor (added 1 0) (added 1 b)) refl refl b h) u g)
    t f

-- One part of the register goes on with the bit, and the other with a bit 0.
pub bit_apart : (x y b : ℕ) → b < 2 → after_bit (bit_xor x y) b ≡ bit_xor (after_bit x 0) (after_bit y b)
bit_apart x y b h =
    bit_is (bit_xor x y) b
    ∙ ap₂ bit_xor (twice_xor x y)
    (ap (λ t. added t b) (high_xor x y) ∙ added_xor (high x) (high y) b (high_small x) (high_small y) h)
    ∙ crossed (twice x) (twice y) (added (high x) 0) (added (high y) b)
    ∙ ap₂ bit_xor (sym (bit_is x 0)) (sym (bit_is y b))

-- ---- many zeros

pub zeros_xor : (n x y : ℕ) → zero_bits n (bit_xor x y) ≡ bit_xor (zero_bits n x) (zero_bits n y)
unfolding zero_bits
zeros_xor zero x y = refl
zeros_xor (suc n) x y = ap (λ r. after_bit r 0) (zeros_xor n x y) ∙ bit_apart (zero_bits n x) (zero_bits n y) 0 (omega arith)

pub zeros_none : (n : ℕ) → zero_bits n 0 ≡ 0
unfolding zero_bits after_bit
zeros_none zero = refl
zeros_none (suc n) = ap (λ r. after_bit r 0) (zeros_none n)

-- so many zeros, and before them others
pub zeros_add : (n m x : ℕ) → zero_bits (n + m) x ≡ zero_bits n (zero_bits m x)
unfolding zero_bits
zeros_add zero m x = let e : zero + m ≡ m = omega arith in ap (λ k. zero_bits k x) e
zeros_add (suc n) m x =
    let e : suc n + m ≡ suc (n + m) = omega arith in
    ap (λ k. zero_bits k x) e ∙ ap (λ r. after_bit r 0) (zeros_add n m x)

-- one zero, and then others
pub zeros_front : (n x : ℕ) → zero_bits n (after_bit x 0) ≡ after_bit (zero_bits n x) 0
unfolding zero_bits
zeros_front zero x = refl
zeros_front (suc n) x = ap (λ r. after_bit r 0) (zeros_front n x)

-- ---- bytes

byte_apart : (x y b : ℕ) → after_byte (bit_xor x y) b ≡ bit_xor (zero_bits 8 x) (after_byte y b)
unfolding after_byte zero_bits
byte_apart x y b =
    let s0 = bit_apart x y (b / 128 % 2) (omega arith) in
    let s1 = bit_apart (zero_bits 1 x) _ (b / 64 % 2) (omega arith) in
    let s2 = bit_apart (zero_bits 2 x) _ (b / 32 % 2) (omega arith) in
    let s3 = bit_apart (zero_bits 3 x) _ (b / 16 % 2) (omega arith) in
    let s4 = bit_apart (zero_bits 4 x) _ (b / 8 % 2) (omega arith) in
    let s5 = bit_apart (zero_bits 5 x) _ (b / 4 % 2) (omega arith) in
    let s6 = bit_apart (zero_bits 6 x) _ (b / 2 % 2) (omega arith) in
    let s7 = bit_apart (zero_bits 7 x) _ (b % 2) (omega arith) in
    ap (λ r. fold after_bit r ((b / 64 % 2) ∷ (b / 32 % 2) ∷ (b / 16 % 2) ∷ (b / 8 % 2) ∷ (b / 4 % 2) ∷ (b / 2 % 2) ∷ (b % 2) ∷ [])) s0
    ∙ ap (λ r. fold after_bit r ((b / 32 % 2) ∷ (b / 16 % 2) ∷ (b / 8 % 2) ∷ (b / 4 % 2) ∷ (b / 2 % 2) ∷ (b % 2) ∷ [])) s1
    ∙ ap (λ r. fold after_bit r ((b / 16 % 2) ∷ (b / 8 % 2) ∷ (b / 4 % 2) ∷ (b / 2 % 2) ∷ (b % 2) ∷ [])) s2
    ∙ ap (λ r. fold after_bit r ((b / 8 % 2) ∷ (b / 4 % 2) ∷ (b / 2 % 2) ∷ (b % 2) ∷ [])) s3
    ∙ ap (λ r. fold after_bit r ((b / 4 % 2) ∷ (b / 2 % 2) ∷ (b % 2) ∷ [])) s4
    ∙ ap (λ r. fold after_bit r ((b / 2 % 2) ∷ (b % 2) ∷ [])) s5
    ∙ ap (λ r. fold after_bit r ((b % 2) ∷ [])) s6
    ∙ s7

-- One part of the register goes on with the bytes, and the other with as many bytes 0.
pub apart : (x y : ℕ) (bytes : List ℕ) → after_bytes (bit_xor x y) bytes ≡ bit_xor (zero_bits (8 * length bytes) x) (after_bytes y bytes)
unfolding after_bytes zero_bits
apart x y [] = refl
apart x y (b ∷ bytes) =
    let more : 8 * suc (length bytes) ≡ 8 * length bytes + 8 = omega arith in
    ap (λ r. after_bytes r bytes) (byte_apart x y b)
    ∙ apart (zero_bits 8 x) (after_byte y b) bytes
    ∙ ap (λ r. bit_xor r (after_bytes (after_byte y b) bytes)) (sym (ap (λ n. zero_bits n x) more ∙ zeros_add (8 * length bytes) 8 x))
