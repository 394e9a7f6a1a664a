-- From what a register holds back to what it held: a register that is 0 after four bytes was the number that they are.
use Rattle.std.proofs.Common.{◌≡◌, ℕ, ◌+◌, ◌*◌, ◌/◌, ◌%◌, ◌^◌, ◌<◌, ◌==◌, Bool, true, false, cond, refl, sym, ap, ◌∙◌, arith, bit_xor}
use Rattle.std.proofs.lemmas.Bool.{eqb-true}
use Rattle.std.specs.Int.{to_be_bytes, w32}
use lib.Bits.{xor_lt, xor_mod}
use Rattle.ts_crc.specs.Crc.{polynomial, after_bit, after_byte, after_bytes}

-- The polynomial is odd.
odd_added : (d : ℕ) → d % 2 ≡ 0 → bit_xor d polynomial % 2 ≡ 1
odd_added d even = xor_mod d polynomial 1 ∙ ap (λ n. bit_xor n 1) even

-- A register that is even after a bit took that bit for its highest one.
bit_back : (r b v : ℕ) → r < 2 ^ 32 → v % 2 ≡ 0 → after_bit r b ≡ v → r ≡ b * 2 ^ 31 + v / 2
unfolding after_bit
bit_back r b v small even is = by_test (r / 2 ^ 31 % 2 == b) refl is
  where
    by_test : (same : Bool) → (r / 2 ^ 31 % 2 == b) ≡ same → cond same (r * 2 % 2 ^ 32) (bit_xor (r * 2 % 2 ^ 32) polynomial) ≡ v → r ≡ b * 2 ^ 31 + v / 2
    by_test true e f = let top : r / 2 ^ 31 % 2 ≡ b = eqb-true _ _ e in omega (arith, top, f)
    by_test false e f =
        let odd : bit_xor (r * 2 % 2 ^ 32) polynomial % 2 ≡ 1 = odd_added (r * 2 % 2 ^ 32) (omega arith) in
        let no : v % 2 ≡ 1 = ap (λ n. n % 2) (sym f) ∙ odd in
        absurd (omega (arith, no, even))

bit_small : (x b : ℕ) → after_bit x b < 2 ^ 32
unfolding after_bit
bit_small x b =
    elim (x / 2 ^ 31 % 2 == b) as (λ t. (cond t (x * 2 % 2 ^ 32) (bit_xor (x * 2 % 2 ^ 32) polynomial)) < 2 ^ 32)
    [ true ↦ omega arith | false ↦ xor_lt 32 (x * 2 % 2 ^ 32) polynomial (omega arith) (omega arith) ]

-- the same of a byte
byte_back : (r b v : ℕ) → r < 2 ^ 32 → b < 256 → v % 256 ≡ 0 → after_byte r b ≡ v → r ≡ b * 2 ^ 24 + v / 256
unfolding after_byte
byte_back r b v small byte low is =
    let r1 = after_bit r (b / 128 % 2) in
    let r2 = after_bit r1 (b / 64 % 2) in
    let r3 = after_bit r2 (b / 32 % 2) in
    let r4 = after_bit r3 (b / 16 % 2) in
    let r5 = after_bit r4 (b / 8 % 2) in
    let r6 = after_bit r5 (b / 4 % 2) in
    let r7 = after_bit r6 (b / 2 % 2) in
    let e7 : r7 ≡ (b % 2) * 2 ^ 31 + v / 2 = bit_back r7 (b % 2) v (bit_small r6 (b / 2 % 2)) (omega (arith, low)) is in
    let e6 : r6 ≡ (b % 4) * 2 ^ 30 + v / 4 = bit_back r6 (b / 2 % 2) r7 (bit_small r5 (b / 4 % 2)) (omega (arith, low, e7)) refl ∙ omega (arith, low, e7) in
    let e5 : r5 ≡ (b % 8) * 2 ^ 29 + v / 8 = bit_back r5 (b / 4 % 2) r6 (bit_small r4 (b / 8 % 2)) (omega (arith, low, e6)) refl ∙ omega (arith, low, e6) in
    let e4 : r4 ≡ (b % 16) * 2 ^ 28 + v / 16 = bit_back r4 (b / 8 % 2) r5 (bit_small r3 (b / 16 % 2)) (omega (arith, low, e5)) refl ∙ omega (arith, low, e5) in
    let e3 : r3 ≡ (b % 32) * 2 ^ 27 + v / 32 = bit_back r3 (b / 16 % 2) r4 (bit_small r2 (b / 32 % 2)) (omega (arith, low, e4)) refl ∙ omega (arith, low, e4) in
    let e2 : r2 ≡ (b % 64) * 2 ^ 26 + v / 64 = bit_back r2 (b / 32 % 2) r3 (bit_small r1 (b / 64 % 2)) (omega (arith, low, e3)) refl ∙ omega (arith, low, e3) in
    let e1 : r1 ≡ (b % 128) * 2 ^ 25 + v / 128 = bit_back r1 (b / 64 % 2) r2 (bit_small r (b / 128 % 2)) (omega (arith, low, e2)) refl ∙ omega (arith, low, e2) in
    bit_back r (b / 128 % 2) r1 small (omega (arith, low, e1)) refl ∙ omega (arith, low, e1, byte)

byte_small : (x b : ℕ) → after_byte x b < 2 ^ 32
unfolding after_byte
byte_small x b = bit_small _ (b % 2)

pub own_back : (x c : ℕ) → x < 2 ^ 32 → c < 2 ^ 32 → after_bytes x (to_be_bytes w32 c) ≡ 0 → x ≡ c
unfolding after_bytes
own_back x c small fits is =
    let x1 = after_byte x (c / 2 ^ 24 % 256) in
    let x2 = after_byte x1 (c / 2 ^ 16 % 256) in
    let x3 = after_byte x2 (c / 2 ^ 8 % 256) in
    let e3 : x3 ≡ (c % 256) * 2 ^ 24 = byte_back x3 (c % 256) 0 (byte_small x2 (c / 2 ^ 8 % 256)) (omega arith) (omega arith) is ∙ omega arith in
    let e2 : x2 ≡ (c % 2 ^ 16) * 2 ^ 16 = byte_back x2 (c / 2 ^ 8 % 256) x3 (byte_small x1 (c / 2 ^ 16 % 256)) (omega arith) (omega (arith, e3)) refl ∙ omega (arith, e3) in
    let e1 : x1 ≡ (c % 2 ^ 24) * 2 ^ 8 = byte_back x1 (c / 2 ^ 16 % 256) x2 (byte_small x (c / 2 ^ 24 % 256)) (omega arith) (omega (arith, e2)) refl ∙ omega (arith, e2) in
    byte_back x (c / 2 ^ 24 % 256) x1 small (omega arith) (omega (arith, e1)) refl ∙ omega (arith, e1, fits)
