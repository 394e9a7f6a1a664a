-- The register is linear over exclusive or.
use Rattle.std.proofs.Common.{true, false, eq-eqb, zero, suc, add-zero, ◌≡◌, ℕ, ◌*◌, ◌/◌, ◌%◌, ◌^◌, ◌<◌, ◌==◌, if◌then◌else◌, List, [], ◌∷◌, refl, sym, ap, ap₂, ◌∙◌, arith, bit_xor, fold}
use lib.Bits.{xor_assoc, xor_comm, xor_zero_r, xor_shr, xor_mod, xor_block, xor_lt}
use Rattle.ts_crc.specs.Crc.{polynomial, after_bit, after_byte, bits_of}

-- (a + b) + (c + d) = (a + c) + (b + d)
medial : (a b c d : ℕ) → bit_xor (bit_xor a b) (bit_xor c d) ≡ bit_xor (bit_xor a c) (bit_xor b d)
medial a b c d =
    xor_assoc a b (bit_xor c d)
    ∙ ap (bit_xor a) (sym (xor_assoc b c d) ∙ ap (λ x. bit_xor x d) (xor_comm b c) ∙ xor_assoc c b d)
    ∙ sym (xor_assoc a c (bit_xor b d))

-- the polynomial, or nothing
times : ℕ → ℕ
times bit = bit * polynomial

-- A digit is 0 or 1.
by_digit : (P : ℕ → Type 0) → P 0 → P 1 → (b : ℕ) → b < 2 → P b
by_digit P zeroth first zero h = zeroth
by_digit P zeroth first (suc zero) h = first
by_digit P zeroth first (suc (suc b)) h = absurd (omega arith)

times_xor : (a b : ℕ) → a < 2 → b < 2 → times (bit_xor a b) ≡ bit_xor (times a) (times b)
unfolding times
times_xor a b h k =
    by_digit (λ a. times (bit_xor a b) ≡ bit_xor (times a) (times b))
    (by_digit (λ b. times (bit_xor 0 b) ≡ bit_xor (times 0) (times b)) refl refl b k)
    (by_digit (λ b. times (bit_xor 1 b) ≡ bit_xor (times 1) (times b)) refl refl b k)
    a h

-- one bit into the register, as a sum
doubled : ℕ → ℕ
doubled register = register * 2 % 2 ^ 32

top : ℕ → ℕ
top register = register / 2 ^ 31 % 2

-- where the two bits agree nothing is added
chosen : (x a b : ℕ) → a < 2 → b < 2
    → (if a == b then x else bit_xor x polynomial) ≡ bit_xor x (times (bit_xor a b))
unfolding times
chosen x a b h k =
    by_digit (λ a. (if a == b then x else bit_xor x polynomial) ≡ bit_xor x (times (bit_xor a b)))
    (by_digit (λ b. (if 0 == b then x else bit_xor x polynomial) ≡ bit_xor x (times (bit_xor 0 b)))
    (sym (xor_zero_r x)) refl b k)
    (by_digit (λ b. (if 1 == b then x else bit_xor x polynomial) ≡ bit_xor x (times (bit_xor 1 b)))
    refl (sym (xor_zero_r x)) b k)
    a h

top_small : (x : ℕ) → top x < 2
unfolding top
top_small x = omega arith

bit_is : (x b : ℕ) → b < 2 → after_bit x b ≡ bit_xor (doubled x) (times (bit_xor (top x) b))
unfolding after_bit doubled top
bit_is x b h = chosen (x * 2 % 2 ^ 32) (x / 2 ^ 31 % 2) b (top_small x) h

doubled_xor : (x y : ℕ) → doubled (bit_xor x y) ≡ bit_xor (doubled x) (doubled y)
unfolding doubled
doubled_xor x y =
    let block : bit_xor (x * 2) (y * 2) ≡ bit_xor x y * 2 = simp add-zero at (xor_block 1 x y 0 0 (omega arith) (omega arith)) in
    ap (λ n. n % 2 ^ 32) (sym block) ∙ xor_mod (x * 2) (y * 2) 32

top_xor : (x y : ℕ) → top (bit_xor x y) ≡ bit_xor (top x) (top y)
unfolding top
top_xor x y = ap (λ n. n % 2) (xor_shr x y 31) ∙ xor_mod (x / 2 ^ 31) (y / 2 ^ 31) 1

pub bit_xors : (x y b c : ℕ) → b < 2 → c < 2
    → after_bit (bit_xor x y) (bit_xor b c) ≡ bit_xor (after_bit x b) (after_bit y c)
bit_xors x y b c h k =
    bit_is (bit_xor x y) (bit_xor b c) (xor_lt 1 b c h k)
    ∙ ap₂ bit_xor (doubled_xor x y)
    (ap times (ap (λ n. bit_xor n (bit_xor b c)) (top_xor x y) ∙ medial (top x) (top y) b c)
    ∙ times_xor (bit_xor (top x) b) (bit_xor (top y) c) (xor_lt 1 (top x) b (top_small x) h) (xor_lt 1 (top y) c (top_small y) k))
    ∙ medial (doubled x) (doubled y) (times (bit_xor (top x) b)) (times (bit_xor (top y) c))
    ∙ ap₂ bit_xor (sym (bit_is x b h)) (sym (bit_is y c k))

-- a byte is the exclusive or of two bytes bit by bit
bit_of : (a b k : ℕ) → bit_xor a b / 2 ^ k % 2 ≡ bit_xor (a / 2 ^ k % 2) (b / 2 ^ k % 2)
bit_of a b k = ap (λ n. n % 2) (xor_shr a b k) ∙ xor_mod (a / 2 ^ k) (b / 2 ^ k) 1

-- bits that are pairwise the exclusive or of two others
data Sums : List ℕ → List ℕ → List ℕ → Type 0 where
  none : Sums [] [] []
  more : {bits xs ys : List ℕ} (bit a b : ℕ) → a < 2 → b < 2 → bit ≡ bit_xor a b → Sums bits xs ys
      → Sums (bit ∷ bits) (a ∷ xs) (b ∷ ys)

fold_xors : (x y : ℕ) (bits xs ys : List ℕ) → Sums bits xs ys
    → fold after_bit (bit_xor x y) bits ≡ bit_xor (fold after_bit x xs) (fold after_bit y ys)
fold_xors x y _ _ _ none = refl
fold_xors x y _ _ _ (more {bits} {xs} {ys} bit a b h k e sums) =
    ap (λ r. fold after_bit r bits) (ap (after_bit (bit_xor x y)) e ∙ bit_xors x y a b h k)
    ∙ fold_xors (after_bit x a) (after_bit y b) bits xs ys sums

small : (n : ℕ) → n % 2 < 2
small n = omega arith

sums_of : (a b : ℕ) → Sums (bits_of (bit_xor a b)) (bits_of a) (bits_of b)
sums_of a b =
    more _ _ _ (small (a / 128)) (small (b / 128)) (bit_of a b 7)
    (more _ _ _ (small (a / 64)) (small (b / 64)) (bit_of a b 6)
    (more _ _ _ (small (a / 32)) (small (b / 32)) (bit_of a b 5)
    (more _ _ _ (small (a / 16)) (small (b / 16)) (bit_of a b 4)
    (more _ _ _ (small (a / 8)) (small (b / 8)) (bit_of a b 3)
    (more _ _ _ (small (a / 4)) (small (b / 4)) (bit_of a b 2)
    (more _ _ _ (small (a / 2)) (small (b / 2)) (bit_of a b 1)
    (more _ _ _ (small a) (small b) (xor_mod a b 1) none)))))))

pub byte_xors : (x y a b : ℕ) → after_byte (bit_xor x y) (bit_xor a b) ≡ bit_xor (after_byte x a) (after_byte y b)
unfolding after_byte
byte_xors x y a b = fold_xors x y (bits_of (bit_xor a b)) (bits_of a) (bits_of b) (sums_of a b)

-- A register that takes its own highest bit only doubles.
own_bit : (x h y : ℕ) → x / 2 ^ 31 % 2 ≡ h → x * 2 % 2 ^ 32 ≡ y → after_bit x h ≡ y
unfolding after_bit
own_bit x h y e f =
    let same : (x / 2 ^ 31 % 2 == h) ≡ true = eq-eqb _ _ e in
    rw same f

-- A register that takes its own highest byte moves up by eight bits.
pub own_byte : (x byte : ℕ) → x < 2 ^ 32 → byte ≡ x / 2 ^ 24 → after_byte x byte ≡ x * 256 % 2 ^ 32
unfolding after_byte
own_byte x q h e =
    let s0 : after_bit x (q / 128 % 2) ≡ x * 2 % 2 ^ 32 = own_bit _ _ _ (omega arith) (omega arith) in
    let s1 : after_bit (x * 2 % 2 ^ 32) (q / 64 % 2) ≡ x * 4 % 2 ^ 32 = own_bit _ _ _ (omega arith) (omega arith) in
    let s2 : after_bit (x * 4 % 2 ^ 32) (q / 32 % 2) ≡ x * 8 % 2 ^ 32 = own_bit _ _ _ (omega arith) (omega arith) in
    let s3 : after_bit (x * 8 % 2 ^ 32) (q / 16 % 2) ≡ x * 16 % 2 ^ 32 = own_bit _ _ _ (omega arith) (omega arith) in
    let s4 : after_bit (x * 16 % 2 ^ 32) (q / 8 % 2) ≡ x * 32 % 2 ^ 32 = own_bit _ _ _ (omega arith) (omega arith) in
    let s5 : after_bit (x * 32 % 2 ^ 32) (q / 4 % 2) ≡ x * 64 % 2 ^ 32 = own_bit _ _ _ (omega arith) (omega arith) in
    let s6 : after_bit (x * 64 % 2 ^ 32) (q / 2 % 2) ≡ x * 128 % 2 ^ 32 = own_bit _ _ _ (omega arith) (omega arith) in
    let s7 : after_bit (x * 128 % 2 ^ 32) (q % 2) ≡ x * 256 % 2 ^ 32 = own_bit _ _ _ (omega arith) (omega arith) in
    ap (λ r. after_bit (after_bit (after_bit (after_bit (after_bit (after_bit (after_bit r (q / 64 % 2)) (q / 32 % 2)) (q / 16 % 2)) (q / 8 % 2)) (q / 4 % 2)) (q / 2 % 2)) (q % 2)) s0
    ∙ ap (λ r. after_bit (after_bit (after_bit (after_bit (after_bit (after_bit r (q / 32 % 2)) (q / 16 % 2)) (q / 8 % 2)) (q / 4 % 2)) (q / 2 % 2)) (q % 2)) s1
    ∙ ap (λ r. after_bit (after_bit (after_bit (after_bit (after_bit r (q / 16 % 2)) (q / 8 % 2)) (q / 4 % 2)) (q / 2 % 2)) (q % 2)) s2
    ∙ ap (λ r. after_bit (after_bit (after_bit (after_bit r (q / 8 % 2)) (q / 4 % 2)) (q / 2 % 2)) (q % 2)) s3
    ∙ ap (λ r. after_bit (after_bit (after_bit r (q / 4 % 2)) (q / 2 % 2)) (q % 2)) s4
    ∙ ap (λ r. after_bit (after_bit r (q / 2 % 2)) (q % 2)) s5
    ∙ ap (λ r. after_bit r (q % 2)) s6
    ∙ s7

bit_small : (x b : ℕ) → after_bit x b < 2 ^ 32
unfolding after_bit
bit_small x b =
    elim (x / 2 ^ 31 % 2 == b) as (λ t. (if t then x * 2 % 2 ^ 32 else bit_xor (x * 2 % 2 ^ 32) polynomial) < 2 ^ 32)
    [ true ↦ omega arith | false ↦ xor_lt 32 (x * 2 % 2 ^ 32) polynomial (omega arith) (omega arith) ]

pub byte_small : (x b : ℕ) → after_byte x b < 2 ^ 32
unfolding after_byte
byte_small x b = bit_small _ (b % 2)
