-- Numbers are read as they are written.
use Rattle.std.proofs.Common.{◌≡◌, ℕ, zero, suc, ◌+◌, ◌*◌, ◌%◌, ◌^◌, ◌<◌, List, [], ◌∷◌, length, fold, refl, ap, ◌∙◌, arith, ltb, pow-suc, mul_comm}
use Rattle.std.specs.Prelude.{IsTrue}
use Rattle.std.proofs.Math.Nat.{pow-le-pow_right, mod-eq_of_lt}
use Rattle.std.proofs.Math.Arith.{mod-mul}
use Rattle.std.proofs.lemmas.Nat.{mod_low}
use Rattle.std.specs.Int.{byte_at, bytes_high_first}
use Rattle.wire.specs.Exact.{IsFront}
use Rattle.wire.specs.Format.{raw, skip}
use Rattle.wire.specs.Number.{number_of, bytes_of, number, low, length_bytes}
use Rattle.wire.proofs.Laws.{word_exact, reads_exact}

-- ---- exactness

pub number_exact : (k : ℕ) → IsTrue (ltb 0 k) → IsFront (number k)
number_exact k positive = word_exact k number_of positive

pub low_exact : (k w : ℕ) → IsTrue (ltb 0 k) → IsFront (low k w)
low_exact k w positive = reads_exact (λ n. n % 2 ^ w) (number_exact k positive)

pub raw_exact : (k : ℕ) → IsTrue (ltb 0 k) → IsFront (raw k)
raw_exact k positive = word_exact k (λ p. p) positive

pub skip_exact : (k : ℕ) → IsTrue (ltb 0 k) → IsFront (skip k)
skip_exact k positive = word_exact k (λ _. tt) positive

pub number1 : IsFront (number 1)
number1 = number_exact 1 refl

pub number2 : IsFront (number 2)
number2 = number_exact 2 refl

pub number3 : IsFront (number 3)
number3 = number_exact 3 refl

pub number4 : IsFront (number 4)
number4 = number_exact 4 refl

pub number5 : IsFront (number 5)
number5 = number_exact 5 refl

pub number6 : IsFront (number 6)
number6 = number_exact 6 refl

pub low12 : IsFront (low 2 12)
low12 = low_exact 2 12 refl

pub low13 : IsFront (low 2 13)
low13 = low_exact 2 13 refl

-- ---- what was written is read back

-- one more byte in front of the low k bytes
one_byte_more : (k n high : ℕ) → (high * 256 + byte_at k n) * 256 ^ k + n % 256 ^ k ≡ high * 256 ^ suc k + n % 256 ^ suc k
one_byte_more zero n high = omega arith
one_byte_more (suc k) n high =
    let unit = 256 ^ suc k in
    let wider : 256 ^ suc (suc k) ≡ 256 * unit = pow-suc 256 (suc k) ∙ mul_comm unit 256 in
    let some : 0 < unit = pow-le-pow_right {n = 256} (omega arith) {i = 0} {j = suc k} (omega arith) in
    rw (wider, mod-mul n {m = 256} {c = unit} (omega arith) some) (omega arith)

read_behind : (k n high : ℕ) → fold (λ h byte. h * 256 + byte) high (bytes_of k n) ≡ high * 256 ^ k + n % 256 ^ k
read_behind zero n high = omega arith
read_behind (suc k) n high = read_behind k n (high * 256 + byte_at k n) ∙ one_byte_more k n high

pub number_of-bytes_of : (k n : ℕ) → number_of (bytes_of k n) ≡ n % 256 ^ k
number_of-bytes_of k n = read_behind k n 0 ∙ omega arith

pub length-bytes_of : (k n : ℕ) → length (bytes_of k n) ≡ k
length-bytes_of zero n = refl
length-bytes_of (suc k) n = ap (λ (i : ℕ). suc i) (length-bytes_of k n)

pub number_put : (k n : ℕ) → n < 256 ^ k → (number k).Spells n (bytes_of k n)
number_put k n fits = (length-bytes_of k n, number_of-bytes_of k n ∙ mod-eq_of_lt fits)

pub number1_put : (n : ℕ) → n < 2 ^ 8 → (number 1).Spells n (bytes_of 1 n)
number1_put n fits = number_put 1 n fits

-- a byte as it is
pub number1_byte : (n : ℕ) → (number 1).Spells n (n ∷ [])
number1_byte n = (refl, omega arith)

pub number2_put : (n : ℕ) → n < 2 ^ 16 → (number 2).Spells n (bytes_of 2 n)
number2_put n fits = number_put 2 n fits

pub number3_put : (n : ℕ) → n < 2 ^ 24 → (number 3).Spells n (bytes_of 3 n)
number3_put n fits = number_put 3 n fits

pub number4_put : (n : ℕ) → n < 2 ^ 32 → (number 4).Spells n (bytes_of 4 n)
number4_put n fits = number_put 4 n fits

pub number5_put : (n : ℕ) → n < 2 ^ 40 → (number 5).Spells n (bytes_of 5 n)
number5_put n fits = number_put 5 n fits

pub number6_put : (n : ℕ) → n < 2 ^ 48 → (number 6).Spells n (bytes_of 6 n)
number6_put n fits = number_put 6 n fits

-- Reserved bits in front of the field, in k bytes altogether.
pub low_put : (k w high n : ℕ) → n < 2 ^ w → high * 2 ^ w + n < 256 ^ k → (low k w).Spells n (bytes_of k (high * 2 ^ w + n))
low_put k w high n fits all = (high * 2 ^ w + n, mod_low high w n fits, number_put k (high * 2 ^ w + n) all)

pub low12_put : (high n : ℕ) → high < 2 ^ 4 → n < 2 ^ 12 → (low 2 12).Spells n (bytes_of 2 (high * 2 ^ 12 + n))
low12_put high n few fits = low_put 2 12 high n fits (omega arith)

pub length_put : (n : ℕ) → n < 2 ^ 12 → (low 2 12).Spells n (length_bytes n)
length_put n fits = low12_put 15 n (omega arith) fits

pub low13_put : (high n : ℕ) → high < 2 ^ 3 → n < 2 ^ 13 → (low 2 13).Spells n (bytes_of 2 (high * 2 ^ 13 + n))
low13_put high n few fits = low_put 2 13 high n fits (omega arith)
