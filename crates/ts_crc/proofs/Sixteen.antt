-- Sixteen bytes at once: each counts by itself.
use Rattle.std.proofs.Common.{◌≡◌, ℕ, zero, suc, ◌-◌, ◌*◌, ◌/◌, ◌%◌, ◌^◌, ◌<◌, ◌≤◌, List, [], ◌∷◌, length, take, drop, get_or, refl, sym, ap, ap₂, ◌∙◌, arith, bit_xor}
use Rattle.std.proofs.lemmas.List.{take_all, length-drop, take-append-drop}
use lib.Bits.{xor_assoc, xor_comm, xor_self, xor_zero_r}
use Rattle.ts_crc.specs.Crc.{after_byte, after_bytes, lane}
use Rattle.ts_crc.proofs.Linear.{byte_xors, own_byte}
use Rattle.ts_crc.proofs.CrcLaws.{after_none, after_more, after_join}

-- a register after so many bytes 0
zeros_after : ℕ → ℕ → ℕ
zeros_after zero register = register
zeros_after (suc k) register = zeros_after k (after_byte register 0)

zeros_more : (k register : ℕ) → zeros_after (suc k) register ≡ after_byte (zeros_after k register) 0
unfolding zeros_after
zeros_more zero register = refl
zeros_more (suc k) register = zeros_more k (after_byte register 0)

lane_is : (k byte : ℕ) → zeros_after k (after_byte 0 byte) ≡ lane k byte
unfolding lane zeros_after
lane_is zero byte = refl
lane_is (suc k) byte = zeros_more k (after_byte 0 byte) ∙ ap (λ r. after_byte r 0) (lane_is k byte)

-- A part of the register can be carried over zeros by itself.
apart : (x y : ℕ) (bytes : List ℕ)
    → after_bytes (bit_xor x y) bytes ≡ bit_xor (zeros_after (length bytes) x) (after_bytes y bytes)
unfolding after_bytes zeros_after
apart x y [] = refl
apart x y (b ∷ bytes) =
    ap (λ r. after_bytes r bytes) (byte_xors x y 0 b) ∙ apart (after_byte x 0) (after_byte y b) bytes

-- The byte that the register and the next byte make counts as if the register had been 0.
pub one_byte : (x b : ℕ) → x < 2 ^ 32 → after_byte x b ≡ bit_xor (after_byte 0 (bit_xor (x / 2 ^ 24) b)) (x * 256 % 2 ^ 32)
one_byte x b h =
    let q = x / 2 ^ 24 in
    let back : bit_xor (bit_xor q b) q ≡ b =
    xor_comm (bit_xor q b) q ∙ sym (xor_assoc q q b) ∙ ap (λ n. bit_xor n b) (xor_self q) in
    ap (after_byte x) (sym back) ∙ byte_xors 0 x (bit_xor q b) q ∙ ap (bit_xor (after_byte 0 (bit_xor q b))) (own_byte x q h refl)

-- The first of some bytes, with what came before them in an exclusive or.
step : (sum x b q next : ℕ) (bytes : List ℕ) → x < 2 ^ 32 → q ≡ x / 2 ^ 24 → next ≡ x * 256 % 2 ^ 32
    → bit_xor sum (after_bytes x (b ∷ bytes)) ≡ bit_xor (bit_xor sum (lane (length bytes) (bit_xor q b))) (after_bytes next bytes)
step sum x b q next bytes h e f =
    ap (bit_xor sum)
    (after_more x b bytes
    ∙ ap (λ r. after_bytes r bytes) (one_byte x b h)
    ∙ apart (after_byte 0 (bit_xor (x / 2 ^ 24) b)) (x * 256 % 2 ^ 32) bytes
    ∙ ap₂ bit_xor (lane_is (length bytes) (bit_xor (x / 2 ^ 24) b) ∙ ap (λ n. lane (length bytes) (bit_xor n b)) (sym e))
    (ap (λ n. after_bytes n bytes) (sym f)))
    ∙ sym (xor_assoc sum (lane (length bytes) (bit_xor q b)) (after_bytes next bytes))

-- the same from a register of 0
step_zero : (sum b : ℕ) (bytes : List ℕ)
    → bit_xor sum (after_bytes 0 (b ∷ bytes)) ≡ bit_xor (bit_xor sum (lane (length bytes) b)) (after_bytes 0 bytes)
step_zero sum b bytes = step sum 0 b 0 0 bytes (omega arith) refl refl

-- what the first four of sixteen bytes and the register give
abbrev pub early : ℕ → ℕ → ℕ → ℕ → ℕ → ℕ
early x b0 b1 b2 b3 =
    bit_xor (bit_xor (bit_xor (lane 15 (bit_xor (x / 2 ^ 24 % 256) b0)) (lane 14 (bit_xor (x / 2 ^ 16 % 256) b1)))
    (lane 13 (bit_xor (x / 2 ^ 8 % 256) b2)))
    (lane 12 (bit_xor (x % 256) b3))

-- what the other twelve give
abbrev pub later : ℕ → ℕ → ℕ → ℕ → ℕ → ℕ → ℕ → ℕ → ℕ → ℕ → ℕ → ℕ → ℕ
later b4 b5 b6 b7 b8 b9 b10 b11 b12 b13 b14 b15 =
    bit_xor (bit_xor (bit_xor (bit_xor (bit_xor (bit_xor (bit_xor (bit_xor (bit_xor (bit_xor (bit_xor (lane 11 b4) (lane 10 b5))
    (lane 9 b6))
    (lane 8 b7))
    (lane 7 b8))
    (lane 6 b9))
    (lane 5 b10))
    (lane 4 b11))
    (lane 3 b12))
    (lane 2 b13))
    (lane 1 b14))
    (lane 0 b15)

twelve : (b4 b5 b6 b7 b8 b9 b10 b11 b12 b13 b14 b15 : ℕ)
    → after_bytes 0 (b4 ∷ b5 ∷ b6 ∷ b7 ∷ b8 ∷ b9 ∷ b10 ∷ b11 ∷ b12 ∷ b13 ∷ b14 ∷ b15 ∷ []) ≡ later b4 b5 b6 b7 b8 b9 b10 b11 b12 b13 b14 b15
twelve b4 b5 b6 b7 b8 b9 b10 b11 b12 b13 b14 b15 =
    step_zero 0 b4 _
    ∙ step_zero _ b5 _
    ∙ step_zero _ b6 _
    ∙ step_zero _ b7 _
    ∙ step_zero _ b8 _
    ∙ step_zero _ b9 _
    ∙ step_zero _ b10 _
    ∙ step_zero _ b11 _
    ∙ step_zero _ b12 _
    ∙ step_zero _ b13 _
    ∙ step_zero _ b14 _
    ∙ step_zero _ b15 []
    ∙ ap (bit_xor _) (after_none 0)
    ∙ xor_zero_r _

pub sixteen : (x b0 b1 b2 b3 b4 b5 b6 b7 b8 b9 b10 b11 b12 b13 b14 b15 : ℕ) → x < 2 ^ 32
    → after_bytes x (b0 ∷ b1 ∷ b2 ∷ b3 ∷ b4 ∷ b5 ∷ b6 ∷ b7 ∷ b8 ∷ b9 ∷ b10 ∷ b11 ∷ b12 ∷ b13 ∷ b14 ∷ b15 ∷ [])
    ≡ bit_xor (later b4 b5 b6 b7 b8 b9 b10 b11 b12 b13 b14 b15) (early x b0 b1 b2 b3)
sixteen x b0 b1 b2 b3 b4 b5 b6 b7 b8 b9 b10 b11 b12 b13 b14 b15 h =
    step 0 x b0 (x / 2 ^ 24 % 256) (x * 2 ^ 8 % 2 ^ 32) _ h (omega arith) refl
    ∙ step _ (x * 2 ^ 8 % 2 ^ 32) b1 (x / 2 ^ 16 % 256) (x * 2 ^ 16 % 2 ^ 32) _ (omega arith) (omega arith) (omega arith)
    ∙ step _ (x * 2 ^ 16 % 2 ^ 32) b2 (x / 2 ^ 8 % 256) (x * 2 ^ 24 % 2 ^ 32) _ (omega arith) (omega arith) (omega arith)
    ∙ step _ (x * 2 ^ 24 % 2 ^ 32) b3 (x % 256) 0 _ (omega arith) (omega arith) (omega arith)
    ∙ ap (bit_xor (early x b0 b1 b2 b3)) (twelve b4 b5 b6 b7 b8 b9 b10 b11 b12 b13 b14 b15)
    ∙ xor_comm (early x b0 b1 b2 b3) (later b4 b5 b6 b7 b8 b9 b10 b11 b12 b13 b14 b15)

-- The first sixteen bytes of a text.
pub first_sixteen : (bytes : List ℕ) → 16 ≤ length bytes
    → take 16 bytes ≡ get_or bytes 0 0 ∷ get_or bytes 1 0 ∷ get_or bytes 2 0 ∷ get_or bytes 3 0
    ∷ get_or bytes 4 0 ∷ get_or bytes 5 0 ∷ get_or bytes 6 0 ∷ get_or bytes 7 0
    ∷ get_or bytes 8 0 ∷ get_or bytes 9 0 ∷ get_or bytes 10 0 ∷ get_or bytes 11 0
    ∷ get_or bytes 12 0 ∷ get_or bytes 13 0 ∷ get_or bytes 14 0 ∷ get_or bytes 15 0 ∷ []
first_sixteen (a0 ∷ a1 ∷ a2 ∷ a3 ∷ a4 ∷ a5 ∷ a6 ∷ a7 ∷ a8 ∷ a9 ∷ a10 ∷ a11 ∷ a12 ∷ a13 ∷ a14 ∷ a15 ∷ bytes) l = refl
first_sixteen _ l = absurd (omega arith)

-- Sixteen bytes of a text, and then its rest.
pub after_group : (now next : ℕ) (rest : List ℕ) → next ≡ after_bytes now (take 16 rest)
    → after_bytes next (take (length rest - 16) (drop 16 rest)) ≡ after_bytes now rest
after_group now next rest e =
    ap (after_bytes next) (take_all (length rest - 16) (drop 16 rest) (omega (arith, length-drop 16 rest)))
    ∙ ap (λ r. after_bytes r (drop 16 rest)) e
    ∙ sym (after_join now (take 16 rest) (drop 16 rest))
    ∙ ap (after_bytes now) (take-append-drop 16 rest)
