-- Laws of the register: what it holds after nothing, after one more byte, and after two pieces.
use Rattle.std.proofs.Common.{◌/◌, ◌%◌, ◌*◌, ◌^◌, ◌<◌, arith, ◌≡◌, ℕ, List, [], ◌∷◌, ◌++◌, refl, ap, ◌∙◌}
use Rattle.std.specs.Int.{to_be_bytes, w32}
use Rattle.ts_crc.specs.Crc.{start, after_byte, after_bytes, crc_of}
use Rattle.ts_crc.proofs.Linear.{own_byte, byte_small}

pub after_none : (register : ℕ) → after_bytes register [] ≡ register
unfolding after_bytes
after_none register = refl

pub after_more : (register byte : ℕ) (bytes : List ℕ)
    → after_bytes register (byte ∷ bytes) ≡ after_bytes (after_byte register byte) bytes
unfolding after_bytes
after_more register byte bytes = refl

pub after_join : (register : ℕ) (xs ys : List ℕ)
    → after_bytes register (xs ++ ys) ≡ after_bytes (after_bytes register xs) ys
unfolding after_bytes
after_join register [] ys = refl
after_join register (x ∷ xs) ys = after_join (after_byte register x) xs ys

pub crc_none : crc_of [] ≡ start
unfolding crc_of after_bytes
crc_none = refl

pub crc_is : (bytes : List ℕ) → crc_of bytes ≡ after_bytes start bytes
unfolding crc_of
crc_is bytes = refl

pub crc_join : (before bytes : List ℕ) → crc_of (before ++ bytes) ≡ after_bytes (crc_of before) bytes
unfolding crc_of
crc_join before bytes = after_join start before bytes

pub after_small : (register : ℕ) (bytes : List ℕ) → register < 2 ^ 32 → after_bytes register bytes < 2 ^ 32
unfolding after_bytes
after_small register [] h = h
after_small register (b ∷ bytes) h = after_small (after_byte register b) bytes (byte_small register b)

pub crc_small : (bytes : List ℕ) → crc_of bytes < 2 ^ 32
unfolding crc_of
crc_small bytes = after_small start bytes (omega arith)

-- A register that takes its own four bytes, the highest first, is 0.
own_bytes : (x : ℕ) → x < 2 ^ 32 → after_bytes x (to_be_bytes w32 x) ≡ 0
unfolding after_bytes
own_bytes x h =
    let s0 : after_byte x (x / 2 ^ 24 % 256) ≡ x * 2 ^ 8 % 2 ^ 32 = own_byte x _ h (omega arith) in
    let s1 : after_byte (x * 2 ^ 8 % 2 ^ 32) (x / 2 ^ 16 % 256) ≡ x * 2 ^ 16 % 2 ^ 32 =
    own_byte _ _ (omega arith) (omega arith) ∙ omega arith in
    let s2 : after_byte (x * 2 ^ 16 % 2 ^ 32) (x / 2 ^ 8 % 256) ≡ x * 2 ^ 24 % 2 ^ 32 =
    own_byte _ _ (omega arith) (omega arith) ∙ omega arith in
    let s3 : after_byte (x * 2 ^ 24 % 2 ^ 32) (x % 256) ≡ 0 =
    own_byte _ _ (omega arith) (omega arith) ∙ omega arith in
    ap (λ r. after_byte (after_byte (after_byte r (x / 2 ^ 16 % 256)) (x / 2 ^ 8 % 256)) (x % 256)) s0
    ∙ ap (λ r. after_byte (after_byte r (x / 2 ^ 8 % 256)) (x % 256)) s1
    ∙ ap (λ r. after_byte r (x % 256)) s2
    ∙ s3

-- The CRC of a text with its own CRC behind it is 0.
pub crc_appended : (bytes : List ℕ) → crc_of (bytes ++ to_be_bytes w32 (crc_of bytes)) ≡ 0
crc_appended bytes = crc_join bytes (to_be_bytes w32 (crc_of bytes)) ∙ own_bytes (crc_of bytes) (crc_small bytes)
