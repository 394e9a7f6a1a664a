-- A written time is read back as a field.
use Rattle.std.proofs.Common.{◌≡◌, ℕ, ◌+◌, ◌*◌, ◌/◌, ◌%◌, ◌<◌, ◌≤◌, Bool, true, ◌&&◌, refl, arith}
use Rattle.std.proofs.lemmas.Bool.{le-leb}
use Rattle.ssu_time.specs.UtcTime.{bcd, decimal, utc_bytes}
use Rattle.ssu_time.specs.UtcField.{TimeFields, is_decimal, is_time, time_fields, utc}

tens : (a b : ℕ) → b < 10 → (a * 16 + b) / 16 ≡ a
tens a b h = omega arith

ones : (a b : ℕ) → b < 10 → (a * 16 + b) % 16 ≡ b
ones a b h = omega arith

decimal-bcd : (n : ℕ) → decimal (bcd n) ≡ n
decimal-bcd n = rw (tens (n / 10) (n % 10) (omega arith), ones (n / 10) (n % 10) (omega arith)) (omega arith)

and_true : (a b c : Bool) → a ≡ true → b ≡ true → c ≡ true → (a && b && c) ≡ true
and_true a b c p q r = rw (p, q, r) refl

bcd_is_decimal : (n most : ℕ) → n ≤ most → most < 100 → is_decimal (bcd n) most ≡ true
bcd_is_decimal n most le lt =
    let t : bcd n / 16 ≡ n / 10 = tens (n / 10) (n % 10) (omega arith) in
    let o : bcd n % 16 ≡ n % 10 = ones (n / 10) (n % 10) (omega arith) in
    and_true _ _ _ (le-leb (bcd n / 16) 9 (omega arith)) (le-leb (bcd n % 16) 9 (omega arith)) (le-leb (decimal (bcd n)) most (rw (decimal-bcd n) le))

time_of_bytes : (t : TimeFields) → t.second < 86400 → time_fields (utc_bytes t.mjd t.second) ≡ t
time_of_bytes t lt =
    let day : t.mjd / 256 * 256 + t.mjd % 256 ≡ t.mjd = omega arith in
    let all : t.second / 3600 * 3600 + t.second / 60 % 60 * 60 + t.second % 60 ≡ t.second = omega arith in
    rw (decimal-bcd (t.second / 3600), decimal-bcd (t.second / 60 % 60), decimal-bcd (t.second % 60), day, all) refl

is_time_written : (mjd second : ℕ) → second < 86400 → is_time (utc_bytes mjd second) ≡ true
is_time_written mjd second lt =
    and_true _ _ _ (bcd_is_decimal (second / 3600) 23 (omega arith) (omega arith)) (bcd_is_decimal (second / 60 % 60) 59 (omega arith) (omega arith)) (bcd_is_decimal (second % 60) 59 (omega arith) (omega arith))

pub utc_put : (t : TimeFields) → t.second < 86400 → utc.Spells t (utc_bytes t.mjd t.second)
unfolding utc
utc_put t lt = (utc_bytes t.mjd t.second, time_of_bytes t lt, (is_time_written t.mjd t.second lt, (refl, refl)))
