-- Two times are equal where their day and their second are.
use Rattle.std.proofs.Common.{◌≡◌, ℕ, ◌+◌, ◌*◌, ◌<◌, List, get_or, ap, arith}
use Rattle.std.proofs.Props.{props}
use Rattle.ssu_time.specs.UtcTime.{decimal, utc_bytes}
use Rattle.ssu_time.specs.declared.utc_time.Utc.{Utc}

abbrev make : (mjd second : ℕ) → second < 86400 → Utc
make mjd second h = record { mjd = mjd; second = second; in_day = h }

make_same_parts : (mjd second : ℕ) (h k : second < 86400) → make mjd second h ≡ make mjd second k
make_same_parts mjd second h k =
    let prop : IsProp (second < 86400) = hlevel props in
    ap (make mjd second) (prop h k)

pub make_same : (mjd second mjd₂ second₂ : ℕ) → mjd ≡ mjd₂ → second ≡ second₂ → (h : second < 86400) (k : second₂ < 86400) → make mjd second h ≡ make mjd₂ second₂ k
make_same mjd second mjd₂ second₂ e f = rw (e, f) (make_same_parts mjd₂ second₂)

pub same_utc : (t u : Utc) → t.mjd ≡ u.mjd → t.second ≡ u.second → t ≡ u
same_utc t u e f = make_same _ _ _ _ e f t.in_day u.in_day

-- the bytes of a time give back its day and its second
pub utc_bytes-parts : (bytes : List ℕ) (mjd second hour minute last : ℕ) → bytes ≡ utc_bytes mjd second → second < 86400 → hour ≡ decimal (get_or bytes 2 0) → minute ≡ decimal (get_or bytes 3 0) → last ≡ decimal (get_or bytes 4 0) → (get_or bytes 0 0 * 256 + get_or bytes 1 0 ≡ mjd) × (hour * 3600 + minute * 60 + last ≡ second)
utc_bytes-parts bytes mjd second hour minute last e h a b d =
    let a₂ = rw e at a in let b₂ = rw e at b in let d₂ = rw e at d in
    rw e (omega arith, omega arith)
