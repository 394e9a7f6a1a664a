-- A text of 19 characters is its characters one by one.
use Rattle.std.proofs.Common.{◌≡◌, ℕ, zero, suc, ◌+◌, ◌≤◌, ◌<◌, List, [], ◌∷◌, length, get_or, drop, refl, sym, arith, drop-cons, length-drop}
use Rattle.ssu_time.specs.Calendar.{days_in_month}
use Rattle.ssu_time.specs.CivilText.{IsTextOf, AreSmall}
use Rattle.ssu_time.specs.declared.civil_time.Parts.{Parts}

abbrev pub places : List ℕ → ℕ → ℕ → List ℕ
places xs i zero = []
places xs i (suc n) = get_or xs i 0 ∷ places xs (suc i) n

nothing_left : (ys : List ℕ) → length ys ≡ 0 → ys ≡ []
nothing_left [] h = refl
nothing_left (y ∷ ys) h = absurd (omega arith)

pub drop-places : (xs : List ℕ) (i n : ℕ) → i + n ≡ length xs → drop i xs ≡ places xs i n
drop-places xs i zero h = nothing_left _ (omega (arith, length-drop i xs))
drop-places xs i (suc n) h =
    let inside : i < length xs = omega arith in
    rw (drop-cons xs i 0 inside, drop-places xs (suc i) n (omega arith)) refl

pub characters : (xs : List ℕ) → length xs ≡ 19 → xs ≡ places xs 0 19
characters xs h = drop-places xs 0 19 (sym h)

-- the six numbers of a text that is a time
abbrev pub parts_of_text : {mjd second : ℕ} {text : List ℕ} → IsTextOf mjd second text → Parts
parts_of_text w = record { year = w.year; month = w.month; day = w.day; hour = w.hour; minute = w.minute; second = w.last }

days_in_month_bound : (y m : ℕ) → days_in_month y m ≤ 31
days_in_month_bound y m = grind arith

pub small_parts : {mjd second : ℕ} {text : List ℕ} (w : IsTextOf mjd second text) → AreSmall (parts_of_text w)
small_parts w = record {
  year = w.year_in;
  month = omega (arith, w.date.month.1);
  day = omega (arith, w.date.day.1, days_in_month_bound w.year w.month);
  hour = omega (arith, w.hour_in);
  minute = omega (arith, w.minute_in);
  second = omega (arith, w.last_in);
}
