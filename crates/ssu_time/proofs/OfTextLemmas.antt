-- The time that a text gives, and the text of a time.
use Rattle.std.proofs.Common.{◌≡◌, ℕ, ◌+◌, ◌-◌, ◌*◌, ◌<◌, ◌≤◌, Bool, true, false, ◌&&◌, nat_le, nat_lt, le-leb, lt-ltb, List, Option, Some, None, cond, refl, sym, ap, subst, ◌∙◌, arith, rules, tests, option_map}
use Rattle.std.proofs.lemmas.Bool.{and_parts}
use Rattle.std.proofs.lemmas.Slice.Eq.{bytes_eq-Decides}
use Rattle.std.specs.Str.{bytes_eq}
use Rattle.std.specs.Option.{IfSome}
use Rattle.ssu_time.specs.Calendar.{days_before, days_in_month}
use Rattle.ssu_time.specs.CivilText.{civil_text, IsTextOf, time_at, civil_of, is_day, is_clock, days_before_mjd}
use Rattle.ssu_time.specs.declared.utc_time.Utc.{Utc}
use Rattle.ssu_time.specs.UtcField.{TimeFields, time_view}

time_at-same : (text : List ℕ) (a b c d e f y m day h i s : ℕ) → a ≡ y → b ≡ m → c ≡ day → d ≡ h → e ≡ i → f ≡ s → time_at text a b c d e f ≡ time_at text y m day h i s
time_at-same text a b c d e f y m day h i s p q r u v w = rw (p, q, r, u, v, w)

-- the six numbers of a text that they spell
civil_of-civil_text : (y m d h i s : ℕ) → civil_of (civil_text y m d h i s) ≡ time_at (civil_text y m d h i s) y m d h i s
unfolding civil_of
civil_of-civil_text y m d h i s =
    time_at-same _ _ _ _ _ _ _ y m d h i s (omega arith) (omega arith) (omega arith) (omega arith) (omega arith) (omega arith)

civil_of-spelled : (text : List ℕ) (y m d h i s : ℕ) → text ≡ civil_text y m d h i s → civil_of text ≡ time_at text y m d h i s
civil_of-spelled text y m d h i s spelled = rw spelled (civil_of-civil_text y m d h i s)

if_some : (b : Bool) (x m : TimeFields) → cond b (Some x) None ≡ Some m → (b ≡ true) × (x ≡ m)
if_some true x m e = (refl, cc)
if_some false x m e = cc

-- the tests of six numbers say that the text is theirs
text_by_tests : (text : List ℕ) (y m d h i s : ℕ) → (bytes_eq text (civil_text y m d h i s) && nat_le y 9999) ≡ true → is_day y m d ≡ true → is_clock h i s ≡ true
    → IsTextOf (days_before y m d - days_before_mjd) (h * 3600 + i * 60 + s) text × (days_before y m d - days_before_mjd < 65536)
text_by_tests text y m d h i s front day clock =
    let (spelled, year) = and_parts (bytes_eq text (civil_text y m d h i s)) (nat_le y 9999) front in
    let (month_day, range) = and_parts ((nat_le 1 m && nat_le m 12) && (nat_le 1 d && nat_le d (days_in_month y m))) (nat_le days_before_mjd (days_before y m d) && nat_lt (days_before y m d - days_before_mjd) 65536) day in
    let (months, days) = and_parts (nat_le 1 m && nat_le m 12) (nat_le 1 d && nat_le d (days_in_month y m)) month_day in
    let (m1, m12) = and_parts (nat_le 1 m) (nat_le m 12) months in
    let (d1, dn) = and_parts (nat_le 1 d) (nat_le d (days_in_month y m)) days in
    let (low, high) = and_parts (nat_le days_before_mjd (days_before y m d)) (nat_lt (days_before y m d - days_before_mjd) 65536) range in
    let (hm, sec) = and_parts (nat_le h 23 && nat_le i 59) (nat_le s 59) clock in
    let (hour, minute) = and_parts (nat_le h 23) (nat_le i 59) hm in
    let low_le : days_before_mjd ≤ days_before y m d = search (rules, tests, low) in (
      record {
        year = y;
        month = m;
        day = d;
        hour = h;
        minute = i;
        last = s;
        spelled = (bytes_eq-Decides text (civil_text y m d h i s)).0 spelled;
        year_in = search (rules, tests, year);
        date = record { month = (search (rules, tests, m1), search (rules, tests, m12)); day = (search (rules, tests, d1), search (rules, tests, dn)) };
        hour_in = search (rules, tests, hour);
        minute_in = search (rules, tests, minute);
        last_in = search (rules, tests, sec);
        on_day = omega (arith, low_le);
        in_day = refl;
      },
      search (rules, tests, high),
    )

-- what is found is the text's time
pub text-from_civil_of : (text : List ℕ) (t : TimeFields) → civil_of text ≡ Some t → IsTextOf t.mjd t.second text × (t.mjd < 65536)
unfolding civil_of time_at
text-from_civil_of text t e =
    let (tests_all, same) = if_some _ _ t e in
    let (front, back) = and_parts _ _ tests_all in
    let (day, clock) = and_parts _ _ back in
    let P : TimeFields → Type 0 = λ v. IsTextOf v.mjd v.second text × (v.mjd < 65536) in
    subst P same (text_by_tests text _ _ _ _ _ _ front day clock)

same_time : (a b c d : ℕ) → a ≡ c → b ≡ d → (let x : TimeFields = record { mjd = a; second = b } in let y : TimeFields = record { mjd = c; second = d } in x ≡ y)
same_time a b c d p q = rw (p, q)

-- a text's time is found
pub civil_of-text : (text : List ℕ) (mjd second : ℕ) → IsTextOf mjd second text → mjd < 65536 → civil_of text ≡ Some (record { mjd = mjd; second = second })
unfolding time_at
civil_of-text text mjd second w small =
    let same : bytes_eq text (civil_text w.year w.month w.day w.hour w.minute w.last) ≡ true = (bytes_eq-Decides _ _).1 w.spelled in
    let base : days_before_mjd ≤ days_before w.year w.month w.day = omega (arith, w.on_day) in
    let diff : days_before w.year w.month w.day - days_before_mjd ≡ mjd = omega (arith, w.on_day) in
    let high : nat_lt (days_before w.year w.month w.day - days_before_mjd) 65536 ≡ true = rw diff (lt-ltb mjd 65536 small) in
    civil_of-spelled text w.year w.month w.day w.hour w.minute w.last w.spelled
    ∙ rw (same, le-leb w.year 9999 w.year_in, le-leb 1 w.month w.date.month.0, le-leb w.month 12 w.date.month.1, le-leb 1 w.day w.date.day.0, le-leb w.day (days_in_month w.year w.month) w.date.day.1, le-leb _ _ base, high, le-leb w.hour 23 w.hour_in, le-leb w.minute 59 w.minute_in, le-leb w.last 59 w.last_in)
    (ap Some (same_time _ _ mjd second diff (sym w.in_day)))

abbrev utc : (t : TimeFields) → t.second < 86400 → Utc
utc t h = record { mjd = t.mjd; second = t.second; in_day = h }

second_small : (mjd second : ℕ) (text : List ℕ) → IsTextOf mjd second text → second < 86400
second_small mjd second text w = omega (arith, w.in_day, w.hour_in, w.minute_in, w.last_in)

no_time : (t : Utc) → (let nothing : Option Utc = None in nothing ≡ Some t) → ⊥
no_time t lost = cc

pub none_by_only : (text : List ℕ) (o : Option TimeFields) → civil_of text ≡ o → ((t : Utc) → t.mjd < 65536 → IsTextOf t.mjd t.second text → (let nothing : Option Utc = None in nothing ≡ Some t)) → (let nothing : Option TimeFields = None in nothing ≡ civil_of text)
none_by_only text None e only = sym e
none_by_only text (Some t) e only =
    let (w, low) = text-from_civil_of text t e in
    absurd (no_time _ (only (utc t (second_small t.mjd t.second text w)) low w))

-- an answer that gives the text's time, and the only one, is that time
pub civil_of-answer : (text : List ℕ) (r : Option Utc) → IfSome r (λ t. IsTextOf t.mjd t.second text) → IfSome r (λ t. t.mjd < 65536) → ((t : Utc) → t.mjd < 65536 → IsTextOf t.mjd t.second text → r ≡ Some t)
    → option_map time_view r ≡ civil_of text
civil_of-answer text (Some t) found small only = sym (civil_of-text text t.mjd t.second found small)
civil_of-answer text None found small only = none_by_only text (civil_of text) refl only
