-- The test of a right section says what the definition says, and the lengths of a right section.
use Rattle.std.proofs.Common.{◌≡◌, ◌≢◌, ℕ, ◌≤◌, ◌==◌, ◌&&◌, Bool, true, false, IsTrue, List, length, refl, arith, inl, inr, ◌⊎◌, ⊎_elim, eqb-true, eq-eqb, leb-true, le-leb}
use Rattle.std.specs.Prelude.{not, ◌||◌, ◌↔◌, nat_le}
use Rattle.std.proofs.lemmas.Bool.{false≢true, eqb-false}
use Rattle.std.proofs.lemmas.Bool.Decides.{eqb_tells}
use Rattle.section_form.specs.Section.{table_id, syntax_indicator, section_length, current_next_indicator, IsTimeAndDate, IsRightLong, IsRightShort, IsRight, IsRightSection, is_time_and_date, is_right_long, is_right_short, is_right}
use Rattle.ts_crc.specs.Crc.{crc_of}

both : (a b : Bool) → a && b ≡ true → (a ≡ true) × (b ≡ true)
both true b e = (refl, e)
both false b e = absurd (false≢true e)

joined : (a b : Bool) → a ≡ true → b ≡ true → a && b ≡ true
joined a b e f = rw (e, f) refl

either : (a b : Bool) → a || b ≡ true → (a ≡ true) ⊎ (b ≡ true)
either true b e = inl refl
either false b e = inr e

first_of_two : (a b : Bool) → a ≡ true → a || b ≡ true
first_of_two true b e = refl
first_of_two false b e = absurd (false≢true e)

second_of_two : (a b : Bool) → b ≡ true → a || b ≡ true
second_of_two true b e = refl
second_of_two false b e = e

differs : (a b : ℕ) → not (a == b) ≡ true → a ≢ b
differs a b e = eqb-false a b (none (a == b) e)
  where
    none : (c : Bool) → not c ≡ true → c ≡ false
    none true e = absurd (false≢true e)
    none false e = refl

is_other : (a b : ℕ) → a ≢ b → not (a == b) ≡ true
is_other a b ne = ⊎_elim (λ w. absurd (ne w.1)) (λ w. rw (w.0) refl) (eqb_tells a b)

time_and_date : (s : List ℕ) → is_time_and_date s ≡ true → IsTimeAndDate s
time_and_date s e =
    let p = both ((table_id s == 0x70) && (syntax_indicator s == 0)) (section_length s == 5) e in
    let q = both (table_id s == 0x70) (syntax_indicator s == 0) p.0 in
    record { table = eqb-true _ _ q.0; short = eqb-true _ _ q.1; five = eqb-true _ _ p.1 }

is_time_and_date_true : (s : List ℕ) → IsTimeAndDate s → is_time_and_date s ≡ true
is_time_and_date_true s h =
    joined _ _ (joined _ _ (eq-eqb _ _ h.table) (eq-eqb _ _ h.short)) (eq-eqb _ _ h.five)

right_long : (s : List ℕ) → is_right_long s ≡ true → IsRightLong s
right_long s e =
    let other = not (table_id s == 0x70) in
    let long = syntax_indicator s == 1 in
    let least = nat_le 9 (section_length s) in
    let most = nat_le (section_length s) 4093 in
    let current = current_next_indicator s == 1 in
    let a = both ((((other && long) && least) && most) && current) (crc_of s == 0) e in
    let b = both (((other && long) && least) && most) current a.0 in
    let c = both ((other && long) && least) most b.0 in
    let d = both (other && long) least c.0 in
    let f = both other long d.0 in
    record {
      table = differs _ _ f.0;
      long = eqb-true _ _ f.1;
      least = leb-true _ _ d.1;
      most = leb-true _ _ c.1;
      current = eqb-true _ _ b.1;
      crc = eqb-true _ _ a.1;
    }

is_right_long_true : (s : List ℕ) → IsRightLong s → is_right_long s ≡ true
is_right_long_true s h =
    joined _ _ (joined _ _ (joined _ _ (joined _ _ (joined _ _ (is_other _ _ h.table) (eq-eqb _ _ h.long))
    (le-leb _ _ h.least)) (le-leb _ _ h.most)) (eq-eqb _ _ h.current)) (eq-eqb _ _ h.crc)

right_short : (s : List ℕ) → is_right_short s ≡ true → IsRightShort s
right_short s e =
    let other = not (table_id s == 0x70) in
    let short = syntax_indicator s == 0 in
    let least = nat_le 4 (section_length s) in
    let most = nat_le (section_length s) 4093 in
    let a = both (((other && short) && least) && most) (crc_of s == 0) e in
    let b = both ((other && short) && least) most a.0 in
    let c = both (other && short) least b.0 in
    let d = both other short c.0 in
    record {
      table = differs _ _ d.0;
      short = eqb-true _ _ d.1;
      least = leb-true _ _ c.1;
      most = leb-true _ _ b.1;
      crc = eqb-true _ _ a.1;
    }

is_right_short_true : (s : List ℕ) → IsRightShort s → is_right_short s ≡ true
is_right_short_true s h =
    joined _ _ (joined _ _ (joined _ _ (joined _ _ (is_other _ _ h.table) (eq-eqb _ _ h.short))
    (le-leb _ _ h.least)) (le-leb _ _ h.most)) (eq-eqb _ _ h.crc)

-- The test says what the definition says.
pub is_right-tells : (s : List ℕ) → IsTrue (is_right s) ↔ IsRight s
unfolding is_right
is_right-tells s = (
  (λ e. ⊎_elim
      (λ w. ⊎_elim (λ v. inl (time_and_date s v)) (λ v. inr (inl (right_long s v)))
      (either (is_time_and_date s) (is_right_long s) w))
      (λ w. inr (inr (right_short s w)))
      (either (is_time_and_date s || is_right_long s) (is_right_short s) e)),
  (λ h. ⊎_elim
      (λ w. first_of_two _ _ (first_of_two _ _ (is_time_and_date_true s w)))
      (λ w. ⊎_elim
      (λ v. first_of_two _ _ (second_of_two _ _ (is_right_long_true s v)))
      (λ v. second_of_two _ _ (is_right_short_true s v)) w)
      h),
)

-- A right section has 7 to 4,096 bytes.
pub right_length : (s : List ℕ) → IsRightSection s → (7 ≤ length s) × (length s ≤ 4096)
right_length s h =
    let l = h.0.end in
    ⊎_elim (λ w. let n = w.five in (omega arith, omega arith))
    (λ w. ⊎_elim
    (λ v. let a = v.least in let b = v.most in (omega arith, omega arith))
    (λ v. let a = v.least in let b = v.most in (omega arith, omega arith)) w)
    h.1
