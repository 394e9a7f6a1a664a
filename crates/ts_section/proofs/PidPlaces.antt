-- The first place of a PID in a list.
use Rattle.std.proofs.Common.{zero, suc, ◌≡◌, ◌≢◌, ℕ, ◌<◌, true, false, List, [], ◌∷◌, length, get_or, refl, arith, eqb, inl, inr}
use Rattle.std.proofs.lemmas.Bool.{ne_eqb, eq-eqb, cases_eq, cases_order, or_right}
use Rattle.ts_section.specs.Hearing.{IsFirst}
use Rattle.ts_section.specs.Events.{is_among}

pub is_among-none : (pids : List ℕ) (pid : ℕ) → ((k : ℕ) → k < length pids → get_or pids k 0 ≢ pid) → is_among pid pids ≡ false
is_among-none [] pid h = refl
is_among-none (p ∷ pids) pid h =
    let here : p ≢ pid = h 0 (omega arith) in
    rw (ne_eqb p pid here) (is_among-none pids pid (λ k below. h (suc k) (omega arith)))

pub is_among-at : (pids : List ℕ) (pid at : ℕ) → at < length pids → get_or pids at 0 ≡ pid → is_among pid pids ≡ true
is_among-at [] pid at below e = absurd (omega arith)
is_among-at (p ∷ pids) pid zero below e = rw (eq-eqb p pid e) refl
is_among-at (p ∷ pids) pid (suc at) below e =
    let later : at < length pids = omega arith in
    or_right (eqb p pid) (is_among pid pids) (is_among-at pids pid at later e)

pub is_among-first : (pids : List ℕ) (pid at : ℕ) → IsFirst pids pid at → is_among pid pids ≡ true
is_among-first pids pid at first = is_among-at pids pid at first.within first.found

first_here : (p : ℕ) (pids : List ℕ) → IsFirst (p ∷ pids) p 0
first_here p pids = record { within = omega arith; found = refl; earlier = λ k below. absurd (omega arith) }

earlier_later : (p pid at : ℕ) (pids : List ℕ) → p ≢ pid → IsFirst pids pid at → (k : ℕ) → k < suc at → get_or (p ∷ pids) k 0 ≢ pid
earlier_later p pid at pids here first zero below = here
earlier_later p pid at pids here first (suc k) below = let earlier : k < at = omega arith in first.earlier k earlier

first_later : (p pid at : ℕ) (pids : List ℕ) → p ≢ pid → IsFirst pids pid at → IsFirst (p ∷ pids) pid (suc at)
first_later p pid at pids here first =
    let within = first.within in
    record { within = omega arith; found = first.found; earlier = earlier_later p pid at pids here first }

pub first-among : (pids : List ℕ) (pid : ℕ) → is_among pid pids ≡ true → (at : ℕ) × IsFirst pids pid at
first-among [] pid h = cc
first-among (p ∷ pids) pid h = elim (cases_eq p pid) [
  | inl e ↦ (0, rw (← e) (first_here p pids))
  | inr here ↦ (let found = first-among pids pid (rw (ne_eqb p pid here) at h) in (suc found.0, first_later p pid found.0 pids here found.1))
]

-- there is one first place
pub first-only : (pids : List ℕ) (pid at other : ℕ) → IsFirst pids pid at → IsFirst pids pid other → at ≡ other
first-only pids pid at other first second = elim (cases_order at other) [
  | inl e ↦ e
  | inr apart ↦ elim apart [ inl below ↦ absurd (second.earlier at below first.found) | inr above ↦ absurd (first.earlier other above second.found) ]
]
