-- Listening to the same PIDs anew.
use Rattle.std.proofs.Common.{zero, suc, ◌≡◌, ℕ, ◌+◌, ◌<◌, ◌≤◌, Bool, true, false, List, [], ◌∷◌, length, take, arith, sym, ap, refl, ◌∙◌}
use Rattle.std.proofs.Math.ListN.{get_or}
use Rattle.std.specs.Prelude.{slice_index, ◌==◌, ◌||◌}
use Rattle.std.proofs.lemmas.List.{take_all}
use Rattle.ts_section.specs.Events.{Event, Listen, is_among, is_listened, span}
use Rattle.ts_section.specs.Hearing.{Hears}
use Rattle.ts_section.specs.declared.hearer.Hearer.{Hearer}

-- ---- two lists that agree in front

pub front_more_same : (xs ys : List ℕ) (k : ℕ) → k < length xs → k < length ys → take k xs ≡ take k ys → (d e : ℕ) → get_or xs k d ≡ get_or ys k e
    → take (k + 1) xs ≡ take (k + 1) ys
front_more_same [] ys k a b front d e at = absurd (omega (arith, a))
front_more_same (x ∷ xs) [] k a b front d e at = absurd (omega (arith, b))
front_more_same (x ∷ xs) (y ∷ ys) zero a b front d e at = ap (λ z. z ∷ []) at
front_more_same (x ∷ xs) (y ∷ ys) (suc k) a b front d e at =
    let more : suc k + 1 ≡ suc (k + 1) = omega arith in
    let first : x ≡ y = cc in
    let others : take k xs ≡ take k ys = cc in
    ap (λ (n : ℕ). take n (x ∷ xs)) more
    ∙ ap (λ z. z ∷ take (k + 1) xs) first
    ∙ ap (λ (zs : List ℕ). y ∷ zs) (front_more_same xs ys k (omega (arith, a)) (omega (arith, b)) others d e at)
    ∙ ap (λ (n : ℕ). take n (y ∷ ys)) (sym more)

pub front_all_same : (xs ys : List ℕ) (k : ℕ) → length xs ≤ k → length ys ≤ k → take k xs ≡ take k ys → xs ≡ ys
front_all_same xs ys k a b front = sym (take_all k xs a) ∙ front ∙ take_all k ys b

-- ---- whoever listens to the same PIDs anew stands where it stood

span_same : (pid : ℕ) (pids : List ℕ) (events : List Event) → is_among pid pids ≡ true → span pid (Listen pids ∷ events) ≡ span pid events
unfolding span
span_same pid pids events among = rw among refl

-- what stands at a place of the list is among it
among_at : (pids : List ℕ) (pid at : ℕ) → at < length pids → slice_index pids at ≡ pid → is_among pid pids ≡ true
among_at [] pid at within found = absurd (omega (arith, within))
among_at (p ∷ pids) pid zero within found = let same : (p == pid) ≡ true = grind (arith, found) in rw same refl
among_at (p ∷ pids) pid (suc at) within found = either (p == pid) (is_among pid pids) (among_at pids pid at (omega (arith, within)) found)
  where
    either : (a b : Bool) → b ≡ true → (a || b) ≡ true
    either true b h = refl
    either false b h = h

pub relisten : (hearer : Hearer) (pids : List ℕ) (events : List Event) → ((pid : ℕ) → is_listened pid events ≡ is_among pid pids)
    → Hears hearer events → Hears hearer (Listen pids ∷ events)
unfolding is_listened
relisten hearer pids events same hears = record {
  listens = λ pid. sym (same pid) ∙ hears.listens pid;
  streams = λ pid at other first.
      let among : is_among pid pids ≡ true = sym (same pid) ∙ hears.listens pid ∙ among_at hearer.pids.items pid at first.within first.found in
      rw (span_same pid pids events among) (hears.streams pid at other first);
}
