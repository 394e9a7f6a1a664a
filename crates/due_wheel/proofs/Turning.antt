-- The search for the least pair, bucket by bucket from the floor's on.
use Rattle.std.proofs.Common.{◌≡◌, ℕ, ◌+◌, ◌-◌, ◌/◌, ◌%◌, ◌<◌, ◌≤◌, inl, inr, nat_lt, if◌then◌else◌, min, Bool, true, false, Option, None, Some, IfSome, IfNone, refl, sym, ap, subst, ◌∙◌, arith, eq-eqb, eqb-true, ltb-true, ltb-false, mod-lt, div-add-mod', mul-le-mul_left, mul_comm, mul-suc, true≢false}
use Rattle.std.proofs.lemmas.Bool.{cases_lt}
use Rattle.std.proofs.Math.Nat.{add-mod-mod}
use Rattle.due_wheel.specs.Due.{DueMap, due_of, IsEmpty, IsLeast}
use Rattle.due_wheel.specs.Fronts.{IsFront, HasNone, is_due_at, lesser_of}

-- numbers of one remainder that are less than the modulus apart
pub same_remainder : (s a b : ℕ) → a % s ≡ b % s → a ≤ b → b < a + s → a ≡ b
same_remainder s a b e h k =
    let q = div-add-mod' a s in
    let r = div-add-mod' b s in
    elim (cases_lt (a / s) (b / s)) [
      | inl less ↦ let more = mul-le-mul_left s (let p : a / s + 1 ≤ b / s = omega arith in p) in
          let c = mul_comm s (a / s + 1) in
          let d = mul_comm s (b / s) in
          let f = mul-suc s (a / s) in
          let g = mul_comm s (a / s) in
          absurd (omega arith)
      | inr most ↦ let more = mul-le-mul_left s most in
          let c = mul_comm s (a / s) in
          let d = mul_comm s (b / s) in
          omega arith
    ]

-- the best pair goes before this one
abbrev pub Beats : Option (ℕ × ℕ) → ℕ → ℕ → Type 0
Beats None later other = ⊥
Beats (Some best) later other = (best.1 ≤ later) × (best.1 ≡ later → best.0 ≤ other)

-- Of so many buckets no item is due exactly as far above the floor as its bucket, and this is the best pair of their items.
pub record Searched (wheel : DueMap) (past : ℕ) (best : Option (ℕ × ℕ)) : Type 0 where
  pub none_due : (j item : ℕ) → j < past → due_of wheel.dues item ≡ Some (wheel.floor + j) → ⊥
  pub held : IfSome best (λ f. due_of wheel.dues f.0 ≡ Some f.1)
  pub lies : IfSome best (λ f. (j : ℕ) × (j < past) × (f.1 % wheel.slots ≡ (wheel.floor + j) % wheel.slots))
  pub beats : (j other later : ℕ) → j < past → due_of wheel.dues other ≡ Some later → later % wheel.slots ≡ (wheel.floor + j) % wheel.slots → Beats best later other

pub searched_none : (wheel : DueMap) → Searched wheel 0 None
searched_none wheel = record {
  none_due = λ j item h e. absurd (omega arith);
  held = tt;
  lies = tt;
  beats = λ j other later h e f. absurd (omega arith);
}

module _ (wheel : DueMap) (above : (item due : ℕ) → due_of wheel.dues item ≡ Some due → wheel.floor ≤ due) (past : ℕ) (fewer : past < wheel.slots) where
  abbrev slot : ℕ
  slot = (wheel.floor + past) % wheel.slots

  -- the first item of this bucket is not due just now, so none is
  not_now : (front : Option (ℕ × ℕ)) → IfSome front (λ f. IsFront wheel slot f.0 f.1) → IfNone front (HasNone wheel slot) → is_due_at wheel.floor past front ≡ false
      → (item : ℕ) → due_of wheel.dues item ≡ Some (wheel.floor + past) → ⊥
  not_now None is none t item e = none item (wheel.floor + past) e refl
  not_now (Some f) is none t item e =
      let low = above f.0 f.1 is.is_in in
      let most = is.least item (wheel.floor + past) e refl in
      let now = same_remainder wheel.slots f.1 (wheel.floor + past) is.here most (omega arith) in
      let yes = eq-eqb (f.1 - wheel.floor) past (omega arith) in
      true≢false (sym yes ∙ t)

  same_slot : (j : ℕ) → j ≡ past → (wheel.floor + j) % wheel.slots ≡ slot
  same_slot j e = ap (λ (n : ℕ). (wheel.floor + n) % wheel.slots) e

  more_none : (best : Option (ℕ × ℕ)) → Searched wheel past best → ((item : ℕ) → due_of wheel.dues item ≡ Some (wheel.floor + past) → ⊥)
      → (j item : ℕ) → j < past + 1 → due_of wheel.dues item ≡ Some (wheel.floor + j) → ⊥
  more_none best s now j item h e =
      elim (cases_lt j past) [
        | inl p ↦ s.none_due j item p e
        | inr p ↦ now item (e ∙ ap (λ (n : ℕ). Some (wheel.floor + n)) (let q : j ≡ past = omega arith in q))
      ]

  both_there : (b g : ℕ × ℕ) → Searched wheel past (Some b) → IsFront wheel slot g.0 g.1 → ((item : ℕ) → due_of wheel.dues item ≡ Some (wheel.floor + past) → ⊥)
      → (t : Bool) → nat_lt g.1 b.1 ≡ t → Searched wheel (past + 1) (if t then Some g else Some b)
  both_there b g s is now true t =
      let less = ltb-true g.1 b.1 t in
      record {
        none_due = more_none (Some b) s now;
        held = is.is_in;
        lies = (past, (omega arith), is.here);
        beats = λ j other later h e f. elim (cases_lt j past) [
          | inl p ↦ let old = s.beats j other later p e f in let first = old.0 in ((let q : g.1 ≤ later = omega arith in q), (λ same. absurd (omega arith)))
          | inr p ↦ (is.least other later e (f ∙ same_slot j (omega arith)), (λ same. is.tie other (e ∙ ap (λ (n : ℕ). Some n) (sym same))))
        ];
      }
  both_there b g s is now false t =
      let most = ltb-false g.1 b.1 t in
      record {
        none_due = more_none (Some b) s now;
        held = s.held;
        lies = (s.lies.0, (let p = s.lies.1 in omega arith), s.lies.2);
        beats = λ j other later h e f. elim (cases_lt j past) [
          | inl p ↦ s.beats j other later p e f
          | inr p ↦ let first = is.least other later e (f ∙ same_slot j (omega arith)) in (
            (let q : b.1 ≤ later = omega arith in q),
            (λ same. (s.beats s.lies.0 other later s.lies.1 e (ap (λ (n : ℕ). n % wheel.slots) (sym same) ∙ s.lies.2)).1 same),
          )
        ];
      }

  -- of the two the better one goes before what either goes before
  merged : (best front : Option (ℕ × ℕ)) → Searched wheel past best → IfSome front (λ f. IsFront wheel slot f.0 f.1) → IfNone front (HasNone wheel slot)
      → ((item : ℕ) → due_of wheel.dues item ≡ Some (wheel.floor + past) → ⊥) → Searched wheel (past + 1) (lesser_of best front)
  merged None None s is none now = record {
    none_due = more_none _ s now;
    held = tt;
    lies = tt;
    beats = λ j other later h e f. elim (cases_lt j past) [
      | inl p ↦ s.beats j other later p e f
      | inr p ↦ none other later e (f ∙ same_slot j (omega arith))
    ];
  }
  merged None (Some g) s is none now = record {
    none_due = more_none _ s now;
    held = is.is_in;
    lies = (past, (omega arith), is.here);
    beats = λ j other later h e f. elim (cases_lt j past) [
      | inl p ↦ absurd (s.beats j other later p e f)
      | inr p ↦ (is.least other later e (f ∙ same_slot j (omega arith)), (λ same. is.tie other (e ∙ ap (λ (n : ℕ). Some n) (sym same))))
    ];
  }
  merged (Some b) None s is none now = record {
    none_due = more_none _ s now;
    held = s.held;
    lies = (s.lies.0, (let p = s.lies.1 in omega arith), s.lies.2);
    beats = λ j other later h e f. elim (cases_lt j past) [
      | inl p ↦ s.beats j other later p e f
      | inr p ↦ absurd (none other later e (f ∙ same_slot j (omega arith)))
    ];
  }
  merged (Some b) (Some g) s is none now = both_there b g s is now (nat_lt g.1 b.1) refl

  pub searched_more : (best front : Option (ℕ × ℕ)) → Searched wheel past best → IfSome front (λ f. IsFront wheel slot f.0 f.1) → IfNone front (HasNone wheel slot)
      → is_due_at wheel.floor past front ≡ false → Searched wheel (past + 1) (lesser_of best front)
  searched_more best front s is none t = merged best front s is none (not_now front is none t)

  -- the first item of this bucket is due just now: it is the least
  pub found_now : (best : Option (ℕ × ℕ)) (f : ℕ × ℕ) → Searched wheel past best → IsFront wheel slot f.0 f.1 → is_due_at wheel.floor past (Some f) ≡ true
      → IsLeast wheel.dues f.0 f.1 × (f.1 ≡ wheel.floor + past)
  found_now best f s is t =
      let low = above f.0 f.1 is.is_in in
      let at = eqb-true (f.1 - wheel.floor) past t in
      let due : f.1 ≡ wheel.floor + past = omega arith in (
        record {
          is_in = is.is_in;
          least = λ other later e. let lower = above other later e in
              elim (cases_lt later f.1) [
                | inl p ↦ let j = later - wheel.floor in
                    absurd (s.none_due j other (omega arith) (e ∙ ap (λ (n : ℕ). Some n) (let q : later ≡ wheel.floor + j = omega arith in q)))
                | inr p ↦ p
              ];
          tie = is.tie;
        },
        due,
      )

-- all buckets were looked at
module _ (wheel : DueMap) (some : 1 ≤ wheel.slots) (above : (item due : ℕ) → due_of wheel.dues item ≡ Some due → wheel.floor ≤ due) where
  beats_all : (best : Option (ℕ × ℕ)) → Searched wheel wheel.slots best → (other later : ℕ) → due_of wheel.dues other ≡ Some later → Beats best later other
  beats_all best s other later e =
      let low = above other later e in
      let j = (later - wheel.floor) % wheel.slots in
      let within : j < wheel.slots = mod-lt (later - wheel.floor) some in
      let whole : wheel.floor + (later - wheel.floor) ≡ later = omega arith in
      s.beats j other later within e (sym (add-mod-mod wheel.floor (later - wheel.floor) wheel.slots ∙ ap (λ (n : ℕ). n % wheel.slots) whole))

  none_of : (item : ℕ) (o : Option ℕ) → due_of wheel.dues item ≡ o → Searched wheel wheel.slots None → due_of wheel.dues item ≡ None
  none_of item None e s = e
  none_of item (Some later) e s = absurd (beats_all None s item later e)

  pub none_at_all : Searched wheel wheel.slots None → IsEmpty wheel.dues
  none_at_all s = λ item. none_of item (due_of wheel.dues item) refl s

  pub least_of_all : (f : ℕ × ℕ) → Searched wheel wheel.slots (Some f) → IsLeast wheel.dues f.0 f.1 × (wheel.floor + wheel.slots ≤ f.1)
  least_of_all f s = (
    record {
      is_in = s.held;
      least = λ other later e. (beats_all (Some f) s other later e).0;
      tie = λ other e. (beats_all (Some f) s other f.1 e).1 refl;
    },
    (let low = above f.0 f.1 s.held in
        elim (cases_lt f.1 (wheel.floor + wheel.slots)) [
          | inl p ↦ let j = f.1 - wheel.floor in
              absurd (s.none_due j f.0 (omega arith) (s.held ∙ ap (λ (n : ℕ). Some n) (let q : f.1 ≡ wheel.floor + j = omega arith in q)))
          | inr p ↦ p
        ]),
  )

-- One bucket, in the words of the code.
module _ (wheel : DueMap) (above : (item due : ℕ) → due_of wheel.dues item ≡ Some due → wheel.floor ≤ due) (past : ℕ) (fewer : past < wheel.slots)
    (slot : ℕ) (at : slot ≡ (wheel.floor + past) % wheel.slots) (best : Option (ℕ × ℕ)) (s : Searched wheel past best) where
  pub now_least : (front : Option (ℕ × ℕ)) → IfSome front (λ f. IsFront wheel slot f.0 f.1) → is_due_at wheel.floor past front ≡ true
      → IfSome front (λ f. IsLeast wheel.dues f.0 f.1)
  now_least None is t = tt
  now_least (Some f) is t =
      let F : ℕ → Type 0 = λ n. IsFront wheel n f.0 f.1 in
      (found_now wheel above past fewer best f s (subst F at is) t).0

  pub now_above : (front : Option (ℕ × ℕ)) → IfSome front (λ f. IsFront wheel slot f.0 f.1) → IfSome front (λ f. wheel.floor ≤ f.1)
  now_above None is = tt
  now_above (Some f) is = above f.0 f.1 is.is_in

  pub now_cost : (front : Option (ℕ × ℕ)) (steps old : ℕ) → IfSome front (λ f. IsFront wheel slot f.0 f.1) → is_due_at wheel.floor past front ≡ true
      → steps ≡ old + (past + 1) → IfSome front (λ f. steps ≤ old + min (f.1 - wheel.floor + 1) wheel.slots)
  now_cost None steps old is t e = tt
  now_cost (Some f) steps old is t e =
      let F : ℕ → Type 0 = λ n. IsFront wheel n f.0 f.1 in
      let due = (found_now wheel above past fewer best f s (subst F at is) t).1 in
      omega arith

  pub next_searched : (front : Option (ℕ × ℕ)) → IfSome front (λ f. IsFront wheel slot f.0 f.1) → IfNone front (HasNone wheel slot)
      → is_due_at wheel.floor past front ≡ false → Searched wheel (past + 1) (lesser_of best front)
  next_searched front is none t =
      let F : ℕ → Type 0 = λ n. IfSome front (λ f. IsFront wheel n f.0 f.1) in
      let N : ℕ → Type 0 = λ n. IfNone front (HasNone wheel n) in
      searched_more wheel above past fewer best front s (subst F at is) (subst N at none) t

-- All buckets, in the words of the code.
module _ (wheel : DueMap) (some : 1 ≤ wheel.slots) (above : (item due : ℕ) → due_of wheel.dues item ≡ Some due → wheel.floor ≤ due) where
  pub end_least : (best : Option (ℕ × ℕ)) → Searched wheel wheel.slots best → IfSome best (λ f. IsLeast wheel.dues f.0 f.1)
  end_least None s = tt
  end_least (Some f) s = (least_of_all wheel some above f s).0

  pub end_none : (best : Option (ℕ × ℕ)) → Searched wheel wheel.slots best → IfNone best (IsEmpty wheel.dues)
  end_none None s = none_at_all wheel some above s
  end_none (Some f) s = tt

  pub end_above : (best : Option (ℕ × ℕ)) → Searched wheel wheel.slots best → IfSome best (λ f. wheel.floor ≤ f.1)
  end_above None s = tt
  end_above (Some f) s = above f.0 f.1 s.held

  pub end_cost : (best : Option (ℕ × ℕ)) (steps old : ℕ) → Searched wheel wheel.slots best → steps ≡ old + wheel.slots
      → IfSome best (λ f. steps ≤ old + min (f.1 - wheel.floor + 1) wheel.slots)
  end_cost None steps old s e = tt
  end_cost (Some f) steps old s e = let far = (least_of_all wheel some above f s).1 in omega arith

-- the bucket behind this one
pub next_bucket : (floor past slots slot next : ℕ) → slot ≡ (floor + past) % slots → next ≡ (slot + 1) % slots → next ≡ (floor + (past + 1)) % slots
next_bucket floor past slots slot next e f =
    f ∙ ap (λ (n : ℕ). (n + 1) % slots) e
    ∙ ap (λ (n : ℕ). n % slots) (let c : (floor + past) % slots + 1 ≡ 1 + (floor + past) % slots = omega arith in c)
    ∙ add-mod-mod 1 (floor + past) slots
    ∙ ap (λ (n : ℕ). n % slots) (let c : 1 + (floor + past) ≡ floor + (past + 1) = omega arith in c)
