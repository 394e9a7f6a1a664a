-- The starts in a payload, one after another.
use Rattle.std.proofs.Common.{zero, suc, ◌≡◌, ℕ, ◌+◌, true, false, cond, List, [], ◌∷◌, ◌++◌, drop, refl, ap, arith, not, eqb, inl, inr, append_assoc, ◌&&◌}
use Rattle.std.proofs.lemmas.List.{drop-drop}
use Rattle.std.proofs.lemmas.Bool.{not-true, and_cases, cases_Bool}
use Rattle.section_form.specs.Section.{section_length, section_end}
use Rattle.ts_section.specs.Sections.{has_section, starts_behind}
use Rattle.ts_section.specs.Steps.{right_of, unfinished, is_start, as_start}
use Rattle.ts_section.proofs.Pieces.{right_of-append, right_of-none, right_of-nil}

pub starts_behind-drop : (bytes : List ℕ) (k : ℕ) → starts_behind bytes k ≡ starts_behind (drop k bytes) 0
unfolding starts_behind
starts_behind-drop [] zero = refl
starts_behind-drop [] (suc k) = refl
starts_behind-drop (b ∷ bytes) zero = refl
starts_behind-drop (b ∷ bytes) (suc k) = starts_behind-drop bytes k

-- a section that lies wholly in the rest is followed by what starts behind it
pub starts_behind-whole : (rest : List ℕ) → is_start rest ≡ true → has_section rest ≡ true → starts_behind rest 0 ≡ rest ∷ starts_behind (drop (section_end rest) rest) 0
unfolding starts_behind
starts_behind-whole [] s h = cc
starts_behind-whole (b ∷ bytes) s h =
    let e : section_end (b ∷ bytes) ≡ suc (2 + section_length (b ∷ bytes)) = omega arith in
    rw (not-true _ s, h, e) (ap (λ xs. (b ∷ bytes) ∷ xs) (starts_behind-drop bytes (2 + section_length (b ∷ bytes))))

-- a start that is not whole in the packet is its last
pub starts_behind-last : (rest : List ℕ) → has_section rest ≡ false → starts_behind rest 0 ≡ as_start rest
unfolding starts_behind
starts_behind-last [] h = refl
starts_behind-last (b ∷ bytes) h = elim (eqb b 255) as (λ v. cond v [] ((b ∷ bytes) ∷ cond (has_section (b ∷ bytes)) (starts_behind bytes (2 + section_length (b ∷ bytes))) []) ≡ cond (not v) ((b ∷ bytes) ∷ []) []) [ true ↦ refl | false ↦ rw h refl ]

-- where nothing starts there is nothing
pub starts_behind-none : (rest : List ℕ) → is_start rest ≡ false → starts_behind rest 0 ≡ []
unfolding starts_behind
starts_behind-none [] s = refl
starts_behind-none (b ∷ bytes) s = elim (eqb b 255) as (λ v. not v ≡ false → cond v [] ((b ∷ bytes) ∷ cond (has_section (b ∷ bytes)) (starts_behind bytes (2 + section_length (b ∷ bytes))) []) ≡ []) [ true ↦ λ _. refl | false ↦ λ (f : true ≡ false). cc ] s

-- behind a section that lies wholly in the packet
pub heard-next : (payload : List ℕ) (at len : ℕ) (found longer all : List (List ℕ))
    → is_start (drop at payload) ≡ true → has_section (drop at payload) ≡ true → len ≡ section_end (drop at payload)
    → longer ≡ found ++ right_of (drop at payload ∷ [])
    → found ++ right_of (starts_behind (drop at payload) 0) ≡ all
    → longer ++ right_of (starts_behind (drop (at + len) payload) 0) ≡ all
heard-next payload at len found longer all s h e k told =
    let rest = drop at payload in
    let split : right_of (starts_behind rest 0) ≡ right_of (rest ∷ []) ++ right_of (starts_behind (drop len rest) 0) =
    rw (starts_behind-whole rest s h, ← e) (right_of-append (rest ∷ []) (starts_behind (drop len rest) 0)) in
    rw (k, ← drop-drop len at payload, append_assoc, ← split) told

pub unfinished-next : (payload : List ℕ) (at len : ℕ) (all : List (List ℕ))
    → is_start (drop at payload) ≡ true → has_section (drop at payload) ≡ true → len ≡ section_end (drop at payload)
    → unfinished (starts_behind (drop at payload) 0) ≡ all
    → unfinished (starts_behind (drop (at + len) payload) 0) ≡ all
unfinished-next payload at len all s h e told =
    let rest = drop at payload in
    let same : unfinished (starts_behind rest 0) ≡ unfinished (starts_behind (drop len rest) 0) =
    rw (starts_behind-whole rest s h, h, ← e) refl in
    rw (← drop-drop len at payload, ← same) told

as_start-right : (rest : List ℕ) → has_section rest ≡ false → right_of (as_start rest) ≡ []
as_start-right rest h = elim (cases_Bool (is_start rest)) [
  | inl s ↦ rw s (right_of-none rest h)
  | inr s ↦ rw s right_of-nil
]

as_start-unfinished : (rest : List ℕ) → has_section rest ≡ false → unfinished (as_start rest) ≡ as_start rest
as_start-unfinished rest h = elim (cases_Bool (is_start rest)) [
  | inl s ↦ rw (s, h) refl
  | inr s ↦ rw s refl
]

-- where no whole section starts
pub starts-end : (rest : List ℕ) → (is_start rest && has_section rest) ≡ false
    → (right_of (starts_behind rest 0) ≡ []) × (unfinished (starts_behind rest 0) ≡ as_start rest)
starts-end rest h = elim (and_cases (is_start rest) (has_section rest) h) [
  | inl s ↦ (rw (starts_behind-none rest s) right_of-nil, rw (starts_behind-none rest s, s) refl)
  | inr s ↦ (rw (starts_behind-last rest s) (as_start-right rest s), rw (starts_behind-last rest s) (as_start-unfinished rest s))
]
