-- The words `spares S` at the end of others.
use Rattle.std.proofs.Common.{◌≡◌, ℕ, List, [], ◌∷◌, ◌++◌, map, drop, get_or, length, length-append, Option, Some, None, refl, ◌∙◌, ap, arith}
use Rattle.std.proofs.lemmas.List.{append_assoc, map-append}
use Rattle.ssu_status.specs.Words.{Task, task_of}
use Rattle.ssu_status.specs.declared.command.Command.{Command}
use Rattle.ssu_tool.specs.Spares.{AsksSpared, EndsInSpares, IsFlashCommand}

-- the last two of a list, seen through a function
pub ends_of : {A B : Type 0} (f : A → B) (words rest front : List A) (count keyword : A) → words ≡ rest ++ count ∷ [] → rest ≡ front ++ keyword ∷ []
    → map f words ≡ map f front ++ f keyword ∷ f count ∷ []
ends_of f words rest front count keyword last before =
    ap (map f) last
    ∙ (map-append f rest (count ∷ [])
    ∙ (ap (λ (xs : List _). xs ++ f count ∷ []) (ap (map f) before ∙ map-append f front (keyword ∷ [])) ∙ append_assoc (map f front) (f keyword ∷ []) (f count ∷ [])))

-- lists that end alike begin alike
pub last_two : (xs ys : List (List ℕ)) (a b c d : List ℕ) → xs ++ a ∷ b ∷ [] ≡ ys ++ c ∷ d ∷ [] → (xs ≡ ys) × (a ≡ c) × (b ≡ d)
last_two [] [] a b c d e = (refl, ap (λ (l : List (List ℕ)). get_or l 0 []) e, ap (λ (l : List (List ℕ)). get_or l 1 []) e)
last_two [] (y ∷ ys) a b c d e = absurd (omega (arith, ap length e, length-append ys (c ∷ d ∷ [])))
last_two (x ∷ xs) [] a b c d e = absurd (omega (arith, ap length e, length-append xs (a ∷ b ∷ [])))
last_two (x ∷ xs) (y ∷ ys) a b c d e =
    let more = last_two xs ys a b c d (ap (drop 1) e) in
    let head : x ≡ y = ap (λ (l : List (List ℕ)). get_or l 0 []) e in
    (ap (λ (z : List ℕ). z ∷ xs) head ∙ ap (λ (zs : List (List ℕ)). y ∷ zs) more.0, more.1, more.2)

-- where nothing is asked of a flash with spares, the words before are no command of it
pub none_spared : (words front : List (List ℕ)) (spares : ℕ) (command : Option Command) → EndsInSpares words front spares → IsFlashCommand front command
    → ((t : Task) → AsksSpared words t → ⊥) → command ≡ None
none_spared words front spares None ends asks none = refl
none_spared words front spares (Some command) ends asks none = absurd (none (task_of command) (record { front = front; spares = spares; ends = ends; asks = asks.found }))

abbrev value_or : {A : Type 0} → A → Option A → A
value_or a None = a
value_or a (Some x) = x

pub some_same : {A : Type 0} (a b : A) → Some a ≡ Some b → a ≡ b
some_same a b is = ap (value_or a) is
