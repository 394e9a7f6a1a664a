-- The first of what is found on the way.
use Rattle.std.proofs.Common.{◌≡◌, ℕ, zero, suc, ◌<◌, ◌≤◌, Bool, true, false, cond, List, [], ◌∷◌, ◌++◌, length, take, Some, None, refl, sym, ap, ◌∙◌, append_assoc, arith}
use Rattle.std.specs.Prelude.{map, option_to_list}
use Rattle.std.specs.List.{filter}
use Rattle.std.proofs.lemmas.List.{map-append, append-nil, take_all, take_at, length-append, length-map}
use Rattle.std.proofs.lemmas.List.Elements.{filter-append}
use Rattle.ssu_unt.specs.Targeting.{Candidate, Me, chosen, entry_of, is_targeted, targets}

pub take-take-append : {A : Type 0} (n : ℕ) (xs ys : List A) → take n (take n xs ++ ys) ≡ take n (xs ++ ys)
take-take-append zero xs ys = refl
take-take-append (suc n) [] ys = refl
take-take-append {A} (suc n) (x ∷ xs) ys = ap (λ (l : List A). x ∷ l) (take-take-append n xs ys)

-- What was kept, and one part more: the first n of all.
pub kept_more : {A : Type 0} (n : ℕ) (old new part rest all : List A) → new ≡ take n (old ++ part) → take n (old ++ (part ++ rest)) ≡ all → take n (new ++ rest) ≡ all
kept_more {A} n old new part rest all e h =
    ap (λ (l : List A). take n (l ++ rest)) e ∙ take-take-append n (old ++ part) rest ∙ ap (take n) (append_assoc old part rest) ∙ h

-- nothing more
pub kept_all : {A : Type 0} (n : ℕ) (kept rest all : List A) → length kept ≤ n → rest ≡ [] → take n (kept ++ rest) ≡ all → kept ≡ all
kept_all {A} n kept rest all le none h =
    sym (take_all n kept le) ∙ ap (take n) (sym (append-nil kept) ∙ ap (λ (l : List A). kept ++ l) (sym none)) ∙ h

pub targets-append : (me : Me) (common : List ℕ) (xs ys : List Candidate) → targets me common (xs ++ ys) ≡ targets me common xs ++ targets me common ys
targets-append me common xs ys = rw (filter-append (is_targeted me common) xs ys) (map-append (λ (c : Candidate). entry_of common c.pair.operational) (filter (is_targeted me common) xs) (filter (is_targeted me common) ys))

target_more : (me : Me) (common : List ℕ) (c : Candidate) (cs : List Candidate) (b : Bool)
    → map (λ (c : Candidate). entry_of common c.pair.operational) (cond b (c ∷ filter (is_targeted me common) cs) (filter (is_targeted me common) cs))
    ≡ option_to_list (cond b (Some (entry_of common c.pair.operational)) None) ++ targets me common cs
target_more me common c cs true = refl
target_more me common c cs false = refl

pub targets-cons : (me : Me) (common : List ℕ) (c : Candidate) (cs : List Candidate) → targets me common (c ∷ cs) ≡ option_to_list (chosen me common c) ++ targets me common cs
targets-cons me common c cs = target_more me common c cs (is_targeted me common c)

-- one more, where there is room, and where there is none
pub kept_room : {A : Type 0} (n : ℕ) (xs : List A) (x : A) → length xs < n → xs ++ x ∷ [] ≡ take n (xs ++ x ∷ [])
kept_room {A} n xs x le = sym (take_all n (xs ++ x ∷ []) (omega (arith, length-append {A = A})))

pub kept_full : {A : Type 0} (n : ℕ) (xs ys : List A) → length xs ≡ n → xs ≡ take n (xs ++ ys)
kept_full n xs ys e = sym (take_at xs ys n e)

-- nothing more, where the items are seen by a view
pub kept_seen : {A B : Type 0} (view : A → B) (n : ℕ) (items : List A) (rest all : List B) → length items ≤ n → rest ≡ [] → take n (map view items ++ rest) ≡ all → map view items ≡ all
kept_seen {A} {B} view n items rest all le none h = kept_all n (map view items) rest all (rw length-map le) none h
