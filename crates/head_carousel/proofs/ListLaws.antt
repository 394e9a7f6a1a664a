-- Lists that grow, turn by turn.
use Rattle.std.proofs.Common.{◌≡◌, ℕ, zero, suc, ◌+◌, ◌<◌, ◌≤◌, List, [], ◌∷◌, ◌++◌, length, get_or, take, drop, refl, sym, ap, ◌∙◌, append_assoc, arith}
use Rattle.std.specs.Prelude.{map}
use Rattle.std.specs.List.{flat_map, sum_by}
use Rattle.std.proofs.lemmas.List.{map-append, take-map, take_more}
use Rattle.std.proofs.lemmas.List.Concat.{flat_map-append}
use Rattle.std.proofs.lemmas.List.Sums.{sum_by_push}
use Rattle.head_carousel.specs.GroupFiles.{numbered}

-- a piece more
pub grown : {X : Type 0} (old now new xs piece : List X) → now ≡ old ++ xs → new ≡ now ++ piece → new ≡ old ++ (xs ++ piece)
grown {X} old now new xs piece e f = f ∙ ap (λ (u : List X). u ++ piece) e ∙ append_assoc old xs piece

-- the same, where what was added is called by another name
pub grown_to : {X : Type 0} (old now new xs piece all : List X) → now ≡ old ++ xs → new ≡ now ++ piece → all ≡ xs ++ piece → new ≡ old ++ all
grown_to {X} old now new xs piece all e f is = grown old now new xs piece e f ∙ ap (λ (u : List X). old ++ u) (sym is)

pub no_more : {Y : Type 0} (ys : List Y) → ys ++ [] ≡ ys
no_more [] = refl
no_more {Y} (y ∷ ys) = ap (λ (u : List Y). y ∷ u) (no_more ys)

pub map_push : {X Y : Type 0} (f : X → Y) (xs : List X) (x : X) → map f (xs ++ x ∷ []) ≡ map f xs ++ f x ∷ []
map_push f xs x = map-append f xs (x ∷ [])

pub flat_push : {X Y : Type 0} (f : X → List Y) (xs : List X) (x : X) → flat_map f (xs ++ x ∷ []) ≡ flat_map f xs ++ f x
flat_push {X} {Y} f xs x = flat_map-append f xs (x ∷ []) ∙ ap (λ (u : List Y). flat_map f xs ++ u) (no_more (f x))

-- an item more at the front
pub front_more : {X : Type 0} (xs : List X) (i : ℕ) (x : X) → i < length xs → x ≡ get_or xs i x → take (i + 1) xs ≡ take i xs ++ x ∷ []
front_more {X} xs i x low same = take_more xs i x low ∙ ap (λ (y : X). take i xs ++ y ∷ []) (sym same)

pub map_more : {X Y : Type 0} (f : X → Y) (xs : List X) (i : ℕ) (x : X) → i < length xs → x ≡ get_or xs i x → map f (take (i + 1) xs) ≡ map f (take i xs) ++ f x ∷ []
map_more {X} {Y} f xs i x low same = ap (map f) (front_more xs i x low same) ∙ map-append f (take i xs) (x ∷ [])

pub flat_more : {X Y : Type 0} (f : X → List Y) (xs : List X) (i : ℕ) (x : X) → i < length xs → x ≡ get_or xs i x → flat_map f (take (i + 1) xs) ≡ flat_map f (take i xs) ++ f x
flat_more {X} {Y} f xs i x low same = ap (flat_map f) (front_more xs i x low same) ∙ flat_push f (take i xs) x

pub sum_more : {X : Type 0} (f : X → ℕ) (xs : List X) (i : ℕ) (x : X) → i < length xs → x ≡ get_or xs i x → sum_by f (take (i + 1) xs) ≡ sum_by f (take i xs) + f x
sum_more f xs i x low same = ap (sum_by f) (front_more xs i x low same) ∙ sum_by_push f (take i xs) x

pub drop-map : {X Y : Type 0} (f : X → Y) (n : ℕ) (xs : List X) → drop n (map f xs) ≡ map f (drop n xs)
drop-map f zero xs = refl
drop-map f (suc n) [] = refl
drop-map f (suc n) (x ∷ xs) = drop-map f n xs

-- ---- numbered items

pub numbered_push : {X : Type 0} (n : ℕ) (xs : List X) (x : X) → numbered n (xs ++ x ∷ []) ≡ numbered n xs ++ (n + length xs, x) ∷ []
unfolding numbered
numbered_push {X} n [] x = let e : n ≡ n + 0 = omega arith in ap (λ (k : ℕ). (k, x) ∷ []) e
numbered_push {X} n (y ∷ ys) x =
    let e : n + 1 + length ys ≡ n + suc (length ys) = omega arith in
    ap (λ (u : List (ℕ × X)). (n, y) ∷ u) (numbered_push (n + 1) ys x ∙ ap (λ (k : ℕ). numbered (n + 1) ys ++ (k, x) ∷ []) e)

pub numbered_more : {X Y : Type 0} (v : X → Y) (n : ℕ) (xs : List X) (i : ℕ) (x : X) → i < length xs → x ≡ get_or xs i x → numbered n (map v (take (i + 1) xs)) ≡ numbered n (map v (take i xs)) ++ (n + i, v x) ∷ []
numbered_more {X} {Y} v n xs i x low same =
    let count : length (map v (take i xs)) ≡ i = length-map-take v xs i (omega arith) in
    ap (numbered n) (map_more v xs i x low same) ∙ numbered_push n (map v (take i xs)) (v x) ∙ ap (λ (k : ℕ). numbered n (map v (take i xs)) ++ (n + k, v x) ∷ []) count
  where
    length-map-take : {X Y : Type 0} (v : X → Y) (xs : List X) (i : ℕ) → i ≤ length xs → length (map v (take i xs)) ≡ i
    length-map-take v xs zero h = refl
    length-map-take v [] (suc i) h = absurd (omega arith)
    length-map-take v (x ∷ xs) (suc i) h = ap (λ (k : ℕ). suc k) (length-map-take v xs i (omega arith))

pub numbered-length : {X : Type 0} (n : ℕ) (xs : List X) → length (numbered n xs) ≡ length xs
unfolding numbered
numbered-length n [] = refl
numbered-length n (x ∷ xs) = ap (λ (k : ℕ). suc k) (numbered-length (n + 1) xs)

-- the same of files that are kept in another form
pub files_more : {A : Type 0} (v : A → List ℕ) (n : ℕ) (xs : List A) (files : List (List ℕ)) (i : ℕ) (x : A) → map v xs ≡ files → i < length xs → x ≡ get_or xs i x
    → numbered n (take (i + 1) files) ≡ numbered n (take i files) ++ (n + i, v x) ∷ []
files_more v n xs files i x is low same =
    rw (← is, take-map v (i + 1) xs, take-map v i xs) (numbered_more v n xs i x low same)

pub get_mapped : {A : Type 0} (v : A → List ℕ) (xs : List A) (i : ℕ) (x : A) → i < length xs → x ≡ get_or xs i x → v x ≡ get_or (map v xs) i (v x)
get_mapped v [] i x low same = absurd (omega arith)
get_mapped v (y ∷ ys) zero x low same = ap v same
get_mapped v (y ∷ ys) (suc i) x low same = get_mapped v ys i x (omega arith) same

pub five : {X : Type 0} (a b c d e f n p u k m : List X) → a ≡ [] → b ≡ a ++ n → c ≡ b ++ p → d ≡ c ++ u → e ≡ d ++ k → f ≡ e ++ m → f ≡ (n ++ (p ++ (u ++ k))) ++ m
five a b c d e f n p u k m ea eb ec ed ee ef =
    rw (ef, ee, ed, ec, eb, ea, append_assoc (n ++ p) u k, append_assoc n p (u ++ k)) refl
