-- The first file that is too long, mention by mention and group by group.
use Rattle.std.proofs.Common.{◌≡◌, ℕ, zero, suc, ◌+◌, ◌<◌, ◌≤◌, Bool, true, false, ltb, List, [], ◌∷◌, ◌++◌, length, get_or, take, drop, refl, sym, ap, ◌∙◌, arith}
use Rattle.std.specs.Prelude.{Option, Some, None, option_map, slice_get}
use Rattle.std.specs.List.{All, find, flat_map}
use Rattle.std.proofs.lemmas.Bool.{lt-ltb, le-ltb}
use Rattle.std.proofs.lemmas.List.{drop_more, take_all, take-append-drop}
use Rattle.std.proofs.lemmas.List.Concat.{flat_map-append, length-flat_map}
use Rattle.head_carousel.specs.Blocks.{IsShort, all_blocks, block_count, group_blocks}
use Rattle.head_carousel.specs.GroupFiles.{GroupFiles}
use Rattle.head_carousel.specs.Refusal.{Mention, first_too_long, group_mentions, is_too_long, mentions_in, name_of}
use Rattle.head_carousel.proofs.BlockLaws.{parts_few}
use Rattle.head_carousel.proofs.ListLaws.{flat_more}

abbrev mention : List ℕ → ℕ → List ℕ → Mention
mention name size file = record { name = name; blocks = block_count size file }

mentions_split : (size : ℕ) (names files : List (List ℕ)) (i : ℕ) (d f : List ℕ) → i < length files → length names ≡ length files → f ≡ get_or files i f
    → mentions_in size (drop i names) (drop i files) ≡ mention (get_or names i d) size f ∷ mentions_in size (drop (i + 1) names) (drop (i + 1) files)
unfolding mentions_in
mentions_split size names files i d f low same is =
    let n : drop i names ≡ get_or names i d ∷ drop (i + 1) names = drop_more names i d (omega arith) in
    let g : drop i files ≡ f ∷ drop (i + 1) files = drop_more files i f low ∙ ap (λ (x : List ℕ). x ∷ drop (i + 1) files) (sym is) in
    rw (n, g) refl

short_test : (n : ℕ) → n ≤ 65536 → ltb 65536 n ≡ false
short_test n h = le-ltb 65536 n h

pub mentions_none : (size : ℕ) (names : List (List ℕ)) → mentions_in size names [] ≡ []
unfolding mentions_in
mentions_none size [] = refl
mentions_none size (n ∷ ns) = refl

-- a file that is not too long
pub first_more : (size : ℕ) (names files : List (List ℕ)) (i : ℕ) (f : List ℕ) → i < length files → length names ≡ length files → f ≡ get_or files i f → block_count size f ≤ 65536
    → find is_too_long (mentions_in size (drop i names) (drop i files)) ≡ find is_too_long (mentions_in size (drop (i + 1) names) (drop (i + 1) files))
first_more size names files i f low same is few =
    let split = mentions_split size names files i [] f low same is in
    let short = short_test (block_count size f) few in
    rw (split, short) refl

-- a file that is
pub first_here : (size : ℕ) (names files : List (List ℕ)) (i : ℕ) (f name : List ℕ) → i < length files → length names ≡ length files → f ≡ get_or files i f → 65536 < block_count size f → slice_get names i ≡ Some name
    → option_map name_of (find is_too_long (mentions_in size (drop i names) (drop i files))) ≡ Some name
first_here size names files i f name low same is many named =
    let split = mentions_split size names files i name f low same is in
    let long : ltb 65536 (block_count size f) ≡ true = lt-ltb 65536 (block_count size f) many in
    let here : get_or names i name ≡ name = named_at names i name named in
    rw (split, long, here) refl
  where
    some_is : (a b : List ℕ) → Some a ≡ Some b → a ≡ b
    some_is a b e = cc

    named_at : (names : List (List ℕ)) (i : ℕ) (name : List ℕ) → slice_get names i ≡ Some name → get_or names i name ≡ name
    named_at [] i name e = refl
    named_at (n ∷ ns) zero name e = some_is n name e
    named_at (n ∷ ns) (suc i) name e = named_at ns i name e

-- ---- joined lists

pub find-behind : (p : Mention → Bool) (xs ys : List Mention) → find p xs ≡ None → find p (xs ++ ys) ≡ find p ys
find-behind p [] ys e = refl
find-behind p (x ∷ xs) ys e = by_test (p x) p x xs ys refl e (find-behind p xs ys)
  where
    by_test : (b : Bool) (p : Mention → Bool) (x : Mention) (xs ys : List Mention) → p x ≡ b → find p (x ∷ xs) ≡ None → (find p xs ≡ None → find p (xs ++ ys) ≡ find p ys) → find p ((x ∷ xs) ++ ys) ≡ find p ys
    by_test true p x xs ys t e others = absurd (let found : find p (x ∷ xs) ≡ Some x = rw t refl in cc)
    by_test false p x xs ys t e others =
        let rest : find p (x ∷ xs) ≡ find p xs = rw t refl in
        let more : find p ((x ∷ xs) ++ ys) ≡ find p (xs ++ ys) = rw t refl in
        more ∙ others (sym rest ∙ e)

pub find-front : (p : Mention → Bool) (xs ys : List Mention) (m : Mention) → find p xs ≡ Some m → find p (xs ++ ys) ≡ Some m
find-front p [] ys m e = absurd cc
find-front p (x ∷ xs) ys m e = by_test (p x) p x xs ys m refl e (find-front p xs ys m)
  where
    by_test : (b : Bool) (p : Mention → Bool) (x : Mention) (xs ys : List Mention) (m : Mention) → p x ≡ b → find p (x ∷ xs) ≡ Some m → (find p xs ≡ Some m → find p (xs ++ ys) ≡ Some m) → find p ((x ∷ xs) ++ ys) ≡ Some m
    by_test true p x xs ys m t e others =
        let found : find p (x ∷ xs) ≡ Some x = rw t refl in
        let more : find p ((x ∷ xs) ++ ys) ≡ Some x = rw t refl in
        more ∙ sym found ∙ e
    by_test false p x xs ys m t e others =
        let rest : find p (x ∷ xs) ≡ find p xs = rw t refl in
        let more : find p ((x ∷ xs) ++ ys) ≡ find p (xs ++ ys) = rw t refl in
        more ∙ others (sym rest ∙ e)

found_name : (p : Mention → Bool) (xs : List Mention) (o : Option Mention) (name : List ℕ) → find p xs ≡ o → option_map name_of o ≡ Some name → (m : Mention) × (find p xs ≡ Some m) × (m.name ≡ name)
found_name p xs None name e f = absurd cc
found_name p xs (Some m) name e f = (m, e, cc)

-- ---- groups

-- no group so far has a file that is too long, and the next one has none
pub groups_short_more : (gs : List GroupFiles) (i : ℕ) (g : GroupFiles) → i < length gs → g ≡ get_or gs i g → find is_too_long (flat_map group_mentions (take i gs)) ≡ None
    → find is_too_long (group_mentions g) ≡ None → find is_too_long (flat_map group_mentions (take (i + 1) gs)) ≡ None
groups_short_more gs i g low same before here =
    rw (flat_more group_mentions gs i g low same) (find-behind is_too_long (flat_map group_mentions (take i gs)) (group_mentions g) before ∙ here)

-- and the next one has one
pub groups_long_here : (gs : List GroupFiles) (i : ℕ) (g : GroupFiles) (name : List ℕ) → i < length gs → g ≡ get_or gs i g → find is_too_long (flat_map group_mentions (take i gs)) ≡ None
    → option_map name_of (find is_too_long (group_mentions g)) ≡ Some name → first_too_long gs ≡ Some name
unfolding first_too_long
groups_long_here gs i g name low same before here =
    let rest = drop (i + 1) gs in
    let split : drop i gs ≡ g ∷ rest = drop_more gs i g low ∙ ap (λ (x : GroupFiles). x ∷ rest) (sym same) in
    let parts : flat_map group_mentions gs ≡ flat_map group_mentions (take i gs) ++ (group_mentions g ++ flat_map group_mentions rest) =
    ap (flat_map group_mentions) (sym (take-append-drop i gs)) ∙ flat_map-append group_mentions (take i gs) (drop i gs) ∙ ap (λ (u : List GroupFiles). flat_map group_mentions (take i gs) ++ flat_map group_mentions u) split in
    let m = found_name is_too_long (group_mentions g) (find is_too_long (group_mentions g)) name refl here in
    let found : find is_too_long (flat_map group_mentions gs) ≡ Some m.0 =
    ap (find is_too_long) parts ∙ find-behind is_too_long (flat_map group_mentions (take i gs)) (group_mentions g ++ flat_map group_mentions rest) before ∙ find-front is_too_long (group_mentions g) (flat_map group_mentions rest) m.0 m.1 in
    rw (found, m.2) refl

pub all_short : (gs : List GroupFiles) (i : ℕ) → length gs ≤ i → find is_too_long (flat_map group_mentions (take i gs)) ≡ None → first_too_long gs ≡ None
unfolding first_too_long
all_short gs i high none =
    let all = take_all i gs high in
    let found : find is_too_long (flat_map group_mentions gs) ≡ None = rw all at none in
    rw found refl

-- few blocks in all are few in each group
pub each_short : (gs : List GroupFiles) → length (all_blocks gs) ≤ 65536 → All IsShort gs
each_short gs few = parts_few (λ g. length (group_blocks g)) 65536 gs (omega (arith, few, length-flat_map group_blocks gs))
