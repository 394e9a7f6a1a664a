-- One item more, for each word of specs/Part and specs/Said, and for a value that is computed from the
-- value of a level below and the part since that one changed.
use Rattle.std.specs.Prelude.{IsTrue, IsSome, if◌then◌else◌, unwrap_or}
use Rattle.std.specs.Option.{option_or, option_and_then}
use Rattle.std.proofs.Common.{◌≡◌, Bool, true, false, List, [], ◌∷◌, Option, Some, None, refl, ◌∙◌, ap}
use Rattle.route_part.specs.Part.{since, steady}
use Rattle.route_part.specs.Said.{last_said, first_said, fixed_said, held_said, under, IsSound, Fits, next_fixed, StepsBy}

pub since-step : {X V : Type 0} (same : V → V → Bool) (value : List X → V) (item : X) (earlier : List X) →
    since same value (item ∷ earlier) ≡ (if same (value (item ∷ earlier)) (value earlier) then item ∷ since same value earlier else [])
unfolding since
since-step same value item earlier = refl

-- where the value stayed, the item joins the part
pub since-stays : {X V : Type 0} (same : V → V → Bool) (value : List X → V) (item : X) (earlier : List X) →
    same (value (item ∷ earlier)) (value earlier) ≡ true → since same value (item ∷ earlier) ≡ item ∷ since same value earlier
since-stays same value item earlier stays =
    since-step same value item earlier ∙ ap (λ b. if b then item ∷ since same value earlier else []) stays

-- where it changed, the part is empty: the item at which it changed is not in it
pub since-changes : {X V : Type 0} (same : V → V → Bool) (value : List X → V) (item : X) (earlier : List X) →
    same (value (item ∷ earlier)) (value earlier) ≡ false → since same value (item ∷ earlier) ≡ []
since-changes same value item earlier changes =
    since-step same value item earlier ∙ ap (λ b. if b then item ∷ since same value earlier else []) changes

pub steady-step : {X V : Type 0} (same : V → V → Bool) (value : List X → V) (item : X) (earlier : List X) →
    steady same value (item ∷ earlier) ≡ item ∷ (if same (value (item ∷ earlier)) (value earlier) then steady same value earlier else [])
unfolding steady
steady-step same value item earlier = refl

pub last_said-none : {X A : Type 0} (says : X → Option A) → last_said says [] ≡ None
unfolding last_said
last_said-none says = refl

pub last_said-step : {X A : Type 0} (says : X → Option A) (item : X) (earlier : List X) →
    last_said says (item ∷ earlier) ≡ option_or (says item) (last_said says earlier)
unfolding last_said
last_said-step says item earlier = refl

pub first_said-none : {X A : Type 0} (says : X → Option A) → first_said says [] ≡ None
unfolding first_said
first_said-none says = refl

pub first_said-step : {X A : Type 0} (says : X → Option A) (item : X) (earlier : List X) →
    first_said says (item ∷ earlier) ≡ option_or (first_said says earlier) (says item)
unfolding first_said
first_said-step says item earlier = refl

pub fixed_said-none : {X K A : Type 0} (fixes : X → Option K) (says : K → X → Option A) → fixed_said fixes says [] ≡ None
unfolding fixed_said first_said
fixed_said-none fixes says = refl

or_first : {A : Type 0} (a b : Option A) → IsSome a → IsSome (option_or a b)
or_first None b h = cc
or_first (Some x) b h = refl

or_second : {A : Type 0} (a b : Option A) → IsSome b → IsSome (option_or a b)
or_second None b h = h
or_second (Some x) b h = refl

-- the key that the first item fixed has something said under it
said-fixed : {X K A : Type 0} (fixes : X → Option K) (says : K → X → Option A) → Fits fixes says →
    (part : List X) (key : K) → first_said fixes part ≡ Some key → IsSome (last_said (says key) part)
unfolding last_said first_said
said-fixed fixes says fits [] key first = cc
said-fixed fixes says fits (item ∷ earlier) key first =
    fixed_by (first_said fixes earlier) (fixes item) (says key item) (last_said (says key) earlier) key first
    (fits item key) (said-fixed fixes says fits earlier key)
  where
    fixed_by : {K A : Type 0} (before now : Option K) (said last : Option A) (key : K) → option_or before now ≡ Some key →
        (now ≡ Some key → IsSome said) → (before ≡ Some key → IsSome last) → IsSome (option_or said last)
    fixed_by None now said last key first by_now by_before = or_first said last (by_now first)
    fixed_by (Some other) now said last key first by_now by_before = or_second said last (by_before first)

or-some : {A : Type 0} (a b : Option A) → IsSome a → option_or a b ≡ a
or-some None b h = cc
or-some (Some x) b h = refl

or-unwrap : {A : Type 0} (a : Option A) (x : A) → option_or a (Some x) ≡ Some (unwrap_or a x)
or-unwrap None x = refl
or-unwrap (Some y) x = refl

-- the item fixes the key, or none does
fixes-now : {K A : Type 0} (now : Option K) (said last : K → Option A) → ((key : K) → now ≡ Some key → IsSome (said key)) →
    option_and_then (λ key. under key (option_or (said key) (last key))) now
    ≡ option_and_then (λ key. under key (said key)) now
fixes-now None said last fits = refl
fixes-now (Some key) said last fits = ap (under key) (or-some (said key) (last key) (fits key refl))

-- a key was fixed before
fixed-before : {X K A : Type 0} (fixes : X → Option K) (says : K → X → Option A) (item : X) (key : K) (last : Option A) → IsSome last →
    under key (option_or (says key item) last) ≡ next_fixed fixes says item (under key last)
fixed-before fixes says item key None h = cc
fixed-before fixes says item key (Some x) h = ap (under key) (or-unwrap (says key item) x)

fixed_by_first : {X K A : Type 0} (fixes : X → Option K) (says : K → X → Option A) (item : X) (last : K → Option A) (before : Option K) →
    ((key : K) → fixes item ≡ Some key → IsSome (says key item)) → ((key : K) → before ≡ Some key → IsSome (last key)) →
    option_and_then (λ key. under key (option_or (says key item) (last key))) (option_or before (fixes item))
    ≡ next_fixed fixes says item (option_and_then (λ key. under key (last key)) before)
fixed_by_first fixes says item last None fits said = fixes-now (fixes item) (λ key. says key item) last fits
fixed_by_first fixes says item last (Some key) fits said = fixed-before fixes says item key (last key) (said key refl)

pub fixed_said-step : {X K A : Type 0} (fixes : X → Option K) (says : K → X → Option A) → Fits fixes says →
    (item : X) (earlier : List X) → fixed_said fixes says (item ∷ earlier) ≡ next_fixed fixes says item (fixed_said fixes says earlier)
unfolding fixed_said last_said first_said
fixed_said-step fixes says fits item earlier =
    fixed_by_first fixes says item (λ key. last_said (says key) earlier) (first_said fixes earlier) (fits item)
    (said-fixed fixes says fits earlier)

pub held_said-none : {X K A : Type 0} (same : K → K → Bool) (key : List X → K) (says : K → X → Option A) → held_said same key says [] ≡ None
unfolding held_said steady last_said
held_said-none same key says = refl

pub held_said-step : {X K A : Type 0} (same : K → K → Bool) (key : List X → K) (says : K → X → Option A) → IsSound same →
    (item : X) (earlier : List X) →
    held_said same key says (item ∷ earlier) ≡ option_or (says (key (item ∷ earlier)) item) (if same (key (item ∷ earlier)) (key earlier) then held_said same key says earlier else None)
unfolding held_said steady last_said
held_said-step same key says sound item earlier =
    ap (option_or (says (key (item ∷ earlier)) item))
    (held_rest (same (key (item ∷ earlier)) (key earlier)) says (key (item ∷ earlier)) (key earlier) (steady same key earlier)
    (sound (key (item ∷ earlier)) (key earlier)))
  where
    held_rest : {X K A : Type 0} (stays : Bool) (says : K → X → Option A) (now before : K) (part : List X) → (stays ≡ true → now ≡ before) →
        last_said (says now) (if stays then part else []) ≡ (if stays then last_said (says before) part else None)
    held_rest true says now before part sound = ap (λ key. last_said (says key) part) (sound refl)
    held_rest false says now before part sound = refl

by_part_if : {X B V : Type 0} (stays : Bool) (by : B → List X → V) (next : B → X → V → V) → StepsBy by next → (now before : B) (item : X) (part : List X) →
    (stays ≡ true → by now part ≡ by before part) →
    by now (if stays then item ∷ part else []) ≡ (if stays then next now item (by before part) else by now [])
by_part_if true by next steps now before item part same = steps now item part ∙ ap (next now item) (same refl)
by_part_if false by next steps now before item part same = refl

-- The value is computed from what is below and from the part since a watched value changed. Where the watched
-- one stayed, the value has to be the same by what is below after the item as by what was below before it.
pub by_part_watching : {X W B V : Type 0} (same : W → W → Bool) (watched : List X → W) (below : List X → B)
    (by : B → List X → V) (next : B → X → V → V) → StepsBy by next → (item : X) (earlier : List X) →
    (IsTrue (same (watched (item ∷ earlier)) (watched earlier)) →
    by (below (item ∷ earlier)) (since same watched earlier) ≡ by (below earlier) (since same watched earlier)) →
    by (below (item ∷ earlier)) (since same watched (item ∷ earlier)) ≡
    (if same (watched (item ∷ earlier)) (watched earlier)
    then next (below (item ∷ earlier)) item (by (below earlier) (since same watched earlier))
    else by (below (item ∷ earlier)) [])
by_part_watching same watched below by next steps item earlier stays =
    ap (by (below (item ∷ earlier))) (since-step same watched item earlier)
    ∙ by_part_if (same (watched (item ∷ earlier)) (watched earlier)) by next steps (below (item ∷ earlier)) (below earlier) item
    (since same watched earlier) stays

-- The value is computed from the value of the level below and from the part since that one changed: one item
-- takes it to its next value where the level below stayed, and else it starts afresh.
pub by_part : {X B V : Type 0} (same : B → B → Bool) (below : List X → B) (by : B → List X → V) (next : B → X → V → V) →
    IsSound same → StepsBy by next → (item : X) (earlier : List X) →
    by (below (item ∷ earlier)) (since same below (item ∷ earlier)) ≡
    (if same (below (item ∷ earlier)) (below earlier)
    then next (below (item ∷ earlier)) item (by (below earlier) (since same below earlier))
    else by (below (item ∷ earlier)) [])
by_part same below by next sound steps item earlier =
    by_part_watching same below below by next steps item earlier
    (λ same_below. ap (λ b. by b (since same below earlier)) (sound _ _ same_below))
