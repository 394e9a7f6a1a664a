-- The whole section at the front of a text.
use Rattle.std.proofs.Common.{◌≡◌, ℕ, ◌<◌, ◌≤◌, true, false, List, [], ◌∷◌, ◌++◌, length, length-take, take, filter, refl, ap, ◌∙◌, arith, map, set, get_or, subst, zero, suc, ◌+◌, sym}
use Rattle.std.specs.List.{filter_map, All}
use Rattle.std.proofs.lemmas.List.Elements.{filter-append, filter_map-append, All-append}
use Rattle.std.proofs.lemmas.List.{get_or-take, get_or-map, length-map, map-append, take_more_set}
use Rattle.std.proofs.lemmas.Bool.{leb-true, and_parts}
use Rattle.section_form.specs.Section.{section_end, is_right, IsRightSection}
use Rattle.section_form.proofs.RightLaws.{is_right-tells, right_length}
use Rattle.ts_section.specs.Sections.{has_section, whole_section}
use Rattle.ts_section.specs.Steps.{right_of}

pub right_of-append : (xs ys : List (List ℕ)) → right_of (xs ++ ys) ≡ right_of xs ++ right_of ys
unfolding right_of
right_of-append xs ys =
    ap (filter is_right) (filter_map-append whole_section xs ys) ∙ filter-append is_right (filter_map whole_section xs) (filter_map whole_section ys)

pub right_of-nil : right_of [] ≡ []
unfolding right_of
right_of-nil = refl

pub right_of-none : (text : List ℕ) → has_section text ≡ false → right_of (text ∷ []) ≡ []
unfolding right_of
right_of-none text h = rw h refl

pub right_of-one : (text : List ℕ) → has_section text ≡ true → right_of (text ∷ []) ≡ filter is_right (take (section_end text) text ∷ [])
unfolding right_of
right_of-one text h = rw h refl

pub has_section-fits : (text : List ℕ) → has_section text ≡ true → (3 ≤ length text) × (section_end text ≤ length text)
unfolding has_section
has_section-fits text h =
    let both = and_parts _ _ h in
    (leb-true _ _ both.0, leb-true _ _ both.1)

-- the section's own front says how long it is
pub section_end-take : (text : List ℕ) (n : ℕ) → 3 ≤ n → section_end (take n text) ≡ section_end text
section_end-take text n h =
    let one : 1 < n = omega arith in
    let two : 2 < n = omega arith in
    rw (get_or-take n text 1 0, get_or-take n text 2 0) refl

-- the section of n bytes at the front of a text
pub record IsFront (text : List ℕ) (n : ℕ) : Type 0 where
  pub within : n ≤ length text
  pub three : 3 ≤ n
  pub size : length (take n text) ≡ n

pub front : (text : List ℕ) (n : ℕ) → has_section text ≡ true → n ≡ section_end text → IsFront text n
front text n h e =
    let fits = has_section-fits text h in
    let cut = length-take n text in
    record { within = omega arith; three = omega arith; size = omega arith }

pub front_right : (text : List ℕ) (n : ℕ) → has_section text ≡ true → n ≡ section_end text → is_right (take n text) ≡ true → IsRightSection (take n text)
front_right text n h e r =
    let known = front text n h e in
    let same = section_end-take text n known.three in
    (record { head = omega arith; end = omega arith }, (is_right-tells (take n text)).0 r)

pub right-front : (text : List ℕ) (n : ℕ) → has_section text ≡ true → n ≡ section_end text → is_right (take n text) ≡ true → (7 ≤ n) × (n ≤ 4096)
right-front text n h e r =
    let known = front text n h e in
    let sizes = right_length (take n text) (front_right text n h e r) in
    (omega arith, omega arith)

pub right_of-right : (text : List ℕ) (n : ℕ) → has_section text ≡ true → n ≡ section_end text → is_right (take n text) ≡ true → right_of (text ∷ []) ≡ take n text ∷ []
right_of-right text n h e r = right_of-one text h ∙ rw (← e, r) refl

pub right_of-wrong : (text : List ℕ) (n : ℕ) → has_section text ≡ true → n ≡ section_end text → is_right (take n text) ≡ false → right_of (text ∷ []) ≡ []
right_of-wrong text n h e r = right_of-one text h ∙ rw (← e, r) refl

-- ---- what is said of the text in each of the first slots

pub slot_said : {X : Type 0} (f : X → List ℕ) (P : List ℕ → Type 0) (slots : List X) (n k : ℕ) (d : X) → k < n → n ≤ length slots
    → All P (map f (take n slots)) → P (f (get_or slots k d))
slot_said f P slots n k d below room all =
    let few = length-take n slots in
    let many = length-map (take n slots) f in
    let is : get_or (map f (take n slots)) k (f d) ≡ f (get_or slots k d) =
    get_or-map f (take n slots) k d (f d) (omega (arith, few)) ∙ ap f (get_or-take n slots k d below) in
    subst P is (all k (f d) (omega (arith, few, many)))

one_said : (P : List ℕ → Type 0) (section : List ℕ) → P section → All P (section ∷ [])
one_said P section p zero d below = p
one_said P section p (suc k) d below = absurd (omega (arith, below))

pub count_said : {X : Type 0} (f : X → List ℕ) (slots : List X) (n : ℕ) → n ≤ length slots → length (map f (take n slots)) ≡ n
count_said f slots n room =
    let few = length-take n slots in
    let many = length-map (take n slots) f in
    omega (arith, few, many)

pub one_more_said : {X : Type 0} (f : X → List ℕ) (P : List ℕ → Type 0) (slots : List X) (n : ℕ) (slot : X) → n < length slots
    → All P (map f (take n slots)) → P (f slot) → All P (map f (take (n + 1) (set slots n slot)))
one_more_said f P slots n slot room all own =
    let is : map f (take (n + 1) (set slots n slot)) ≡ map f (take n slots) ++ f slot ∷ [] =
    ap (map f) (take_more_set slots n slot room) ∙ map-append f (take n slots) (slot ∷ []) in
    subst (All P) (sym is) (All-append P (map f (take n slots)) (f slot ∷ []) all (one_said P (f slot) own))
