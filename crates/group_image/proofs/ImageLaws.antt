-- Where the places of a plan lie in the bytes of an image, and what the bytes of one leave of the others.
use Rattle.std.proofs.Common.{◌≡◌, ◌≢◌, ℕ, zero, suc, ◌+◌, ◌-◌, ◌*◌, ◌<◌, ◌≤◌, Bool, true, false, ◌&&◌, not, cond, eqb, ltb, List, [], ◌∷◌, ◌++◌, length, take, drop, Option, Some, None, ◌⊎◌, inl, inr, refl, sym, ap, subst, ◌∙◌, arith, rules}
use Rattle.std.specs.Prelude.{IsSome, sum_by}
use Rattle.std.specs.Int.{div_ceil}
use Rattle.std.proofs.lemmas.Bool.{eqb-true, eq-eqb, ltb-true, ltb-false}
use Rattle.std.proofs.lemmas.List.{same_lists, places as list_places}
use Rattle.ssu_group.specs.declared.module_plan.ModulePlan.{ModulePlan}
use Rattle.ssu_group.specs.declared.places.Place.{Place}
use Rattle.ssu_group.specs.declared.group_plan.GroupPlan.{GroupPlan}
use Rattle.ssu_group.specs.Plan.{are_joined, size_of, block_count}
use Rattle.std.specs.List.{find}
use Rattle.std.specs.Option.{option_and_then}
use Rattle.std.proofs.lemmas.Bool.{and_parts}
use Rattle.dsmcc_msg.specs.Block.{DdbFields}
use Rattle.ssu_group.specs.Place.{place_at, IsPlace, FillImage, block_length, is_module_of, has_block, block_place, place_in, place_of as place_of_block}
use Rattle.ssu_group.specs.Carried.{joined}
use Rattle.ssu_group.proofs.PlaceLaws.{fill_image, begin_joined, blocks_reach}
use Rattle.group_image.specs.Image.{Collected, is_there, image_of, bytes_of, bytes_at, IsFor}

-- ---- the places of a plan

abbrev place_of : GroupPlan → ℕ → Option Place
place_of plan number = place_at plan.block_size plan.modules.items number

filled : (plan : GroupPlan) → FillImage plan.block_size plan.modules.items plan.places plan.total
filled plan = fill_image plan.block_size plan.modules.items plan.places plan.total plan.planned

value_of : (o : Option Place) → IsSome o → (p : Place) × (o ≡ Some p)
value_of None h = absurd cc
value_of (Some p) h = (p, refl)

same_place : (p q : Place) → Some p ≡ Some q → p ≡ q
same_place p q e = cc

-- a number with a place is below the number of places
pub place_below : (plan : GroupPlan) (n : ℕ) (p : Place) → place_of plan n ≡ Some p → n < plan.places
place_below plan n p e = by_test (ltb n plan.places) refl
  where
    by_test : (is : Bool) → ltb n plan.places ≡ is → n < plan.places
    by_test true below = ltb-true n plan.places below
    by_test false past = let none : place_of plan n ≡ None = (filled plan).no_more n (ltb-false n plan.places past) in absurd cc

ends_below : (plan : GroupPlan) (k n : ℕ) (p : Place) → n + suc k ≡ plan.places → place_of plan n ≡ Some p → p.at + p.len ≤ plan.total
ends_below plan zero n p last e = let end = (filled plan).ends n p e (omega arith) in omega (arith, end)
ends_below plan (suc k) n p more e =
    let next = value_of (place_of plan (n + 1)) ((filled plan).there (n + 1) (omega arith)) in
    let step : next.0.at ≡ p.at + p.len = (filled plan).goes_on n p next.0 e next.1 in
    let end : next.0.at + next.0.len ≤ plan.total = ends_below plan k (n + 1) next.0 (omega arith) next.1 in
    omega (arith, step, end)

-- a place ends inside the image
pub place_inside : (plan : GroupPlan) (p : Place) → IsPlace plan p → p.at + p.len ≤ plan.total
place_inside plan p e =
    let below = place_below plan p.number p e in
    ends_below plan (plan.places - suc p.number) p.number p (omega (arith, below)) e

-- of two places the first ends before the second begins
pub places_apart : (plan : GroupPlan) (k n : ℕ) (p q : Place) → place_of plan n ≡ Some p → place_of plan (n + suc k) ≡ Some q → p.at + p.len ≤ q.at
places_apart plan zero n p q e f =
    let step : q.at ≡ p.at + p.len = (filled plan).goes_on n p q e f in
    omega (arith, step)
places_apart plan (suc k) n p q e f =
    let below = place_below plan (n + suc (suc k)) q f in
    let next = value_of (place_of plan (n + 1)) ((filled plan).there (n + 1) (omega (arith, below))) in
    let step : next.0.at ≡ p.at + p.len = (filled plan).goes_on n p next.0 e next.1 in
    let number : n + suc (suc k) ≡ (n + 1) + suc k = omega arith in
    let end : next.0.at + next.0.len ≤ q.at = places_apart plan k (n + 1) next.0 q next.1 (subst (λ (i : ℕ). place_of plan i ≡ Some q) number f) in
    omega (arith, step, end)

-- a plan has no more places than bytes
places_few : (plan : GroupPlan) (n : ℕ) (p : Place) → place_of plan n ≡ Some p → n < p.at + p.len
places_few plan zero p e = let some = (filled plan).not_empty 0 p e in omega (arith, some.0)
places_few plan (suc n) p e =
    let below = place_below plan (suc n) p e in
    let before = value_of (place_of plan n) ((filled plan).there n (omega (arith, below))) in
    let number : suc n ≡ n + 1 = omega arith in
    let step : p.at ≡ before.0.at + before.0.len = (filled plan).goes_on n before.0 p before.1 (subst (λ (i : ℕ). place_of plan i ≡ Some p) number e) in
    let some = (filled plan).not_empty (suc n) p e in
    let few : n < before.0.at + before.0.len = places_few plan n before.0 before.1 in
    omega (arith, step, some.0, few)

pub places-le-total : (plan : GroupPlan) → plan.places ≤ plan.total
places-le-total plan = by_count plan.places refl
  where
    by_count : (n : ℕ) → plan.places ≡ n → plan.places ≤ plan.total
    by_count zero e = omega (arith, e)
    by_count (suc n) e =
        let last = value_of (place_of plan n) ((filled plan).there n (omega (arith, e))) in
        let few : n < last.0.at + last.0.len = places_few plan n last.0 last.1 in
        let end = (filled plan).ends n last.0 last.1 (omega (arith, e)) in
        omega (arith, few, end, e)

-- no blocks have no bytes
no_bytes : (b at first : ℕ) (ms : List ModulePlan) → 0 < b → are_joined b at first ms ≡ true → sum_by block_count ms ≡ 0 → sum_by size_of ms ≡ 0
no_bytes b at first [] some joined none = refl
no_bytes b at first (m ∷ ms) some joined none =
    let s = begin_joined b at first m ms joined in
    let bytes = s.bytes in
    let blocks = s.blocks in
    let count : m.blocks ≡ 0 = omega arith in
    let reach : m.size ≤ (div_ceil m.size b) * b = blocks_reach b m.size some in
    let none_up : div_ceil m.size b ≡ 0 = sym s.count ∙ count in
    let empty : m.size ≤ 0 * b = subst (λ (c : ℕ). m.size ≤ c * b) none_up reach in
    let others = no_bytes b (at + m.size) (first + m.blocks) ms some s.others (omega arith) in
    omega (arith, empty)

pub some_place : (plan : GroupPlan) → 1 ≤ plan.places
some_place plan = by_count plan.places refl
  where
    by_count : (n : ℕ) → plan.places ≡ n → 1 ≤ plan.places
    by_count (suc n) e = omega (arith, e)
    by_count zero e =
        let is = plan.planned in
        let least = is.least in
        let all_places = is.all_places in
        let all_bytes = is.all_bytes in
        let some = is.some in
        let none = no_bytes plan.block_size 0 0 plan.modules.items (omega arith) is.joined (omega arith) in
        absurd (omega (arith, none))

-- ---- bytes that are written

abbrev written : List ℕ → ℕ → List ℕ → List ℕ
written buffer at bytes = take at buffer ++ bytes ++ drop (at + length bytes) buffer

length-written : (buffer bytes : List ℕ) (at : ℕ) → at + length bytes ≤ length buffer → length (written buffer at bytes) ≡ length buffer
length-written buffer bytes at inside = search (rules, list_places)

written_own : (buffer bytes : List ℕ) (at : ℕ) → at + length bytes ≤ length buffer → take (length bytes) (drop at (written buffer at bytes)) ≡ bytes
written_own buffer bytes at inside = same_lists _ _ (search (rules, list_places)) (λ k d h. grind (arith, list_places))

written_before : (buffer bytes : List ℕ) (at a n : ℕ) → at + length bytes ≤ length buffer → a + n ≤ at → take n (drop a (written buffer at bytes)) ≡ take n (drop a buffer)
written_before buffer bytes at a n inside before = same_lists _ _ (search (rules, list_places)) (λ k d h. grind (arith, list_places))

written_behind : (buffer bytes : List ℕ) (at a n : ℕ) → at + length bytes ≤ length buffer → at + length bytes ≤ a → take n (drop a (written buffer at bytes)) ≡ take n (drop a buffer)
written_behind buffer bytes at a n inside behind = same_lists _ _ (search (rules, list_places)) (λ k d h. grind (arith, list_places))

lt_or_le : (a b : ℕ) → (a < b) ⊎ (b ≤ a)
lt_or_le a b = by_test (ltb a b) refl
  where
    by_test : (is : Bool) → ltb a b ≡ is → (a < b) ⊎ (b ≤ a)
    by_test true e = inl (ltb-true a b e)
    by_test false e = inr (ltb-false a b e)

-- ---- what an offer leaves

-- of the place itself
own_bytes : (plan : GroupPlan) (buffer bytes : List ℕ) (p : Place) → IsPlace plan p → length bytes ≡ p.len → p.at + length bytes ≤ length buffer
    → bytes_of (written buffer p.at bytes) (place_of plan p.number) ≡ bytes
own_bytes plan buffer bytes p e long inside =
    ap (bytes_of (written buffer p.at bytes)) e
    ∙ ap (λ (n : ℕ). take n (drop p.at (written buffer p.at bytes))) (sym long)
    ∙ written_own buffer bytes p.at inside

apart_of : (plan : GroupPlan) (p q : Place) (number : ℕ) → IsPlace plan p → place_of plan number ≡ Some q → number ≢ p.number → (p.at + p.len ≤ q.at) ⊎ (q.at + q.len ≤ p.at)
apart_of plan p q number e f other = elim (lt_or_le p.number number) [
  | inl below ↦
      let count : p.number + suc (number - suc p.number) ≡ number = omega arith in
      inl (places_apart plan (number - suc p.number) p.number p q e (subst (λ (i : ℕ). place_of plan i ≡ Some q) (sym count) f))
  | inr past ↦
      let below : number < p.number = omega (arith, other) in
      let count : number + suc (p.number - suc number) ≡ p.number = omega arith in
      inr (places_apart plan (p.number - suc number) number q p f (subst (λ (i : ℕ). place_of plan i ≡ Some p) (sym count) e))
]

-- of another place
other_bytes : (plan : GroupPlan) (buffer bytes : List ℕ) (p : Place) (number : ℕ) → IsPlace plan p → length bytes ≡ p.len → p.at + length bytes ≤ length buffer → number ≢ p.number
    → bytes_of (written buffer p.at bytes) (place_of plan number) ≡ bytes_of buffer (place_of plan number)
other_bytes plan buffer bytes p number e long inside other = by_place (place_of plan number) refl
  where
    by_place : (o : Option Place) → place_of plan number ≡ o → bytes_of (written buffer p.at bytes) o ≡ bytes_of buffer o
    by_place None f = refl
    by_place (Some q) f = elim (apart_of plan p q number e f other) [
      | inl behind ↦ written_behind buffer bytes p.at q.at q.len inside (omega (arith, behind, long))
      | inr before ↦ written_before buffer bytes p.at q.at q.len inside before
    ]

abbrev pub IsOffered : GroupPlan → Collected → Place → List ℕ → ℕ → Collected → Type 0
IsOffered plan old p bytes number new =
    bytes_at plan new number ≡ cond (eqb number p.number && not (is_there old number)) bytes (bytes_at plan old number)

-- a place that is there already keeps its bytes
pub offered_again : (plan : GroupPlan) (image : Collected) (p : Place) (bytes : List ℕ) (number : ℕ) → is_there image p.number ≡ true
    → IsOffered plan image p bytes number image
offered_again plan image p bytes number there = by_test (eqb number p.number) refl
  where
    by_test : (same : Bool) → eqb number p.number ≡ same → bytes_at plan image number ≡ cond (same && not (is_there image number)) bytes (bytes_at plan image number)
    by_test true e = rw (ap (is_there image) (eqb-true number p.number e) ∙ there) refl
    by_test false e = refl

-- a place that was missing has these bytes, and the others keep theirs
pub offered : (plan : GroupPlan) (old new : Collected) (p : Place) (bytes : List ℕ) (number : ℕ) → IsPlace plan p → length bytes ≡ p.len → p.at + length bytes ≤ length old.buffer
    → is_there old p.number ≡ false → new.buffer ≡ written old.buffer p.at bytes → IsOffered plan old p bytes number new
unfolding bytes_at
offered plan old new p bytes number e long inside missing is = by_test (eqb number p.number) refl
  where
    by_test : (same : Bool) → eqb number p.number ≡ same
        → bytes_of new.buffer (place_of plan number) ≡ cond (same && not (is_there old number)) bytes (bytes_of old.buffer (place_of plan number))
    by_test true f =
        let number_is : number ≡ p.number = eqb-true number p.number f in
        let free : is_there old number ≡ false = ap (is_there old) number_is ∙ missing in
        rw free (ap (λ (xs : List ℕ). bytes_of xs (place_of plan number)) is
        ∙ ap (λ (i : ℕ). bytes_of (written old.buffer p.at bytes) (place_of plan i)) number_is
        ∙ own_bytes plan old.buffer bytes p e long inside)
    by_test false f =
        let other : number ≢ p.number = λ same. let yes : eqb number p.number ≡ true = eq-eqb number p.number same in cc in
        ap (λ (xs : List ℕ). bytes_of xs (place_of plan number)) is ∙ other_bytes plan old.buffer bytes p number e long inside other

-- ---- the places joined

take-add : (a n : ℕ) (xs : List ℕ) → take a xs ++ take n (drop a xs) ≡ take (a + n) xs
take-add a n xs = same_lists _ _ (search (rules, list_places)) (λ k d h. grind (arith, list_places))

abbrev Reads : GroupPlan → List ℕ → (ℕ → List ℕ) → Type 0
Reads plan buffer text = (number : ℕ) → number < plan.places → bytes_of buffer (place_of plan number) ≡ text number

joined_before : (plan : GroupPlan) (buffer : List ℕ) (text : ℕ → List ℕ) → Reads plan buffer text → (n : ℕ) (p : Place) → place_of plan n ≡ Some p
    → joined text n ≡ take p.at buffer
unfolding joined
joined_before plan buffer text reads zero p e = ap (λ (a : ℕ). take a buffer) (sym ((filled plan).begins p e))
joined_before plan buffer text reads (suc n) p e =
    let below = place_below plan (suc n) p e in
    let before = value_of (place_of plan n) ((filled plan).there n (omega (arith, below))) in
    let number : suc n ≡ n + 1 = omega arith in
    let step : p.at ≡ before.0.at + before.0.len = (filled plan).goes_on n before.0 p before.1 (subst (λ (i : ℕ). place_of plan i ≡ Some p) number e) in
    let last : take before.0.len (drop before.0.at buffer) ≡ text n = ap (bytes_of buffer) (sym before.1) ∙ reads n (omega (arith, below)) in
    ap (λ (xs : List ℕ). xs ++ text n) (joined_before plan buffer text reads n before.0 before.1)
    ∙ ap (λ (xs : List ℕ). take before.0.at buffer ++ xs) (sym last)
    ∙ take-add before.0.at before.0.len buffer
    ∙ ap (λ (a : ℕ). take a buffer) (sym step)

joined_to : (plan : GroupPlan) (buffer : List ℕ) (text : ℕ → List ℕ) → Reads plan buffer text → (n : ℕ) → plan.places ≡ suc n
    → joined text (suc n) ≡ take plan.total buffer
unfolding joined
joined_to plan buffer text reads n count =
    let last = value_of (place_of plan n) ((filled plan).there n (omega (arith, count))) in
    let own : take last.0.len (drop last.0.at buffer) ≡ text n = ap (bytes_of buffer) (sym last.1) ∙ reads n (omega (arith, count)) in
    let end : last.0.at + last.0.len ≡ plan.total = (filled plan).ends n last.0 last.1 (omega (arith, count)) in
    ap (λ (xs : List ℕ). xs ++ text n) (joined_before plan buffer text reads n last.0 last.1)
    ∙ ap (λ (xs : List ℕ). take last.0.at buffer ++ xs) (sym own)
    ∙ take-add last.0.at last.0.len buffer
    ∙ ap (λ (a : ℕ). take a buffer) end

-- the places of a plan, joined, are the image
pub joined_image : (plan : GroupPlan) (image : Collected) (text : ℕ → List ℕ) → IsFor plan image
    → ((number : ℕ) → number < plan.places → bytes_at plan image number ≡ text number) → joined text plan.places ≡ image_of image
unfolding bytes_at
joined_image plan image text is reads = by_count plan.places refl
  where
    by_count : (n : ℕ) → plan.places ≡ n → joined text n ≡ take image.total image.buffer
    by_count zero e = let some = some_place plan in absurd (omega (arith, some, e))
    by_count (suc n) e = joined_to plan image.buffer text reads n e ∙ ap (λ (a : ℕ). take a image.buffer) (sym is.total)

-- ---- the block that fills a place

block_len : (b : ℕ) (d : DdbFields) (o : Option ModulePlan) (p : Place) → option_and_then (block_place b d) o ≡ Some p → length d.bytes ≡ p.len
block_len b d None p e = absurd cc
block_len b d (Some m) p e = by_test (has_block b d m) refl e
  where
    by_test : (has : Bool) → has_block b d m ≡ has → cond has (Some (place_in b m d.block)) None ≡ Some p → length d.bytes ≡ p.len
    by_test true is f =
        let long : length d.bytes ≡ block_length b m.size d.block =
        eqb-true (length d.bytes) (block_length b m.size d.block) (and_parts (ltb d.block m.blocks) (eqb (length d.bytes) (block_length b m.size d.block)) is).1 in
        long ∙ ap (λ (x : Place). x.len) (same_place (place_in b m d.block) p f)
    by_test false is f = absurd cc

-- a block has as many bytes as the place that it fills
pub placed_len : (plan : GroupPlan) (d : DdbFields) (p : Place) → place_of_block plan d ≡ Some p → length d.bytes ≡ p.len
unfolding place_of_block
placed_len plan d p e = by_test (eqb d.download plan.download) e
  where
    by_test : (same : Bool) → cond same (option_and_then (block_place plan.block_size d) (find (is_module_of d) plan.modules.items)) None ≡ Some p → length d.bytes ≡ p.len
    by_test true f = block_len plan.block_size d (find (is_module_of d) plan.modules.items) p f
    by_test false f = absurd cc
