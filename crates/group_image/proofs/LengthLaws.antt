-- How many bytes the blocks have that fill the places of a plan.
use Rattle.std.proofs.Common.{◌≡◌, ℕ, zero, suc, ◌+◌, Bool, true, false, cond, eqb, List, [], ◌∷◌, length, Option, Some, None, refl, sym, ap, subst, ◌∙◌, arith, length-append}
use Rattle.std.specs.Prelude.{is_some, unwrap_or, IfSome}
use Rattle.std.specs.List.{find}
use Rattle.std.specs.Option.{option_or, option_and_then}
use Rattle.std.proofs.lemmas.Bool.{eqb-true}
use Rattle.route_part.proofs.Steps.{first_said-none, first_said-step}
use Rattle.dsmcc_msg.specs.Block.{DdbFields, ddb}
use Rattle.ssu_group.specs.declared.module_plan.ModulePlan.{ModulePlan}
use Rattle.ssu_group.specs.declared.places.Place.{Place}
use Rattle.ssu_group.specs.declared.group_plan.GroupPlan.{GroupPlan}
use Rattle.ssu_group.specs.Place.{place_at, IsPlace, is_module_of, block_place, place_of as place_of_block}
use Rattle.ssu_group.specs.Carried.{Fills, HaveLengths, bytes_at, brings, filling, missing_places, joined, carried_image}
use Rattle.ssu_group.proofs.MapLaws.{all_marked}
use Rattle.ssu_group.proofs.PlaceLaws.{fill_image, block_is_place}
use Rattle.group_image.proofs.ImageLaws.{place_below, placed_len, some_place}

-- ---- a block that fills a place has the bytes of that place

found_is_place : (plan : GroupPlan) (d : DdbFields) (o : Option ModulePlan) (p : Place) → find (is_module_of d) plan.modules.items ≡ o
    → option_and_then (block_place plan.block_size d) o ≡ Some p → IsPlace plan p
found_is_place plan d None p found e = absurd cc
found_is_place plan d (Some m) p found e =
    let is : IfSome (block_place plan.block_size d m) (λ (q : Place). place_at plan.block_size plan.modules.items q.number ≡ Some q) =
    block_is_place plan.block_size plan.modules.items plan.places plan.total d m plan.planned found in
    subst (λ (o : Option Place). IfSome o (λ (q : Place). place_at plan.block_size plan.modules.items q.number ≡ Some q)) e is

-- the place that a block fills is one of the plan
pub placed_is_place : (plan : GroupPlan) (d : DdbFields) (p : Place) → place_of_block plan d ≡ Some p → IsPlace plan p
unfolding place_of_block
placed_is_place plan d p e = by_test (eqb d.download plan.download) e
  where
    by_test : (same : Bool) → cond same (option_and_then (block_place plan.block_size d) (find (is_module_of d) plan.modules.items)) None ≡ Some p → IsPlace plan p
    by_test true f = found_is_place plan d (find (is_module_of d) plan.modules.items) p refl f
    by_test false f = absurd cc

same_place : (p q : Place) → Some p ≡ Some q → p ≡ q
same_place p q e = cc

-- bytes that stand for a place have its length
abbrev pub HasLength : GroupPlan → ℕ → Option (List ℕ) → Type 0
HasLength plan n o = (p : Place) (b : List ℕ) → place_at plan.block_size plan.modules.items n ≡ Some p → o ≡ Some b → length b ≡ p.len

pub brought_len : (plan : GroupPlan) (n : ℕ) (section : List ℕ) → HasLength plan n (brings plan n section)
unfolding brings
brought_len plan n section = by_block (ddb.of section)
  where
    by_number : (d : DdbFields) (q : Place) (same : Bool) → eqb q.number n ≡ same → place_of_block plan d ≡ Some q → HasLength plan n (cond same (Some d.bytes) None)
    by_number d q true e placed = λ p b at some.
        let number : q.number ≡ n = eqb-true q.number n e in
        let is : q ≡ p = same_place q p (sym (placed_is_place plan d q placed) ∙ ap (place_at plan.block_size plan.modules.items) number ∙ at) in
        let bytes : d.bytes ≡ b = cc in
        subst (λ (xs : List ℕ). length xs ≡ p.len) bytes (subst (λ (x : Place). length d.bytes ≡ x.len) is (placed_len plan d q placed))
    by_number d q false e placed = λ p b at some. absurd cc

    by_place : (d : DdbFields) (o : Option Place) → place_of_block plan d ≡ o → HasLength plan n (option_and_then (bytes_at n d) o)
    by_place d None placed = λ p b at some. absurd cc
    by_place d (Some q) placed = by_number d q (eqb q.number n) refl placed

    by_block : (o : Option DdbFields) → HasLength plan n (option_and_then (λ d. option_and_then (bytes_at n d) (place_of_block plan d)) o)
    by_block None = λ p b at some. absurd cc
    by_block (Some d) = by_place d (place_of_block plan d) refl

pub either_len : (plan : GroupPlan) (n : ℕ) (a b : Option (List ℕ)) → HasLength plan n a → HasLength plan n b → HasLength plan n (option_or a b)
either_len plan n None b p q = q
either_len plan n (Some x) b p q = p

-- what fills a place has its length
pub filling_len : (plan : GroupPlan) (window : List (List ℕ)) (n : ℕ) → HasLength plan n (filling plan window n)
unfolding filling
filling_len plan [] n = λ p b at some. let none = first_said-none (brings plan n) in absurd cc
filling_len plan (section ∷ window) n =
    subst (HasLength plan n) (sym (first_said-step (brings plan n) section window))
    (either_len plan n (filling plan window n) (brings plan n section) (filling_len plan window n) (brought_len plan n section))

-- ---- texts that have the bytes of the places, joined

abbrev Measures : GroupPlan → (ℕ → List ℕ) → Type 0
Measures plan text = (n : ℕ) (p : Place) → place_at plan.block_size plan.modules.items n ≡ Some p → length (text n) ≡ p.len

value_of : (o : Option Place) → is_some o ≡ true → (p : Place) × (o ≡ Some p)
value_of None h = absurd cc
value_of (Some p) h = (p, refl)

joined_len_before : (plan : GroupPlan) (text : ℕ → List ℕ) → Measures plan text → (n : ℕ) (p : Place) → place_at plan.block_size plan.modules.items n ≡ Some p
    → length (joined text n) ≡ p.at
unfolding joined
joined_len_before plan text is zero p e = sym ((fill_image plan.block_size plan.modules.items plan.places plan.total plan.planned).begins p e)
joined_len_before plan text is (suc n) p e =
    let f = fill_image plan.block_size plan.modules.items plan.places plan.total plan.planned in
    let below = place_below plan (suc n) p e in
    let before = value_of (place_at plan.block_size plan.modules.items n) (f.there n (omega (arith, below))) in
    let number : suc n ≡ n + 1 = omega arith in
    let step : p.at ≡ before.0.at + before.0.len = f.goes_on n before.0 p before.1 (subst (λ (i : ℕ). place_at plan.block_size plan.modules.items i ≡ Some p) number e) in
    let front = joined_len_before plan text is n before.0 before.1 in
    let own = is n before.0 before.1 in
    omega (arith, length-append (joined text n) (text n), step, front, own)

joined_len : (plan : GroupPlan) (text : ℕ → List ℕ) → Measures plan text → length (joined text plan.places) ≡ plan.total
unfolding joined
joined_len plan text is = by_count plan.places refl
  where
    by_count : (n : ℕ) → plan.places ≡ n → length (joined text n) ≡ plan.total
    by_count zero e = let some = some_place plan in absurd (omega (arith, some, e))
    by_count (suc n) e =
        let f = fill_image plan.block_size plan.modules.items plan.places plan.total plan.planned in
        let last = value_of (place_at plan.block_size plan.modules.items n) (f.there n (omega (arith, e))) in
        let end : last.0.at + last.0.len ≡ plan.total = f.ends n last.0 last.1 (omega (arith, e)) in
        let front = joined_len_before plan text is n last.0 last.1 in
        let own = is n last.0 last.1 in
        omega (arith, length-append (joined text n) (text n), end, front, own)

value_of_bytes : (o : Option (List ℕ)) → is_some o ≡ true → (b : List ℕ) × (o ≡ Some b)
value_of_bytes None h = absurd cc
value_of_bytes (Some b) h = (b, refl)

-- an image that is carried whole has the bytes of the plan
pub carried_len : (plan : GroupPlan) (fills : Fills) → HaveLengths plan fills → missing_places plan fills ≡ 0 → length (carried_image plan fills) ≡ plan.total
carried_len plan fills long filled = joined_len plan (λ (n : ℕ). unwrap_or (fills n) []) (λ n p at.
    let some = value_of_bytes (fills n) (all_marked (λ (k : ℕ). is_some (fills k)) plan.places filled n (place_below plan n p at)) in
    ap (λ (o : Option (List ℕ)). length (unwrap_or o [])) some.1 ∙ long n p some.0 at some.1)
