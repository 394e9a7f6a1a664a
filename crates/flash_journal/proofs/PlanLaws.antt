-- The places of a plan, module by module.
use Rattle.std.specs.Prelude.{sum_by}
use Rattle.std.proofs.Common.{◌≡◌, ◌⊎◌, inl, inr, ℕ, ◌+◌, ◌-◌, ◌*◌, ◌<◌, ◌≤◌, true, List, [], ◌∷◌, length, get_or, drop, Option, None, Some, refl, sym, ap, subst, ◌∙◌, arith}
use Rattle.std.proofs.lemmas.Bool.{cases_lt, le-ltb, lt-ltb}
use Rattle.std.proofs.lemmas.List.{drop_all, drop_more}
use Rattle.ssu_group.specs.Place.{block_length, place_at, place_in}
use Rattle.ssu_group.specs.Plan.{are_joined, block_count, size_of}
use Rattle.flash_stage.proofs.InBankLemmas.{own_number}
use Rattle.ssu_group.specs.declared.group_plan.GroupPlan.{GroupPlan}
use Rattle.ssu_group.specs.declared.module_plan.ModulePlan.{ModulePlan}
use Rattle.ssu_group.specs.declared.places.Place.{Place}
use Rattle.ssu_group.proofs.PlaceLaws.{Begins, begin_joined, block_begins, fill_image}

abbrev pub none : ModulePlan
none = record { id = 0; version = 0; size = 0; at = 0; first = 0; blocks = 0; crc = None }

own_place : (b : ℕ) (m : ModulePlan) (ms : List ModulePlan) (n : ℕ) → n < m.first + m.blocks → place_at b (m ∷ ms) n ≡ Some (place_in b m (n - m.first))
unfolding place_at
own_place b m ms n below = rw (lt-ltb n (m.first + m.blocks) below) refl

other_place : (b : ℕ) (m : ModulePlan) (ms : List ModulePlan) (n : ℕ) → m.first + m.blocks ≤ n → place_at b (m ∷ ms) n ≡ place_at b ms n
unfolding place_at
other_place b m ms n past = rw (le-ltb n (m.first + m.blocks) past) refl

no_place : (b n : ℕ) → place_at b [] n ≡ None
unfolding place_at
no_place b n = refl

made : (b : ℕ) (m : ModulePlan) (at first n : ℕ) (p : Place) → m.at ≡ at → m.first ≡ first → p.number ≡ first + (n - first) → p.at ≡ at + (n - first) * b
    → p.len ≡ block_length b m.size (n - first) → p ≡ place_in b m (n - m.first)
made b m at first n p begins before number offset len =
    let one : p.number ≡ m.first + (n - m.first) = number ∙ ap (λ (f : ℕ). f + (n - f)) (sym before) in
    let two : p.at ≡ m.at + (n - m.first) * b = offset ∙ ap (λ (f : ℕ). at + (n - f) * b) (sym before) ∙ ap (λ (a : ℕ). a + (n - m.first) * b) (sym begins) in
    let three : p.len ≡ block_length b m.size (n - m.first) = len ∙ ap (λ (f : ℕ). block_length b m.size (n - f)) (sym before) in
    (λ i. record { number = one i; at = two i; len = three i })

module _ (b at first : ℕ) (ms : List ModulePlan) (i : ℕ) (lt : i < length ms) (joined : are_joined b at first (drop i ms) ≡ true) where
  abbrev m : ModulePlan
  m = get_or ms i none

  abbrev rest : List ModulePlan
  rest = drop (i + 1) ms

  is : drop i ms ≡ m ∷ rest
  is = drop_more ms i none lt

  pub begins : Begins b at first m rest
  begins = begin_joined b at first m rest (subst (λ (l : List ModulePlan). are_joined b at first l ≡ true) is joined)

  pub block_inside : (n : ℕ) → 0 < b → n - first < m.blocks → (n - first) * b < m.size
  block_inside n some below = block_begins b m.size (n - first) some (subst (λ (k : ℕ). n - first < k) begins.count below)

  pub here_is : (n : ℕ) (p : Place) → first ≤ n → n - first < m.blocks → p.number ≡ first + (n - first) → p.at ≡ at + (n - first) * b
      → p.len ≡ block_length b m.size (n - first) → Some p ≡ place_at b (drop i ms) n
  here_is n p past below number offset len =
      let before : m.first ≡ first = begins.before in
      ap (λ (q : Place). Some q) (made b m at first n p begins.begins before number offset len)
      ∙ sym (own_place b m rest n (omega (arith, past, below, before)))
      ∙ sym (ap (λ (l : List ModulePlan). place_at b l n) is)

  pub later_is : (n : ℕ) → first + m.blocks ≤ n → place_at b rest n ≡ place_at b (drop i ms) n
  later_is n past =
      let before : m.first ≡ first = begins.before in
      sym (other_place b m rest n (omega (arith, past, before))) ∙ sym (ap (λ (l : List ModulePlan). place_at b l n) is)

  pub bytes_left : sum_by size_of (drop i ms) ≡ m.size + sum_by size_of rest
  bytes_left = ap (λ (l : List ModulePlan). sum_by size_of l) is ∙ begins.bytes

  pub blocks_left : sum_by block_count (drop i ms) ≡ m.blocks + sum_by block_count rest
  blocks_left = ap (λ (l : List ModulePlan). sum_by block_count l) is ∙ begins.blocks

pub nothing_left : (b n : ℕ) (ms : List ModulePlan) (i : ℕ) → length ms ≤ i → place_at b (drop i ms) n ≡ None
nothing_left b n ms i past = ap (λ (l : List ModulePlan). place_at b l n) (drop_all i ms past) ∙ no_place b n

-- ---- the places of a plan

abbrev of_plan : GroupPlan → ℕ → Option Place
of_plan plan n = place_at plan.block_size plan.modules.items n

pub own_place_of : (plan : GroupPlan) (n : ℕ) (p : Place) → of_plan plan n ≡ Some p → of_plan plan p.number ≡ Some p
own_place_of plan n p e = subst (λ (k : ℕ). of_plan plan k ≡ Some p) (sym (own_number plan n p e)) e

none_past : (plan : GroupPlan) (n : ℕ) (p : Place) → of_plan plan n ≡ Some p → of_plan plan n ≡ None → ⊥
none_past plan n p e f = let both = sym f ∙ e in absurd cc

pub below_places : (plan : GroupPlan) (n : ℕ) (p : Place) → of_plan plan n ≡ Some p → n < plan.places
below_places plan n p e = by_order (cases_lt n plan.places)
  where
    by_order : (n < plan.places) ⊎ (plan.places ≤ n) → n < plan.places
    by_order (inl lt) = lt
    by_order (inr past) = absurd (none_past plan n p e ((fill_image plan.block_size plan.modules.items plan.places plan.total plan.planned).no_more n past))
