-- How the group of a usable DII lies in a bank, and where a bank of layout 2 and its journal lie.
use Rattle.std.proofs.Common.{◌≡◌, ◌≢◌, ◌⊎◌, inl, inr, ℕ, zero, suc, ◌+◌, ◌-◌, ◌<◌, ◌≤◌, List, Option, Some, None, refl, subst, arith}
use Rattle.std.specs.Prelude.{IsSome, sum_by}
use Rattle.std.proofs.lemmas.Bool.{cases_lt}
use Rattle.dsmcc_msg.specs.Control.{DiiFields, ModuleFields}
use Rattle.flash_layout.specs.Layout.{Geometry, HasJournals, IsInLimits}
use Rattle.flash_layout.proofs.Places.{area_is, area_within, marks_before_slots, slots_before_end}
use Rattle.ssu_group.specs.Plan.{block_count, laid_out, size_of}
use Rattle.ssu_group.specs.Place.{place_at}
use Rattle.ssu_group.specs.Refusal.{refusal}
use Rattle.ssu_group.specs.declared.places.Place.{Place}
use Rattle.ssu_group.proofs.LayoutLaws.{laid_bytes, laid_joined, not_refused}
use Rattle.ssu_group.proofs.PlaceLaws.{Lie, lie}
use Rattle.flash_kept.specs.Held.{HasHeldMessage}
use Rattle.flash_kept.specs.Leaving.{PlacesLie}
use Rattle.flash_kept.specs.Places.{place_count}
use Rattle.flash_kept.specs.SpareArea.{IsInOrder, SpareArea, spare_area}

-- the areas of a flash are in order
pub in_order : (g : Geometry) (k number : ℕ) → IsInLimits g → HasJournals g → k < 2 → IsInOrder (spare_area g k number)
in_order g k number limits room lt =
    let marks = marks_before_slots g limits in let ends = slots_before_end g limits in
    let all = area_is g limits room in let within = area_within g limits k lt in let most = limits.most_bytes in
    record {
      behind = omega arith;
      marks = marks;
      ends = ends;
      addressable = omega (arith, all, within, most);
    }

value_of : {A : Type 0} (o : Option A) → IsSome o → (a : A) × (o ≡ Some a)
value_of None some = absurd cc
value_of (Some a) some = (a, refl)

none_some : {A : Type 0} {B : Type 0} (o : Option A) (a : A) → o ≡ Some a → o ≡ None → B
none_some o a e f = absurd cc

module _ (b : ℕ) (ms : List ModuleFields) (l : Lie b 0 0 (laid_out b 0 0 ms)) where
  below : (n : ℕ) (p : Place) → place_at b (laid_out b 0 0 ms) n ≡ Some p → n < sum_by block_count (laid_out b 0 0 ms)
  below n p e = by_order (cases_lt n (sum_by block_count (laid_out b 0 0 ms)))
    where
      by_order : (n < sum_by block_count (laid_out b 0 0 ms)) ⊎ (sum_by block_count (laid_out b 0 0 ms) ≤ n) → n < sum_by block_count (laid_out b 0 0 ms)
      by_order (inl lt) = lt
      by_order (inr past) = none_some (place_at b (laid_out b 0 0 ms) n) p e (l.no_more n (omega (arith, past)))

  ends_below : (k n : ℕ) (p : Place) → n + suc k ≡ sum_by block_count (laid_out b 0 0 ms) → place_at b (laid_out b 0 0 ms) n ≡ Some p → p.at + p.len ≤ sum_by size_of (laid_out b 0 0 ms)
  ends_below zero n p count e = let last = l.ends n p (omega arith) e (omega (arith, count)) in omega (arith, last)
  ends_below (suc k) n p count e =
      let next = value_of (place_at b (laid_out b 0 0 ms) (n + 1)) (l.there (n + 1) (omega arith) (omega (arith, count))) in
      let step = l.goes_on n p next.0 (omega arith) e next.1 in
      let rest = ends_below k (n + 1) next.0 (omega (arith, count)) next.1 in
      omega (arith, step, rest)

  inside : (n : ℕ) (p : Place) → place_at b (laid_out b 0 0 ms) n ≡ Some p → p.at + p.len ≤ sum_by size_of (laid_out b 0 0 ms)
  inside n p e = let lt = below n p e in ends_below (sum_by block_count (laid_out b 0 0 ms) - suc n) n p (omega (arith, lt)) e

  before : (k n : ℕ) (p q : Place) → place_at b (laid_out b 0 0 ms) n ≡ Some p → place_at b (laid_out b 0 0 ms) (n + suc k) ≡ Some q → p.at + p.len ≤ q.at
  before zero n p q e f = let step = l.goes_on n p q (omega arith) e f in omega (arith, step)
  before (suc k) n p q e f =
      let lt = below (n + suc (suc k)) q f in
      let next = value_of (place_at b (laid_out b 0 0 ms) (n + 1)) (l.there (n + 1) (omega arith) (omega (arith, lt))) in
      let step = l.goes_on n p next.0 (omega arith) e next.1 in
      let number : n + suc (suc k) ≡ n + 1 + suc k = omega arith in
      let rest = before k (n + 1) next.0 q next.1 (subst (λ (i : ℕ). place_at b (laid_out b 0 0 ms) i ≡ Some q) number f) in
      omega (arith, step, rest)

  apart : (n m : ℕ) (p q : Place) → place_at b (laid_out b 0 0 ms) n ≡ Some p → place_at b (laid_out b 0 0 ms) m ≡ Some q → n ≢ m → (p.at + p.len ≤ q.at) ⊎ (q.at + q.len ≤ p.at)
  apart n m p q e f other = by_order (cases_lt n m) (cases_lt m n)
    where
      by_order : (n < m) ⊎ (m ≤ n) → (m < n) ⊎ (n ≤ m) → (p.at + p.len ≤ q.at) ⊎ (q.at + q.len ≤ p.at)
      by_order (inl lt) _ =
          let number : m ≡ n + suc (m - suc n) = omega (arith, lt) in
          inl (before (m - suc n) n p q e (subst (λ (i : ℕ). place_at b (laid_out b 0 0 ms) i ≡ Some q) number f))
      by_order (inr le) (inl gt) =
          let number : n ≡ m + suc (n - suc m) = omega (arith, gt) in
          inr (before (n - suc m) m q p f (subst (λ (i : ℕ). place_at b (laid_out b 0 0 ms) i ≡ Some p) number e))
      by_order (inr le) (inr ge) = absurd (other (let same : n ≡ m = omega (arith, le, ge) in same))

pub places_lie : (area : SpareArea) (dii : DiiFields) → IsInOrder area → refusal dii area.bank_len ≡ None → place_count dii ≤ area.marks → PlacesLie area dii
places_lie area dii order usable few =
    let is = not_refused dii area.bank_len usable in
    let l = lie dii.block_size 0 0 (laid_out dii.block_size 0 0 dii.modules) is.least (laid_joined dii.block_size 0 0 dii.modules) in
    let bytes = laid_bytes dii.block_size 0 0 dii.modules in
    let fits = is.fits in
    let most = is.most in
    record {
      order = order;
      below = below dii.block_size dii.modules l;
      inside = λ n p e. let end = inside dii.block_size dii.modules l n p e in omega (arith, end, bytes, fits);
      not_empty = λ n p e. let size = l.not_empty n p (omega arith) e in (size.0, (let le = size.1 in omega (arith, le, most)));
      apart = apart dii.block_size dii.modules l;
      few = few;
    }

-- the group of a message that is held lies in the bank
pub held_lie : (area : SpareArea) (c message : List ℕ) (dii : DiiFields) → IsInOrder area → HasHeldMessage area c message dii → PlacesLie area dii
held_lie area c message dii order held = places_lie area dii order held.usable held.few
