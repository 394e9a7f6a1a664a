-- What is said of places is said of contents that are the same there.
use Rattle.std.specs.Prelude.{◌==◌}
use Rattle.std.proofs.Common.{◌≡◌, ℕ, ◌+◌, List, Option, Some, None, refl, ap, arith}
use Rattle.ssu_group.specs.declared.places.Place.{Place}
use Rattle.flash_kept.specs.Leaving.{SameIn}
use Rattle.flash_kept.specs.Lost.{is_lost, is_lost_as, is_untouched}
use Rattle.flash_kept.specs.Slots.{is_blank, is_free, is_marked, is_slotted}
use Rattle.flash_kept.specs.SpareArea.{SpareArea, mark_place, slot_place}
use Rattle.flash_kept.proofs.CountLaws.{all_same}
use Rattle.flash_kept.proofs.SlotLaws.{and_same}

pub blank_same : (at n : ℕ) (x y : List ℕ) → SameIn at n x y → is_blank y at n ≡ is_blank x at n
unfolding is_blank
blank_same at n x y same = all_same _ _ n (λ k lt. ap (λ (b : ℕ). b == 255) (same k lt))

pub mark_same : (area : SpareArea) (n : ℕ) (x y : List ℕ) → SameIn (mark_place area n) 2 x y → is_marked area y n ≡ is_marked area x n
unfolding is_marked
mark_same area n x y same = and_same (ap (λ (b : ℕ). b == 0) (same 0 (omega arith))) (ap (λ (b : ℕ). b == 255) (same 1 (omega arith)))

pub free_same : (area : SpareArea) (s : ℕ) (x y : List ℕ) → SameIn (slot_place area s) 4352 x y → is_free area y s ≡ is_free area x s
unfolding is_free
free_same area s x y same = blank_same (slot_place area s) 4352 x y same

lost_same : (area : SpareArea) (x y : List ℕ) (n : ℕ) (o : Option Place) → is_marked area y n ≡ is_marked area x n
    → ((p : Place) → o ≡ Some p → (is_slotted area y p ≡ is_slotted area x p) × (is_untouched area y n p ≡ is_untouched area x n p))
    → is_lost area y n o ≡ is_lost area x n o
unfolding is_lost
lost_same area x y n None marks rest = refl
lost_same area x y n (Some p) marks rest =
    let both = rest p refl in
    let slots = both.0 in
    let ranges = both.1 in
    (λ i. is_lost_as (marks i) (slots i) (ranges i))

-- where the range, the mark and all slots are the same
pub place_lost_same : (area : SpareArea) (x y : List ℕ) (n : ℕ) (o : Option Place) → SameIn (mark_place area n) 2 x y
    → ((p : Place) → o ≡ Some p → is_slotted area y p ≡ is_slotted area x p) → ((p : Place) → o ≡ Some p → SameIn (area.bank + p.at) p.len x y)
    → is_lost area y n o ≡ is_lost area x n o
place_lost_same area x y n o mark slots range =
    lost_same area x y n o (mark_same area n x y mark)
    (λ p e. (slots p e, and_same (blank_same (area.bank + p.at) p.len x y (range p e)) (blank_same (mark_place area n) 2 x y mark)))
