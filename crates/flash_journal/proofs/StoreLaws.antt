-- What the store of a place leaves, call by call.
use Rattle.std.proofs.Common.{◌≡◌, inl, ℕ, ◌+◌, ◌*◌, ◌<◌, ◌≤◌, ◌⊎◌, inr, zero, suc, Bool, true, false, List, length, get_or, Option, Some, None, refl, sym, ap, subst, ◌∙◌, arith}
use Rattle.std.specs.Option.{option_or}
use Rattle.std.specs.Prelude.{if◌then◌else◌, OnOk, Result}
use Rattle.std.proofs.lemmas.Bool.{eqb-true}
use Rattle.bank_kept.proofs.AreaLaws.{area_by}
use Rattle.bank_kept.proofs.BankLaws.{spared_done, spared_head, spared_slot}
use Rattle.bank_kept.specs.Bank.{area_of_bank}
use Rattle.dsmcc_msg.specs.Control.{DiiFields}
use Rattle.flash_bank.proofs.LeavingLemmas.{filled_keeps_boot, keeps_boot_joined, marked_keeps_boot, slotted_keeps_boot}
use Rattle.flash_bank.specs.Bank.{Fits, LeavesFilled, current_of, geometry_of, len_of, spare_bank}
use Rattle.flash_bank.specs.Journal.{LeavesMarked, LeavesPut, Puts, mark_place, slot_place}
use Rattle.flash_bank.specs.Leaving.{KeepsBoot}
use Rattle.flash_bank.specs.declared.bank.Bank.{Bank}
use Rattle.flash_dev.proofs.Moments.{joined, weaker}
use Rattle.flash_dev.specs.Moments.{LeavesOnly}
use Rattle.flash_dev.specs.Changes.{Changes, IsBlank, IsProgrammed, IsTornProgram}
use Rattle.flash_kept.proofs.AreaLaws.{some_free}
use Rattle.flash_kept.proofs.Cases.{true_false}
use Rattle.flash_kept.proofs.CountLaws.{all_each, and_left, and_right, last_or}
use Rattle.flash_kept.proofs.OfferLaws.{done_marking, done_sparing, left_filling, left_marking, left_sparing}
use Rattle.flash_kept.proofs.AreaLaws.{blank_or_lost}
use Rattle.flash_kept.specs.Counts.{find_below}
use Rattle.flash_kept.specs.Lost.{is_lost, is_untouched}
use Rattle.flash_kept.specs.Offering.{IsOffered, Offers}
use Rattle.flash_kept.specs.Places.{place_of}
use Rattle.flash_kept.specs.Slots.{is_blank, is_free}
use Rattle.flash_kept.specs.SpareArea.{SpareArea}
use Rattle.flash_layout.specs.Journal.{mark_written}
use Rattle.flash_layout.specs.Layout.{Geometry, mark_count}
use Rattle.flash_layout.specs.Slots.{slot_written}
use Rattle.flash_stage.specs.Leaving.{SameBank}
use Rattle.ssu_group.specs.declared.places.Place.{Place}
use Rattle.flash_journal.specs.Storing.{LeavesStored}

-- the area of a bank that is as it was
pub area_same : (old new : Bank) → SameBank old new → area_of_bank new ≡ area_of_bank old
area_same old new same = (λ i. area_by (same.geometry i) (same.current i))

-- ---- what is blank

pub blank_true : (c : List ℕ) (at n : ℕ) → is_blank c at n ≡ true → IsBlank c at n
unfolding is_blank
blank_true c at n is k lt = eqb-true (get_or c (at + k) 0) 255 (all_each _ n is k lt)

pub range_blank : (area : SpareArea) (c : List ℕ) (n : ℕ) (p : Place) → is_untouched area c n p ≡ true → IsBlank c (area.bank + p.at) p.len
range_blank area c n p is = blank_true c (area.bank + p.at) p.len (and_left _ _ is)

pub pair_blank : (area : SpareArea) (c : List ℕ) (n : ℕ) (p : Place) → is_untouched area c n p ≡ true → IsBlank c (area.journal + 8448 + 2 * n) 2
pair_blank area c n p is = blank_true c (area.journal + 8448 + 2 * n) 2 (and_right (is_blank c (area.bank + p.at) p.len) _ is)

pub slot_blank : (area : SpareArea) (c : List ℕ) (s : ℕ) → is_free area c s ≡ true → IsBlank c (area.journal + area.slots + 4352 * s) 4352
unfolding is_free
slot_blank area c s is = blank_true c (area.journal + area.slots + 4352 * s) 4352 is

-- a place that is offered and not untouched is lost
pub offered_lost : (area : SpareArea) (dii : DiiFields) (message : List ℕ) (p : Place) (bytes c : List ℕ) → IsOffered area dii message p bytes c → is_untouched area c p.number p ≡ false
    → is_lost area c p.number (Some p) ≡ true
offered_lost area dii message p bytes c is never = pick (blank_or_lost area c p.number p is.unmarked is.unslotted)
  where
    pick : (is_untouched area c p.number p ≡ true) ⊎ (is_lost area c p.number (Some p) ≡ true) → is_lost area c p.number (Some p) ≡ true
    pick (inl same) = absurd (true_false (is_untouched area c p.number p) same never)
    pick (inr lost) = lost

-- ---- the first number of which a test holds

if_some : {A : Type 0} (b : Bool) (x y : A) → (if b then Some x else None) ≡ Some y → (b ≡ true) × (x ≡ y)
if_some true x y e = (refl, cc)
if_some false x y e = absurd cc

pub find_is : (f : ℕ → Bool) (n k : ℕ) → find_below f n ≡ Some k → (k < n) × (f k ≡ true)
unfolding find_below
find_is f zero k e = absurd cc
find_is f (suc n) k e = by_first (find_below f n) refl (find_is f n k)
  where
    by_first : (o : Option ℕ) → find_below f n ≡ o → (find_below f n ≡ Some k → (k < n) × (f k ≡ true)) → (k < suc n) × (f k ≡ true)
    by_first None is rest =
        let last : (if f n then Some n else None) ≡ Some k = ap (λ (o : Option ℕ). option_or o (if f n then Some n else None)) (sym is) ∙ e in
        let both = if_some (f n) n k last in
        ((let same = both.1 in omega (arith, same)), ap f (sym both.1) ∙ both.0)
    by_first (Some j) is rest =
        let own : find_below f n ≡ Some k = is ∙ ap (λ (o : Option ℕ). option_or o (if f n then Some n else None)) (sym is) ∙ e in
        let found = rest own in
        ((let lt = found.0 in omega (arith, lt)), found.1)

pub find_none : (f : ℕ → Bool) (n k : ℕ) → find_below f n ≡ None → k < n → f k ≡ true → ⊥
unfolding find_below
find_none f zero k e lt is = omega (arith, lt)
find_none f (suc n) k e lt is = by_first (find_below f n) refl (last_or k n lt) (λ none below. find_none f n k none below is)
  where
    by_first : (o : Option ℕ) → find_below f n ≡ o → (k < n) ⊎ (k ≡ n) → (find_below f n ≡ None → k < n → ⊥) → ⊥
    by_first (Some j) none side rest =
        let some : option_or (find_below f n) (if f n then Some n else None) ≡ Some j = ap (λ (o : Option ℕ). option_or o (if f n then Some n else None)) none in
        let both : None ≡ Some j = sym e ∙ some in cc
    by_first None none (inl below) rest = rest none below
    by_first None none (inr same) rest =
        let last : (if f n then Some n else None) ≡ None = ap (λ (o : Option ℕ). option_or o (if f n then Some n else None)) (sym none) ∙ e in
        let here : f n ≡ true = ap f (sym same) ∙ is in
        let both : Some n ≡ None = ap (λ (t : Bool). if t then Some n else None) (sym here) ∙ last in cc

-- a place that is offered finds a free slot, if it is not blank any more
pub slot_for : (area : SpareArea) (dii : DiiFields) (message : List ℕ) (p : Place) (bytes c : List ℕ) → IsOffered area dii message p bytes c → is_untouched area c p.number p ≡ false
    → find_below (is_free area c) 16 ≡ None → ⊥
slot_for area dii message p bytes c is never none =
    let lost : is_lost area c p.number (place_of dii p.number) ≡ true = ap (is_lost area c p.number) is.is_place ∙ offered_lost area dii message p bytes c is never in
    let some = some_free area c message dii p.number is.staged (is.lie.below p.number p is.is_place) lost in
    find_none (is_free area c) 16 some.0 none some.1 some.2

-- ---- after calls that only look

pub stored_moved : {T E : Type 0} (r : Result T E) (b a : SpareArea) (x z y : List ℕ) (p : Place) (bytes : List ℕ) → b ≡ a → x ≡ z
    → OnOk r ((dii : DiiFields) (message : List ℕ) → IsOffered b dii message p bytes x → Offers b dii message p.number bytes x y)
    → OnOk r ((dii : DiiFields) (message : List ℕ) → IsOffered a dii message p bytes z → Offers a dii message p.number bytes z y)
stored_moved r b a x z y p bytes area same is =
    subst (λ (s : SpareArea). OnOk r ((dii : DiiFields) (message : List ℕ) → IsOffered s dii message p bytes z → Offers s dii message p.number bytes z y)) area
    (subst (λ (c : List ℕ). OnOk r ((dii : DiiFields) (message : List ℕ) → IsOffered b dii message p bytes c → Offers b dii message p.number bytes c y)) same is)

pub offered_moved : (b a : SpareArea) (x z : List ℕ) (dii : DiiFields) (message : List ℕ) (p : Place) (bytes : List ℕ) → b ≡ a → x ≡ z → IsOffered a dii message p bytes z → IsOffered b dii message p bytes x
offered_moved b a x z dii message p bytes area same is =
    subst (λ (s : SpareArea). IsOffered s dii message p bytes x) (sym area) (subst (λ (c : List ℕ). IsOffered a dii message p bytes c) (sym same) is)

pub leaves_moved : (h g : Geometry) (b a : SpareArea) (x z y : List ℕ) (dii : DiiFields) (message : List ℕ) (p : Place) (bytes : List ℕ) → h ≡ g → b ≡ a → x ≡ z
    → LeavesStored h b dii message p.number bytes x y → LeavesStored g a dii message p.number bytes z y
leaves_moved h g b a x z y dii message p bytes geometry area same is =
    subst (λ (q : Geometry). LeavesStored q a dii message p.number bytes z y) geometry
    (subst (λ (s : SpareArea). LeavesStored h s dii message p.number bytes z y) area
    (subst (λ (c : List ℕ). LeavesStored h b dii message p.number bytes c y) same is))

-- the same tests
pub moved_free : (a b : SpareArea) (x z : List ℕ) (s : ℕ) → b ≡ a → z ≡ x → is_free a x s ≡ true → is_free b z s ≡ true
moved_free a b x z s area same is = (λ i. is_free (area i) (same i) s) ∙ is

pub moved_lost : (a b : SpareArea) (x z : List ℕ) (p : Place) → b ≡ a → z ≡ x → is_lost a x p.number (Some p) ≡ true → is_lost b z p.number (Some p) ≡ true
moved_lost a b x z p area same is = (λ i. is_lost (area i) (same i) p.number (Some p)) ∙ is

pub moved_none : (a b : SpareArea) (x z : List ℕ) → b ≡ a → z ≡ x → find_below (is_free b z) 16 ≡ None → find_below (is_free a x) 16 ≡ None
moved_none a b x z area same is = sym (λ i. find_below (is_free (area i) (same i)) 16) ∙ is

-- ---- no call

pub stored_none : (g : Geometry) (area : SpareArea) (dii : DiiFields) (message : List ℕ) (p : Place) (bytes x : List ℕ) → IsOffered area dii message p bytes x → KeepsBoot g x x
    → LeavesStored g area dii message p.number bytes x x
stored_none g area dii message p bytes x is keeps = record {
  keeps = keeps;
  offered = record {
    margin = omega arith;
    message_staged = λ some. is.staged;
    staged = λ some n b staged. staged;
    held = λ other n b held. inl held;
  };
}

-- calls that only look, and then others
module _ {F : Type 0} (moment : F → ℕ) (left_since : F → ℕ → List ℕ → Type 0) (h g : Geometry) (b a : SpareArea) (x z : List ℕ) (dii : DiiFields) (message : List ℕ) (p : Place) (bytes : List ℕ) where
  abbrev P : List ℕ → Type 0
  P = LeavesStored g a dii message p.number bytes z

  pub looked_left : (old mid : F) → LeavesOnly moment left_since old mid (λ c. c ≡ z) → IsOffered a dii message p bytes z → KeepsBoot g z z
      → LeavesOnly moment left_since old mid (LeavesStored g a dii message p.number bytes z)
  looked_left old mid reads is keeps = weaker moment left_since old mid (λ c. c ≡ z) P (λ c same. subst P (sym same) (stored_none g a dii message p bytes z is keeps)) reads

  pub left_moved : (old mid new : F) → h ≡ g → b ≡ a → x ≡ z → LeavesOnly moment left_since old mid (λ c. c ≡ z) → IsOffered a dii message p bytes z → KeepsBoot g z z
      → LeavesOnly moment left_since mid new (LeavesStored h b dii message p.number bytes x) → LeavesOnly moment left_since old new (LeavesStored g a dii message p.number bytes z)
  left_moved old mid new geometry area same reads is keeps rest =
      joined moment left_since old mid new P (looked_left old mid reads is keeps)
      (weaker moment left_since mid new (LeavesStored h b dii message p.number bytes x) P (λ y. leaves_moved h g b a x z y dii message p bytes geometry area same) rest)

-- ---- a place that is blank

module _ (bank : Bank) (x : List ℕ) (fits : Fits bank x) (p : Place) (bytes : List ℕ) (inside : p.at + p.len ≤ len_of bank) (long : length bytes ≡ p.len) where
  -- within `fill`
  pub filling_leaves : (dii : DiiFields) (message : List ℕ) → IsOffered (area_of_bank bank) dii message p bytes x → (y : List ℕ) → LeavesFilled bank p.at bytes x y
      → LeavesStored (geometry_of bank) (area_of_bank bank) dii message p.number bytes x y
  filling_leaves dii message is y leaves = record {
    keeps = filled_keeps_boot bank x fits p.at bytes y (omega (arith, inside, long)) leaves;
    offered = left_filling (area_of_bank bank) dii message p bytes x is y leaves.changes;
  }

  -- `fill` is past, and left the bank filled
  module _ (filled : Bank) (z : List ℕ) (same : SameBank bank filled) (filled_fits : Fits filled z) (two : (current_of filled).layout ≡ 2) (mark : p.number < mark_count (geometry_of filled))
      (leaves : LeavesFilled bank p.at bytes x z) (done : Changes (spare_bank bank + p.at) (length bytes) (IsProgrammed bytes) x z) where
    pair_same : mark_place filled p.number ≡ (area_of_bank bank).journal + 8448 + 2 * p.number
    pair_same = ap (λ (a : SpareArea). a.journal + 8448 + 2 * p.number) (area_same bank filled same)

    -- the pair is blank still: it stands behind the bank
    pub pair_still : (dii : DiiFields) (message : List ℕ) → IsOffered (area_of_bank bank) dii message p bytes x → is_untouched (area_of_bank bank) x p.number p ≡ true → IsBlank z (mark_place filled p.number) 2
    pair_still dii message is untouched k lt =
        let behind = is.lie.order.behind in
        let in_bank = is.lie.inside p.number p is.is_place in
        subst (λ (q : ℕ). get_or z (q + k) 0 ≡ 255) (sym pair_same)
        (done.after ((area_of_bank bank).journal + 8448 + 2 * p.number + k) (omega (arith, behind, in_bank, long)) ∙ pair_blank (area_of_bank bank) x p.number p untouched k lt)

    marked_boot : (y : List ℕ) → LeavesMarked filled p.number z y → KeepsBoot (geometry_of bank) x y
    marked_boot y marks = keeps_boot_joined (geometry_of bank) x z y (filled_keeps_boot bank x fits p.at bytes z (omega (arith, inside, long)) leaves)
        (subst (λ (g : Geometry). KeepsBoot g z y) same.geometry (marked_keeps_boot filled z filled_fits two p.number y mark marks))

    -- within `mark`
    pub marking_leaves : (dii : DiiFields) (message : List ℕ) → IsOffered (area_of_bank bank) dii message p bytes x → (y : List ℕ) → LeavesMarked filled p.number z y
        → LeavesStored (geometry_of bank) (area_of_bank bank) dii message p.number bytes x y
    marking_leaves dii message is y marks = record {
      keeps = marked_boot y marks;
      offered = left_marking (area_of_bank bank) dii message p bytes x is z done y (IsTornProgram mark_written)
          (subst (λ (q : ℕ). Changes q 2 (IsTornProgram mark_written) z y) pair_same marks.changes);
    }

    -- and at its end
    pub marked_offers : (dii : DiiFields) (message : List ℕ) → IsOffered (area_of_bank bank) dii message p bytes x → (y : List ℕ) → Changes (mark_place filled p.number) 2 (IsProgrammed mark_written) z y
        → Offers (area_of_bank bank) dii message p.number bytes x y
    marked_offers dii message is y marked =
        done_marking (area_of_bank bank) dii message p bytes x is z done y (subst (λ (q : ℕ). Changes q 2 (IsProgrammed mark_written) z y) pair_same marked)

-- ---- a place that is lost

module _ (bank : Bank) (x : List ℕ) (fits : Fits bank x) (two : (current_of bank).layout ≡ 2) (s : ℕ) (below : s < 16) (p : Place) (bytes : List ℕ) (few : p.len ≤ 4066) (long : length bytes ≡ p.len)
    (free : is_free (area_of_bank bank) x s ≡ true) (lost : is_lost (area_of_bank bank) x p.number (Some p) ≡ true) where
  -- within `spare`
  pub sparing_leaves : (dii : DiiFields) (message : List ℕ) → IsOffered (area_of_bank bank) dii message p bytes x → (y : List ℕ)
      → LeavesPut (geometry_of bank) (slot_place bank s + 256) bytes (slot_place bank s) (slot_written p.at (length bytes)) x y
      → LeavesStored (geometry_of bank) (area_of_bank bank) dii message p.number bytes x y
  sparing_leaves dii message is y leaves = record {
    keeps = slotted_keeps_boot bank x fits two s p.at bytes y below (omega (arith, few, long)) leaves;
    offered = left_sparing (area_of_bank bank) dii message p bytes x is s below free lost y (spared_slot bank s p bytes x y long few leaves);
  }

  -- and at its end
  pub spared_offers : (dii : DiiFields) (message : List ℕ) → IsOffered (area_of_bank bank) dii message p bytes x → (y : List ℕ)
      → Puts (slot_place bank s + 256) bytes (slot_place bank s) (slot_written p.at (length bytes)) x y → Offers (area_of_bank bank) dii message p.number bytes x y
  spared_offers dii message is y puts =
      done_sparing (area_of_bank bank) dii message p bytes x is s below free lost y (spared_done bank s p bytes x y long few puts) (spared_head bank s p bytes x y long puts)
