-- The bytes of places, one after another.
use Rattle.std.specs.Prelude.{IfOk, IfSome, OnOk, Result, Ok, Err}
use Rattle.std.proofs.Common.{◌≡◌, ℕ, suc, ◌+◌, ◌-◌, ◌*◌, Bool, true, false, List, [], ◌++◌, Option, None, Some, refl, ap, arith}
use Rattle.flash_bank.specs.Bank.{current_of, geometry_of}
use Rattle.flash_bank.specs.declared.bank.Bank.{Bank}
use Rattle.flash_kept.specs.SpareArea.{SpareArea}
use Rattle.flash_layout.specs.Layout.{area_place}
use Rattle.flash_layout.specs.Pairs.{part}
use Rattle.ssu_group.specs.Carried.{joined}
use Rattle.ssu_group.specs.Place.{block_length, place_in}
use Rattle.ssu_group.specs.declared.module_plan.ModulePlan.{ModulePlan}
use Rattle.ssu_group.specs.declared.places.Place.{Place}
use Rattle.flash_journal.specs.Texts.{kept_text, text_of}
use Rattle.flash_journal.proofs.ReadingLaws.{area_same}

pub if_ok_each : {A E : Type 0} (r : Result A E) (P Q : A → Type 0) → ((a : A) → P a → Q a) → IfOk r P → IfOk r Q
if_ok_each (Ok a) P Q step is = step a is
if_ok_each (Err e) P Q step is = tt

pub on_ok_each : {A E : Type 0} (r : Result A E) (P Q : Type 0) → (P → Q) → OnOk r P → OnOk r Q
on_ok_each (Ok a) P Q step is = step is
on_ok_each (Err e) P Q step is = tt

pub if_some_and : (o : Option ℕ) (A : Type 0) (P : ℕ → Type 0) → A → IfSome o P → IfSome o (λ s. A × P s)
if_some_and None A P a is = tt
if_some_and (Some s) A P a is = (a, is)

-- the same bank has the same bytes for a place
pub text_same : (keeps : Bool) (a b : Bank) (c : List ℕ) (p : Place) → geometry_of b ≡ geometry_of a → current_of b ≡ current_of a → text_of keeps b c (Some p) ≡ text_of keeps a c (Some p)
text_same true a b c p geometry current = ap (λ (s : SpareArea). kept_text s c p) (area_same a b geometry current)
text_same false a b c p geometry current = (λ i. part c (area_place (geometry i) (1 - (current i).bank) + p.at) p.len)

pub joined_none : (f : ℕ → List ℕ) → joined f 0 ≡ []
unfolding joined
joined_none f = refl

pub joined_next : (f : ℕ → List ℕ) (n : ℕ) → joined f (n + 1) ≡ joined f n ++ f n
unfolding joined
joined_next f n = let next : n + 1 ≡ suc n = omega arith in ap (joined f) next

pub block_is : (b : ℕ) (m : ModulePlan) (n : ℕ) (p : Place) → p.number ≡ m.first + n → p.at ≡ m.at + n * b → p.len ≡ block_length b m.size n → p ≡ place_in b m n
block_is b m n p number at len = (λ i. record { number = number i; at = at i; len = len i })
