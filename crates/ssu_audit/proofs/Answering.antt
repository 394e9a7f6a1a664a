-- Answers that say several things.
use Rattle.std.proofs.Common.{◌≡◌, Option, Some, None, sym, ap, ◌∙◌}
use Rattle.std.specs.Prelude.{Result, Ok, Err, IfOk}
use Rattle.std.specs.Option.{option_map}

pub if_ok_then : {A E : Type 0} (r : Result A E) (P Q : A → Type 0) → ((a : A) → P a → Q a) → IfOk r P → IfOk r Q
if_ok_then (Ok a) P Q f p = f a p
if_ok_then (Err e) P Q f p = tt

pub if_ok_two : {A E : Type 0} (r : Result A E) (P Q R : A → Type 0) → ((a : A) → P a → Q a → R a) → IfOk r P → IfOk r Q → IfOk r R
if_ok_two (Ok a) P Q R f p q = f a p q
if_ok_two (Err e) P Q R f p q = tt

pub if_ok_three : {A E : Type 0} (r : Result A E) (P Q R S : A → Type 0) → ((a : A) → P a → Q a → R a → S a) → IfOk r P → IfOk r Q → IfOk r R → IfOk r S
if_ok_three (Ok a) P Q R S f p q s = f a p q s
if_ok_three (Err e) P Q R S f p q s = tt

-- what was read, seen as it is said
pub read_as : {A B : Type 0} (view : A → B) (r : Option A) (said : Option B) (a : A) → option_map view r ≡ said → r ≡ Some a → said ≡ Some (view a)
read_as view r said a e is = sym e ∙ ap (option_map view) is

pub read_none : {A B : Type 0} (view : A → B) (r : Option A) (said : Option B) → option_map view r ≡ said → r ≡ None → said ≡ None
read_none view r said e is = sym e ∙ ap (option_map view) is
