-- Cases of tests and options.
use Rattle.std.proofs.Common.{◌≡◌, ◌≤◌, Bool, true, false, Some, refl, arith}
use Rattle.flash_kept.specs.Counts.{one_if}

pub true_false : {A : Type 0} (b : Bool) → b ≡ true → b ≡ false → A
true_false b e f = absurd cc

pub same_tests : (a b : Bool) → (a ≡ true → b ≡ true) → (b ≡ true → a ≡ true) → a ≡ b
same_tests true true f g = refl
same_tests false false f g = refl
same_tests true false f g = let h = f refl in absurd cc
same_tests false true f g = let h = g refl in absurd cc

pub one_most : (b : Bool) → one_if b ≤ 1
one_most true = omega arith
one_most false = omega arith

pub some_one : {A : Type 0} (a b : A) → Some a ≡ Some b → a ≡ b
some_one a b e = cc
