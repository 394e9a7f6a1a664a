-- What an answer says, by what it said before.
use Rattle.std.proofs.Common.{◌≡◌, subst}
use Rattle.std.specs.Prelude.{Result, Ok, Err, Option, Some, None, MatchOption, OnOk, IfOk, IfSome, IfNone}

-- what follows of two facts at Ok
pub both_at_ok : {T E : Type 0} (P Q R : Type 0) (r : Result T E) → (P → Q → R) → OnOk r P → OnOk r Q → OnOk r R
both_at_ok P Q R (Ok v) follows p q = follows p q
both_at_ok P Q R (Err e) follows p q = tt

pub at_ok : {T E : Type 0} (P Q : Type 0) (r : Result T E) → (P → Q) → OnOk r P → OnOk r Q
at_ok P Q (Ok v) follows p = follows p
at_ok P Q (Err e) follows p = tt

-- of the value at Ok
pub if_ok : {T E : Type 0} (P Q : T → Type 0) (r : Result T E) → ((v : T) → P v → Q v) → IfOk r P → IfOk r Q
if_ok P Q (Ok v) follows p = follows v p
if_ok P Q (Err e) follows p = tt

pub both_if_ok : {T E : Type 0} (P Q R : T → Type 0) (r : Result T E) → ((v : T) → P v → Q v → R v) → IfOk r P → IfOk r Q → IfOk r R
both_if_ok P Q R (Ok v) follows p q = follows v p q
both_if_ok P Q R (Err e) follows p q = tt

-- a premise goes inside
pub inside_ok : {T E : Type 0} (P Q : Type 0) (r : Result T E) → (P → OnOk r Q) → OnOk r (P → Q)
inside_ok P Q (Ok v) follows = follows
inside_ok P Q (Err e) follows = tt

-- what is said of an answer that is known
pub at_some : {A : Type 0} (P : Type 0) (Q : A → Type 0) (o : Option A) (x : A) → o ≡ Some x → MatchOption o P Q → Q x
at_some P Q None x is said = absurd cc
at_some P Q (Some y) x is said = let same : y ≡ x = cc in subst Q same said

pub at_none : {A : Type 0} (P : Type 0) (Q : A → Type 0) (o : Option A) → o ≡ None → MatchOption o P Q → P
at_none P Q None is said = said
at_none P Q (Some y) is said = absurd cc

-- where there is no value
pub none_two : {A : Type 0} (o : Option A) (P Q R : Type 0) → (P → Q → R) → IfNone o P → IfNone o Q → IfNone o R
none_two None P Q R follows p q = follows p q
none_two (Some x) P Q R follows p q = tt

pub none_one : {A : Type 0} (o : Option A) (P Q : Type 0) → (P → Q) → IfNone o P → IfNone o Q
none_one None P Q follows p = follows p
none_one (Some x) P Q follows p = tt

-- where there is one
pub some_one : {A : Type 0} (o : Option A) (P Q : A → Type 0) → ((x : A) → P x → Q x) → IfSome o P → IfSome o Q
some_one None P Q follows p = tt
some_one (Some x) P Q follows p = follows x p

-- a fact that the value does not need
pub none_from : {A : Type 0} (o : Option A) (P : Type 0) → P → IfNone o P
none_from None P p = p
none_from (Some x) P p = tt

-- a premise goes inside
pub inside_if_ok : {T E : Type 0} (P : Type 0) (Q : T → Type 0) (r : Result T E) → (P → IfOk r Q) → IfOk r (λ v. P → Q v)
inside_if_ok P Q (Ok v) follows = follows
inside_if_ok P Q (Err e) follows = tt

pub three_if_ok : {T E : Type 0} (P Q R V : T → Type 0) (r : Result T E) → ((v : T) → P v → Q v → R v → V v) → IfOk r P → IfOk r Q → IfOk r R → IfOk r V
three_if_ok P Q R V (Ok v) follows p q s = follows v p q s
three_if_ok P Q R V (Err e) follows p q s = tt

pub five_where_none : {A E : Type 0} (r : Result (Option A) E) (P Q R V W Z : Type 0) → (P → Q → R → V → W → Z) → IfOk r (λ o. IfNone o P) → IfOk r (λ o. IfNone o Q)
    → IfOk r (λ o. IfNone o R) → IfOk r (λ o. IfNone o V) → IfOk r (λ o. IfNone o W) → IfOk r (λ o. IfNone o Z)
five_where_none (Ok None) P Q R V W Z follows p q s v w = follows p q s v w
five_where_none (Ok (Some x)) P Q R V W Z follows p q s v w = tt
five_where_none (Err e) P Q R V W Z follows p q s v w = tt

pub six_where_none : {A E : Type 0} (r : Result (Option A) E) (P Q R V W X Z : Type 0) → (P → Q → R → V → W → X → Z) → IfOk r (λ o. IfNone o P) → IfOk r (λ o. IfNone o Q)
    → IfOk r (λ o. IfNone o R) → IfOk r (λ o. IfNone o V) → IfOk r (λ o. IfNone o W) → IfOk r (λ o. IfNone o X) → IfOk r (λ o. IfNone o Z)
six_where_none (Ok None) P Q R V W X Z follows p q s v w x = follows p q s v w x
six_where_none (Ok (Some y)) P Q R V W X Z follows p q s v w x = tt
six_where_none (Err e) P Q R V W X Z follows p q s v w x = tt

pub seven_where_none : {A E : Type 0} (r : Result (Option A) E) (P Q R V W X Y Z : Type 0) → (P → Q → R → V → W → X → Y → Z) → IfOk r (λ o. IfNone o P) → IfOk r (λ o. IfNone o Q)
    → IfOk r (λ o. IfNone o R) → IfOk r (λ o. IfNone o V) → IfOk r (λ o. IfNone o W) → IfOk r (λ o. IfNone o X) → IfOk r (λ o. IfNone o Y) → IfOk r (λ o. IfNone o Z)
seven_where_none (Ok None) P Q R V W X Y Z follows p q s v w x y = follows p q s v w x y
seven_where_none (Ok (Some o)) P Q R V W X Y Z follows p q s v w x y = tt
seven_where_none (Err e) P Q R V W X Y Z follows p q s v w x y = tt

pub four_if_ok : {T E : Type 0} (P Q R V W : T → Type 0) (r : Result T E) → ((v : T) → P v → Q v → R v → V v → W v) → IfOk r P → IfOk r Q → IfOk r R → IfOk r V → IfOk r W
four_if_ok P Q R V W (Ok v) follows p q s t = follows v p q s t
four_if_ok P Q R V W (Err e) follows p q s t = tt

pub inside_where_none : {A E : Type 0} (r : Result (Option A) E) (P Q : Type 0) → (P → IfOk r (λ o. IfNone o Q)) → IfOk r (λ o. IfNone o (P → Q))
inside_where_none (Ok None) P Q follows = follows
inside_where_none (Ok (Some x)) P Q follows = tt
inside_where_none (Err e) P Q follows = tt

-- what is said of an answer that is known, by its case
pub if_none_at : {A : Type 0} (P : Type 0) (o : Option A) → o ≡ None → IfNone o P → P
if_none_at P None is said = said
if_none_at P (Some x) is said = absurd cc
