-- Items that are written one after the other are read, one by one.
use Rattle.std.proofs.Common.{◌≡◌, ℕ, ◌+◌, ◌≤◌, List, [], ◌∷◌, ◌++◌, length, Option, Some, None, refl, sym, ap, subst, ◌∙◌, arith}
use Rattle.std.proofs.lemmas.List.{length-append}
use Rattle.std.specs.Prelude.{IsSome}
use Rattle.wire.specs.Format.{Front, exactly, SpellsEach}
use Rattle.wire.specs.Exact.{IsFront}
use Rattle.wire.proofs.Laws.{exactly_exact}
use Rattle.wire.specs.Items.{items_of}
use Rattle.wire.proofs.ItemLaws.{each_push, items_spelled}
use Rattle.dsmcc_msg.specs.Written.{IsRow}

-- What a row says of its items.
pub record Lists {A : Type 0} (format : Front A) (count : ℕ) (bytes : List ℕ) : Type 0 where
  pub as_many : length (items_of format bytes) ≡ count
  pub each : SpellsEach format.Spells (items_of format bytes) bytes

value_of : {A : Type 0} (o : Option A) → IsSome o → (a : A) × (o ≡ Some a)
value_of None h = absurd cc
value_of (Some a) h = (a, refl)

pub row_lists : {A : Type 0} {f : Front A} → IsFront f → (n : ℕ) (bs : List ℕ) → IsSome ((exactly n f).of bs) → Lists f n bs
row_lists {A} {f} h n bs whole =
    let x = value_of ((exactly n f).of bs) whole in
    let s = (exactly_exact n h).takes bs x.0 x.1 in
    let is : items_of f bs ≡ x.0 = items_spelled f h x.0 bs s.1 in
    record {
      as_many = ap (λ (xs : List A). length xs) is ∙ s.0;
      each = subst (λ (xs : List A). SpellsEach f.Spells xs bs) (sym is) s.1;
    }

-- A row with one item more lists that item behind the others.
pub record OneMore {A : Type 0} (format : Front A) (count : ℕ) (bytes : List ℕ) (item : A) (spelling : List ℕ) : Type 0 where
  pub whole : IsSome ((exactly (count + 1) format).of (bytes ++ spelling))
  pub items : items_of format (bytes ++ spelling) ≡ items_of format bytes ++ item ∷ []

pub row_more : {A : Type 0} {f : Front A} → IsFront f → (n : ℕ) (bs : List ℕ) (x : A) (q : List ℕ) → IsSome ((exactly n f).of bs) → f.Spells x q → OneMore f n bs x q
row_more {A} {f} h n bs x q whole s =
    let l = row_lists h n bs whole in
    let xs = items_of f bs in
    let each : SpellsEach f.Spells (xs ++ x ∷ []) (bs ++ q) = each_push f.Spells xs bs x q l.each s in
    let count : length (xs ++ x ∷ []) ≡ n + 1 = length-append xs (x ∷ []) ∙ ap (λ (i : ℕ). i + 1) l.as_many in
    let read : (exactly (n + 1) f).of (bs ++ q) ≡ Some (xs ++ x ∷ []) = (exactly_exact (n + 1) h).again (xs ++ x ∷ []) (bs ++ q) (count, each) in
    record { whole = rw read refl; items = items_spelled f h (xs ++ x ∷ []) (bs ++ q) each }

-- Items that are added leave a row, where there is room for their bytes.
pub row_add : {A : Type 0} {f : Front A} → IsFront f → (n most : ℕ) (bs : List ℕ) (x : A) (q : List ℕ) → IsRow f n most bs → f.Spells x q → length bs + length q ≤ most → IsRow f (n + 1) most (bs ++ q)
row_add h n most bs x q row s room =
    let more = row_more h n bs x q row.whole s in
    let filled = h.filled x q s in
    let few = row.few in
    let len = length-append bs q in
    record { whole = more.whole; few = omega arith; room = omega arith }

-- A row of no bytes has no items.
pub items_empty : {A : Type 0} {f : Front A} → IsFront f → items_of f [] ≡ []
items_empty {A} {f} h = items_spelled f h [] [] refl

pub row_none : {A : Type 0} {f : Front A} → IsFront f → IsSome ((exactly 0 f).of [])
row_none h = refl
