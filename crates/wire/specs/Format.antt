-- Formats as values. A format has two sides: how its bytes are read, and which bytes spell a value.
-- The combinators below give both sides at once, so that a table is written down once, field by field
-- in the order of the wire.
use Rattle.std.specs.Prelude.{◌≡◌, ℕ, zero, suc, ◌-◌, ◌≤◌, Bool, IsTrue, List, [], ◌∷◌, ◌++◌, length, take, drop}
use Rattle.std.specs.Prelude.{Option, Some, None, nat_lt, ◌==◌, if◌then◌else◌}

-- A format that bytes may follow: `at` reads a value from the front and gives the bytes behind it,
-- and `Spells x p` says that p is a spelling of x.
pub record Front (A : Type 0) : Type 1 where
  pub at : List ℕ → Option (A × List ℕ)
  pub Spells : A → List ℕ → Type 0

-- A format of all of the bytes.
pub record Whole (A : Type 0) : Type 1 where
  pub of : List ℕ → Option A
  pub Spells : A → List ℕ → Type 0

-- a step that may fail, and what is done with its value
infixl 10 ◌>>=◌
abbrev pub ◌>>=◌ : {A B : Type 0} → Option A → (A → Option B) → Option B
(Some x) >>= f = f x
None >>= f = None

-- ---- fields

-- k bytes, of which `to` makes the value
abbrev pub word : {A : Type 0} → ℕ → (List ℕ → A) → Front A
word k to = record {
  at = λ bs. if nat_lt (length bs) k then None else Some (to (take k bs), drop k bs);
  Spells = λ x p. (length p ≡ k) × (to p ≡ x);
}

-- k bytes as they are
abbrev pub raw : ℕ → Front (List ℕ)
raw k = word k (λ p. p)

-- k bytes that nobody looks at
abbrev pub skip : ℕ → Front (Unit {0})
skip k = word k (λ _. tt)

-- The value that g makes of what f reads, such as the record of the fields.
abbrev pub reads : {A B : Type 0} → (A → B) → Front A → Front B
reads {A} g f = record {
  at = λ bs. f.at bs >>= λ x. Some (g x.0, x.1);
  Spells = λ y p. (x : A) × (g x ≡ y) × f.Spells x p;
}

-- a constant
abbrev pub fixed : Front ℕ → ℕ → Front (Unit {0})
fixed f n = record {
  at = λ bs. f.at bs >>= λ x. if x.0 == n then Some (tt, x.1) else None;
  Spells = λ _ p. f.Spells n p;
}

-- what passes a test
abbrev pub such : {A : Type 0} → (A → Bool) → Front A → Front A
such test f = record {
  at = λ bs. f.at bs >>= λ x. if test x.0 then Some x else None;
  Spells = λ x p. IsTrue (test x) × f.Spells x p;
}

-- ---- one after the other

-- p is one text and then another, of which this is said
pub record IsPair (First Second : List ℕ → Type 0) (p : List ℕ) : Type 0 where
  pub front : List ℕ
  pub back : List ℕ
  pub parts : p ≡ front ++ back
  pub first : First front
  pub second : Second back

infixr 6 ◌&◌
abbrev pub ◌&◌ : {A B : Type 0} → Front A → Front B → Front (A × B)
f & g = record {
  at = λ bs. f.at bs >>= λ x. g.at x.1 >>= λ y. Some ((x.0, y.0), y.1);
  Spells = λ x p. IsPair (f.Spells x.0) (g.Spells x.1) p;
}

-- where what follows depends on what was read
infixr 5 ◌with◌
abbrev pub ◌with◌ : {A B : Type 0} → Front A → (A → Front B) → Front (A × B)
f with g = record {
  at = λ bs. f.at bs >>= λ x. (g x.0).at x.1 >>= λ y. Some ((x.0, y.0), y.1);
  Spells = λ x p. IsPair (f.Spells x.0) ((g x.0).Spells x.1) p;
}

-- the same, where what follows is all that is left
infixr 5 ◌then◌
abbrev pub ◌then◌ : {A B : Type 0} → Front A → (A → Whole B) → Whole (A × B)
f then w = record {
  of = λ bs. f.at bs >>= λ x. (w x.0).of x.1 >>= λ y. Some (x.0, y);
  Spells = λ x p. IsPair (f.Spells x.0) ((w x.0).Spells x.1) p;
}

-- p is a length, and behind it a text of that many bytes, of which this is said
pub record IsSized (Length : ℕ → List ℕ → Type 0) (Inside : List ℕ → Type 0) (p : List ℕ) : Type 0 where
  pub front : List ℕ
  pub inside : List ℕ
  pub parts : p ≡ front ++ inside
  pub len : Length (length inside) front
  pub filled : Inside inside

-- a length, and that many bytes, filled exactly
abbrev pub sized : {A : Type 0} → Front ℕ → Whole A → Front A
sized len w = record {
  at = λ bs. len.at bs >>= λ n. (raw n.0).at n.1 >>= λ p. w.of p.0 >>= λ x. Some (x, p.1);
  Spells = λ x p. IsSized len.Spells (w.Spells x) p;
}

-- ---- all of the bytes

-- whatever is left
abbrev pub rest : Whole (List ℕ)
rest = record { of = λ bs. Some bs; Spells = λ x p. p ≡ x }

-- nothing behind it
abbrev pub only : {A : Type 0} → Front A → Whole A
only f = record {
  of = λ bs. f.at bs >>= λ x. if length x.1 == 0 then Some x.0 else None;
  Spells = f.Spells;
}

-- The value that g makes of what w reads.
abbrev pub whole_reads : {A B : Type 0} → (A → B) → Whole A → Whole B
whole_reads {A} g w = record {
  of = λ bs. w.of bs >>= λ x. Some (g x);
  Spells = λ y p. (x : A) × (g x ≡ y) × w.Spells x p;
}

-- what passes a test on the fields
abbrev pub whole_such : {A : Type 0} → (A → Bool) → Whole A → Whole A
whole_such test w = record {
  of = λ bs. w.of bs >>= λ x. if test x then Some x else None;
  Spells = λ x p. IsTrue (test x) × w.Spells x p;
}

-- where all of the bytes pass a test, as that of their CRC
abbrev pub checked : {A : Type 0} → (List ℕ → Bool) → Whole A → Whole A
checked test w = record {
  of = λ bs. if test bs then w.of bs else None;
  Spells = λ x p. IsTrue (test p) × w.Spells x p;
}

-- all but the last n bytes
abbrev pub before : {A : Type 0} → ℕ → Whole A → Whole A
before n w = record {
  of = λ bs. if nat_lt (length bs) n then None else w.of (take (length bs - n) bs);
  Spells = λ x p. (n ≤ length p) × w.Spells x (take (length p - n) p);
}

-- all but the first n bytes
abbrev pub after : {A : Type 0} → ℕ → Whole A → Whole A
after n w = record {
  of = λ bs. if nat_lt (length bs) n then None else w.of (drop n bs);
  Spells = λ x p. (n ≤ length p) × w.Spells x (drop n p);
}

-- the bytes as they are, where w reads them
abbrev pub kept : {A : Type 0} → Whole A → Whole (List ℕ)
kept {A} w = record {
  of = λ bs. w.of bs >>= λ _. Some bs;
  Spells = λ x p. (p ≡ x) × (a : A) × w.Spells a p;
}

-- ---- items

-- p is a spelling of each value, one after the other
abbrev pub SpellsEach : {A : Type 0} → (A → List ℕ → Type 0) → List A → List ℕ → Type 0
SpellsEach S [] p = p ≡ []
SpellsEach S (x ∷ xs) p = IsPair (S x) (SpellsEach S xs) p

-- n items from the front
abbrev pub items_at : {A : Type 0} → (List ℕ → Option (A × List ℕ)) → ℕ → List ℕ → Option (List A × List ℕ)
items_at at zero bs = Some ([], bs)
items_at at (suc n) bs = at bs >>= λ x. items_at at n x.1 >>= λ xs. Some (x.0 ∷ xs.0, xs.1)

-- Items to the end of the bytes, of which there are at most `most`.
abbrev pub items_within : {A : Type 0} → (List ℕ → Option (A × List ℕ)) → ℕ → List ℕ → Option (List A)
items_within at most [] = Some []
items_within at zero (b ∷ bs) = None
items_within at (suc most) (b ∷ bs) = at (b ∷ bs) >>= λ x. items_within at most x.1 >>= λ xs. Some (x.0 ∷ xs)

-- n items, and behind them the rest of the format
abbrev pub several : {A B : Type 0} → ℕ → Front A → Whole B → Whole (List A × B)
several n f w = record {
  of = λ bs. items_at f.at n bs >>= λ xs. w.of xs.1 >>= λ y. Some (xs.0, y);
  Spells = λ x p. (length x.0 ≡ n) × IsPair (SpellsEach f.Spells x.0) (w.Spells x.1) p;
}

-- n items that fill the bytes
abbrev pub exactly : {A : Type 0} → ℕ → Front A → Whole (List A)
exactly n f = record {
  of = λ bs. items_at f.at n bs >>= λ xs. if length xs.1 == 0 then Some xs.0 else None;
  Spells = λ xs p. (length xs ≡ n) × SpellsEach f.Spells xs p;
}

-- items to the end of the bytes
abbrev pub to_end : {A : Type 0} → Front A → Whole (List A)
to_end f = record {
  of = λ bs. items_within f.at (length bs) bs;
  Spells = SpellsEach f.Spells;
}

-- no bytes for no items, and else w
abbrev pub none_or : {A : Type 0} → (List ℕ → Option (List A)) → List ℕ → Option (List A)
none_or read [] = Some []
none_or read (b ∷ bs) = read (b ∷ bs)

abbrev pub SpellsNoneOr : {A : Type 0} → (List A → List ℕ → Type 0) → List A → List ℕ → Type 0
SpellsNoneOr S xs [] = xs ≡ []
SpellsNoneOr S xs (b ∷ bs) = S xs (b ∷ bs)

abbrev pub or_none : {A : Type 0} → Whole (List A) → Whole (List A)
or_none w = record { of = none_or w.of; Spells = SpellsNoneOr w.Spells }
