-- What makes a format exact: it reads what is spelled so, and nothing else. The laws stand in proofs/Laws.antt.
use Rattle.std.specs.Prelude.{◌≡◌, ℕ, ◌<◌, List, [], ◌++◌, length, Option, Some}
use Rattle.wire.specs.Format.{Front, Whole}

-- bs is a text, of which this is said, and then more
pub record Takes (Spells : List ℕ → Type 0) (bs more : List ℕ) : Type 0 where
  pub text : List ℕ
  pub parts : bs ≡ text ++ more
  pub spelled : Spells text

pub record IsFront {A : Type 0} (f : Front A) : Type 0 where
  -- what is read is spelled so
  pub takes : (bs : List ℕ) (x : A × List ℕ) → f.at bs ≡ Some x → Takes (f.Spells x.0) bs x.1
  -- what is spelled so is read, whatever follows
  pub again : (x : A) (p more : List ℕ) → f.Spells x p → f.at (p ++ more) ≡ Some (x, more)
  -- a spelling has a byte at least
  pub filled : (x : A) (p : List ℕ) → f.Spells x p → 0 < length p

pub record IsWhole {A : Type 0} (w : Whole A) : Type 0 where
  -- what is read is spelled so
  pub takes : (bs : List ℕ) (x : A) → w.of bs ≡ Some x → w.Spells x bs
  -- what is spelled so is read
  pub again : (x : A) (bs : List ℕ) → w.Spells x bs → w.of bs ≡ Some x

-- No spelling begins another, and a text stands for at most one value.
pub record IsPrefixFree {A : Type 0} (f : Front A) : Type 0 where
  pub ends : (x y : A) (p q more : List ℕ) → f.Spells x p → f.Spells y q → q ≡ p ++ more → more ≡ []
  pub one_value : (x y : A) (p : List ℕ) → f.Spells x p → f.Spells y p → x ≡ y
