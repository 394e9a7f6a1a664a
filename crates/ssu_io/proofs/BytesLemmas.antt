-- Calls on a source and on a sink, one after another.
use Rattle.std.proofs.Common.{ℕ, ◌+◌, ◌≤◌, List, [], ◌++◌, length, take, Option, Some, None, arith, sym, ap, refl, ◌∙◌, append_assoc, append-nil, length-append}
use Rattle.std.proofs.Math.Seq.{take-append-add, take-length}
use Rattle.ssu_io.specs.Bytes.{Takes, Gains, GainsPrefix}
use Rattle.ssu_io.specs.Faults.{Rose}

-- nothing was taken
pub Takes_none : (left : Option (List ℕ)) → Takes left left []
Takes_none (Some bytes) = refl
Takes_none None = tt

-- a piece was taken, and then another one
pub Takes_join : (first second third : Option (List ℕ)) (piece more : List ℕ) → Takes first second piece → Takes second third more → Takes first third (piece ++ more)
Takes_join (Some a) (Some b) (Some c) piece more p q = p ∙ ap (λ (rest : List ℕ). piece ++ rest) q ∙ sym (append_assoc piece more c)
Takes_join (Some a) (Some b) None piece more p q = q
Takes_join (Some a) None third piece more p q = absurd p
Takes_join None (Some b) third piece more p q = absurd p
Takes_join None None (Some c) piece more p q = q
Takes_join None None None piece more p q = tt

-- nothing was appended
pub Gains_none : (contents : Option (List ℕ)) → Gains contents contents []
Gains_none (Some bytes) = sym (append-nil bytes)
Gains_none None = tt

-- a piece was appended, and then another one
pub Gains_join : (first second third : Option (List ℕ)) (piece more : List ℕ) → Gains first second piece → Gains second third more → Gains first third (piece ++ more)
Gains_join (Some a) (Some b) (Some c) piece more p q = q ∙ ap (λ (start : List ℕ). start ++ more) p ∙ append_assoc a piece more
Gains_join (Some a) (Some b) None piece more p q = q
Gains_join (Some a) None third piece more p q = absurd p
Gains_join None (Some b) third piece more p q = absurd p
Gains_join None None (Some c) piece more p q = q
Gains_join None None None piece more p q = tt

-- a piece was appended, and then a prefix of another one
pub GainsPrefix_join : (first second third : Option (List ℕ)) (piece more : List ℕ) → Gains first second piece → GainsPrefix second third more → GainsPrefix first third (piece ++ more)
GainsPrefix_join first second third piece more p (n, within, q) = (
  length piece + n,
  omega (arith, length-append piece more),
  rw (take-append-add piece more n) (Gains_join first second third piece (take n more) p q),
)

-- all of a piece is a prefix of it
pub GainsPrefix_all : (before after : Option (List ℕ)) (piece : List ℕ) → Gains before after piece → GainsPrefix before after piece
GainsPrefix_all before after piece p = (length piece, omega arith, rw (take-length piece) p)

-- a count that rose has risen since any earlier moment, and stays so
pub Rose_since : (first second third : ℕ) → first ≤ second → Rose second third → Rose first third
Rose_since first second third earlier rose = omega (arith, earlier, rose)

pub Rose_until : (first second third : ℕ) → Rose first second → second ≤ third → Rose first third
Rose_until first second third rose later = omega (arith, rose, later)
