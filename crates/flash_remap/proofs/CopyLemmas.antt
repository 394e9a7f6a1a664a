-- Ranges that are changed piece by piece.
use Rattle.std.proofs.Common.{◌≡◌, ◌⊎◌, inl, inr, ⊎_elim, ℕ, ◌+◌, ◌-◌, ◌<◌, ◌≤◌, List, length, get_or, refl, sym, ◌∙◌, ap, subst, arith}
use Rattle.std.proofs.lemmas.Bool.{cases_lt}
use Rattle.flash_dev.specs.Changes.{Changes, Holds, IsBlank, IsProgrammed, LiesInOneBlock}
use Rattle.flash_remap.specs.Replaced.{Anything}

-- what a change may be is forgotten, and so is where in a range it was
pub changes_any : (at n : ℕ) (P : ℕ → ℕ → ℕ → Type 0) (x y : List ℕ) → Changes at n P x y → Changes at n Anything x y
changes_any at n P x y changes = record { size = changes.size; before = changes.before; after = changes.after; inside = λ k lt. tt }

pub any_none : (at n : ℕ) (x : List ℕ) → Changes at n Anything x x
any_none at n x = record { size = refl; before = λ k lt. refl; after = λ k le. refl; inside = λ k lt. tt }

-- a change within a range is one of the range
pub any_within : (at n place m : ℕ) (P : ℕ → ℕ → ℕ → Type 0) (x y : List ℕ) → at ≤ place → place + m ≤ at + n → Changes place m P x y → Changes at n Anything x y
any_within at n place m P x y from to changes = record {
  size = changes.size;
  before = λ k lt. changes.before k (omega arith);
  after = λ k le. changes.after k (omega arith);
  inside = λ k lt. tt;
}

pub any_joined : (at n : ℕ) (x y z : List ℕ) → Changes at n Anything x y → Changes at n Anything y z → Changes at n Anything x z
any_joined at n x y z first second = record {
  size = second.size ∙ first.size;
  before = λ k lt. second.before k lt ∙ first.before k lt;
  after = λ k le. second.after k le ∙ first.after k le;
  inside = λ k lt. tt;
}

-- a part of a block lies in one block
pub part_in_block : (z at n place m : ℕ) → LiesInOneBlock z at n → at ≤ place → place + m ≤ at + n → LiesInOneBlock z place m
part_in_block z at n place m lies from to = (lies.0, omega (arith, lies.1, from), omega (arith, lies.2, to))

-- the byte that was copied
abbrev pub IsCopy : List ℕ → ℕ → ℕ → ℕ → ℕ → Type 0
IsCopy x from k before after = after ≡ get_or x (from + k) 0

-- bytes that were read and written again are a copy
pub copied : (from to n : ℕ) (piece x mid y : List ℕ) → length piece ≡ n → mid ≡ x → Holds x from piece → Changes to (length piece) (IsProgrammed piece) mid y → Changes to n (IsCopy x from) x y
copied from to n piece x mid y size same holds done =
    subst (λ (m : ℕ). Changes to m (IsCopy x from) x y) size (subst (λ (l : List ℕ). Changes to (length piece) (IsCopy x from) l y) same (record {
      size = done.size;
      before = done.before;
      after = done.after;
      inside = λ k lt. done.inside k lt ∙ sym (holds k lt);
    }))

module _ (from to done n total : ℕ) (x mid y : List ℕ) (apart : (from + total ≤ to) ⊎ (to + total ≤ from)) (fits : done + n ≤ total)
    (so_far : Changes to done (IsCopy x from) x mid) where
  -- what is not copied yet is blank
  pub copy_blank : IsBlank x to total → IsBlank mid (to + done) n
  copy_blank blank k lt =
      let spot : to + done + k ≡ to + (done + k) = omega arith in
      so_far.after (to + done + k) (omega arith) ∙ (ap (λ (p : ℕ). get_or x p 0) spot ∙ blank (done + k) (omega arith))

  -- and the bytes to be copied are there still
  source : (k : ℕ) → k < n → get_or mid (from + done + k) 0 ≡ get_or x (from + (done + k)) 0
  source k lt =
      let spot : from + done + k ≡ from + (done + k) = omega arith in
      ⊎_elim (λ front. so_far.before (from + done + k) (omega arith)) (λ behind. so_far.after (from + done + k) (omega arith)) apart ∙ ap (λ (p : ℕ). get_or x p 0) spot

  -- one piece more
  pub copy_more : Changes (to + done) n (IsCopy mid (from + done)) mid y → Changes to (done + n) (IsCopy x from) x y
  copy_more here = record {
    size = here.size ∙ so_far.size;
    before = λ k lt. here.before k (omega arith) ∙ so_far.before k lt;
    after = λ k le. here.after k (omega arith) ∙ so_far.after k (omega arith);
    inside = λ k lt. in_one k lt (cases_lt k done);
  }
    where
      in_one : (k : ℕ) → k < done + n → (k < done) ⊎ (done ≤ k) → get_or y (to + k) 0 ≡ get_or x (from + k) 0
      in_one k lt (inl early) = here.before (to + k) (omega arith) ∙ so_far.inside k early
      in_one k lt (inr late) =
          let spot : to + done + (k - done) ≡ to + k = omega arith in
          let whence : done + (k - done) ≡ k = omega arith in
          ap (λ (p : ℕ). get_or y p 0) (sym spot) ∙ (here.inside (k - done) (omega arith) ∙ (source (k - done) (omega arith) ∙ ap (λ (p : ℕ). get_or x (from + p) 0) whence))
