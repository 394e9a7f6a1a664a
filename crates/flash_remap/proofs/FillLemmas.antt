-- A spare is erased and filled.
use Rattle.std.proofs.Common.{◌≡◌, ◌≢◌, ◌⊎◌, inl, inr, ⊎_elim, ℕ, ◌+◌, ◌-◌, ◌*◌, ◌<◌, ◌≤◌, true, false, nat_lt, Bor, List, length, get_or, sym, ◌∙◌, ap, subst, arith}
use Rattle.std.proofs.lemmas.Bool.{cases_lt, cond-true, cond-false}
use Rattle.std.proofs.lemmas.Bool.Decides.{nat_tests}
use Rattle.std.proofs.Math.Nat.{mul-le-mul_left}
use Rattle.flash_dev.specs.Changes.{Changes, IsErased, IsProgrammed, IsTornErase}
use Rattle.flash_dev.specs.Moments.{Elapses}
use Rattle.flash_dev.specs.declared.device.Flash.{Ghosts as FlashGhosts}
use Rattle.flash_remap.specs.Change.{wanted}
use Rattle.flash_remap.specs.Replaced.{Anything}
use Rattle.flash_remap.specs.declared.change.Change.TheVariants.{Program}
use Rattle.flash_remap.proofs.CopyLemmas.{IsCopy, any_joined, any_none, any_within, changes_any}
use Rattle.flash_remap.proofs.LeavingLemmas.{Leaves, left_more, left_none}

-- two blocks lie apart
pub blocks_apart : (z p q : ℕ) → p ≢ q → (p * z + z ≤ q * z) ⊎ (q * z + z ≤ p * z)
blocks_apart z p q not = ⊎_elim (λ lt. let next : p + 1 ≤ q = omega (arith, lt) in inl (omega (arith, mul-le-mul_left z next))) (λ ge. let next : q + 1 ≤ p = omega (arith, ge, not) in inr (omega (arith, mul-le-mul_left z next))) (cases_lt p q)

-- the length of a block by another name
pub sized : (to n m : ℕ) (P : ℕ → ℕ → ℕ → Type 0) (x y : List ℕ) → n ≡ m → Changes (to * n) n P x y → Changes (to * m) m P x y
sized to n m P x y is changes = subst (λ (w : ℕ). Changes (to * w) w P x y) is changes

-- a change by other names of its places
pub moved : (place to n m : ℕ) (P : ℕ → ℕ → ℕ → Type 0) (x y : List ℕ) → place ≡ to → n ≡ m → Changes place n P x y → Changes to m P x y
moved place to n m P x y is size changes = subst (λ (w : ℕ). Changes to w P x y) size (subst (λ (w : ℕ). Changes w n P x y) is changes)

pub moved_copy : (place to n m whence from : ℕ) (z x y : List ℕ) → place ≡ to → n ≡ m → whence ≡ from → Changes place n (IsCopy z whence) x y → Changes to m (IsCopy z from) x y
moved_copy place to n m whence from z x y is size source changes = subst (λ (w : ℕ). Changes to m (IsCopy z w) x y) source (moved place to n m (IsCopy z whence) x y is size changes)

-- one change more within the block
pub spare_more : (start z place n : ℕ) (P : ℕ → ℕ → ℕ → Type 0) (x mid y : List ℕ) → Changes start z Anything x mid → start ≤ place → place + n ≤ start + z → Changes place n P mid y → Changes start z Anything x y
spare_more start z place n P x mid y so_far from to here = any_joined start z x mid y so_far (any_within start z place n P mid y from to here)

pub erase_left : {F : Type 0} (f : FlashGhosts F) (old new : F) (to z : ℕ) → ((c : List ℕ) → f.left_since old (f.moment old) c → c ≡ f.contents old)
    → Elapses (f.moment old) (f.moment new) (f.left_since old) (f.left_since new) (λ c. Changes (to * f.block_len old) (f.block_len old) IsTornErase (f.contents old) c ⊎ (c ≡ f.contents new))
    → f.block_len old ≡ z → (f.tells → Changes (to * z) z Anything (f.contents old) (f.contents new)) → Leaves f old new (Changes (to * z) z Anything (f.contents old))
erase_left f old new to z only time size held =
    let P = Changes (to * z) z Anything (f.contents old) in
    left_more f old old new P _ (left_none f old P only (λ tells. any_none (to * z) z (f.contents old))) time
    (λ tells y. ⊎_elim (λ torn. changes_any (to * z) z _ (f.contents old) y (sized to (f.block_len old) z IsTornErase (f.contents old) y size torn)) (λ is. subst P (sym is) (held tells)))

module _ (z from to at : ℕ) (bytes : Bor (List ℕ)) (x e copied programmed y : List ℕ) (apart : from ≢ to) (fits : at + length bytes.now ≤ z)
    (erased : Changes (to * z) z IsErased x e) (front : Changes (to * z) at (IsCopy e (from * z)) e copied)
    (here : Changes (to * z + at) (length bytes.now) (IsProgrammed bytes.now) copied programmed)
    (behind : Changes (to * z + (at + length bytes.now)) (z - (at + length bytes.now)) (IsCopy programmed (from * z + (at + length bytes.now))) programmed y) where
  -- the block that it is filled from is as it was
  source : (k : ℕ) → k < z → get_or e (from * z + k) 0 ≡ get_or x (from * z + k) 0
  source k lt = ⊎_elim (λ before. erased.before (from * z + k) (omega (arith, before, lt))) (λ after. erased.after (from * z + k) (omega (arith, after))) (blocks_apart z from to apart)

  source_still : (k : ℕ) → k < z → get_or programmed (from * z + k) 0 ≡ get_or x (from * z + k) 0
  source_still k lt = ⊎_elim
      (λ before. here.before (from * z + k) (omega (arith, before, lt)) ∙ (front.before (from * z + k) (omega (arith, before, lt)) ∙ source k lt))
      (λ after. here.after (from * z + k) (omega (arith, after, fits)) ∙ (front.after (from * z + k) (omega (arith, after, fits)) ∙ source k lt))
      (blocks_apart z from to apart)

  pub filled : (k : ℕ) → k < z → get_or y (to * z + k) 0 ≡ wanted z (Program at bytes) x from k
  filled k lt = by_place (cases_lt k at) (cases_lt k (at + length bytes.now))
    where
      end : ℕ
      end = at + length bytes.now

      below : (a b : ℕ) → a < b → nat_lt a b ≡ true
      below a b less = grind (arith, nat_tests)

      past : (a b : ℕ) → b ≤ a → nat_lt a b ≡ false
      past a b le = grind (arith, nat_tests)

      by_place : (k < at) ⊎ (at ≤ k) → (k < at + length bytes.now) ⊎ (at + length bytes.now ≤ k) → get_or y (to * z + k) 0 ≡ wanted z (Program at bytes) x from k
      by_place (inl early) _ =
          let value : get_or y (to * z + k) 0 ≡ get_or x (from * z + k) 0 =
          behind.before (to * z + k) (omega arith) ∙ (here.before (to * z + k) (omega arith) ∙ (front.inside k early ∙ source k lt)) in
          value ∙ sym (cond-true (nat_lt k at) _ _ (below k at early))
      by_place (inr late) (inl within) =
          let place : to * z + k ≡ to * z + at + (k - at) = omega arith in
          let value : get_or y (to * z + k) 0 ≡ get_or bytes.now (k - at) 0 =
          behind.before (to * z + k) (omega arith) ∙ (ap (λ (p : ℕ). get_or programmed p 0) place ∙ here.inside (k - at) (omega arith)) in
          value ∙ (sym (cond-true (nat_lt k (at + length bytes.now)) _ _ (below k (at + length bytes.now) within)) ∙ sym (cond-false (nat_lt k at) _ _ (past k at late)))
      by_place (inr late) (inr beyond) =
          let place : to * z + k ≡ to * z + (at + length bytes.now) + (k - (at + length bytes.now)) = omega arith in
          let whence : from * z + (at + length bytes.now) + (k - (at + length bytes.now)) ≡ from * z + k = omega arith in
          let value : get_or y (to * z + k) 0 ≡ get_or x (from * z + k) 0 =
          ap (λ (p : ℕ). get_or y p 0) place ∙ (behind.inside (k - (at + length bytes.now)) (omega arith) ∙ (ap (λ (p : ℕ). get_or programmed p 0) whence ∙ source_still k lt)) in
          value ∙ (sym (cond-false (nat_lt k (at + length bytes.now)) _ _ (past k (at + length bytes.now) beyond)) ∙ sym (cond-false (nat_lt k at) _ _ (past k at late)))

-- the number of bytes by the names of both factors
pub same_product : (a b c d : ℕ) → a ≡ b → c ≡ d → a * c ≡ b * d
same_product a b c d p q = λ i. p i * q i
