-- For what might be left of the logical contents there are contents beneath.
use Rattle.std.proofs.Common.{◌≡◌, ◌⊎◌, inl, inr, ⊎_elim, ℕ, ◌+◌, ◌-◌, ◌*◌, ◌<◌, ◌≤◌, true, false, ◌&&◌, cond, nat_lt, nat_le, List, length, get_or, sym, ◌∙◌, ap, subst, arith}
use Rattle.std.proofs.lemmas.Bool.{cases_lt, cond-true, cond-false}
use Rattle.std.proofs.lemmas.Bool.Decides.{nat_tests}
use Rattle.std.proofs.lemmas.List.{get_or_past}
use Rattle.std.proofs.Math.Nat.{mul-le-mul_left}
use Rattle.flash_dev.specs.Changes.{Changes}
use Rattle.flash_dev.proofs.ChangesLemmas.{same_bytes}
use Rattle.flash_remap.specs.Layout.{Geometry, blocks_in}
use Rattle.flash_remap.specs.Logical.{first_of, logical}
use Rattle.flash_remap.specs.Map.{place_of}
use Rattle.flash_remap.proofs.ChangeLemmas.{direct, place_kept}
use Rattle.flash_remap.proofs.LogicalLemmas.{at-first_of, at-logical, length-first_of}

-- x, but for n bytes from a place on
byte_or : (place n : ℕ) (f : ℕ → ℕ) (x : List ℕ) → ℕ → ℕ
byte_or place n f x k = cond (nat_le place k && nat_lt k (place + n)) (f (k - place)) (get_or x k 0)

patched : (place n : ℕ) (f : ℕ → ℕ) (x : List ℕ) → List ℕ
patched place n f x = first_of (byte_or place n f x) (length x)

test_in : (place n k : ℕ) → k < n → (nat_le place (place + k) && nat_lt (place + k) (place + n)) ≡ true
test_in place n k lt = grind (arith, nat_tests)

test_out : (place n k : ℕ) → (k < place) ⊎ (place + n ≤ k) → (nat_le place k && nat_lt k (place + n)) ≡ false
test_out place n k (inl lt) = grind (arith, nat_tests)
test_out place n k (inr le) = grind (arith, nat_tests)

patched_out : (place n : ℕ) (f : ℕ → ℕ) (x : List ℕ) (k : ℕ) → (k < place) ⊎ (place + n ≤ k) → get_or (patched place n f x) k 0 ≡ get_or x k 0
unfolding byte_or patched
patched_out place n f x k out = ⊎_elim
    (λ lt. at-first_of (byte_or place n f x) (length x) k lt ∙ cond-false (nat_le place k && nat_lt k (place + n)) _ _ (test_out place n k out))
    (λ past. get_or_past (patched place n f x) k 0 (omega (arith, past, length-first_of (byte_or place n f x) (length x))) ∙ sym (get_or_past x k 0 past))
    (cases_lt k (length x))

patched_in : (place n : ℕ) (f : ℕ → ℕ) (x : List ℕ) (k : ℕ) → place + n ≤ length x → k < n → get_or (patched place n f x) (place + k) 0 ≡ f k
unfolding byte_or patched
patched_in place n f x k fits lt =
    let back : place + k - place ≡ k = omega arith in
    at-first_of (byte_or place n f x) (length x) (place + k) (omega arith)
    ∙ (cond-true (nat_le place (place + k) && nat_lt (place + k) (place + n)) _ _ (test_in place n k lt) ∙ ap f back)

length-patched : (place n : ℕ) (f : ℕ → ℕ) (x : List ℕ) → length (patched place n f x) ≡ length x
unfolding patched
length-patched place n f x = length-first_of (byte_or place n f x) (length x)

module _ (g : Geometry) (x c : List ℕ) (b from at n : ℕ) (P : ℕ → ℕ → ℕ → Type 0) (block : b < g.logical) (stands : place_of g x b ≡ from) (inside : from < g.logical + g.spares)
    (fits : at + n ≤ g.block_len) (whole : length x ≡ blocks_in g * g.block_len) (changes : Changes (b * g.block_len + at) n P (logical g x) c) where
  -- the contents beneath that have these bytes in the block
  pub beneath : List ℕ
  beneath = patched (from * g.block_len + at) n (λ k. get_or c (b * g.block_len + at + k) 0) x

  fits_in : from * g.block_len + at + n ≤ length x
  fits_in = let step : from + 1 ≤ g.logical + g.spares + 1 = omega (arith, inside) in omega (arith, fits, whole, mul-le-mul_left g.block_len step)

  pub beneath_changes : Changes (from * g.block_len + at) n P x beneath
  unfolding beneath
  beneath_changes = record {
    size = length-patched (from * g.block_len + at) n (λ k. get_or c (b * g.block_len + at + k) 0) x;
    before = λ k lt. patched_out (from * g.block_len + at) n (λ k. get_or c (b * g.block_len + at + k) 0) x k (inl lt);
    after = λ k le. patched_out (from * g.block_len + at) n (λ k. get_or c (b * g.block_len + at + k) 0) x k (inr le);
    inside = λ k lt.
        let place : b * g.block_len + at + k ≡ b * g.block_len + (at + k) = omega arith in
        let spot : from * g.block_len + (at + k) ≡ from * g.block_len + at + k = omega arith in
        let old : get_or (logical g x) (b * g.block_len + at + k) 0 ≡ get_or x (from * g.block_len + at + k) 0 =
        ap (λ (p : ℕ). get_or (logical g x) p 0) place ∙ (at-logical g x b (at + k) block (omega arith)
        ∙ (ap (λ (p : ℕ). get_or x (p * g.block_len + (at + k)) 0) stands ∙ ap (λ (p : ℕ). get_or x p 0) spot)) in
        let new = patched_in (from * g.block_len + at) n (λ k. get_or c (b * g.block_len + at + k) 0) x k fits_in lt in
        subst (λ (v : ℕ). P k v (get_or (patched (from * g.block_len + at) n (λ k. get_or c (b * g.block_len + at + k) 0) x) (from * g.block_len + at + k) 0)) old
        (subst (λ (v : ℕ). P k (get_or (logical g x) (b * g.block_len + at + k) 0) v) (sym new) (changes.inside k lt));
  }

  seen : Changes (b * g.block_len + at) n P (logical g x) (logical g beneath)
  seen = direct g x b from at n block stands inside fits P beneath beneath_changes

  in_range : (k : ℕ) → k < n → get_or c (b * g.block_len + at + k) 0 ≡ get_or (logical g beneath) (b * g.block_len + at + k) 0
  unfolding beneath
  in_range k lt =
      let place : b * g.block_len + at + k ≡ b * g.block_len + (at + k) = omega arith in
      let spot : from * g.block_len + (at + k) ≡ from * g.block_len + at + k = omega arith in
      let stands_still : place_of g beneath b ≡ from = place_kept g x b from at n block stands inside fits P beneath beneath_changes b ∙ stands in
      let new : get_or (logical g beneath) (b * g.block_len + at + k) 0 ≡ get_or beneath (from * g.block_len + at + k) 0 =
      ap (λ (p : ℕ). get_or (logical g beneath) p 0) place ∙ (at-logical g beneath b (at + k) block (omega arith)
      ∙ (ap (λ (p : ℕ). get_or beneath (p * g.block_len + (at + k)) 0) stands_still ∙ ap (λ (p : ℕ). get_or beneath p 0) spot)) in
      sym (new ∙ patched_in (from * g.block_len + at) n (λ k. get_or c (b * g.block_len + at + k) 0) x k fits_in lt)

  -- they are seen so
  pub beneath_seen : c ≡ logical g beneath
  beneath_seen = same_bytes c (logical g beneath) (changes.size ∙ sym seen.size) (λ p lt. at_place p (cases_lt p (b * g.block_len + at)) (cases_lt p (b * g.block_len + at + n)))
    where
      at_place : (p : ℕ) → (p < b * g.block_len + at) ⊎ (b * g.block_len + at ≤ p) → (p < b * g.block_len + at + n) ⊎ (b * g.block_len + at + n ≤ p) → get_or c p 0 ≡ get_or (logical g beneath) p 0
      at_place p (inl before) _ = changes.before p before ∙ sym (seen.before p before)
      at_place p (inr le) (inr after) = changes.after p after ∙ sym (seen.after p after)
      at_place p (inr le) (inl within) =
          let spot : b * g.block_len + at + (p - (b * g.block_len + at)) ≡ p = omega arith in
          subst (λ (q : ℕ). get_or c q 0 ≡ get_or (logical g beneath) q 0) spot (in_range (p - (b * g.block_len + at)) (omega arith))
