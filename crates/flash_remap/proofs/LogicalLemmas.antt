-- The logical contents, byte by byte.
use Rattle.std.proofs.Common.{◌≡◌, ◌≢◌, ◌⊎◌, inl, inr, ⊎_elim, ℕ, zero, suc, ◌+◌, ◌*◌, ◌/◌, ◌%◌, ◌<◌, ◌≤◌, List, [], ◌∷◌, ◌++◌, length, get_or, refl, sym, ◌∙◌, ap, subst, arith, length-append}
use Rattle.std.proofs.lemmas.Bool.{cases_eq, cases_lt}
use Rattle.std.proofs.lemmas.List.{get_or_past, get_or_append_left}
use Rattle.std.proofs.lemmas.Nat.{div-mul-add, mod-mul-add, mul-add-lt, div-add-mod'}
use Rattle.std.proofs.Math.Seq.{get_or-append_seam}
use Rattle.std.proofs.Math.Nat.{div-lt_iff_lt-mul, mod-lt}
use Rattle.flash_dev.specs.Changes.{Changes}
use Rattle.flash_remap.specs.Layout.{Geometry}
use Rattle.flash_remap.specs.Logical.{byte_in, first_of, logical}

pub length-first_of : (f : ℕ → ℕ) (n : ℕ) → length (first_of f n) ≡ n
length-first_of f zero = refl
length-first_of f (suc n) = omega (arith, length-append (first_of f n) (f n ∷ []), length-first_of f n)

pub at-first_of : (f : ℕ → ℕ) (n k : ℕ) → k < n → get_or (first_of f n) k 0 ≡ f k
at-first_of f zero k lt = absurd (omega arith)
at-first_of f (suc n) k lt = ⊎_elim
    (λ below. get_or_append_left (first_of f n) (f n ∷ []) 0 k (omega (arith, length-first_of f n)) ∙ at-first_of f n k below)
    (λ past.
    let is : k ≡ n = omega arith in
    let last : k ≡ length (first_of f n) = omega (arith, length-first_of f n) in
    ap (λ (j : ℕ). get_or (first_of f n ++ f n ∷ []) j 0) last ∙ (get_or-append_seam (first_of f n) (f n) [] 0 ∙ ap f (sym is)))
    (cases_lt k n)

module _ (g : Geometry) where
  pub length-logical : (x : List ℕ) → length (logical g x) ≡ g.logical * g.block_len
  unfolding logical
  length-logical x = length-first_of _ (g.logical * g.block_len)

  -- byte k of a logical block
  pub at-logical : (x : List ℕ) (b k : ℕ) → b < g.logical → k < g.block_len → get_or (logical g x) (b * g.block_len + k) 0 ≡ byte_in g x b k
  unfolding logical
  at-logical x b k block within =
      let inside : b * g.block_len + k < g.logical * g.block_len = omega (arith, mul-add-lt b g.block_len k g.logical block within) in
      at-first_of (λ (p : ℕ). byte_in g x (p / g.block_len) (p % g.block_len)) (g.logical * g.block_len) (b * g.block_len + k) inside
      ∙ (ap (λ (c : ℕ). byte_in g x c ((b * g.block_len + k) % g.block_len)) (div-mul-add b g.block_len k within)
      ∙ ap (byte_in g x b) (mod-mul-add b g.block_len k within))

  -- each byte of them is one of a logical block
  pub record IsAt (p : ℕ) : Type 0 where
    pub block : ℕ
    pub within : ℕ
    pub block_in : block < g.logical
    pub inside : within < g.block_len
    pub is : p ≡ block * g.block_len + within

  pub at_place : (p : ℕ) → p < g.logical * g.block_len → IsAt p
  at_place p lt =
      let some : 0 < g.block_len = ⊎_elim (λ yes. yes) (λ no. let none : g.block_len ≡ 0 = omega (arith, no) in absurd (empty none)) (cases_lt 0 g.block_len) in
      record {
        block = p / g.block_len;
        within = p % g.block_len;
        block_in = (div-lt_iff_lt-mul some).1 lt;
        inside = mod-lt p some;
        is = sym (div-add-mod' p g.block_len);
      }
    where
      empty : g.block_len ≡ 0 → ⊥
      empty none =
          let no_bytes : g.logical * g.block_len ≡ g.logical * 0 = ap (λ (z : ℕ). g.logical * z) none in
          omega (arith, no_bytes, lt)

  -- what changes within one logical block changes the logical contents there
  module _ (x y : List ℕ) (b at n : ℕ) (P : ℕ → ℕ → ℕ → Type 0) (block : b < g.logical) (fits : at + n ≤ g.block_len)
      (others : (c k : ℕ) → c < g.logical → c ≢ b → k < g.block_len → byte_in g y c k ≡ byte_in g x c k)
      (around : (k : ℕ) → k < g.block_len → (k < at) ⊎ (at + n ≤ k) → byte_in g y b k ≡ byte_in g x b k)
      (here : (k : ℕ) → k < n → P k (byte_in g x b (at + k)) (byte_in g y b (at + k))) where
    z : ℕ
    z = g.block_len

    outside : (p : ℕ) → (p < b * g.block_len + at) ⊎ (b * g.block_len + at + n ≤ p) → get_or (logical g y) p 0 ≡ get_or (logical g x) p 0
    outside p out = ⊎_elim (λ lt. at_one (at_place p lt))
        (λ past. get_or_past (logical g y) p 0 (omega (arith, length-logical y)) ∙ sym (get_or_past (logical g x) p 0 (omega (arith, length-logical x))))
        (cases_lt p (g.logical * g.block_len))
      where
        in_block : (q : IsAt p) → (q.block ≡ b) ⊎ (q.block ≡ b → ⊥) → byte_in g y q.block q.within ≡ byte_in g x q.block q.within
        in_block q (inr not) = others q.block q.within q.block_in not q.inside
        in_block q (inl is) =
            let place : p ≡ b * g.block_len + q.within = q.is ∙ ap (λ (c : ℕ). c * g.block_len + q.within) is in
            subst (λ (c : ℕ). byte_in g y c q.within ≡ byte_in g x c q.within) (sym is)
            (around q.within q.inside (⊎_elim (λ before. inl (omega (arith, place, before))) (λ after. inr (omega (arith, place, after))) out))

        at_one : IsAt p → get_or (logical g y) p 0 ≡ get_or (logical g x) p 0
        at_one q = subst (λ (r : ℕ). get_or (logical g y) r 0 ≡ get_or (logical g x) r 0) (sym q.is)
            (at-logical y q.block q.within q.block_in q.inside ∙ (in_block q (cases_eq q.block b) ∙ sym (at-logical x q.block q.within q.block_in q.inside)))

    pub logical_changes : Changes (b * g.block_len + at) n P (logical g x) (logical g y)
    logical_changes = record {
      size = length-logical y ∙ sym (length-logical x);
      before = λ p lt. outside p (inl lt);
      after = λ p le. outside p (inr le);
      inside = λ k lt.
          let place : b * g.block_len + at + k ≡ b * g.block_len + (at + k) = omega arith in
          let old : get_or (logical g x) (b * g.block_len + at + k) 0 ≡ byte_in g x b (at + k) = ap (λ (p : ℕ). get_or (logical g x) p 0) place ∙ at-logical x b (at + k) block (omega arith) in
          let new : get_or (logical g y) (b * g.block_len + at + k) 0 ≡ byte_in g y b (at + k) = ap (λ (p : ℕ). get_or (logical g y) p 0) place ∙ at-logical y b (at + k) block (omega arith) in
          subst (λ (v : ℕ). P k v (get_or (logical g y) (b * g.block_len + at + k) 0)) (sym old) (subst (λ (v : ℕ). P k (byte_in g x b (at + k)) v) (sym new) (here k lt));
    }
