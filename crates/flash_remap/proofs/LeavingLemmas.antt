-- What a run of calls may leave, where contents are told.
use Rattle.std.proofs.Common.{◌≡◌, ◌⊎◌, inl, inr, ℕ, List, refl, sym, subst}
use Rattle.std.specs.Prelude.{true, false, Result, Ok, Err, IsErr, OnErr, OnOk, is_ok}
use Rattle.std.proofs.lemmas.Bool.{false≢true, true≢false}
use Rattle.flash_dev.specs.Moments.{Elapses, LeavesOnly}
use Rattle.flash_dev.specs.declared.device.Flash.{Ghosts as FlashGhosts}
use Rattle.flash_dev.proofs.Moments.{goes_on, joined, started, weaker}

pub by_result : {T E A B : Type 0} (r : Result T E) → OnOk r A → OnErr r B → A ⊎ B
by_result (Ok x) ok err = inl ok
by_result (Err e) ok err = inr err

-- what the test of a result tells
pub ok_value : {T E A : Type 0} (r : Result T E) → is_ok r ≡ true → OnOk r A → A
ok_value (Ok x) is ok = ok
ok_value (Err e) is ok = absurd (false≢true is)

pub err_value : {T E A : Type 0} (r : Result T E) → is_ok r ≡ false → OnErr r A → A
err_value (Ok x) is err = absurd (true≢false is)
err_value (Err e) is err = err

pub err_is : {T E : Type 0} (r : Result T E) → is_ok r ≡ false → IsErr r
err_is (Ok x) is = absurd (true≢false is)
err_is (Err e) is = refl

pub ok_is_no_err : {T E : Type 0} (r : Result T E) → is_ok r ≡ true → IsErr r → ⊥
ok_is_no_err (Ok x) is err = false≢true err
ok_is_no_err (Err e) is err = false≢true is

pub ok_map : {T E A B : Type 0} (r : Result T E) → (A → B) → OnOk r A → OnOk r B
ok_map (Ok x) follows ok = follows ok
ok_map (Err e) follows ok = tt

pub err_map : {T E A B : Type 0} (r : Result T E) → (A → B) → OnErr r A → OnErr r B
err_map (Ok x) follows err = tt
err_map (Err e) follows err = follows err

module _ {F : Type 0} (f : FlashGhosts F) where
  abbrev pub Leaves : F → F → (List ℕ → Type 0) → Type 0
  Leaves old new P = LeavesOnly f.moment f.left_since old new (λ y. f.tells → P y)

  -- no call
  pub left_none : (old : F) (P : List ℕ → Type 0) → ((c : List ℕ) → f.left_since old (f.moment old) c → c ≡ f.contents old) → (f.tells → P (f.contents old)) → Leaves old old P
  left_none old P only here = started f.moment f.left_since old (λ y. f.tells → P y) (λ c left tells. subst P (sym (only c left)) (here tells))

  -- one call more
  pub left_more : (old mid new : F) (P during : List ℕ → Type 0) → Leaves old mid P → Elapses (f.moment mid) (f.moment new) (f.left_since mid) (f.left_since new) during
      → (f.tells → (y : List ℕ) → during y → P y) → Leaves old new P
  left_more old mid new P during so_far time here = goes_on f.moment f.left_since old mid new (λ y. f.tells → P y) during so_far time (λ c now tells. here tells c now)

  -- one run after another
  pub left_joined : (old mid new : F) (P Q : List ℕ → Type 0) → Leaves old mid P → Leaves mid new Q → (f.tells → (y : List ℕ) → Q y → P y) → Leaves old new P
  left_joined old mid new P Q first second follows =
      joined f.moment f.left_since old mid new (λ y. f.tells → P y) first (weaker f.moment f.left_since mid new (λ y. f.tells → Q y) (λ y. f.tells → P y) (λ c is tells. follows tells c (is tells)) second)

  -- the same of what follows
  pub left_weaker : (old new : F) (P Q : List ℕ → Type 0) → Leaves old new P → (f.tells → (y : List ℕ) → P y → Q y) → Leaves old new Q
  left_weaker old new P Q left follows = weaker f.moment f.left_since old new (λ y. f.tells → P y) (λ y. f.tells → Q y) (λ c is tells. follows tells c (is tells)) left
