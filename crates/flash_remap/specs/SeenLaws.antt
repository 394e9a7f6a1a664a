-- What each flash promises of what it holds, of the logical contents.
use Rattle.std.specs.Prelude.{◌≡◌, ℕ, ◌≤◌, ◌/◌, ◌%◌, ◌*◌, ◌+◌, List, slice_index}
use Rattle.std.proofs.Common.{zero, suc, zero-le, [], ◌∷◌, ◌++◌, refl, ap, ◌∙◌}
use Rattle.flash_dev.specs.declared.device.Flash.{Ghosts as FlashGhosts}
use Rattle.flash_remap.specs.Layout.{Geometry}
use Rattle.flash_remap.specs.Logical.{IsLeft, byte_in, first_of, logical}
use Rattle.flash_remap.specs.Map.{place_of}

-- the bytes that are put behind one another are bytes
push_fits : (xs : List ℕ) (b : ℕ) → ((k : ℕ) → slice_index xs k ≤ 255) → b ≤ 255 → (k : ℕ) → slice_index (xs ++ b ∷ []) k ≤ 255
push_fits [] b fit byte zero = byte
push_fits [] b fit byte (suc k) = fit k
push_fits (x ∷ xs) b fit byte zero = fit zero
push_fits (x ∷ xs) b fit byte (suc k) = push_fits xs b (λ j. fit (suc j)) byte k

nothing_fits : (k : ℕ) → slice_index [] k ≤ 255
nothing_fits k = zero-le

first_fits : (f : ℕ → ℕ) → ((k : ℕ) → f k ≤ 255) → (n k : ℕ) → slice_index (first_of f n) k ≤ 255
first_fits f fit zero k = nothing_fits k
first_fits f fit (suc n) k = push_fits (first_of f n) (f n) (first_fits f fit n) (fit n) k

pub byte_seen : (g : Geometry) (x : List ℕ) → ((k : ℕ) → slice_index x k ≤ 255) → (k : ℕ) → slice_index (logical g x) k ≤ 255
unfolding logical
byte_seen g x fit k =
    let byte : ℕ → ℕ = λ j. byte_in g x (j / g.block_len) (j % g.block_len) in
    first_fits byte (λ j. fit (place_of g x (j / g.block_len) * g.block_len + j % g.block_len)) (g.logical * g.block_len) k

module _ {F : Type 0} {f : FlashGhosts F} (g : Geometry) where
  pub seen_now : (it : F) (t : ℕ) → f.tells → f.left_since it t (f.contents it) → IsLeft f g it t (logical g (f.contents it))
  seen_now it t tells left = record { tells = tells; beneath = f.contents it; since = left; is = refl }

  pub only_seen : (it : F) (c : List ℕ) → ((y : List ℕ) → f.left_since it (f.moment it) y → y ≡ f.contents it)
      → IsLeft f g it (f.moment it) c → c ≡ logical g (f.contents it)
  only_seen it c only left = left.is ∙ ap (logical g) (only left.beneath left.since)
