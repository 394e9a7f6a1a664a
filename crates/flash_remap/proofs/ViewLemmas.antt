-- What may be left beneath, seen as logical contents.
use Rattle.std.proofs.Common.{inl, inr, ⊎_elim, ℕ, List, sym, subst}
use Rattle.flash_dev.specs.Moments.{Elapses, LeavesOnly}
use Rattle.flash_dev.specs.declared.device.Flash.{Ghosts as FlashGhosts}
use Rattle.flash_remap.specs.Layout.{Geometry}
use Rattle.flash_remap.specs.Logical.{IsLeft, logical}

module _ {F : Type 0} (f : FlashGhosts F) (g : Geometry) where
  -- A run of calls beneath is one call above: where all that it may leave is, seen as logical contents, what this call may leave.
  pub view_elapses : (old new : F) (P during : List ℕ → Type 0) → LeavesOnly f.moment f.left_since old new (λ y. f.tells → P y)
      → (f.tells → (y : List ℕ) → P y → during (logical g y)) → Elapses (f.moment old) (f.moment new) (IsLeft f g old) (IsLeft f g new) during
  view_elapses old new P during leaves seen = record {
    later = leaves.later;
    nothing_else = λ t c le left. ⊎_elim
        (λ was. inl (record { tells = left.tells; beneath = left.beneath; since = was; is = left.is }))
        (λ now. inr (subst during (sym left.is) (seen left.tells left.beneath (now left.tells))))
        (leaves.before t left.beneath le left.since);
    keeps = λ t c le left. record { tells = left.tells; beneath = left.beneath; since = leaves.keeps t left.beneath le left.since; is = left.is };
  }
