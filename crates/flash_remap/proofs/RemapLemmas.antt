-- A remap under a change of one logical block.
use Rattle.std.proofs.Common.{◌≡◌, ◌≢◌, ◌⊎◌, inl, inr, ⊎_elim, ℕ, ◌+◌, ◌*◌, ◌<◌, ◌≤◌, true, false, ◌==◌, cond, nat_lt, List, [], ◌∷◌, ◌++◌, get_or, refl, sym, ◌∙◌, ap, subst, arith}
use Rattle.std.proofs.lemmas.Bool.{and_from, and_parts, cases_Bool, cases_eq, cases_lt, cond-true, cond-false, eqb-true, eq-eqb, lt-ltb, ltb-true, true≢false}
use Rattle.std.proofs.Math.Nat.{mul-le-mul_left}
use Rattle.flash_dev.specs.Changes.{Changes, LiesInOneBlock}
use Rattle.flash_dev.specs.Moments.{Elapses}
use Rattle.flash_dev.specs.declared.device.Flash.{Ghosts as FlashGhosts}
use Rattle.flash_remap.specs.Change.{AreBytes, FindsBlank, IsTornBy, LiesInBlock, begins_at, changed_len}
use Rattle.flash_remap.specs.Layout.{Geometry, spare_block}
use Rattle.flash_remap.specs.Logical.{IsLeft, byte_in, logical}
use Rattle.flash_remap.specs.Map.{are_below, place_among, place_of}
use Rattle.flash_remap.specs.SeenLaws.{byte_seen}
use Rattle.flash_remap.specs.declared.change.Change.{Change}
use Rattle.flash_remap.specs.declared.change.Change.TheVariants.{Erase, Program}
use Rattle.flash_remap.specs.declared.entry.Entry.{Entry}
use Rattle.flash_remap.proofs.ChangeLemmas.{torn_none}
use Rattle.flash_remap.proofs.LogicalLemmas.{at-logical}
use Rattle.flash_remap.proofs.MapLemmas.{are_below-more, last_for-below, last_for-more}

-- no call beneath
pub still : {F : Type 0} (f : FlashGhosts F) (g : Geometry) (it : F) (during : List ℕ → Type 0) → Elapses (f.moment it) (f.moment it) (IsLeft f g it) (IsLeft f g it) during
still f g it during = record { later = omega arith; nothing_else = λ t c le left. inl left; keeps = λ t c le left. left }

-- the same of what holds of more
pub elapses_or : (before now : ℕ) (past since : ℕ → List ℕ → Type 0) (during more : List ℕ → Type 0) → Elapses before now past since during
    → Elapses before now past since (λ c. during c ⊎ more c)
elapses_or before now past since during more time = record {
  later = time.later;
  nothing_else = λ t c le left. ⊎_elim (λ was. inl was) (λ here. inr (inl here)) (time.nothing_else t c le left);
  keeps = time.keeps;
}

-- what a change has not begun is torn by it too
pub torn_still : (g : Geometry) (change : Change) (x : List ℕ) (b : ℕ) → AreBytes change → ((k : ℕ) → get_or x k 0 ≤ 255) → FindsBlank g.block_len change (logical g x) b
    → Changes (b * g.block_len + begins_at change) (changed_len g.block_len change) (IsTornBy change) (logical g x) (logical g x)
torn_still g change x b bytes are_bytes finds = torn_none g.block_len change (logical g x) b bytes (byte_seen g x are_bytes) finds

-- erased bytes of a logical block are erased in the block that stands for it
pub finds_beneath : (g : Geometry) (change : Change) (x : List ℕ) (b from : ℕ) → b < g.logical → LiesInBlock g.block_len change → place_of g x b ≡ from
    → FindsBlank g.block_len change (logical g x) b → FindsBlank g.block_len change x from
finds_beneath g Erase x b from block lies stands finds = tt
finds_beneath g (Program at bytes) x b from block lies stands finds = λ k lt.
    let above : b * g.block_len + (at + k) ≡ b * g.block_len + at + k = omega arith in
    let beneath : from * g.block_len + at + k ≡ from * g.block_len + (at + k) = omega arith in
    let seen : get_or (logical g x) (b * g.block_len + (at + k)) 0 ≡ byte_in g x b (at + k) = at-logical g x b (at + k) block (omega (arith, lt, lies)) in
    let there : byte_in g x b (at + k) ≡ get_or x (from * g.block_len + (at + k)) 0 = ap (λ (p : ℕ). get_or x (p * g.block_len + (at + k)) 0) stands in
    ap (λ (p : ℕ). get_or x p 0) beneath ∙ (sym there ∙ (sym seen ∙ (ap (λ (p : ℕ). get_or (logical g x) p 0) above ∙ finds k lt)))

-- the block that stands for a logical one is before the next spare
pub place_below : (g : Geometry) (es : List Entry) (b next : ℕ) → are_below es next ≡ true → b < g.logical → place_among g es b < spare_block g next
place_below g es b next below lt = last_for-below g b b next es below (omega (arith, lt))

pub below_later : (es : List Entry) (n m : ℕ) → n ≤ m → are_below es n ≡ true → are_below es m ≡ true
below_later [] n m le below = refl
below_later (e ∷ es) n m le below =
    let parts = and_parts (nat_lt e.spare n) (are_below es n) below in
    let here : e.spare < m = omega (arith, ltb-true _ _ parts.0, le) in
    and_from _ _ (lt-ltb _ _ here) (below_later es n m le parts.1)

pub below_entry : (es : List Entry) (e : Entry) (n m : ℕ) → are_below es n ≡ true → n ≤ e.spare → e.spare + 1 ≡ m → are_below (es ++ e ∷ []) m ≡ true
below_entry es e n m below le is =
    are_below-more es e m ∙ and_from _ _ (below_later es n m (omega (arith, le, is)) below) (lt-ltb _ _ (omega (arith, is)))

-- one entry more stands for its block alone
pub stands_more : (g : Geometry) (es : List Entry) (e : Entry) (x y : List ℕ) → ((b : ℕ) → b < g.logical → place_among g es b ≡ place_of g x b)
    → ((other : ℕ) → other ≢ e.block → place_of g y other ≡ place_of g x other) → place_of g y e.block ≡ spare_block g e.spare
    → (b : ℕ) → b < g.logical → place_among g (es ++ e ∷ []) b ≡ place_of g y b
stands_more g es e x y stands others here b lt = last_for-more g b b es e ∙ ⊎_elim is_this is_other (cases_Bool (e.block == b))
  where
    is_this : (e.block == b) ≡ true → cond (e.block == b) (spare_block g e.spare) (place_among g es b) ≡ place_of g y b
    is_this is = cond-true (e.block == b) _ _ is ∙ (sym here ∙ ap (place_of g y) (eqb-true _ _ is))

    is_other : (e.block == b) ≡ false → cond (e.block == b) (spare_block g e.spare) (place_among g es b) ≡ place_of g y b
    is_other not =
        let apart : b ≢ e.block = λ is. true≢false (sym (eq-eqb _ _ (sym is)) ∙ not) in
        cond-false (e.block == b) _ _ not ∙ (stands b lt ∙ sym (others b apart))

-- the same where none is
pub stands_still : (g : Geometry) (es : List Entry) (block : ℕ) (x y : List ℕ) → ((b : ℕ) → b < g.logical → place_among g es b ≡ place_of g x b) → block < g.logical
    → ((other : ℕ) → other ≢ block → place_of g y other ≡ place_of g x other) → place_of g y block ≡ place_among g es block
    → (b : ℕ) → b < g.logical → place_among g es b ≡ place_of g y b
stands_still g es block x y stands lt others here b in_range = ⊎_elim (λ is. subst (λ (c : ℕ). place_among g es c ≡ place_of g y c) (sym is) (sym here)) (λ not. stands b in_range ∙ sym (others b not)) (cases_eq b block)

-- what lies in one block begins in it and ends in it
pub lies_in_block : (z at n block within : ℕ) → at ≡ block * z + within → within < z → 1 ≤ n → LiesInOneBlock z at n → within + n ≤ z
lies_in_block z at n block within is less some lies = ⊎_elim before (λ late. ⊎_elim (λ past. absurd (after past)) (λ not. here (omega (arith, late, not))) (cases_lt block lies.0)) (cases_lt lies.0 block)
  where
    before : lies.0 < block → within + n ≤ z
    before early = let step : lies.0 + 1 ≤ block = omega (arith, early) in absurd (omega (arith, mul-le-mul_left z step, lies.2, is, some))

    after : block < lies.0 → ⊥
    after past = let step : block + 1 ≤ lies.0 = omega (arith, past) in omega (arith, mul-le-mul_left z step, lies.1, is, less)

    here : lies.0 ≡ block → within + n ≤ z
    here same = omega (arith, lies.2, is, ap (λ (b : ℕ). b * z) same)
