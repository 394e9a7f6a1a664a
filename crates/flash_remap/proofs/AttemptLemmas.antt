-- What an attempt changes: nothing of the logical contents, until its entry is whole.
use Rattle.std.proofs.Common.{◌≡◌, ◌≢◌, ◌⊎◌, inl, inr, ⊎_elim, ℕ, ◌+◌, ◌-◌, ◌*◌, ◌<◌, ◌≤◌, false, ◌==◌, cond, nat_lt, List, [], ◌∷◌, ◌++◌, length, get_or, Some, None, refl, sym, ◌∙◌, ap, subst, arith}
use Rattle.std.proofs.lemmas.Bool.{cases_Bool, cases_lt, cond-true, cond-false, eqb-true, eq-eqb}
use Rattle.std.proofs.Math.Nat.{mul-le-mul_left}
use Rattle.flash_dev.specs.Changes.{Changes, IsProgrammed, IsTornProgram}
use Rattle.flash_dev.proofs.ChangesLemmas.{same_bytes}
use Rattle.flash_remap.specs.Change.{wanted}
use Rattle.flash_remap.specs.Entry.{entry_in, spelled, written}
use Rattle.flash_remap.specs.Layout.{Geometry, map_place, slot_place, slots_in, spare_block}
use Rattle.flash_remap.specs.Map.{AreNext, above_last, counting, is_blank, next_spare, place_among, place_of, slot_bytes}
use Rattle.flash_remap.specs.Replaced.{Anything, IsBlankFrom, IsFilled, IsReplaced, Replaces}
use Rattle.flash_remap.specs.declared.change.Change.{Change}
use Rattle.flash_remap.specs.declared.change.Change.TheVariants.{Erase, Program}
use Rattle.flash_remap.specs.declared.entry.Entry.{Entry}
use Rattle.flash_remap.proofs.AddedLemmas.{adds_entry, adds_joined, adds_none, adds_torn}
use Rattle.flash_remap.proofs.EntryLemmas.{entry_of-written, torn_entry}
use Rattle.flash_remap.proofs.MapLemmas.{above_last-more, last_for-more}
use Rattle.flash_remap.proofs.NextLemmas.{next_used}
use Rattle.flash_remap.proofs.PairLemmas.{length-paired}
use Rattle.flash_remap.proofs.SlotLemmas.{blank_none, counting_more, counting_torn, slot_at, slot_len, slot_same}

-- a spare ends before the map
pub spare_end : (g : Geometry) (j : ℕ) → j < g.spares → spare_block g j * g.block_len + g.block_len ≤ map_place g
spare_end g j lt =
    let fits : g.logical + j + 1 ≤ g.logical + g.spares = omega (arith, lt) in
    omega (arith, mul-le-mul_left g.block_len fits)

-- what a change is to make of a block depends on that block's bytes alone
pub wanted_same : (z : ℕ) (change : Change) (x y : List ℕ) (p k : ℕ) → get_or y (p * z + k) 0 ≡ get_or x (p * z + k) 0 → wanted z change y p k ≡ wanted z change x p k
wanted_same z Erase x y p k same = refl
wanted_same z (Program at bytes) x y p k same =
    ap (λ (a : ℕ). cond (nat_lt k at) a (cond (nat_lt k (at + length bytes.now)) (get_or bytes.now (k - at) 0) a)) same

-- the bytes of an entry by their own name
pub torn_written : (place to : ℕ) (bytes : List ℕ) (e : Entry) (x y : List ℕ) → place ≡ to → bytes ≡ written e → Changes place (length bytes) (IsTornProgram bytes) x y → Changes to 16 (IsTornProgram (written e)) x y
torn_written place to bytes e x y here is changes =
    subst (λ (p : ℕ). Changes p 16 (IsTornProgram (written e)) x y) here (subst (λ (w : List ℕ). Changes place (length w) (IsTornProgram w) x y) is changes)

pub done_written : (place to : ℕ) (bytes : List ℕ) (e : Entry) (x y : List ℕ) → place ≡ to → bytes ≡ written e → Changes place (length bytes) (IsProgrammed bytes) x y → Changes to 16 (IsProgrammed (written e)) x y
done_written place to bytes e x y here is changes =
    subst (λ (p : ℕ). Changes p 16 (IsProgrammed (written e)) x y) here (subst (λ (w : List ℕ). Changes place (length w) (IsProgrammed w) x y) is changes)

module _ (g : Geometry) (x y : List ℕ) (j slot b p : ℕ) (change : Change) (spare : j < g.spares) (slot_in : slot < slots_in g) (block : b < g.logical)
    (blank : IsBlankFrom g x slot) (below : next_spare g x ≤ j) (size : length y ≡ length x)
    (same : (k : ℕ) → (k < spare_block g j * g.block_len) ⊎ (spare_block g j * g.block_len + g.block_len ≤ k)
    → (k < slot_place g slot) ⊎ (slot_place g slot + 16 ≤ k) → get_or y k 0 ≡ get_or x k 0) where
  before_same : (k : ℕ) → k < spare_block g j * g.block_len → get_or y k 0 ≡ get_or x k 0
  before_same k lt = same k (inl lt) (inl (omega (arith, lt, spare_end g j spare)))

  slots_same : (k : ℕ) → k < slots_in g → k ≢ slot → slot_bytes g y k ≡ slot_bytes g x k
  slots_same k lt not = slot_same g x y k size (λ o within.
      same (slot_place g k + o) (inr (omega (arith, spare_end g j spare))) (⊎_elim (λ front. inl (omega (arith, front, within))) (λ behind. inr (omega (arith, behind, not))) (cases_lt k slot)))

  -- behind the slot the map is erased as it was
  pub blank_behind : IsBlankFrom g y (slot + 1)
  blank_behind = record { each = λ k from lt. same (map_place g + k) (inr (omega (arith, spare_end g j spare))) (inr (omega (arith, from))) ∙ blank.each k (omega (arith, from)) lt }

  pub tried_torn : entry_in (slot_bytes g y slot) ≡ None → Replaces g b p change j (j + 1) x y
  tried_torn none =
      let entries : counting g y ≡ counting g x = counting_torn g x y slot slot_in blank slots_same none in
      let next : next_spare g y ≡ next_spare g x = ap (above_last 0) entries in
      record {
        size = size;
        same = before_same;
        others = λ other not. ap (λ (es : List Entry). place_among g es other) entries;
        this = inl (ap (λ (es : List Entry). place_among g es b) entries);
        below = omega (arith, next, below);
        adds = adds_torn g b x y slot slot_in blank slots_same none;
      }

  module _ (e : Entry) (holds : entry_in (slot_bytes g y slot) ≡ Some e) (for_block : e.block ≡ b) (is_spare : e.spare ≡ j) (filled : IsFilled g change p x (spare_block g j) y) where
    entries : counting g y ≡ counting g x ++ e ∷ []
    entries = counting_more g x y slot slot_in blank slots_same e holds (omega (arith, for_block, block)) (omega (arith, is_spare, spare)) (omega (arith, is_spare, below))

    at : (other : ℕ) → place_of g y other ≡ cond (e.block == other) (spare_block g e.spare) (place_of g x other)
    at other = ap (λ (es : List Entry). place_among g es other) entries ∙ last_for-more g other other (counting g x) e

    pub tried_done : IsReplaced g b p change j (j + 1) x y
    tried_done = record {
      spare = j;
      least = omega arith;
      most = omega arith;
      stands = at b ∙ (cond-true (e.block == b) _ _ (eq-eqb _ _ for_block) ∙ ap (spare_block g) is_spare);
      filled = filled;
    }

    pub tried_next : next_spare g y ≡ j + 1
    tried_next = ap (above_last 0) entries ∙ (above_last-more 0 (counting g x) e ∙ ap (λ (n : ℕ). n + 1) is_spare)

    pub tried_more : Replaces g b p change j (j + 1) x y
    tried_more =
        let next : next_spare g y ≡ e.spare + 1 = ap (above_last 0) entries ∙ above_last-more 0 (counting g x) e in
        record {
          size = size;
          same = before_same;
          others = λ other not. at other ∙ ⊎_elim (λ yes. absurd (not (sym (eqb-true _ _ yes) ∙ for_block))) (λ no. cond-false (e.block == other) _ _ no) (cases_Bool (e.block == other));
          this = inr tried_done;
          below = omega (arith, next, is_spare);
          adds = adds_entry g b x y slot slot_in blank slots_same e for_block entries;
        }

-- the steps of an attempt
module _ (g : Geometry) (x : List ℕ) (j slot b p : ℕ) (change : Change) (spare : j < g.spares) (slot_in : slot < slots_in g) (block : b < g.logical)
    (blank : IsBlankFrom g x slot) (below : next_spare g x ≤ j) where
  abbrev OfSpare : List ℕ → Type 0
  OfSpare y = Changes (spare_block g j * g.block_len) g.block_len Anything x y

  in_spare : (y : List ℕ) → OfSpare y → (k : ℕ) → (k < spare_block g j * g.block_len) ⊎ (spare_block g j * g.block_len + g.block_len ≤ k) → get_or y k 0 ≡ get_or x k 0
  in_spare y changes k outside = ⊎_elim (changes.before k) (changes.after k) outside

  pub fill_blank : (y : List ℕ) → OfSpare y → IsBlankFrom g y slot
  fill_blank y changes = record { each = λ k from lt. changes.after (map_place g + k) (omega (arith, spare_end g j spare)) ∙ blank.each k from lt }

  -- the spare is erased and filled
  pub fill_left : (y : List ℕ) → OfSpare y → Replaces g b p change j (j + 1) x y
  fill_left y changes =
      tried_torn g x y j slot b p change spare slot_in block blank below changes.size (λ k outside _. in_spare y changes k outside)
      (blank_none g y slot (fill_blank y changes) slot (omega arith) slot_in)

  -- and the entry written
  module _ (mid y : List ℕ) (e : Entry) (for_block : e.block ≡ b) (is_spare : e.spare ≡ j) (narrow_block : e.block < 65536) (narrow_spare : e.spare < 65536)
      (whole : slot_place g slot + 16 ≤ length x) (fills : OfSpare mid) (filled : IsFilled g change p x (spare_block g j) mid) where
    module _ (P : ℕ → ℕ → ℕ → Type 0) (changes : Changes (slot_place g slot) 16 P mid y) where
      size : length y ≡ length x
      size = changes.size ∙ fills.size

      same : (k : ℕ) → (k < spare_block g j * g.block_len) ⊎ (spare_block g j * g.block_len + g.block_len ≤ k) → (k < slot_place g slot) ⊎ (slot_place g slot + 16 ≤ k) → get_or y k 0 ≡ get_or x k 0
      same k out_of_spare out_of_slot = ⊎_elim (changes.before k) (changes.after k) out_of_slot ∙ in_spare mid fills k out_of_spare

      filled_still : IsFilled g change p x (spare_block g j) y
      filled_still = record { each = λ k lt. changes.before (spare_block g j * g.block_len + k) (omega (arith, lt, spare_end g j spare)) ∙ filled.each k lt }

      long : length (slot_bytes g y slot) ≡ 16
      long = slot_len g y slot (omega (arith, size, whole))

    pub entry_blank : (P : ℕ → ℕ → ℕ → Type 0) → Changes (slot_place g slot) 16 P mid y → IsBlankFrom g y (slot + 1)
    entry_blank P changes = blank_behind g x y j slot b p change spare slot_in block blank below (size P changes) (same P changes)

    pub entry_left : Changes (slot_place g slot) 16 (IsTornProgram (written e)) mid y → Replaces g b p change j (j + 1) x y
    entry_left changes =
        let P = IsTornProgram (written e) in
        ⊎_elim
        (λ none. tried_torn g x y j slot b p change spare slot_in block blank below (size P changes) (same P changes) none)
        (λ some. tried_more g x y j slot b p change spare slot_in block blank below (size P changes) (same P changes) e some for_block is_spare (filled_still P changes))
        (torn_entry e narrow_block narrow_spare (slot_bytes g y slot) (long P changes) (λ k lt. omega (arith, (changes.inside k lt).0, slot_at g y slot k lt)))

    -- it is there
    stands_there : Changes (slot_place g slot) 16 (IsProgrammed (written e)) mid y → slot_bytes g y slot ≡ written e
    stands_there changes =
        let P = IsProgrammed (written e) in
        same_bytes (slot_bytes g y slot) (written e) (long P changes ∙ sym (length-paired (spelled e)))
        (λ k lt. let in_slot : k < 16 = omega (arith, lt, long P changes) in slot_at g y slot k in_slot ∙ changes.inside k in_slot)

    holds : Changes (slot_place g slot) 16 (IsProgrammed (written e)) mid y → entry_in (slot_bytes g y slot) ≡ Some e
    holds changes = ap entry_in (stands_there changes) ∙ entry_of-written e narrow_block narrow_spare

    pub entry_next : Changes (slot_place g slot) 16 (IsProgrammed (written e)) mid y → AreNext g y (j + 1) (slot + 1)
    entry_next changes =
        let P = IsProgrammed (written e) in
        let used : is_blank (slot_bytes g y slot) ≡ false = ap is_blank (stands_there changes) in
        record {
          spare_is = tried_next g x y j slot b p change spare slot_in block blank below (size P changes) (same P changes) e (holds changes) for_block is_spare (filled_still P changes);
          slot_is = next_used g y slot slot_in used (entry_blank P changes);
        }

    pub entry_done : Changes (slot_place g slot) 16 (IsProgrammed (written e)) mid y → IsReplaced g b p change j (j + 1) x y
    entry_done changes =
        let P = IsProgrammed (written e) in
        tried_done g x y j slot b p change spare slot_in block blank below (size P changes) (same P changes) e (holds changes) for_block is_spare (filled_still P changes)

    pub entry_held : Changes (slot_place g slot) 16 (IsProgrammed (written e)) mid y → Replaces g b p change j (j + 1) x y
    entry_held changes =
        let P = IsProgrammed (written e) in
        tried_more g x y j slot b p change spare slot_in block blank below (size P changes) (same P changes) e (holds changes) for_block is_spare (filled_still P changes)

-- one attempt after others
module _ (g : Geometry) (b p : ℕ) (change : Change) (first next : ℕ) (x : List ℕ) (from : p < spare_block g first) where
  pub replaces_none : next_spare g x ≤ first → Replaces g b p change first first x x
  replaces_none below = record { size = refl; same = λ k lt. refl; others = λ other not. refl; this = inl refl; below = below; adds = adds_none g b x x (λ slot lt. refl) }

  pub replaces_wider : (more : ℕ) (y : List ℕ) → next ≤ more → Replaces g b p change first next x y → Replaces g b p change first more x y
  replaces_wider more y le left = record {
    size = left.size;
    same = left.same;
    others = left.others;
    this = ⊎_elim (λ same. inl same) (λ r. inr (record { spare = r.spare; least = r.least; most = omega (arith, r.most, le); stands = r.stands; filled = r.filled })) left.this;
    below = omega (arith, left.below, le);
    adds = left.adds;
  }

  module _ (mid y : List ℕ) (le : first ≤ next) (so_far : Replaces g b p change first next x mid) where
    spares_before : spare_block g first * g.block_len ≤ spare_block g next * g.block_len
    spares_before = let more : g.logical + first ≤ g.logical + next = omega (arith, le) in omega (arith, mul-le-mul_left g.block_len more)

    -- the block that fails is as it was
    source : (k : ℕ) → k < g.block_len → get_or mid (p * g.block_len + k) 0 ≡ get_or x (p * g.block_len + k) 0
    source k lt =
        let here : p + 1 ≤ g.logical + first = omega (arith, from) in
        so_far.same (p * g.block_len + k) (omega (arith, lt, mul-le-mul_left g.block_len here))

    pub replaced_on : IsReplaced g b p change next (next + 1) mid y → IsReplaced g b p change first (next + 1) x y
    replaced_on r = record {
      spare = r.spare;
      least = omega (arith, r.least, le);
      most = r.most;
      stands = r.stands;
      filled = record { each = λ k lt. r.filled.each k lt ∙ wanted_same g.block_len change x mid p k (source k lt) };
    }

    -- a spare that stands for the block since an attempt before
    stands_still : Replaces g b p change next (next + 1) mid y → place_of g y b ≡ place_of g mid b → IsReplaced g b p change first next x mid → IsReplaced g b p change first (next + 1) x y
    stands_still here same r = record {
      spare = r.spare;
      least = r.least;
      most = omega (arith, r.most);
      stands = same ∙ r.stands;
      filled = record {
        each = λ k lt.
            let behind : g.logical + r.spare + 1 ≤ g.logical + next = omega (arith, r.most) in
            here.same (spare_block g r.spare * g.block_len + k) (omega (arith, lt, mul-le-mul_left g.block_len behind)) ∙ r.filled.each k lt;
      };
    }

    pub replaces_on : Replaces g b p change next (next + 1) mid y → Replaces g b p change first (next + 1) x y
    replaces_on here = record {
      size = here.size ∙ so_far.size;
      same = λ k lt. here.same k (omega (arith, lt, spares_before)) ∙ so_far.same k lt;
      others = λ other not. here.others other not ∙ so_far.others other not;
      this = ⊎_elim (λ same. ⊎_elim (λ was. inl (same ∙ was)) (λ r. inr (stands_still here same r)) so_far.this) (λ r. inr (replaced_on r)) here.this;
      below = here.below;
      adds = adds_joined g b x mid y so_far.adds here.adds;
    }
