-- A change of one block beneath, and of the logical contents.
use Rattle.std.proofs.Common.{◌≡◌, ◌≢◌, ◌⊎◌, inl, inr, ⊎_elim, ℕ, ◌+◌, ◌-◌, ◌*◌, ◌<◌, ◌≤◌, true, false, nat_lt, List, length, get_or, refl, sym, ◌∙◌, ap, subst, arith}
use Rattle.std.proofs.lemmas.Bool.{cond-true, cond-false}
use Rattle.std.proofs.lemmas.Bool.Decides.{nat_tests}
use Rattle.std.proofs.Math.Nat.{mul-le-mul_left}
use Rattle.flash_dev.specs.Changes.{Changes}
use Rattle.flash_remap.specs.Added.{AddsFor}
use Rattle.flash_remap.specs.Change.{AreBytes, FindsBlank, IsDoneBy, IsTornBy, LiesInBlock, begins_at, changed_len, wanted}
use Rattle.flash_remap.specs.Layout.{Geometry, map_place, slots_in, spare_block}
use Rattle.flash_remap.specs.Logical.{byte_in, logical}
use Rattle.flash_remap.specs.Map.{AreNext, above_last, counting, next_spare, place_among, place_of}
use Rattle.flash_remap.specs.Replaced.{IsBlankFrom, IsReplaced, Replaces}
use Rattle.flash_remap.specs.declared.change.Change.{Change}
use Rattle.flash_remap.specs.declared.change.Change.TheVariants.{Erase, Program}
use Rattle.flash_remap.specs.declared.entry.Entry.{Entry}
use Rattle.flash_remap.proofs.AddedLemmas.{adds_none}
use Rattle.flash_remap.proofs.FillLemmas.{blocks_apart}
use Rattle.flash_remap.proofs.LogicalLemmas.{logical_changes}
use Rattle.flash_remap.proofs.NextLemmas.{next_slot_kept}
use Rattle.flash_remap.proofs.SlotLemmas.{counting_kept, ordered, slot_kept}

pub in_block : (z : ℕ) (change : Change) → LiesInBlock z change → begins_at change + changed_len z change ≤ z
in_block z Erase lies = omega arith
in_block z (Program at bytes) lies = lies.2

lt_true : (a b : ℕ) → a < b → nat_lt a b ≡ true
lt_true a b lt = grind (arith, nat_tests)

lt_false : (a b : ℕ) → b ≤ a → nat_lt a b ≡ false
lt_false a b le = grind (arith, nat_tests)

-- around the changed bytes a block is to be as it was
pub wanted_around : (z : ℕ) (change : Change) (x : List ℕ) (p k : ℕ) → k < z → (k < begins_at change) ⊎ (begins_at change + changed_len z change ≤ k) → wanted z change x p k ≡ get_or x (p * z + k) 0
wanted_around z Erase x p k lt (inl before) = absurd (omega arith)
wanted_around z Erase x p k lt (inr after) = absurd (omega arith)
wanted_around z (Program at bytes) x p k lt (inl before) = cond-true (nat_lt k at) _ _ (lt_true k at before)
wanted_around z (Program at bytes) x p k lt (inr after) =
    cond-false (nat_lt k at) _ _ (lt_false k at (omega arith)) ∙ cond-false (nat_lt k (at + length bytes.now)) _ _ (lt_false k (at + length bytes.now) after)

-- and these are to be what the change makes of them
pub wanted_here : (z : ℕ) (change : Change) (x : List ℕ) (p k a : ℕ) → k < changed_len z change → IsDoneBy change k a (wanted z change x p (begins_at change + k))
wanted_here z Erase x p k a lt = refl
wanted_here z (Program at bytes) x p k a lt =
    let place : at + k - at ≡ k = omega arith in
    cond-false (nat_lt (at + k) at) _ _ (lt_false (at + k) at (omega arith))
    ∙ (cond-true (nat_lt (at + k) (at + length bytes.now)) _ _ (lt_true (at + k) (at + length bytes.now) (omega arith)) ∙ ap (λ (i : ℕ). get_or bytes.now i 0) place)

pub done_torn : (change : Change) (k a b : ℕ) → AreBytes change → a ≤ 255 → IsDoneBy change k a b → IsTornBy change k a b
done_torn Erase k a b bytes byte is = (omega (arith, is, byte), omega (arith, is))
done_torn (Program at bytes) k a b fit byte is = (omega (arith, is), omega (arith, is, fit k))

pub changes_torn : (at n : ℕ) (change : Change) (x y : List ℕ) → AreBytes change → ((k : ℕ) → get_or x k 0 ≤ 255) → Changes at n (IsDoneBy change) x y → Changes at n (IsTornBy change) x y
changes_torn at n change x y bytes are_bytes done = record {
  size = done.size;
  before = done.before;
  after = done.after;
  inside = λ k lt. done_torn change k _ _ bytes (are_bytes (at + k)) (done.inside k lt);
}

-- what is not changed yet may be torn
pub torn_none : (z : ℕ) (change : Change) (x : List ℕ) (p : ℕ) → AreBytes change → ((k : ℕ) → get_or x k 0 ≤ 255) → FindsBlank z change x p → Changes (p * z + begins_at change) (changed_len z change) (IsTornBy change) x x
torn_none z Erase x p bytes are_bytes finds = record { size = refl; before = λ k lt. refl; after = λ k le. refl; inside = λ k lt. (omega arith, are_bytes (p * z + 0 + k)) }
torn_none z (Program at bs) x p bytes are_bytes finds = record {
  size = refl;
  before = λ k lt. refl;
  after = λ k le. refl;
  inside = λ k lt. (omega (arith, finds k lt, bytes k), omega (arith, finds k lt));
}

module _ (g : Geometry) (x : List ℕ) (b from at n : ℕ) (block : b < g.logical) (stands : place_of g x b ≡ from) (inside : from < g.logical + g.spares) (fits : at + n ≤ g.block_len) where
  before_map : from * g.block_len + g.block_len ≤ map_place g
  before_map = let next : from + 1 ≤ g.logical + g.spares = omega (arith, inside) in omega (arith, mul-le-mul_left g.block_len next)

  -- another block stands elsewhere
  other_place : (c : ℕ) → c < g.logical → c ≢ b → place_of g x c ≢ from
  other_place c lt not is = not ((ordered g x (slots_in g)).apart.one c b lt block (is ∙ sym stands))

  -- what changes within the block
  module _ (P : ℕ → ℕ → ℕ → Type 0) (y : List ℕ) (changes : Changes (from * g.block_len + at) n P x y) where
    pub entries_kept : counting g y ≡ counting g x
    entries_kept = counting_kept g x y changes.size (λ k lt. changes.after (map_place g + k) (omega (arith, before_map, fits)))

    pub place_kept : (c : ℕ) → place_of g y c ≡ place_of g x c
    place_kept c = ap (λ (es : List Entry). place_among g es c) entries_kept

    pub spare_kept : next_spare g y ≡ next_spare g x
    spare_kept = ap (above_last 0) entries_kept

    pub blank_kept : (slot : ℕ) → IsBlankFrom g x slot → IsBlankFrom g y slot
    blank_kept slot blank = record { each = λ k le lt. changes.after (map_place g + k) (omega (arith, before_map, fits)) ∙ blank.each k le lt }

    pub next_kept : (spare slot : ℕ) → AreNext g x spare slot → AreNext g y spare slot
    next_kept spare slot next = record {
      spare_is = spare_kept ∙ next.spare_is;
      slot_is = next_slot_kept g x y changes.size (λ k lt. changes.after (map_place g + k) (omega (arith, before_map, fits))) ∙ next.slot_is;
    }

    pub adds_kept : AddsFor g b x y
    adds_kept = adds_none g b x y (slot_kept g x y changes.size (λ k lt. changes.after (map_place g + k) (omega (arith, before_map, fits))))

    elsewhere : (q k : ℕ) → q ≢ from → k < g.block_len → get_or y (q * g.block_len + k) 0 ≡ get_or x (q * g.block_len + k) 0
    elsewhere q k not lt = ⊎_elim (λ before. changes.before (q * g.block_len + k) (omega (arith, before, lt))) (λ after. changes.after (q * g.block_len + k) (omega (arith, after, fits))) (blocks_apart g.block_len q from not)

    around : (k : ℕ) → (k < at) ⊎ (at + n ≤ k) → get_or y (from * g.block_len + k) 0 ≡ get_or x (from * g.block_len + k) 0
    around k out = ⊎_elim (λ before. changes.before (from * g.block_len + k) (omega (arith, before))) (λ after. changes.after (from * g.block_len + k) (omega (arith, after))) out

    here : (k : ℕ) → k < n → P k (get_or x (from * g.block_len + (at + k)) 0) (get_or y (from * g.block_len + (at + k)) 0)
    here k lt =
        let place : from * g.block_len + at + k ≡ from * g.block_len + (at + k) = omega arith in
        subst (λ (p : ℕ). P k (get_or x p 0) (get_or y p 0)) place (changes.inside k lt)

    -- changes the logical block
    pub direct : Changes (b * g.block_len + at) n P (logical g x) (logical g y)
    direct = logical_changes g x y b at n P block fits
        (λ c k lt not within. ap (λ (p : ℕ). get_or y (p * g.block_len + k) 0) (place_kept c) ∙ elsewhere (place_of g x c) k (other_place c lt not) within)
        (λ k within out.
        let old : byte_in g x b k ≡ get_or x (from * g.block_len + k) 0 = ap (λ (p : ℕ). get_or x (p * g.block_len + k) 0) stands in
        let new : byte_in g y b k ≡ get_or y (from * g.block_len + k) 0 = ap (λ (p : ℕ). get_or y (p * g.block_len + k) 0) (place_kept b ∙ stands) in
        new ∙ (around k out ∙ sym old))
        (λ k lt.
        let old : byte_in g x b (at + k) ≡ get_or x (from * g.block_len + (at + k)) 0 = ap (λ (p : ℕ). get_or x (p * g.block_len + (at + k)) 0) stands in
        let new : byte_in g y b (at + k) ≡ get_or y (from * g.block_len + (at + k)) 0 = ap (λ (p : ℕ). get_or y (p * g.block_len + (at + k)) 0) (place_kept b ∙ stands) in
        subst (λ (v : ℕ). P k v (byte_in g y b (at + k))) (sym old) (subst (λ (v : ℕ). P k (get_or x (from * g.block_len + (at + k)) 0) v) (sym new) (here k lt)))

-- the block is torn, and spares were tried for it
module _ (g : Geometry) (x mid y : List ℕ) (b from first next : ℕ) (change : Change) (block : b < g.logical) (stands : place_of g x b ≡ from) (under : from < spare_block g first)
    (few : first ≤ g.spares) (lies : LiesInBlock g.block_len change) (below : next_spare g x ≤ first)
    (torn : Changes (from * g.block_len + begins_at change) (changed_len g.block_len change) (IsTornBy change) x mid) (left : Replaces g b from change first next mid y) where
  at : ℕ
  at = begins_at change

  n : ℕ
  n = changed_len g.block_len change

  fits : begins_at change + changed_len g.block_len change ≤ g.block_len
  fits = in_block g.block_len change lies

  inside : from < g.logical + g.spares
  inside = omega (arith, under, few)

  place_mid : (c : ℕ) → place_of g mid c ≡ place_of g x c
  place_mid c = place_kept g x b from (begins_at change) (changed_len g.block_len change) block stands inside fits (IsTornBy change) mid torn c

  -- blocks before the spares are as they were
  same : (q k : ℕ) → q < spare_block g first → k < g.block_len → get_or y (q * g.block_len + k) 0 ≡ get_or mid (q * g.block_len + k) 0
  same q k lt within =
      let step : q + 1 ≤ g.logical + first = omega (arith, lt) in
      left.same (q * g.block_len + k) (omega (arith, within, mul-le-mul_left g.block_len step))

  others : (c k : ℕ) → c < g.logical → c ≢ b → k < g.block_len → byte_in g y c k ≡ byte_in g x c k
  others c k lt not within =
      let place : place_of g y c ≡ place_of g x c = left.others c not ∙ place_mid c in
      let low : place_of g x c < spare_block g first = omega (arith, (ordered g x (slots_in g)).apart.below c lt, below) in
      ap (λ (p : ℕ). get_or y (p * g.block_len + k) 0) place
      ∙ (same (place_of g x c) k low within
      ∙ elsewhere g x b from (begins_at change) (changed_len g.block_len change) block stands inside fits (IsTornBy change) mid torn (place_of g x c) k
      (other_place g x b from (begins_at change) (changed_len g.block_len change) block stands inside fits c lt not) within)

  old_byte : (k : ℕ) → byte_in g x b k ≡ get_or x (from * g.block_len + k) 0
  old_byte k = ap (λ (p : ℕ). get_or x (p * g.block_len + k) 0) stands

  still : (k : ℕ) → k < g.block_len → (k < begins_at change) ⊎ (begins_at change + changed_len g.block_len change ≤ k) → get_or mid (from * g.block_len + k) 0 ≡ get_or x (from * g.block_len + k) 0
  still k within out = around g x b from (begins_at change) (changed_len g.block_len change) block stands inside fits (IsTornBy change) mid torn k out

  -- a spare that stands for it
  spare_byte : (r : IsReplaced g b from change first next mid y) (k : ℕ) → k < g.block_len → byte_in g y b k ≡ wanted g.block_len change mid from k
  spare_byte r k within = ap (λ (p : ℕ). get_or y (p * g.block_len + k) 0) r.stands ∙ r.filled.each k within

  same_byte : place_of g y b ≡ place_of g mid b → (k : ℕ) → k < g.block_len → byte_in g y b k ≡ get_or mid (from * g.block_len + k) 0
  same_byte is k within = ap (λ (p : ℕ). get_or y (p * g.block_len + k) 0) (is ∙ (place_mid b ∙ stands)) ∙ same from k under within

  around_it : (k : ℕ) → k < g.block_len → (k < begins_at change) ⊎ (begins_at change + changed_len g.block_len change ≤ k) → byte_in g y b k ≡ byte_in g x b k
  around_it k within out = ⊎_elim (λ is. same_byte is k within) (λ r. spare_byte r k within ∙ wanted_around g.block_len change mid from k within out) left.this ∙ (still k within out ∙ sym (old_byte k))

  done_here : (r : IsReplaced g b from change first next mid y) (k : ℕ) → k < changed_len g.block_len change → IsDoneBy change k (byte_in g x b (begins_at change + k)) (byte_in g y b (begins_at change + k))
  done_here r k lt = subst (λ (v : ℕ). IsDoneBy change k (byte_in g x b (begins_at change + k)) v) (sym (spare_byte r (begins_at change + k) (omega (arith, lt, fits))))
      (wanted_here g.block_len change mid from k (byte_in g x b (begins_at change + k)) lt)

  torn_here : place_of g y b ≡ place_of g mid b → (k : ℕ) → k < changed_len g.block_len change → IsTornBy change k (byte_in g x b (begins_at change + k)) (byte_in g y b (begins_at change + k))
  torn_here is k lt = subst (λ (v : ℕ). IsTornBy change k (byte_in g x b (begins_at change + k)) v) (sym (same_byte is (begins_at change + k) (omega (arith, lt, fits))))
      (subst (λ (v : ℕ). IsTornBy change k v (get_or mid (from * g.block_len + (begins_at change + k)) 0)) (sym (old_byte (begins_at change + k)))
      (here g x b from (begins_at change) (changed_len g.block_len change) block stands inside fits (IsTornBy change) mid torn k lt))

  pub replaced_torn : AreBytes change → ((k : ℕ) → get_or x k 0 ≤ 255) → Changes (b * g.block_len + begins_at change) (changed_len g.block_len change) (IsTornBy change) (logical g x) (logical g y)
  replaced_torn bytes are_bytes = logical_changes g x y b (begins_at change) (changed_len g.block_len change) (IsTornBy change) block fits others around_it
      (λ k lt. ⊎_elim (λ is. torn_here is k lt) (λ r. done_torn change k _ _ bytes (are_bytes (place_of g x b * g.block_len + (begins_at change + k))) (done_here r k lt)) left.this)

  pub replaced_done : IsReplaced g b from change first next mid y → Changes (b * g.block_len + begins_at change) (changed_len g.block_len change) (IsDoneBy change) (logical g x) (logical g y)
  replaced_done r = logical_changes g x y b (begins_at change) (changed_len g.block_len change) (IsDoneBy change) block fits others around_it (done_here r)
