-- The slots of the map under a change.
use Rattle.std.proofs.Common.{◌≡◌, ◌≢◌, ◌⊎◌, inl, inr, ⊎_elim, ℕ, zero, suc, ◌+◌, ◌*◌, ◌<◌, ◌≤◌, true, List, [], ◌∷◌, ◌++◌, length, take, drop, get_or, Option, Some, None, refl, sym, ◌∙◌, ap, subst, arith, length-take, length-drop, get_or-take, get_or-drop}
use Rattle.std.proofs.lemmas.Bool.{cases_eq, cases_lt, cond_both}
use Rattle.flash_dev.proofs.ChangesLemmas.{same_bytes}
use Rattle.flash_remap.specs.Entry.{entry_in}
use Rattle.flash_remap.specs.Layout.{Geometry, map_place, slot_place, slots_in}
use Rattle.flash_remap.specs.Map.{IsNextOf, above_last, counting, counting_before, is_counting, next_spare, slot_bytes, with_next}
use Rattle.flash_remap.specs.Replaced.{IsBlankFrom}
use Rattle.flash_remap.specs.declared.entry.Entry.{Entry}
use Rattle.flash_remap.proofs.EntryLemmas.{no_entry}
use Rattle.flash_remap.proofs.MapLemmas.{AreApart, above_last-more, apart_more, apart_none, counts, counts_then, next_more, next_none}

-- counting entries are in the order of their spares
pub record AreOrdered (g : Geometry) (es : List Entry) : Type 0 where
  pub next : IsNextOf es (above_last 0 es)
  pub apart : AreApart g es (above_last 0 es)

ordered_next : (g : Geometry) (es : List Entry) → AreOrdered g es → (o : Option Entry) → AreOrdered g (with_next g es o)
ordered_next g es ordered None = ordered
ordered_next g es ordered (Some e) = cond_both (is_counting g es e) (es ++ e ∷ []) es (λ (l : List Entry). AreOrdered g l) more (λ no. ordered)
  where
    more : is_counting g es e ≡ true → AreOrdered g (es ++ e ∷ [])
    more counting =
        let then = counts_then g es e (above_last 0 es) ordered.next counting in
        let at : above_last 0 (es ++ e ∷ []) ≡ e.spare + 1 = above_last-more 0 es e in
        record {
          next = subst (λ (n : ℕ). IsNextOf (es ++ e ∷ []) n) (sym at) (next_more es e (above_last 0 es) ordered.next then.1.1);
          apart = subst (λ (n : ℕ). AreApart g (es ++ e ∷ []) n) (sym at) (apart_more g es e (above_last 0 es) ordered.apart then.1.1);
        }

module _ (g : Geometry) where
  pub ordered : (x : List ℕ) (n : ℕ) → AreOrdered g (counting_before g x n)
  unfolding counting_before
  ordered x zero = record { next = next_none; apart = apart_none g }
  ordered x (suc n) = ordered_next g (counting_before g x n) (ordered x n) (entry_in (slot_bytes g x n))

  pub slot_at : (x : List ℕ) (slot k : ℕ) → k < 16 → get_or (slot_bytes g x slot) k 0 ≡ get_or x (slot_place g slot + k) 0
  slot_at x slot k lt = get_or-take 16 (drop (slot_place g slot) x) k 0 lt ∙ get_or-drop (slot_place g slot) x k 0

  pub slot_len : (x : List ℕ) (slot : ℕ) → slot_place g slot + 16 ≤ length x → length (slot_bytes g x slot) ≡ 16
  slot_len x slot fits = omega (arith, length-take 16 (drop (slot_place g slot) x), length-drop (slot_place g slot) x)

  -- the same bytes are the same slot
  pub slot_same : (x y : List ℕ) (slot : ℕ) → length y ≡ length x → ((k : ℕ) → k < 16 → get_or y (slot_place g slot + k) 0 ≡ get_or x (slot_place g slot + k) 0)
      → slot_bytes g y slot ≡ slot_bytes g x slot
  slot_same x y slot size same =
      let place = slot_place g slot in
      let long : length (take 16 (drop place y)) ≡ length (take 16 (drop place x)) =
      omega (arith, length-take 16 (drop place y), length-take 16 (drop place x), length-drop place y, length-drop place x) in
      same_bytes (slot_bytes g y slot) (slot_bytes g x slot) long (λ k lt.
      let in_slot : k < 16 = omega (arith, lt, length-take 16 (drop place y)) in
      slot_at y slot k in_slot ∙ (same k in_slot ∙ sym (slot_at x slot k in_slot)))

  pub counting_same : (x y : List ℕ) (n : ℕ) → ((k : ℕ) → k < n → slot_bytes g y k ≡ slot_bytes g x k) → counting_before g y n ≡ counting_before g x n
  unfolding counting_before
  counting_same x y zero same = refl
  counting_same x y (suc n) same =
      let before : counting_before g y n ≡ counting_before g x n = counting_same x y n (λ k lt. same k (omega arith)) in
      ap (λ (es : List Entry). with_next g es (entry_in (slot_bytes g y n))) before
      ∙ ap (λ (s : List ℕ). with_next g (counting_before g x n) (entry_in s)) (same n (omega arith))

  -- slots that hold none change nothing
  pub counting_rest : (y : List ℕ) (n m : ℕ) → n ≤ m → ((k : ℕ) → n ≤ k → k < m → entry_in (slot_bytes g y k) ≡ None) → counting_before g y m ≡ counting_before g y n
  unfolding counting_before
  counting_rest y n zero le none = let is : zero ≡ n = omega arith in ap (counting_before g y) is
  counting_rest y n (suc m) le none =
      ⊎_elim
      (λ below.
      ap (with_next g (counting_before g y m)) (none m (omega arith) (omega arith)) ∙ counting_rest y n m (omega arith) (λ k from to. none k from (omega arith)))
      (λ past. let is : suc m ≡ n = omega arith in ap (counting_before g y) is)
      (cases_lt n (suc m))

  pub blank_none : (x : List ℕ) (slot : ℕ) → IsBlankFrom g x slot → (k : ℕ) → slot ≤ k → k < slots_in g → entry_in (slot_bytes g x k) ≡ None
  blank_none x slot blank k from lt =
      let place : slot_place g k + 0 ≡ map_place g + 16 * k = omega arith in
      no_entry (slot_bytes g x k) (slot_at x k 0 (omega arith) ∙ (ap (λ (p : ℕ). get_or x p 0) place ∙ blank.each (16 * k) (omega arith) (omega arith)))

  module _ (x y : List ℕ) (slot : ℕ) (lt : slot < slots_in g) (blank : IsBlankFrom g x slot)
      (same : (k : ℕ) → k < slots_in g → k ≢ slot → slot_bytes g y k ≡ slot_bytes g x k) where
    front : counting_before g y slot ≡ counting g x
    front = counting_same x y slot (λ k below. same k (omega arith) (omega arith))
        ∙ sym (counting_rest x slot (slots_in g) (omega arith) (λ k from to. blank_none x slot blank k from to))

    rest : (k : ℕ) → suc slot ≤ k → k < slots_in g → entry_in (slot_bytes g y k) ≡ None
    rest k from to = ap entry_in (same k to (omega arith)) ∙ blank_none x slot blank k (omega arith) to

    -- the next slot is changed, and holds no entry
    pub counting_torn : entry_in (slot_bytes g y slot) ≡ None → counting g y ≡ counting g x
    counting_torn none = counting_rest y slot (slots_in g) (omega arith) (λ k from to. at_slot k from to (cases_eq k slot)) ∙ front
      where
        at_slot : (k : ℕ) → slot ≤ k → k < slots_in g → (k ≡ slot) ⊎ (k ≡ slot → ⊥) → entry_in (slot_bytes g y k) ≡ None
        at_slot k from to (inl is) = subst (λ (s : ℕ). entry_in (slot_bytes g y s) ≡ None) (sym is) none
        at_slot k from to (inr not) = rest k (omega (arith, not)) to

    -- or it holds one that counts
    pub counting_more : (e : Entry) → entry_in (slot_bytes g y slot) ≡ Some e → e.block < g.logical → e.spare < g.spares → next_spare g x ≤ e.spare
        → counting g y ≡ counting g x ++ e ∷ []
    unfolding counting_before
    counting_more e is block spare above =
        let whole : counting g y ≡ counting_before g y (suc slot) = counting_rest y (suc slot) (slots_in g) (omega arith) rest in
        let one : counting_before g y (suc slot) ≡ with_next g (counting g x) (Some e) =
        ap (λ (o : Option Entry). with_next g (counting_before g y slot) o) is ∙ ap (λ (es : List Entry). with_next g es (Some e)) front in
        whole ∙ (one ∙ counts g (counting g x) e (next_spare g x) (ordered x (slots_in g)).next block spare above)

  -- where the map is as it was, so is each slot
  pub slot_kept : (x y : List ℕ) → length y ≡ length x → ((k : ℕ) → k < 16 * slots_in g → get_or y (map_place g + k) 0 ≡ get_or x (map_place g + k) 0)
      → (slot : ℕ) → slot < slots_in g → slot_bytes g y slot ≡ slot_bytes g x slot
  slot_kept x y size same slot lt = slot_same x y slot size (λ k in_slot.
      let place : slot_place g slot + k ≡ map_place g + (16 * slot + k) = omega arith in
      subst (λ (p : ℕ). get_or y p 0 ≡ get_or x p 0) (sym place) (same (16 * slot + k) (omega arith)))

  -- and so are the counting entries
  pub counting_kept : (x y : List ℕ) → length y ≡ length x → ((k : ℕ) → k < 16 * slots_in g → get_or y (map_place g + k) 0 ≡ get_or x (map_place g + k) 0) → counting g y ≡ counting g x
  counting_kept x y size same = counting_same x y (slots_in g) (slot_kept x y size same)
