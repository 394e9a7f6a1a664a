-- How the erases of `begin` go on, and what they leave.
use Rattle.std.specs.Prelude.{Result, Ok, Err, OnOk}
use Rattle.std.proofs.Common.{◌≡◌, ◌⊎◌, inl, inr, ℕ, ◌+◌, ◌-◌, ◌<◌, ◌≤◌, List, length, get_or, refl, sym, ◌∙◌, subst, arith}
use Rattle.std.proofs.lemmas.Bool.{cases_lt}
use Rattle.flash_dev.specs.Changes.{Changes, IsBlank, IsErased, IsTornErase}
use Rattle.flash_layout.specs.Layout.{Geometry, HasJournals, IsInLimits, area_len, area_place, journal_len, journal_place, record_place, short_len}
use Rattle.flash_bank.specs.Runs.{AreBytes, IsOutside, IsRaised, SameAt}
use Rattle.flash_bank.specs.Sound.{IsSound, IsCurrent, Keeps, record_in}
use Rattle.flash_bank.specs.Spare.{Clears, CutsJournal, CutsSpare, FirstCut, FirstGone}
use Rattle.flash_layout.proofs.PartLemmas.{part_same}
use Rattle.flash_layout.proofs.Places.{Apart, area_from_record, record_before_area, area_is, areas_apart, first_before_slots, first_in_area, records_apart, slots_before_end}
use Rattle.flash_bank.proofs.RunsLemmas.{changes_joined, changes_same}
use Rattle.flash_bank.proofs.SoundLemmas.{Stays, keeps}
use Rattle.flash_bank.proofs.StayLemmas.{blank_stays, own_bank_lt, raised_says, raised_stays, same_apart}

-- a byte is within a range or outside it
pub in_or_out : (at n k : ℕ) → IsOutside at n k ⊎ ((at ≤ k) × (k < at + n))
in_or_out at n k = pick (cases_lt k at) (cases_lt k (at + n))
  where
    pick : (k < at) ⊎ (at ≤ k) → (k < at + n) ⊎ (at + n ≤ k) → IsOutside at n k ⊎ ((at ≤ k) × (k < at + n))
    pick (inl front) _ = inl (inl front)
    pick (inr le) (inl lt) = inr (le, lt)
    pick (inr le) (inr past) = inl (inr past)

-- what is outside of a change is as before
pub change_outside : (at n : ℕ) (P : ℕ → ℕ → ℕ → Type 0) (x y : List ℕ) → Changes at n P x y → (k : ℕ) → IsOutside at n k → get_or y k 0 ≡ get_or x k 0
change_outside at n P x y changes k (inl front) = changes.before k front
change_outside at n P x y changes k (inr past) = changes.after k past

-- a change that only raises bytes leaves none below
pub change_above : (at n : ℕ) (x y : List ℕ) → Changes at n IsRaised x y → (k : ℕ) → get_or x k 0 ≤ get_or y k 0
change_above at n x y changes k = pick (in_or_out at n k)
  where
    pick : IsOutside at n k ⊎ ((at ≤ k) × (k < at + n)) → get_or x k 0 ≤ get_or y k 0
    pick (inl out) = omega (arith, change_outside at n IsRaised x y changes k out)
    pick (inr (le, lt)) = let spot : at + (k - at) ≡ k = omega arith in subst (λ (p : ℕ). get_or x p 0 ≤ get_or y p 0) spot (changes.inside (k - at) (omega arith))

-- erases of bytes only raise them
pub erased_above : (at n : ℕ) (x y : List ℕ) → AreBytes x → Changes at n IsErased x y → Changes at n IsRaised x y
erased_above at n x y bytes changes = record {
  size = changes.size;
  before = changes.before;
  after = changes.after;
  inside = λ k lt. omega (arith, changes.inside k lt, bytes (at + k));
}

pub torn_above : (at n : ℕ) (x y : List ℕ) → Changes at n IsTornErase x y → Changes at n IsRaised x y
torn_above at n x y changes = record {
  size = changes.size;
  before = changes.before;
  after = changes.after;
  inside = λ k lt. (changes.inside k lt).0;
}

-- what is erased stays so under changes that raise bytes, which are bytes after them, too
pub blank_apart : (at n place m : ℕ) (P : ℕ → ℕ → ℕ → Type 0) (x y : List ℕ) → Apart at n place m → Changes place m P x y → IsBlank x at n → IsBlank y at n
blank_apart at n place m P x y apart changes blank i lt = same_apart at n place m P x y apart changes i lt ∙ blank i lt

module _ (g : Geometry) (limits : IsInLimits g) (layout block k : ℕ) (block_lt : block < 2) (x : List ℕ) where
  -- the record block is erased, and nothing else changed yet
  pub clears_first : (y : List ℕ) → AreBytes x → Changes (record_place g block) g.block_len IsErased x y → Clears g layout block k x y
  clears_first y bytes changes = record {
    size = changes.size;
    outside = λ i out _. change_outside _ _ IsErased x y changes i out;
    raised = change_above _ _ x y (erased_above _ _ x y bytes changes);
    blank = λ i lt. changes.inside i lt;
    first = λ two. inl (record {
      bank = λ i lt. in_area i (omega (arith, lt));
      first = λ i lt. change_above _ _ x y (erased_above _ _ x y bytes changes) (journal_place g k + i);
      rest = λ i lt. behind (short_len g + g.block_len + i) _ (omega arith);
    });
  }
    where
      behind : (i p : ℕ) → area_place g k + i ≡ p → get_or y p 0 ≡ get_or x p 0
      behind i p is = changes.after p (omega (arith, is, record_before_area g limits block k block_lt))

      in_area : (i : ℕ) → i < short_len g → get_or y (area_place g k + i) 0 ≡ get_or x (area_place g k + i) 0
      in_area i lt = behind i _ refl

  -- one change more within the area
  pub clears_more : (mid y : List ℕ) (at n : ℕ) → at + n ≤ area_len g → Clears g layout block k x mid → Changes (area_place g k + at) n IsRaised mid y
      → (layout ≡ 2 → FirstCut g k x y) → Clears g layout block k x y
  clears_more mid y at n fits c changes first = record {
    size = changes.size ∙ c.size;
    outside = λ i out_record out_area. change_outside _ _ IsRaised mid y changes i (narrow i out_area) ∙ c.outside i out_record out_area;
    raised = λ i. let above = change_above _ _ mid y changes i in omega (arith, above, c.raised i);
    blank = blank_apart _ _ _ _ IsRaised mid y record_apart changes c.blank;
    first = first;
  }
    where
      narrow : (i : ℕ) → IsOutside (area_place g k) (area_len g) i → IsOutside (area_place g k + at) n i
      narrow i (inl front) = inl (omega arith)
      narrow i (inr past) = inr (omega arith)

      record_apart : Apart (record_place g block) g.block_len (area_place g k + at) n
      record_apart = inl (omega (arith, record_before_area g limits block k block_lt))

  -- the journal's first block is on its way
  pub first_cut : HasJournals g → (mid y : List ℕ) → Clears g layout block k x mid → SameAt (area_place g k) (area_len g) x mid
      → Changes (journal_place g k) g.block_len IsRaised mid y → FirstCut g k x y
  first_cut room mid y c same changes = inl (record {
    bank = λ i lt. changes.before (area_place g k + i) (omega arith) ∙ same i (omega (arith, area_is g limits room));
    first = λ i lt. let above = change_above _ _ mid y changes (journal_place g k + i) in omega (arith, above, c.raised (journal_place g k + i));
    rest = λ i lt.
        let spot : area_place g k + (short_len g + g.block_len + i) ≡ journal_place g k + g.block_len + i = omega arith in
        changes.after (journal_place g k + g.block_len + i) (omega arith)
        ∙ subst (λ (p : ℕ). get_or mid p 0 ≡ get_or x p 0) spot (same (short_len g + g.block_len + i) (omega (arith, area_is g limits room, lt)));
  })

  -- right after the erase of the record block the area is as before
  pub first_same : (y : List ℕ) → Changes (record_place g block) g.block_len IsErased x y → SameAt (area_place g k) (area_len g) x y
  first_same y changes = same_apart _ _ _ _ IsErased x y (area_from_record g limits k block block_lt) changes

module _ (g : Geometry) (limits : IsInLimits g) (layout r : ℕ) (x : List ℕ) (sound : IsSound g x) (current : IsCurrent g x r) where
  abbrev a : ℕ
  a = (record_in g x r).bank

  a_lt : a < 2
  a_lt = own_bank_lt g limits r x sound current

  -- within the erases the current record and its area are as before
  pub clears_stays : (y : List ℕ) (c : Clears g layout (1 - r) (1 - a) x y) → Stays g x y c.size sound r
  clears_stays y c =
      blank_stays g limits r x sound current y c.size
      (part_same x y (record_place g r) 64 c.size (λ i lt. c.outside (record_place g r + i) (record_out i lt (records_apart g limits r current.is_block)) (inl (omega (arith, record_before_area g limits r (1 - a) current.is_block, limits.least_len)))))
      (λ i lt. c.outside (area_place g a + i) (inr (omega (arith, record_before_area g limits (1 - r) a (omega arith)))) (area_out i lt (areas_apart g limits a a_lt)))
      (λ i lt. c.blank i (omega (arith, limits.least_len)))
      (raised_says g limits r x sound current y c.size (λ room i lt. c.raised (journal_place g (1 - a) + i)))
    where
      record_out : (i : ℕ) → i < 64 → Apart (record_place g r) 64 (record_place g (1 - r)) g.block_len → IsOutside (record_place g (1 - r)) g.block_len (record_place g r + i)
      record_out i lt (inl front) = inl (omega arith)
      record_out i lt (inr behind) = inr (omega arith)

      area_out : (i : ℕ) → i < area_len g → Apart (area_place g a) (area_len g) (area_place g (1 - a)) (area_len g) → IsOutside (area_place g (1 - a)) (area_len g) (area_place g a + i)
      area_out i lt (inl front) = inl (omega arith)
      area_out i lt (inr behind) = inr (omega arith)

  pub cuts_keep : (y : List ℕ) → CutsSpare g layout (1 - r) (1 - a) x y → Keeps g x y
  cuts_keep y (inl changes) = keeps g x y changes.size sound r (raised_stays g limits r x sound current y changes)
  cuts_keep y (inr c) = keeps g x y c.size sound r (clears_stays y c)

-- all outside of record block and area is as before, no byte is below what it was, and of the journal the first block goes first
module _ (g : Geometry) (limits : IsInLimits g) (layout block k : ℕ) (block_lt : block < 2) (x : List ℕ) where
  pub cuts_size : (y : List ℕ) → CutsSpare g layout block k x y → length y ≡ length x
  cuts_size y (inl changes) = changes.size
  cuts_size y (inr c) = c.size

  pub cuts_outside : (y : List ℕ) → CutsSpare g layout block k x y
      → (i : ℕ) → IsOutside (record_place g block) g.block_len i → IsOutside (area_place g k) (area_len g) i → get_or y i 0 ≡ get_or x i 0
  cuts_outside y (inl changes) i out _ = change_outside _ _ IsRaised x y changes i out
  cuts_outside y (inr c) i out other = c.outside i out other

  pub cuts_raised : (y : List ℕ) → CutsSpare g layout block k x y → (i : ℕ) → get_or x i 0 ≤ get_or y i 0
  cuts_raised y (inl changes) i = change_above _ _ x y changes i
  cuts_raised y (inr c) i = c.raised i

  pub cuts_first : (y : List ℕ) → CutsSpare g layout block k x y → layout ≡ 2 → FirstCut g k x y
  cuts_first y (inl changes) two = inl (record {
    bank = λ i lt. changes.after (area_place g k + i) (omega (arith, record_before_area g limits block k block_lt));
    first = λ i lt. change_above _ _ x y changes (journal_place g k + i);
    rest = λ i lt. changes.after (journal_place g k + g.block_len + i) (omega (arith, record_before_area g limits block k block_lt));
  })
  cuts_first y (inr c) two = c.first two

  -- the journal's first block is on its way, or it is erased and the others are
  pub journal_clears : HasJournals g → (mid y : List ℕ) → Clears g layout block k x mid → SameAt (area_place g k) (area_len g) x mid → CutsJournal g k mid y → Clears g layout block k x y
  journal_clears room mid y c same (inl changes) =
      clears_more g limits layout block k block_lt x mid y (short_len g) g.block_len (omega (arith, first_in_area g limits room)) c changes
      (λ two. first_cut g limits layout block k block_lt x room mid y c same changes)
  journal_clears room mid y c same (inr gone) =
      clears_more g limits layout block k block_lt x mid y (short_len g) (journal_len g) (omega (arith, area_is g limits room)) c gone.all (λ two. inr gone.first)

  -- and then the bank is on its way
  pub bank_clears : (mid y : List ℕ) (at n : ℕ) → at + n ≤ short_len g → HasJournals g → Clears g layout block k x mid → IsBlank mid (journal_place g k) g.block_len
      → Changes (area_place g k + at) n IsRaised mid y → Clears g layout block k x y
  bank_clears mid y at n fits room c blank changes =
      clears_more g limits layout block k block_lt x mid y at n (omega (arith, area_is g limits room)) c changes
      (λ two. inr (blank_apart (journal_place g k) g.block_len (area_place g k + at) n IsRaised mid y (inr (omega arith)) changes blank))

-- bank and journal are the area
pub area_blank : (g : Geometry) (limits : IsInLimits g) → HasJournals g → (k : ℕ) (y : List ℕ) → IsBlank y (area_place g k) (short_len g) → IsBlank y (journal_place g k) (journal_len g) → IsBlank y (area_place g k) (area_len g)
area_blank g limits room k y bank journal i lt = pick (cases_lt i (short_len g))
  where
    pick : (i < short_len g) ⊎ (short_len g ≤ i) → get_or y (area_place g k + i) 0 ≡ 255
    pick (inl front) = bank i front
    pick (inr behind) =
        let spot : journal_place g k + (i - short_len g) ≡ area_place g k + i = omega arith in
        subst (λ (p : ℕ). get_or y p 0 ≡ 255) spot (journal (i - short_len g) (omega (arith, area_is g limits room)))

-- what is erased and then raised only is erased still, where it is bytes
pub blank_raised : (x y : List ℕ) (at n : ℕ) → AreBytes y → IsBlank x at n → ((k : ℕ) → get_or x k 0 ≤ get_or y k 0) → IsBlank y at n
blank_raised x y at n bytes blank above k lt = omega (arith, blank k lt, above (at + k), bytes (at + k))

-- one range is raised, and then its neighbour
pub above_joined : (at n place m total : ℕ) (x mid y : List ℕ) → place ≡ at + n → total ≡ n + m → Changes at n IsRaised x mid → Changes place m IsRaised mid y → Changes at total IsRaised x y
above_joined at n place m total x mid y here all first second = record {
  size = second.size ∙ first.size;
  before = λ k lt. second.before k (omega arith) ∙ first.before k lt;
  after = λ k le. second.after k (omega arith) ∙ first.after k (omega arith);
  inside = λ k lt. let one = change_above _ _ x mid first (at + k) in let two = change_above _ _ mid y second (at + k) in omega (arith, one, two);
}

module _ (g : Geometry) (limits : IsInLimits g) (room : HasJournals g) (k : ℕ) (x mid y : List ℕ) (bytes : AreBytes x) (mid_bytes : AreBytes mid)
    (first : Changes (journal_place g k) g.block_len IsErased x mid) where
  some_rest : g.block_len + (journal_len g - g.block_len) ≡ journal_len g
  some_rest = omega (arith, first_before_slots g limits, slots_before_end g limits)

  -- the first block is erased and the others are on their way
  pub first_gone : Changes (journal_place g k + g.block_len) (journal_len g - g.block_len) IsRaised mid y → FirstGone g k x y
  first_gone rest = record {
    all = above_joined (journal_place g k) g.block_len _ (journal_len g - g.block_len) _ x mid y refl (sym some_rest) (erased_above _ _ x mid bytes first) rest;
    first = blank_apart (journal_place g k) g.block_len (journal_place g k + g.block_len) (journal_len g - g.block_len) IsRaised mid y (inl (omega arith)) rest first.inside;
  }

  pub journal_done : Changes (journal_place g k + g.block_len) (journal_len g - g.block_len) IsErased mid y → Changes (journal_place g k) (journal_len g) IsErased x y
  journal_done rest = changes_joined (journal_place g k) g.block_len _ (journal_len g - g.block_len) _ (λ b. b ≡ 255) x mid y refl (sym some_rest) first rest

pub first_gone_same : (g : Geometry) (limits : IsInLimits g) (room : HasJournals g) (k : ℕ) (x mid : List ℕ) → AreBytes x → AreBytes mid → Changes (journal_place g k) g.block_len IsErased x mid → FirstGone g k x mid
first_gone_same g limits room k x mid bytes mid_bytes first = first_gone g limits room k x mid mid bytes mid_bytes first (changes_same _ _ IsRaised mid (λ k a. omega arith))

pub on_ok_map : {T E : Type 0} (r : Result T E) (P Q : Type 0) → (P → Q) → OnOk r P → OnOk r Q
on_ok_map (Ok v) P Q f p = f p
on_ok_map (Err e) P Q f p = p

-- what is erased from a place that is written with 0 behind it
pub in_block : (at n : ℕ) (x y : List ℕ) → Changes (at + 0) n IsErased x y → IsBlank y at n
in_block at n x y changes i lt = let spot : at + 0 + i ≡ at + i = omega arith in subst (λ (p : ℕ). get_or y p 0 ≡ 255) spot (changes.inside i lt)
