-- What the calls of a bank leave of contents that it fits.
use Rattle.std.specs.Prelude.{true}
use Rattle.std.proofs.Common.{◌≡◌, ◌⊎◌, inl, inr, ℕ, zero, suc, ◌+◌, ◌-◌, ◌<◌, ◌≤◌, List, length, get_or, refl, sym, ◌∙◌, ap, subst, arith}
use Rattle.flash_dev.specs.Changes.{Changes, IsBlank, IsProgrammed, IsTornProgram}
use Rattle.flash_layout.specs.Layout.{Geometry, area_len, area_place, bank_len, journal_len, journal_place, record_place, short_len}
use Rattle.flash_layout.specs.Pairs.{part}
use Rattle.flash_layout.proofs.PairsLemmas.{whole_byte}
use Rattle.flash_layout.proofs.Places.{area_is}
use Rattle.flash_bank.specs.Bank.{Fits, LeavesBegun, LeavesCommitted, block_of, current_of, geometry_of, is_begun, len_of, spare_area, spare_bank, spare_journal, spare_record}
use Rattle.flash_bank.specs.Layout.{HoldsRecord}
use Rattle.flash_bank.specs.Leaving.{SameOutsideSpare}
use Rattle.flash_bank.specs.Record.{IsInRange, record_of, written}
use Rattle.flash_bank.specs.Runs.{IsOutside}
use Rattle.flash_bank.specs.Sound.{Boot, IsSound, IsCurrent, KeepsBoth, PrevOf, image_of, record_in}
use Rattle.flash_bank.specs.Spare.{Clears, CutsSpare, FirstCut}
use Rattle.flash_bank.specs.declared.bank.Bank.{Bank}
use Rattle.flash_bank.specs.declared.record.Record.{Record}
use Rattle.flash_bank.proofs.ClearLemmas.{clears_stays, cuts_first, cuts_keep, cuts_outside, cuts_raised, cuts_size}
use Rattle.flash_bank.proofs.CommitLemmas.{Adds, Follows, done_adds, next_follows, torn_keeps}
use Rattle.flash_bank.proofs.ImageLemmas.{image_one, image_two}
use Rattle.flash_bank.proofs.RecordLemmas.{whole-written}
use Rattle.flash_bank.proofs.RunsLemmas.{programmed_torn}
use Rattle.flash_bank.proofs.SoundLemmas.{Stays, current_still, one_current, sound_still}
use Rattle.flash_bank.proofs.SpareLemmas.{bank_says, one_says}
use Rattle.flash_bank.proofs.StayLemmas.{JournalSays, blank_not_whole, within_blank, within_head, within_keeps, within_stays}

-- a layout is 1 or 2
pub layout_cases : (b : Bank) → ((current_of b).layout ≡ 1) ⊎ ((current_of b).layout ≡ 2)
layout_cases b = pick (current_of b).layout b.least_layout b.most_layout
  where
    pick : (l : ℕ) → 1 ≤ l → l ≤ 2 → (l ≡ 1) ⊎ (l ≡ 2)
    pick zero least most = absurd (omega arith)
    pick (suc zero) least most = inl refl
    pick (suc (suc zero)) least most = inr refl
    pick (suc (suc (suc l))) least most = absurd (omega arith)

-- a bank is not longer than an area
pub len_less : (b : Bank) → len_of b ≤ area_len (geometry_of b)
len_less b = pick (layout_cases b)
  where
    pick : ((current_of b).layout ≡ 1) ⊎ ((current_of b).layout ≡ 2) → len_of b ≤ area_len (geometry_of b)
    pick (inl one) = subst (λ (l : ℕ). bank_len (geometry_of b) l ≤ area_len (geometry_of b)) (sym one) (omega arith)
    pick (inr two) = subst (λ (l : ℕ). bank_len (geometry_of b) l ≤ area_len (geometry_of b)) (sym two) (omega (arith, area_is (geometry_of b) b.limits (b.room two)))

-- an erased area has an erased bank
pub blank_bank : (b : Bank) (c : List ℕ) → IsBlank c (spare_bank b) (area_len (geometry_of b)) → IsBlank c (spare_bank b) (len_of b)
blank_bank b c blank k lt = blank k (omega (arith, lt, len_less b))

module _ (b : Bank) (two : (current_of b).layout ≡ 2) where
  len_two : len_of b ≡ short_len (geometry_of b)
  len_two = ap (bank_len (geometry_of b)) two

  -- and, in layout 2, an erased journal
  pub blank_journal : (c : List ℕ) → IsBlank c (spare_bank b) (area_len (geometry_of b)) → IsBlank c (spare_journal b) (journal_len (geometry_of b))
  blank_journal c blank k lt =
      let spot : spare_bank b + (short_len (geometry_of b) + k) ≡ spare_journal b + k = omega arith in
      subst (λ (p : ℕ). get_or c p 0 ≡ 255) spot (blank (short_len (geometry_of b) + k) (omega (arith, lt, area_is (geometry_of b) b.limits (b.room two))))

  -- which stays so while the bank before it changes
  pub still_blank_journal : (at n : ℕ) (P : ℕ → ℕ → ℕ → Type 0) (x y : List ℕ) → at + n ≤ len_of b → Changes (spare_bank b + at) n P x y
      → IsBlank x (spare_journal b) (journal_len (geometry_of b)) → IsBlank y (spare_journal b) (journal_len (geometry_of b))
  still_blank_journal at n P x y inside changes blank k lt = changes.after (spare_journal b + k) (omega (arith, inside, len_two)) ∙ blank k lt

module _ (b : Bank) (x : List ℕ) (fits : Fits b x) where
  abbrev g : Geometry
  g = geometry_of b

  abbrev r : ℕ
  r = block_of b

  -- the spare area as the contents say it
  abbrev k : ℕ
  k = 1 - (record_in g x r).bank

  pub spare_is : k ≡ spare_area b
  spare_is = ap (λ (h : Record). 1 - h.bank) fits.head

  pub layout_is : (record_in g x r).layout ≡ (current_of b).layout
  layout_is = ap (λ (h : Record). h.layout) fits.head

  bank_is : spare_bank b ≡ area_place g k
  bank_is = ap (area_place g) (sym spare_is)

  -- ---- what lies outside the spare parts of the current record lies outside those of the bank

  spare_record_here : (block i : ℕ) → IsCurrent g x block → IsOutside (record_place g (1 - block)) g.block_len i → IsOutside (spare_record b) g.block_len i
  spare_record_here block i current out = subst (λ (q : ℕ). IsOutside (record_place g (1 - q)) g.block_len i) (one_current g x block r current fits.current) out

  spare_area_here : (block i : ℕ) → IsCurrent g x block → IsOutside (area_place g (1 - (record_in g x block).bank)) (area_len g) i → IsOutside (spare_bank b) (area_len g) i
  spare_area_here block i current out =
      subst (λ (h : Record). IsOutside (area_place g (1 - h.bank)) (area_len g) i) (ap (record_in g x) (one_current g x block r current fits.current) ∙ fits.head) out

  pub outside_spare : (y : List ℕ) → length y ≡ length x
      → ((i : ℕ) → IsOutside (spare_record b) g.block_len i → IsOutside (spare_bank b) (area_len g) i → get_or y i 0 ≡ get_or x i 0) → SameOutsideSpare g x y
  outside_spare y size same = record {
    size = size;
    same = λ block i current out. same i (spare_record_here block i current out.0) (spare_area_here block i current out.1);
  }

  -- ---- the contents fit still where block and image of the current record stay

  pub record Still (y : List ℕ) : Type 0 where
    pub sound : IsSound g y
    pub current : IsCurrent g y r
    pub head : record_in g y r ≡ current_of b

  pub still : (y : List ℕ) (size : length y ≡ length x) → Stays g x y size fits.sound r → Still y
  still y size stays = record {
    sound = sound_still g x y size fits.sound r stays;
    current = current_still g x y size fits.sound r stays;
    head = ap record_of stays.head ∙ fits.head;
  }

  -- ---- `begin`

  at_spare : (y : List ℕ) → CutsSpare g (current_of b).layout (1 - r) (spare_area b) x y → CutsSpare g (current_of b).layout (1 - r) k x y
  at_spare y cuts = subst (λ (q : ℕ). CutsSpare g (current_of b).layout (1 - r) q x y) (sym spare_is) cuts

  other_lt : 1 - r < 2
  other_lt = omega arith

  pub leaves_begun : (y : List ℕ) → CutsSpare g (current_of b).layout (1 - r) (spare_area b) x y → LeavesBegun g x y
  leaves_begun y cuts = record {
    keeps = record {
      keeps = cuts_keep g b.limits (current_of b).layout r x fits.sound fits.current y (at_spare y cuts);
      outside = outside_spare y (cuts_size g b.limits (current_of b).layout (1 - r) (spare_area b) other_lt x y cuts)
          (cuts_outside g b.limits (current_of b).layout (1 - r) (spare_area b) other_lt x y cuts);
    };
    raised = cuts_raised g b.limits (current_of b).layout (1 - r) (spare_area b) other_lt x y cuts;
    first = λ q current two. first q (one_current g x q r current fits.current) two;
  }
    where
      first : (q : ℕ) → q ≡ r → (record_in g x q).layout ≡ 2 → FirstCut g (1 - (record_in g x q).bank) x y
      first q is two =
          let own : (record_in g x r).layout ≡ 2 = ap (λ (p : ℕ). (record_in g x p).layout) (sym is) ∙ two in
          let here = cuts_first g b.limits (current_of b).layout (1 - r) k other_lt x y (at_spare y cuts) (sym layout_is ∙ own) in
          subst (λ (p : ℕ). FirstCut g (1 - (record_in g x p).bank) x y) (sym is) here

  pub begun_still : (y : List ℕ) → Clears g (current_of b).layout (1 - r) (spare_area b) x y → Still y
  begun_still y c =
      let here = subst (λ (q : ℕ). Clears g (current_of b).layout (1 - r) q x y) (sym spare_is) c in
      still y here.size (clears_stays g b.limits (current_of b).layout r x fits.sound fits.current y here)

  -- once the bank is begun, what boot took before is there no longer
  pub begun_gone : is_begun b ≡ true → (boot : Boot) → PrevOf g x boot → ⊥
  begun_gone begun boot from =
      let is : from.block ≡ r = one_current g x from.block r from.current fits.current in
      let valid : HoldsRecord g x (1 - r) = subst (λ (q : ℕ). HoldsRecord g x (1 - q)) is from.valid in
      blank_not_whole x (record_place g (1 - r)) (fits.blank begun) valid.whole

  -- ---- what is programmed into the spare area of a begun bank

  pub record Kept (y : List ℕ) : Type 0 where
    pub sound : IsSound g y
    pub current : IsCurrent g y r
    pub head : record_in g y r ≡ current_of b
    pub blank : IsBlank y (spare_record b) 64
    pub keeps : KeepsBoth g x y

  pub kept : is_begun b ≡ true → (at n : ℕ) (P : ℕ → ℕ → ℕ → Type 0) (y : List ℕ) → at + n ≤ area_len g → (changes : Changes (area_place g k + at) n P x y)
      → JournalSays g b.limits r x fits.sound fits.current y changes.size → Kept y
  kept begun at n P y inside changes says =
      let stays = within_stays g b.limits r x fits.sound fits.current at n P y inside changes (fits.blank begun) says in
      let here = still y changes.size stays in
      record {
        sound = here.sound;
        current = here.current;
        head = here.head;
        blank = within_blank g b.limits r x fits.sound fits.current at n P y inside changes (fits.blank begun);
        keeps = within_keeps g b.limits r x fits.sound fits.current at n P y inside changes (fits.blank begun) says;
      }

  -- bytes of the bank
  pub filled_kept : is_begun b ≡ true → (at n : ℕ) (P : ℕ → ℕ → ℕ → Type 0) (y : List ℕ) → at + n ≤ len_of b → Changes (spare_bank b + at) n P x y → Kept y
  filled_kept begun at n P y inside given = pick (layout_cases b)
    where
      changes : Changes (area_place g k + at) n P x y
      changes = subst (λ (p : ℕ). Changes (p + at) n P x y) bank_is given

      pick : ((current_of b).layout ≡ 1) ⊎ ((current_of b).layout ≡ 2) → Kept y
      pick (inl one) =
          let fits_one : at + n ≤ area_len g = subst (λ (l : ℕ). at + n ≤ bank_len g l) one inside in
          kept begun at n P y fits_one changes
          (one_says g b.limits r x fits.sound fits.current y changes.size (layout_is ∙ one)
          (ap record_of (within_head g b.limits r x fits.sound fits.current at n P y fits_one changes r b.block_is))
          (within_blank g b.limits r x fits.sound fits.current at n P y fits_one changes (fits.blank begun)))
      pick (inr two) =
          let fits_two : at + n ≤ short_len g = subst (λ (l : ℕ). at + n ≤ bank_len g l) two inside in
          kept begun at n P y (omega (arith, area_is g b.limits (b.room two))) changes (bank_says g b.limits r x fits.sound fits.current at n P y fits_two changes)

  -- ---- the next record

  -- its image, where the journal of its area is erased
  pub front_image : (new : Record) → new.layout ≡ (current_of b).layout → new.bank ≡ spare_area b → new.length ≤ len_of b
      → ((current_of b).layout ≡ 2 → IsBlank x (spare_journal b) (journal_len g)) → image_of g x new ≡ part x (spare_bank b) new.length
  front_image new layout bank short blank = pick (layout_cases b)
    where
      there : part x (area_place g new.bank) new.length ≡ part x (spare_bank b) new.length
      there = ap (λ (q : ℕ). part x (area_place g q) new.length) bank

      pick : ((current_of b).layout ≡ 1) ⊎ ((current_of b).layout ≡ 2) → image_of g x new ≡ part x (spare_bank b) new.length
      pick (inl one) = image_one g x new (layout ∙ one) (subst (λ (l : ℕ). new.length ≤ bank_len g l) one short) ∙ there
      pick (inr two) =
          image_two g x new b.limits (b.room two) (layout ∙ two) (subst (λ (l : ℕ). new.length ≤ bank_len g l) two short)
          (subst (λ (q : ℕ). IsBlank x (journal_place g q) (journal_len g)) (sym bank) (blank two)) ∙ there

  module _ (new : Record) (in_range : IsInRange new) (next : new.number ≡ (current_of b).number + 1) (layout : new.layout ≡ (current_of b).layout)
      (bank : new.bank ≡ spare_area b) (short : new.length ≤ bank_len g new.layout) where
    follows : Follows g r new x
    follows = next_follows g b.limits r new x fits.sound fits.current (next ∙ ap (λ (h : Record). h.number + 1) (sym fits.head)) (layout ∙ sym layout_is) (bank ∙ sym spare_is) in_range short

    written_byte : (i : ℕ) → get_or (written new) i 0 ≤ 255
    written_byte = whole_byte (written new) 32 refl (whole-written new in_range.layout in_range.number in_range.bank in_range.len in_range.model in_range.version in_range.group)

    module _ (begun : is_begun b ≡ true) where
      pub leaves_committed : (y : List ℕ) → Changes (spare_record b) 64 (IsTornProgram (written new)) x y → LeavesCommitted b new x y
      leaves_committed y changes = record {
        boot = torn_keeps g b.limits r new x fits.sound fits.current (fits.blank begun) follows y changes;
        changes = changes;
      }

      pub commit_adds : (y : List ℕ) → Changes (spare_record b) 64 (IsProgrammed (written new)) x y → Adds g r new x y
      commit_adds y changes = done_adds g b.limits r new x fits.sound fits.current (fits.blank begun) follows y changes

      -- once the record is programmed, it may have been left so too
      pub done_committed : (y : List ℕ) → Changes (spare_record b) 64 (IsProgrammed (written new)) x y → LeavesCommitted b new x y
      done_committed y changes = leaves_committed y (programmed_torn (spare_record b) 64 (written new) x y written_byte changes)

      -- and before it is begun
      pub same_committed : LeavesCommitted b new x x
      same_committed = leaves_committed x (record {
        size = refl;
        before = λ i lt. refl;
        after = λ i le. refl;
        inside = λ i lt. let blank = fits.blank begun i lt in let fit = written_byte i in (omega (arith, blank, fit), omega (arith, blank));
      })
