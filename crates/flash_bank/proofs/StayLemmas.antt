-- What the erases and programs of a bank leave of current record, image and journals.
use Rattle.std.proofs.Common.{◌≡◌, ◌⊎◌, inl, inr, ⊎_elim, ℕ, ◌+◌, ◌-◌, ◌*◌, ◌<◌, ◌≤◌, List, length, get_or, take, drop, refl, sym, ◌∙◌, ap, subst, arith, ◌==◌, if◌then◌else◌, get_or-take, get_or-drop, length-take, length-drop}
use Rattle.std.proofs.lemmas.Bool.{cases_lt}
use Rattle.flash_dev.specs.Changes.{Changes, IsBlank}
use Rattle.flash_dev.proofs.ChangesLemmas.{same_bytes}
use Rattle.flash_layout.specs.Journal.{IsHeader, IsSettled, header_number}
use Rattle.flash_layout.specs.Slots.{laid}
use Rattle.flash_layout.specs.Layout.{Geometry, HasJournals, IsInLimits, area_bytes, area_len, area_place, journal_bytes, journal_len, journal_place, mark_count, record_bytes, record_place, short_len, slots_at}
use Rattle.flash_bank.specs.Layout.{HoldsRecord}
use Rattle.flash_layout.specs.Pairs.{part, AreWhole, NoneBelow}
use Rattle.flash_bank.specs.Record.{layout_of}
use Rattle.flash_bank.specs.Runs.{IsRaised, SameAt}
use Rattle.flash_bank.specs.Sound.{IsSound, IsCurrent, JournalsFit, KeepsBoth, image_in, image_of, number_in, record_in}
use Rattle.flash_bank.specs.declared.record.Record.{Record}
use Rattle.flash_layout.proofs.JournalLemmas.{raised_header, raised_settled}
use Rattle.flash_layout.proofs.PartLemmas.{get_or-part, length-part, none_below_above, part_changes, part_raised, part_same, whole_is}
use Rattle.flash_layout.proofs.Places.{Apart, area_from_record, area_is, area_within, areas_apart, first_before_slots, part_apart, record_from_area, record_within, records_apart}
use Rattle.flash_bank.proofs.SoundLemmas.{InTwo, Stays, keeps_both, one_or_other, two_room}

-- bytes that are erased make no whole pair
pub blank_not_whole : (c : List ℕ) (at : ℕ) → IsBlank c at 64 → AreWhole (part c at 64) 32 → ⊥
blank_not_whole c at blank whole =
    let first : get_or (part c at 64) 0 0 ≡ 255 = get_or-part c at 64 0 (omega arith) ∙ blank 0 (omega arith) in
    let second : get_or (part c at 64) 1 0 ≡ 255 = get_or-part c at 64 1 (omega arith) ∙ blank 1 (omega arith) in
    let sum : get_or (part c at 64) (2 * 0) 0 + get_or (part c at 64) (2 * 0 + 1) 0 ≡ 255 = whole.each 0 (omega arith) in
    omega (arith, first, second, sum)

-- and no pair below 255
pub blank_none_below : (c : List ℕ) (at : ℕ) → IsBlank c at 64 → NoneBelow (part c at 64) 32
blank_none_below c at blank = record {
  each = λ i lt.
      let first : get_or (part c at 64) (2 * i) 0 ≡ 255 = get_or-part c at 64 (2 * i) (omega arith) ∙ blank (2 * i) (omega arith) in
      omega (arith, first);
}

-- the same of the front
abbrev pub SameFront : ℕ → List ℕ → List ℕ → Type 0
SameFront n x y = (i : ℕ) → i < n → get_or y i 0 ≡ get_or x i 0

-- what lies apart from a change is as before
pub same_apart : (at n place m : ℕ) (P : ℕ → ℕ → ℕ → Type 0) (x y : List ℕ) → Apart at n place m → Changes place m P x y → SameAt at n x y
same_apart at n place m P x y (inl front) changes i lt = changes.before (at + i) (omega arith)
same_apart at n place m P x y (inr behind) changes i lt = changes.after (at + i) (omega arith)

-- the bank of a valid record is 0 or 1
pub bank_below : (g : Geometry) (c : List ℕ) (r : ℕ) → r < 2 → HoldsRecord g c r → (record_in g c r).bank < 2
bank_below g c r lt valid = ⊎_elim (λ one. omega (arith, one.bank_is)) (λ two. two.bank_is) valid.allowed

-- its layout is 1 or 2
pub layout_either : (g : Geometry) (c : List ℕ) (r : ℕ) → HoldsRecord g c r → ((record_in g c r).layout ≡ 1) ⊎ ((record_in g c r).layout ≡ 2)
layout_either g c r valid = ⊎_elim (λ one. inl (ap layout_of one.magic_is)) (λ two. inr (ap layout_of two.magic_is)) valid.allowed

-- less of parts that are the same is the same
take_front : (x y : List ℕ) (n m : ℕ) → length y ≡ length x → n ≤ m → SameFront m x y → take n y ≡ take n x
take_front x y n m size le same =
    let sizes : length (take n y) ≡ length (take n x) = omega (arith, size, length-take n y, length-take n x) in
    same_bytes (take n y) (take n x) sizes (λ k lt.
    let below : k < n = omega (arith, length-take n y) in
    get_or-take n y k 0 below ∙ (same k (omega arith) ∙ sym (get_or-take n x k 0 below)))

drop_front : (x y : List ℕ) (n : ℕ) → length y ≡ length x → ((k : ℕ) → n ≤ k → get_or y k 0 ≡ get_or x k 0) → drop n y ≡ drop n x
drop_front x y n size same =
    let sizes : length (drop n y) ≡ length (drop n x) = omega (arith, size, length-drop n y, length-drop n x) in
    same_bytes (drop n y) (drop n x) sizes (λ k lt. get_or-drop n y k 0 ∙ (same (n + k) (omega arith) ∙ sym (get_or-drop n x k 0)))

-- An image is the same where its area is but in the journal's first block, if it ends before the journal.
image_still : (g : Geometry) (head : Record) (v w : List ℕ) → length w ≡ length v → ((head.layout ≡ 1) ⊎ (head.layout ≡ 2)) → head.length ≤ short_len g
    → SameFront (short_len g) v w → ((k : ℕ) → short_len g + slots_at g ≤ k → get_or w k 0 ≡ get_or v k 0) → image_in g w head ≡ image_in g v head
image_still g head v w size layout fits bank slots = pick layout
  where
    of_layout : List ℕ → ℕ → List ℕ
    of_layout area l = take head.length (if l == 2 then laid (short_len g) (drop (short_len g + slots_at g) area) (take (short_len g) area) 16 else area)

    two : of_layout w 2 ≡ of_layout v 2
    two =
        let one : drop (short_len g + slots_at g) w ≡ drop (short_len g + slots_at g) v = drop_front v w (short_len g + slots_at g) size slots in
        let other : take (short_len g) w ≡ take (short_len g) v = take_front v w (short_len g) (short_len g) size (omega arith) bank in
        (λ i. take head.length (laid (short_len g) (one i) (other i) 16))

    pick : (head.layout ≡ 1) ⊎ (head.layout ≡ 2) → image_in g w head ≡ image_in g v head
    pick (inl is) = ap (of_layout w) is ∙ (take_front v w head.length (short_len g) size fits bank ∙ sym (ap (of_layout v) is))
    pick (inr is) = ap (of_layout w) is ∙ (two ∙ sym (ap (of_layout v) is))

module _ (g : Geometry) (limits : IsInLimits g) (r : ℕ) (x : List ℕ) (sound : IsSound g x) (current : IsCurrent g x r) where
  abbrev a : ℕ
  a = (record_in g x r).bank

  pub own_bank_lt : a < 2
  own_bank_lt = bank_below g x r current.is_block current.valid

  spare_lt : 1 - a < 2
  spare_lt = omega arith

  other_lt : 1 - r < 2
  other_lt = omega arith

  -- an area that is the same has the same images and the same journal
  pub same_area : (y : List ℕ) → length y ≡ length x → (k : ℕ) → SameAt (area_place g k) (area_len g) x y → area_bytes g y k ≡ area_bytes g x k
  same_area y size k same = part_same x y (area_place g k) (area_len g) size same

  pub same_journal : (y : List ℕ) → length y ≡ length x → (k : ℕ) → HasJournals g → SameAt (area_place g k) (area_len g) x y → journal_bytes g y k ≡ journal_bytes g x k
  same_journal y size k room same = part_same x y (journal_place g k) (journal_len g) size
      (λ i lt. let spot : area_place g k + (short_len g + i) ≡ journal_place g k + i = omega arith in
      subst (λ (p : ℕ). get_or y p 0 ≡ get_or x p 0) spot (same (short_len g + i) (omega (arith, area_is g limits room))))

  pub same_image : (y : List ℕ) → length y ≡ length x → (head : Record) → SameAt (area_place g head.bank) (area_len g) x y → image_of g y head ≡ image_of g x head
  same_image y size head same = ap (λ (area : List ℕ). image_in g area head) (same_area y size head.bank same)

  record_size : (y : List ℕ) → length y ≡ length x → length (record_bytes g y (1 - r)) ≡ 2 * 32
  record_size y size = length-part y (record_place g (1 - r)) 64 (omega (arith, size, sound.size, record_within g limits (1 - r) other_lt, limits.least_len))

  -- the journal of area k lies in the flash
  pub journal_within : HasJournals g → (k : ℕ) → k < 2 → journal_place g k + journal_len g ≤ length x
  journal_within room k lt = omega (arith, area_within g limits k lt, area_is g limits room, sound.size)

  -- while the spare record block is torn by an erase
  pub raised_stays : (y : List ℕ) (changes : Changes (record_place g (1 - r)) g.block_len IsRaised x y) → Stays g x y changes.size sound r
  raised_stays y changes =
      let areas = λ (k : ℕ). same_apart _ _ _ _ IsRaised x y (area_from_record g limits k (1 - r) other_lt) changes in
      let above : (k : ℕ) → k < 2 * 32 → get_or (record_bytes g x (1 - r)) k 0 ≤ get_or (record_bytes g y (1 - r)) k 0 =
      λ k lt. omega (arith, changes.inside k (omega (arith, limits.least_len)), get_or-part x (record_place g (1 - r)) 64 k (omega arith), get_or-part y (record_place g (1 - r)) 64 k (omega arith)) in
      record {
        current = current;
        bank_lt = own_bank_lt;
        head = part_apart _ _ _ _ IsRaised x y (records_apart g limits r current.is_block) changes;
        image = same_image y changes.size (record_in g x r) (areas a);
        journal = λ two. same_journal y changes.size a two.0 (areas a);
        other_settled = none_below_above _ _ 32 (sound.settled (1 - r) other_lt) above;
        other = λ valid. whole_is _ _ 32 (record_size x refl) (record_size y changes.size) (sound.settled (1 - r) other_lt) above valid.whole;
        other_image = λ valid before. same_image y changes.size (record_in g x (1 - r)) (areas (record_in g x (1 - r)).bank);
        settled = λ two. subst (IsSettled (mark_count g) (slots_at g)) (sym (same_journal y changes.size (1 - a) two.0 (areas (1 - a)))) (two.1.settled (1 - a) spare_lt);
        header = λ two header. let same = same_journal y changes.size (1 - a) two.0 (areas (1 - a)) in inl (subst IsHeader same header, ap header_number same);
      }

  -- A journal that is nowhere below what it was is settled, and has no new valid header.
  module _ (y : List ℕ) (size : length y ≡ length x) (two : InTwo g x y size sound) (above : (k : ℕ) → k < journal_len g → get_or x (journal_place g (1 - a) + k) 0 ≤ get_or y (journal_place g (1 - a) + k) 0) where
    journal_above : (k : ℕ) → get_or (journal_bytes g x (1 - a)) k 0 ≤ get_or (journal_bytes g y (1 - a)) k 0
    journal_above = part_raised x y (journal_place g (1 - a)) (journal_len g) (journal_within two.0 (1 - a) spare_lt) above

    pub journal_settled : IsSettled (mark_count g) (slots_at g) (journal_bytes g y (1 - a))
    journal_settled = raised_settled _ _ _ _ journal_above (two.1.settled (1 - a) spare_lt)

    pub journal_header : IsHeader (journal_bytes g y (1 - a)) → IsHeader (journal_bytes g x (1 - a)) × (header_number (journal_bytes g y (1 - a)) ≡ header_number (journal_bytes g x (1 - a)))
    journal_header header = raised_header _ _ _ _ (two.1.settled (1 - a) spare_lt) (λ k lt. journal_above k) header

  -- what a change of the spare area makes of the journals of contents with a record of layout 2
  pub record JournalSays (y : List ℕ) (size : length y ≡ length x) : Type 0 where
    pub settled : InTwo g x y size sound → IsSettled (mark_count g) (slots_at g) (journal_bytes g y (1 - a))
    pub header : InTwo g x y size sound → IsHeader (journal_bytes g y (1 - a))
        → (IsHeader (journal_bytes g x (1 - a)) × (header_number (journal_bytes g y (1 - a)) ≡ header_number (journal_bytes g x (1 - a))))
        ⊎ (header_number (journal_bytes g y (1 - a)) ≡ number_in g x r + 1)

  pub raised_says : (y : List ℕ) (size : length y ≡ length x) → (HasJournals g → (k : ℕ) → k < journal_len g → get_or x (journal_place g (1 - a) + k) 0 ≤ get_or y (journal_place g (1 - a) + k) 0) → JournalSays y size
  raised_says y size above = record {
    settled = λ two. journal_settled y size two (above two.0);
    header = λ two header. inl (journal_header y size two (above two.0) header);
  }

  -- where the spare record's place is erased and the current record and its area are as before
  pub blank_stays : (y : List ℕ) (size : length y ≡ length x) → record_bytes g y r ≡ record_bytes g x r → SameAt (area_place g a) (area_len g) x y
      → IsBlank y (record_place g (1 - r)) 64 → JournalSays y size → Stays g x y size sound r
  blank_stays y size head own blank says = record {
    current = current;
    bank_lt = own_bank_lt;
    head = head;
    image = same_image y size (record_in g x r) own;
    journal = λ two. same_journal y size a two.0 own;
    other_settled = blank_none_below y (record_place g (1 - r)) blank;
    other = λ valid. absurd (none valid);
    other_image = λ valid before. absurd (none valid);
    settled = says.settled;
    header = λ two header. ⊎_elim (λ was. inl was) (λ is. inr (is, none)) (says.header two header);
  }
    where
      none : HoldsRecord g y (1 - r) → ⊥
      none valid = blank_not_whole y (record_place g (1 - r)) blank valid.whole

  -- a change within the spare area, where the spare record's place is erased
  module _ (at n : ℕ) (P : ℕ → ℕ → ℕ → Type 0) (y : List ℕ) (fits : at + n ≤ area_len g) (changes : Changes (area_place g (1 - a) + at) n P x y) where
    narrower : (p m : ℕ) → Apart p m (area_place g (1 - a)) (area_len g) → Apart p m (area_place g (1 - a) + at) n
    narrower p m (inl front) = inl (omega arith)
    narrower p m (inr behind) = inr (omega arith)

    pub within_record : (q : ℕ) → q < 2 → SameAt (record_place g q) 64 x y
    within_record q lt = same_apart _ _ _ _ P x y (narrower (record_place g q) 64 (record_from_area g limits q (1 - a) lt)) changes

    pub within_head : (q : ℕ) → q < 2 → record_bytes g y q ≡ record_bytes g x q
    within_head q lt = part_same x y (record_place g q) 64 changes.size (within_record q lt)

    pub within_own : SameAt (area_place g a) (area_len g) x y
    within_own = same_apart _ _ _ _ P x y (narrower (area_place g a) (area_len g) (areas_apart g limits a own_bank_lt)) changes

    pub within_blank : IsBlank x (record_place g (1 - r)) 64 → IsBlank y (record_place g (1 - r)) 64
    within_blank blank k lt = within_record (1 - r) other_lt k lt ∙ blank k lt

    pub within_stays : IsBlank x (record_place g (1 - r)) 64 → JournalSays y changes.size → Stays g x y changes.size sound r
    within_stays blank says = blank_stays y changes.size (within_head r current.is_block) within_own (within_blank blank) says

    pub within_keeps : IsBlank x (record_place g (1 - r)) 64 → JournalSays y changes.size → KeepsBoth g x y
    within_keeps blank says = keeps_both g x y changes.size sound r (within_stays blank says) (within_head (1 - r) other_lt)

    -- Where both records stay, as both are of layout 2 or end before the journal: the change is in the journal's
    -- first block, and no byte is below what it was.
    pub front_stays : ((record_in g x r).layout ≡ 2) → short_len g ≤ at → at + n ≤ short_len g + g.block_len
        → ((k : ℕ) → k < n → get_or x (area_place g (1 - a) + at + k) 0 ≤ get_or y (area_place g (1 - a) + at + k) 0) → Stays g x y changes.size sound r
    front_stays own_two from to above = record {
      current = current;
      bank_lt = own_bank_lt;
      head = within_head r current.is_block;
      image = same_image y changes.size (record_in g x r) within_own;
      journal = λ two. same_journal y changes.size a two.0 within_own;
      other_settled = subst (λ (l : List ℕ). NoneBelow l 32) (sym (within_head (1 - r) other_lt)) (sound.settled (1 - r) other_lt);
      other = λ valid. within_head (1 - r) other_lt;
      other_image = λ valid before. other_image before (one_or_other (record_in g x (1 - r)).bank a (bank_below g x (1 - r) other_lt before) own_bank_lt);
      settled = λ two. journal_settled y changes.size two (λ k lt. raised k);
      header = λ two header. inl (journal_header y changes.size two (λ k lt. raised k) header);
    }
      where
        raised : (k : ℕ) → get_or x (journal_place g (1 - a) + k) 0 ≤ get_or y (journal_place g (1 - a) + k) 0
        raised k = pick (cases_lt (journal_place g (1 - a) + k) (area_place g (1 - a) + at)) (cases_lt (journal_place g (1 - a) + k) (area_place g (1 - a) + at + n))
          where
            pick : (journal_place g (1 - a) + k < area_place g (1 - a) + at) ⊎ (area_place g (1 - a) + at ≤ journal_place g (1 - a) + k)
                → (journal_place g (1 - a) + k < area_place g (1 - a) + at + n) ⊎ (area_place g (1 - a) + at + n ≤ journal_place g (1 - a) + k)
                → get_or x (journal_place g (1 - a) + k) 0 ≤ get_or y (journal_place g (1 - a) + k) 0
            pick (inl lt) _ = omega (arith, changes.before (journal_place g (1 - a) + k) lt)
            pick (inr le) (inr past) = omega (arith, changes.after (journal_place g (1 - a) + k) past)
            pick (inr le) (inl lt) =
                let i = journal_place g (1 - a) + k - (area_place g (1 - a) + at) in
                let spot : area_place g (1 - a) + at + i ≡ journal_place g (1 - a) + k = omega arith in
                subst (λ (p : ℕ). get_or x p 0 ≤ get_or y p 0) spot (above i (omega arith))

        fit : JournalsFit g x
        fit = sound.journals r current.is_block (current.valid, own_two)

        room : HasJournals g
        room = two_room g x r (current.valid, own_two)

        short : HoldsRecord g x (1 - r) → (record_in g x (1 - r)).length ≤ short_len g
        short before = ⊎_elim (λ one. fit.short (1 - r) other_lt (before, one)) (λ two. short_two before two) (layout_either g x (1 - r) before)
          where
            short_two : (valid : HoldsRecord g x (1 - r)) → (record_in g x (1 - r)).layout ≡ 2 → (record_in g x (1 - r)).length ≤ short_len g
            short_two valid two = ⊎_elim (λ one. let no : 1 ≡ 2 = sym (ap layout_of one.magic_is) ∙ two in absurd (omega (arith, no))) (λ allowed. allowed.fits) valid.allowed

        other_image : HoldsRecord g x (1 - r) → ((record_in g x (1 - r)).bank ≡ a) ⊎ ((record_in g x (1 - r)).bank ≡ 1 - a)
            → image_of g y (record_in g x (1 - r)) ≡ image_of g x (record_in g x (1 - r))
        other_image before (inl is) = same_image y changes.size (record_in g x (1 - r)) (subst (λ (k : ℕ). SameAt (area_place g k) (area_len g) x y) (sym is) within_own)
        other_image before (inr is) =
            let head = record_in g x (1 - r) in
            let at_spare : image_in g (area_bytes g y (1 - a)) head ≡ image_in g (area_bytes g x (1 - a)) head = image_still g head (area_bytes g x (1 - a)) (area_bytes g y (1 - a)) size_area (layout_either g x (1 - r) before) (short before) bank_same slots_same in
            subst (λ (k : ℕ). image_in g (area_bytes g y k) head ≡ image_in g (area_bytes g x k) head) (sym is) at_spare
          where
            in_x : length (area_bytes g x (1 - a)) ≡ area_len g
            in_x = length-part x (area_place g (1 - a)) (area_len g) (omega (arith, area_within g limits (1 - a) spare_lt, sound.size))

            size_area : length (area_bytes g y (1 - a)) ≡ length (area_bytes g x (1 - a))
            size_area = length-part y (area_place g (1 - a)) (area_len g) (omega (arith, area_within g limits (1 - a) spare_lt, sound.size, changes.size)) ∙ sym in_x

            area_changes : Changes at n P (area_bytes g x (1 - a)) (area_bytes g y (1 - a))
            area_changes = part_changes x y (area_place g (1 - a)) (area_len g) at n P fits (omega (arith, area_within g limits (1 - a) spare_lt, sound.size)) changes

            bank_same : SameFront (short_len g) (area_bytes g x (1 - a)) (area_bytes g y (1 - a))
            bank_same i lt = area_changes.before i (omega arith)

            slots_same : (k : ℕ) → short_len g + slots_at g ≤ k → get_or (area_bytes g y (1 - a)) k 0 ≡ get_or (area_bytes g x (1 - a)) k 0
            slots_same k le = area_changes.after k (omega (arith, first_before_slots g limits))

    pub front_keeps : ((record_in g x r).layout ≡ 2) → short_len g ≤ at → at + n ≤ short_len g + g.block_len
        → ((k : ℕ) → k < n → get_or x (area_place g (1 - a) + at + k) 0 ≤ get_or y (area_place g (1 - a) + at + k) 0) → KeepsBoth g x y
    front_keeps own_two from to above = keeps_both g x y changes.size sound r (front_stays own_two from to above) (within_head (1 - r) other_lt)
