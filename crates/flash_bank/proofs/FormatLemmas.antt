-- What a flash holds once it is formatted.
use Rattle.std.proofs.Common.{◌≡◌, ◌⊎◌, inl, inr, ℕ, zero, suc, ◌+◌, ◌-◌, ◌*◌, ◌<◌, ◌≤◌, List, length, get_or, refl, sym, ◌∙◌, ap, subst, arith, zero-add}
use Rattle.std.specs.Prelude.{Bool, if◌then◌else◌}
use Rattle.std.proofs.lemmas.Bool.{cases_lt, ne_eqb}
use Rattle.std.proofs.lemmas.Bool.Decides.{nat_tests}
use Rattle.flash_dev.specs.Changes.{Changes, IsBlank, LiesInOneBlock, IsErased, IsProgrammed}
use Rattle.flash_layout.specs.Journal.{IsHeader, IsPairPlace, IsSettled}
use Rattle.flash_layout.specs.Layout.{Geometry, HasJournals, IsInLimits, area_len, area_place, bank_len, journal_bytes, journal_len, journal_place, mark_count, record_bytes, record_place, short_len, slots_at}
use Rattle.flash_layout.specs.Pairs.{NoneBelow, pair_sum, part}
use Rattle.flash_layout.proofs.JournalLemmas.{blank_no_header}
use Rattle.flash_layout.proofs.PartLemmas.{get_or-part, part_held, whole_none_below}
use Rattle.flash_layout.proofs.Places.{area_is, area_within, marks_before_slots, record_within, slots_before_end}
use Rattle.flash_bank.specs.Format.{Formats, PutsFirst, SameOutsideFirst, first_record, journal_in, layout_for}
use Rattle.flash_bank.specs.Layout.{Allows, HoldsRecord}
use Rattle.flash_bank.specs.Record.{IsInRange, IsValid, record_of, written}
use Rattle.flash_bank.specs.Runs.{IsOutside}
use Rattle.flash_bank.specs.Sound.{IsSound, IsCurrent, Boot, HoldsTwo, JournalsFit, PrevOf, boot_in, image_of, record_in}
use Rattle.flash_bank.specs.declared.record.Record.{Record}
use Rattle.ssu_compat.specs.declared.rule.SwId.{SwId}
use Rattle.flash_bank.proofs.ImageLemmas.{image_one, image_two}
use Rattle.flash_bank.proofs.RecordLemmas.{record_of-written, valid-written, whole-written}
use Rattle.flash_bank.proofs.SoundLemmas.{one_current}
use Rattle.flash_bank.proofs.StayLemmas.{blank_none_below, blank_not_whole}

-- outside of a change all is as before
out_of : (at n : ℕ) (P : ℕ → ℕ → ℕ → Type 0) (x y : List ℕ) (k : ℕ) → Changes at n P x y → IsOutside at n k → get_or y k 0 ≡ get_or x k 0
out_of at n P x y k changes (inl front) = changes.before k front
out_of at n P x y k changes (inr past) = changes.after k past

-- a place outside of a range is outside of its front
less_out : (at n m k : ℕ) → m ≤ n → IsOutside at n k → IsOutside at m k
less_out at n m k le (inl front) = inl front
less_out at n m k le (inr past) = inr (omega arith)

module _ (g : Geometry) (layout : ℕ) where
  pub same_first : (x : List ℕ) → SameOutsideFirst g layout x x
  same_first x = record { size = refl; same = λ k records area journal. refl }

  pub outside_joined : (x y z : List ℕ) → SameOutsideFirst g layout x y → SameOutsideFirst g layout y z → SameOutsideFirst g layout x z
  outside_joined x y z first second = record { size = second.size ∙ first.size; same = λ k records area journal. second.same k records area journal ∙ first.same k records area journal }

  -- a step within the record blocks, within area 0, and in the other journal, however it ended
  pub records_outside : (n : ℕ) (P : ℕ → ℕ → ℕ → Type 0) (x y : List ℕ) → n ≤ 2 * g.block_len → Changes 0 n P x y → SameOutsideFirst g layout x y
  records_outside n P x y fits step = record { size = step.size; same = λ k records area journal. out_of _ _ P x y k step (less_out 0 (2 * g.block_len) n k fits records) }

  pub area_outside : (n : ℕ) (P : ℕ → ℕ → ℕ → Type 0) (x y : List ℕ) → n ≤ area_len g → Changes (area_place g 0) n P x y → SameOutsideFirst g layout x y
  area_outside n P x y fits step = record { size = step.size; same = λ k records area journal. out_of _ _ P x y k step (less_out _ _ n k fits area) }

  pub journal_outside : (P : ℕ → ℕ → ℕ → Type 0) (x y : List ℕ) → Changes (journal_place g 1) (journal_in g layout) P x y → SameOutsideFirst g layout x y
  journal_outside P x y step = record { size = step.size; same = λ k records area journal. out_of _ _ P x y k step journal }

  -- the three erases, however each of them ended
  pub erased_outside : (x m1 m2 m3 : List ℕ) (P Q R : ℕ → ℕ → ℕ → Type 0) → Changes 0 (2 * g.block_len) P x m1 → Changes (area_place g 0) (area_len g) Q m1 m2
      → Changes (journal_place g 1) (journal_in g layout) R m2 m3 → SameOutsideFirst g layout x m3
  erased_outside x m1 m2 m3 P Q R one two three =
      outside_joined x m2 m3 (outside_joined x m1 m2 (records_outside (2 * g.block_len) P x m1 (omega arith) one) (area_outside (area_len g) Q m1 m2 (omega arith) two)) (journal_outside R m2 m3 three)

-- the layout of a format is 2 where there is room for journals, and else 1
pub layout_two : (g : Geometry) → HasJournals g → layout_for g ≡ 2
layout_two g room = grind (arith, nat_tests)

pub layout_one : (g : Geometry) → (HasJournals g → ⊥) → layout_for g ≡ 1
layout_one g never = pick (cases_lt (area_len g) 1048576)
  where
    pick : (area_len g < 1048576) ⊎ (1048576 ≤ area_len g) → layout_for g ≡ 1
    pick (inl lt) = grind (arith, nat_tests)
    pick (inr le) = absurd (never le)

pub one_or_two : (layout : ℕ) → 1 ≤ layout → layout ≤ 2 → (layout ≡ 1) ⊎ (layout ≡ 2)
one_or_two zero least most = absurd (omega arith)
one_or_two (suc zero) least most = inl refl
one_or_two (suc (suc zero)) least most = inr refl
one_or_two (suc (suc (suc layout))) least most = absurd (omega arith)

-- a bank is not longer than its area
pub fits_area : (g : Geometry) → IsInLimits g → (layout n : ℕ) → (layout ≡ 2 → HasJournals g) → (layout ≡ 1) ⊎ (layout ≡ 2) → n ≤ bank_len g layout → n ≤ area_len g
fits_area g limits layout n room (inl one) fits = subst (λ (l : ℕ). n ≤ bank_len g l) one fits
fits_area g limits layout n room (inr two) fits =
    let short : n ≤ short_len g = subst (λ (l : ℕ). n ≤ bank_len g l) two fits in omega (arith, short, area_is g limits (room two))

-- area 0 is erased still once the other journal is
pub area_blank : (g : Geometry) (m n : ℕ) (mid area next : List ℕ) → n ≤ area_len g → Changes (area_place g 0) (area_len g) IsErased mid area
    → Changes (journal_place g 1) m IsErased area next → IsBlank next (area_place g 0) n
area_blank g m n mid area next fits first journal k lt =
    let further : area_place g 0 + area_len g ≤ journal_place g 1 = omega arith in
    journal.before (area_place g 0 + k) (omega (arith, lt, fits, further)) ∙ first.inside k (omega (arith, lt, fits))

-- in another layout than 2 there is no journal, so nothing of it is changed
no_journal : (g : Geometry) (layout : ℕ) → (layout ≡ 2 → ⊥) → journal_in g layout ≡ 0
no_journal g layout never = ap (λ (two : Bool). if two then journal_len g else 0) (ne_eqb layout 2 never)

pub none_changed : (g : Geometry) (layout : ℕ) (P : ℕ → ℕ → ℕ → Type 0) (x : List ℕ) → (layout ≡ 2 → ⊥) → Changes (journal_place g 1) (journal_in g layout) P x x
none_changed g layout P x never =
    let none = no_journal g layout never in
    record { size = refl; before = λ k lt. refl; after = λ k le. refl; inside = λ k lt. absurd (omega (arith, none, lt)) }

-- an erased journal is settled, and has no header
module _ (g : Geometry) (limits : IsInLimits g) (y : List ℕ) (k : ℕ) (blank : IsBlank y (journal_place g k) (journal_len g)) where
  byte_is : (p : ℕ) → p < journal_len g → get_or (journal_bytes g y k) p 0 ≡ 255
  byte_is p lt = get_or-part y (journal_place g k) (journal_len g) p lt ∙ blank p lt

  pub erased_settled : IsSettled (mark_count g) (slots_at g) (journal_bytes g y k)
  erased_settled = record { each = λ i place. pick i (within i place) }
    where
      within : (i : ℕ) → IsPairPlace (mark_count g) (slots_at g) i → 2 * i < journal_len g
      within i (inl fixed) = omega (arith, slots_before_end g limits)
      within i (inr (inl between)) = omega (arith, between.1, marks_before_slots g limits, slots_before_end g limits)
      within i (inr (inr head)) = omega (arith, head.is_slot, head.to, slots_before_end g limits)

      pick : (i : ℕ) → 2 * i < journal_len g → 255 ≤ pair_sum (journal_bytes g y k) i
      pick i lt = let first = byte_is (2 * i) lt in omega (arith, first)

  pub erased_no_header : IsHeader (journal_bytes g y k) → ⊥
  erased_no_header = blank_no_header (journal_bytes g y k) (λ i lt.
      let spot : 0 + i ≡ i = omega arith in
      ap (λ (p : ℕ). get_or (journal_bytes g y k) p 0) spot ∙ byte_is i (omega (arith, slots_before_end g limits)))

module _ (g : Geometry) (limits : IsInLimits g) (layout : ℕ) (room : layout ≡ 2 → HasJournals g) (image : List ℕ) (software : SwId) (x y : List ℕ) (size : length x ≡ g.blocks * g.block_len)
    (fits : length image ≤ bank_len g layout) (in_range : IsInRange (first_record layout (length image) software)) (puts : PutsFirst g image (first_record layout (length image) software) x y) where
  abbrev head : Record
  head = first_record layout (length image) software

  in_area : length image ≤ area_len g
  in_area = pick in_range.layout
    where
      pick : (layout ≡ 1) ⊎ (layout ≡ 2) → length image ≤ area_len g
      pick (inl one) = subst (λ (l : ℕ). length image ≤ bank_len g l) one fits
      pick (inr two) = let short : length image ≤ short_len g = subst (λ (l : ℕ). length image ≤ bank_len g l) two fits in omega (arith, short, area_is g limits (room two))

  same_size : length y ≡ length x
  same_size = puts.puts_head.size ∙ (puts.puts_image.size ∙ (puts.erases_journal.size ∙ (puts.erases_area.size ∙ puts.erases_records.size)))

  -- the areas lie behind both record blocks, and area 0 before area 1
  behind : area_place g 0 ≡ 2 * g.block_len
  behind = omega arith

  in_order : area_place g 0 + area_len g ≤ journal_place g 1
  in_order = omega arith

  is_written : record_bytes g y 0 ≡ written head
  is_written =
      let here : record_place g 0 ≡ 0 = omega arith in
      part_held y (written head) (record_place g 0) 64 refl (omega (arith, here, same_size, size, record_within g limits 0 (omega arith), limits.least_len))
      (λ k lt. ap (λ (p : ℕ). get_or y (p + k) 0) here ∙ puts.puts_head.inside k lt)

  rest_of_records : (k : ℕ) → 64 ≤ k → k < 2 * g.block_len → get_or y k 0 ≡ 255
  rest_of_records k past lt =
      puts.puts_head.after k (omega arith) ∙ (puts.puts_image.before k (omega (arith, behind)) ∙ (puts.erases_journal.before k (omega (arith, behind, in_order)) ∙ (puts.erases_area.before k (omega (arith, behind))
      ∙ (sym (ap (λ (p : ℕ). get_or puts.no_records p 0) (zero-add k)) ∙ puts.erases_records.inside k lt))))

  rest_of_area : (k : ℕ) → length image ≤ k → k < area_len g → get_or y (area_place g 0 + k) 0 ≡ 255
  rest_of_area k past lt =
      puts.puts_head.after (area_place g 0 + k) (omega (arith, behind, limits.least_len)) ∙ (puts.puts_image.after (area_place g 0 + k) (omega arith)
      ∙ (puts.erases_journal.before (area_place g 0 + k) (omega (arith, in_order)) ∙ puts.erases_area.inside k lt))

  other_journal : (k : ℕ) → k < journal_in g layout → get_or y (journal_place g 1 + k) 0 ≡ 255
  other_journal k lt =
      puts.puts_head.after (journal_place g 1 + k) (omega (arith, behind, in_order, limits.least_len)) ∙ (puts.puts_image.after (journal_place g 1 + k) (omega (arith, in_order, in_area)) ∙ puts.erases_journal.inside k lt)

  no_second : IsBlank y (record_place g 1) 64
  no_second k lt = rest_of_records (record_place g 1 + k) (omega (arith, limits.least_len)) (omega (arith, limits.least_len))

  not_second : HoldsRecord g y 1 → ⊥
  not_second other = blank_not_whole y (record_place g 1) no_second other.whole

  -- in layout 2 both journals are erased
  journals_blank : layout ≡ 2 → (k : ℕ) → k < 2 → IsBlank y (journal_place g k) (journal_len g)
  journals_blank two zero k_lt i lt =
      let short : length image ≤ short_len g = subst (λ (l : ℕ). length image ≤ bank_len g l) two fits in
      let spot : area_place g 0 + (short_len g + i) ≡ journal_place g 0 + i = omega arith in
      subst (λ (p : ℕ). get_or y p 0 ≡ 255) spot (rest_of_area (short_len g + i) (omega (arith, short)) (omega (arith, lt, area_is g limits (room two))))
  journals_blank two (suc zero) k_lt i lt = other_journal i (subst (λ (l : ℕ). i < journal_in g l) (sym two) lt)
  journals_blank two (suc (suc k)) k_lt i lt = absurd (omega arith)

  is_head : record_in g y 0 ≡ head
  is_head = ap record_of is_written ∙ record_of-written head in_range.layout in_range.number in_range.bank in_range.len in_range.model in_range.version in_range.group

  abbrev magic_of : ℕ → ℕ
  magic_of l = 0x53535530 + l

  allowed : (layout ≡ 1) ⊎ (layout ≡ 2) → Allows g 0 (0x53535530 + layout) 0 (length image)
  allowed (inl one) = inl (record { magic_is = ap magic_of one; bank_is = refl; fits = in_area })
  allowed (inr two) = inr (record { room = room two; magic_is = ap magic_of two; bank_is = omega arith; fits = subst (λ (l : ℕ). length image ≤ bank_len g l) two fits })

  valid : HoldsRecord g y 0
  valid = subst (IsValid (Allows g 0)) (sym is_written)
      (valid-written head in_range.layout in_range.number in_range.bank in_range.len in_range.model in_range.version in_range.group (Allows g 0) (allowed in_range.layout))

  current : IsCurrent g y 0
  current = record { is_block = omega arith; valid = valid; newest = λ other. absurd (not_second other) }

  front_is : part y (area_place g 0) (length image) ≡ image
  front_is =
      part_held y image (area_place g 0) (length image) refl (omega (arith, same_size, size, in_area, area_within g limits 0 (omega arith)))
      (λ k lt. puts.puts_head.after (area_place g 0 + k) (omega (arith, behind, limits.least_len)) ∙ puts.puts_image.inside k lt)

  is_image : image_of g y head ≡ image
  is_image = pick in_range.layout
    where
      pick : (layout ≡ 1) ⊎ (layout ≡ 2) → image_of g y head ≡ image
      pick (inl one) = image_one g y head one in_area ∙ front_is
      pick (inr two) =
          image_two g y head limits (room two) two (subst (λ (l : ℕ). length image ≤ bank_len g l) two fits) (journals_blank two 0 (omega arith)) ∙ front_is

  is_boot : record { head = head; image = image } ≡ boot_in g y 0
  is_boot =
      let same : image_of g y (record_in g y 0) ≡ image = ap (image_of g y) is_head ∙ is_image in
      (λ i. record { head = sym is_head i; image = sym same i })

  journals_fit : layout ≡ 2 → JournalsFit g y
  journals_fit two = record {
    settled = λ k lt. erased_settled g limits y k (journals_blank two k lt);
    next = λ k r k_lt r_lt header held. absurd (erased_no_header g limits y k (journals_blank two k k_lt) header);
    named = λ k r k_lt r_lt header held names. absurd (erased_no_header g limits y k (journals_blank two k k_lt) header);
    apart = λ first second. absurd (not_second second.0);
    short = short;
  }
    where
      short : (r : ℕ) → r < 2 → HoldsRecord g y r × ((record_in g y r).layout ≡ 1) → (record_in g y r).length ≤ short_len g
      short zero lt one = let no : 2 ≡ 1 = sym two ∙ (sym (ap (λ (h : Record). h.layout) is_head) ∙ one.1) in absurd (omega (arith, no))
      short (suc zero) lt one = absurd (not_second one.0)
      short (suc (suc r)) lt one = absurd (omega arith)

  sound : IsSound g y
  sound = record {
    size = same_size ∙ size;
    settled = both_settled;
    some = inl valid;
    distinct = λ own other. absurd (not_second other);
    journals = journals;
  }
    where
      both_settled : (r : ℕ) → r < 2 → NoneBelow (record_bytes g y r) 32
      both_settled zero lt = subst (λ (l : List ℕ). NoneBelow l 32) (sym is_written) (whole_none_below (written head) 32 (whole-written head in_range.layout in_range.number in_range.bank in_range.len in_range.model in_range.version in_range.group))
      both_settled (suc zero) lt = blank_none_below y (record_place g 1) no_second
      both_settled (suc (suc r)) lt = absurd (omega arith)

      journals : (r : ℕ) → r < 2 → HoldsTwo g y r → JournalsFit g y
      journals zero lt two = journals_fit (sym (ap (λ (h : Record). h.layout) is_head) ∙ two.1)
      journals (suc zero) lt two = absurd (not_second two.0)
      journals (suc (suc r)) lt two = absurd (omega arith)

  none_before : (b : Boot) → PrevOf g y b → ⊥
  none_before b from =
      let is : from.block ≡ 0 = one_current g y from.block 0 from.current current in
      not_second (subst (λ (q : ℕ). HoldsRecord g y (1 - q)) is from.valid)

  pub formats : Formats g head image x y
  formats = record {
    sound = sound;
    boot = record { block = 0; current = current; is = is_boot };
    no_prev = none_before;
    erased_records = rest_of_records;
    erased_area = rest_of_area;
    erased_journals = journals_blank;
    outside = all_outside;
  }
    where
      all_outside : SameOutsideFirst g layout x y
      all_outside =
          outside_joined g layout x puts.no_records y (records_outside g layout (2 * g.block_len) _ x puts.no_records (omega arith) puts.erases_records)
          (outside_joined g layout puts.no_records puts.no_area y (area_outside g layout (area_len g) _ puts.no_records puts.no_area (omega arith) puts.erases_area)
          (outside_joined g layout puts.no_area puts.no_image y (journal_outside g layout _ puts.no_area puts.no_image puts.erases_journal)
          (outside_joined g layout puts.no_image puts.no_head y (area_outside g layout (length image) _ puts.no_image puts.no_head in_area puts.puts_image)
          (records_outside g layout 64 _ puts.no_head y (omega (arith, limits.least_len)) puts.puts_head))))

-- the record's place is erased before it is put there
pub place_blank : (g : Geometry) (n m : ℕ) (image x mid area next last : List ℕ) → 64 ≤ g.block_len → Changes 0 (2 * g.block_len) IsErased x mid
    → Changes (area_place g 0) n IsErased mid area → Changes (journal_place g 1) m IsErased area next → Changes (area_place g 0) (length image) (IsProgrammed image) next last → IsBlank last 0 64
place_blank g n m image x mid area next last long records first journal put k lt =
    let behind : area_place g 0 ≡ 2 * g.block_len = omega arith in
    let further : area_place g 0 ≤ journal_place g 1 = omega arith in
    put.before (0 + k) (omega (arith, behind)) ∙ (journal.before (0 + k) (omega (arith, behind, further)) ∙ (first.before (0 + k) (omega (arith, behind)) ∙ records.inside k (omega arith)))

pub first_in_one : (z : ℕ) → 64 ≤ z → LiesInOneBlock z 0 64
first_in_one z long = (0, omega arith, omega arith)
