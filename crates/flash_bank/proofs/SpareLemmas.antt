-- What is programmed into the spare area of a begun bank, and what it leaves of the journal there.
use Rattle.std.proofs.Common.{◌≡◌, ◌⊎◌, inl, inr, ℕ, zero, suc, ◌+◌, ◌-◌, ◌*◌, ◌^◌, ◌<◌, ◌≤◌, List, length, get_or, refl, sym, ◌∙◌, ap, subst, arith}
use Rattle.flash_dev.specs.Changes.{Changes, IsBlank, IsTornProgram}
use Rattle.flash_layout.specs.Journal.{IsHeader, IsSettled, header_number, header_spelled, header_written, mark_written}
use Rattle.flash_layout.specs.Layout.{Geometry, HasJournals, IsInLimits, area_place, journal_bytes, journal_len, journal_place, mark_count, record_place, short_len, slots_at}
use Rattle.flash_layout.specs.Pairs.{AreWhole, NoneBelow, pair_sum, paired}
use Rattle.flash_layout.specs.Slots.{slot_spelled, slot_written}
use Rattle.flash_layout.proofs.JournalLemmas.{blank_no_header, data_settled, program_settled, raised_header, same_number, slot_out}
use Rattle.flash_layout.proofs.PairsLemmas.{byte_of, length-paired, whole-paired, whole_byte}
use Rattle.flash_layout.proofs.PartLemmas.{get_or-part, part_changes, whole_none_below}
use Rattle.flash_layout.proofs.Places.{marks_before_slots, rounded_half, slots_before_end}
use Rattle.flash_bank.specs.Journal.{CutsPut}
use Rattle.flash_bank.specs.Layout.{HoldsRecord}
use Rattle.flash_bank.specs.Sound.{IsSound, IsCurrent, HoldsTwo, number_in, record_in}
use Rattle.flash_bank.specs.declared.record.Record.{Record}
use Rattle.flash_bank.proofs.RunsLemmas.{programmed_torn}
use Rattle.flash_bank.proofs.SoundLemmas.{InTwo, one_or_other}
use Rattle.flash_bank.proofs.StayLemmas.{JournalSays, blank_not_whole, journal_within, own_bank_lt, raised_says}

-- anything may stand in a range
abbrev pub Anything : ℕ → ℕ → ℕ → Type 0
Anything k old new = Unit {0}

pub widened : (at n place m : ℕ) (P : ℕ → ℕ → ℕ → Type 0) (x y : List ℕ) → place ≤ at → at + n ≤ place + m → Changes at n P x y → Changes place m Anything x y
widened at n place m P x y from to changes = record { size = changes.size; before = λ k lt. changes.before k (omega arith); after = λ k le. changes.after k (omega arith); inside = λ k lt. tt }

pub anything_twice : (place m : ℕ) (x mid y : List ℕ) → Changes place m Anything x mid → Changes place m Anything mid y → Changes place m Anything x y
anything_twice place m x mid y first second = record {
  size = second.size ∙ first.size;
  before = λ k lt. second.before k lt ∙ first.before k lt;
  after = λ k le. second.after k le ∙ first.after k le;
  inside = λ k lt. tt;
}

-- both programs lie in a range
pub put_widened : (at : ℕ) (bytes : List ℕ) (next : ℕ) (more : List ℕ) (place m : ℕ) (x y : List ℕ) → place ≤ at → at + length bytes ≤ place + m → place ≤ next → next + length more ≤ place + m
    → CutsPut at bytes next more x y → Changes place m Anything x y
put_widened at bytes next more place m x y a b c d (inl first) = widened at (length bytes) place m _ x y a b first
put_widened at bytes next more place m x y a b c d (inr both) =
    anything_twice place m x both.between y (widened at (length bytes) place m _ x both.between a b both.first) (widened next (length more) place m _ both.between y c d both.second)

pub header_whole : (number len : ℕ) → number < 2 ^ 32 → len < 65536 → AreWhole (header_written number len) 16
header_whole number len fits few = whole-paired (header_spelled number len) (λ i lt. byte_of (header_spelled number len) (omega arith, (omega arith, (omega arith, (omega arith, (omega arith, (omega arith, (omega arith, (omega arith, (omega arith, (omega arith, (omega arith, (omega arith, (omega arith, (omega arith, (omega arith, (omega arith, tt)))))))))))))))) i)

pub slot_whole : (at len : ℕ) → at < 2 ^ 32 → len < 65536 → AreWhole (slot_written at len) 8
slot_whole at len fits few = whole-paired (slot_spelled at len) (λ i lt. byte_of (slot_spelled at len) (omega arith, (omega arith, (omega arith, (omega arith, (omega arith, (omega arith, (omega arith, (omega arith, tt)))))))) i)

pub header_number-written : (number len : ℕ) → header_number (header_written number len) ≡ number
header_number-written number len = omega arith

module _ (g : Geometry) (limits : IsInLimits g) (r : ℕ) (x : List ℕ) (sound : IsSound g x) (current : IsCurrent g x r) where
  abbrev a : ℕ
  a = (record_in g x r).bank

  spare_lt : 1 - a < 2
  spare_lt = omega (arith, own_bank_lt g limits r x sound current)

  -- a change in the spare journal is one of its bytes
  in_journal : HasJournals g → (at n : ℕ) (P : ℕ → ℕ → ℕ → Type 0) (mid y : List ℕ) → length mid ≡ length x → at + n ≤ journal_len g → Changes (journal_place g (1 - a) + at) n P mid y
      → Changes at n P (journal_bytes g mid (1 - a)) (journal_bytes g y (1 - a))
  in_journal room at n P mid y size inside changes =
      part_changes mid y (journal_place g (1 - a)) (journal_len g) at n P inside (omega (arith, size, journal_within g limits r x sound current room (1 - a) spare_lt)) changes

  -- a change of the bank, in layout 2, leaves the journal
  pub bank_says : (at n : ℕ) (P : ℕ → ℕ → ℕ → Type 0) (y : List ℕ) → at + n ≤ short_len g → (changes : Changes (area_place g (1 - a) + at) n P x y) → JournalSays g limits r x sound current y changes.size
  bank_says at n P y inside changes = raised_says g limits r x sound current y changes.size (λ room k lt.
      let same = changes.after (journal_place g (1 - a) + k) (omega arith) in omega (arith, same))

  -- in layout 1 there is no journal
  pub one_says : (y : List ℕ) (size : length y ≡ length x) → (record_in g x r).layout ≡ 1 → record_in g y r ≡ record_in g x r → IsBlank y (record_place g (1 - r)) 64 → JournalSays g limits r x sound current y size
  one_says y size one same blank = record { settled = λ two. absurd (none two); header = λ two _. absurd (none two) }
    where
      at_block : (q : ℕ) → HoldsTwo g y q → (q ≡ r) ⊎ (q ≡ 1 - r) → ⊥
      at_block q two (inl is) =
          let layout : (record_in g y q).layout ≡ 1 = ap (λ (k : ℕ). (record_in g y k).layout) is ∙ (ap (λ (h : Record). h.layout) same ∙ one) in
          omega (arith, two.1, layout)
      at_block q two (inr is) = blank_not_whole y (record_place g (1 - r)) blank (subst (λ (k : ℕ). HoldsRecord g y k) is two.0).whole

      none : InTwo g x y size sound → ⊥
      none two = at_block two.2.0 two.2.2 (one_or_other two.2.0 r two.2.1 current.is_block)

  -- a mark
  pub mark_says : (p : ℕ) (y : List ℕ) → p < mark_count g → (changes : Changes (journal_place g (1 - a) + (8448 + 2 * p)) 2 (IsTornProgram mark_written) x y) → JournalSays g limits r x sound current y changes.size
  mark_says p y lt changes = record {
    settled = λ two. program_settled _ _ _ (4224 + p) 1 mark_written _ _ (omega arith) pair (within two.0) (two.1.settled (1 - a) spare_lt);
    header = λ two header. inl (raised_header _ _ _ _ (two.1.settled (1 - a) spare_lt) (λ k below. let same = (within two.0).before k (omega arith) in omega (arith, same)) header);
  }
    where
      pair : NoneBelow mark_written 1
      pair = record { each = at_pair }
        where
          at_pair : (i : ℕ) → i < 1 → 255 ≤ pair_sum mark_written i
          at_pair zero lt = omega arith
          at_pair (suc i) lt = absurd (omega arith)

      within : HasJournals g → Changes (8448 + 2 * p) 2 (IsTornProgram mark_written) (journal_bytes g x (1 - a)) (journal_bytes g y (1 - a))
      within room = in_journal room (8448 + 2 * p) 2 _ x y refl (omega (arith, marks_before_slots g limits, slots_before_end g limits)) changes

  -- a slot: its bytes are no pairs, and its head has whole ones
  pub slot_says : (s at : ℕ) (bytes y : List ℕ) (size : length y ≡ length x) → s < 16 → at < 2 ^ 32 → length bytes ≤ 4066
      → CutsPut (journal_place g (1 - a) + (slots_at g + 4352 * s + 256)) bytes (journal_place g (1 - a) + (slots_at g + 4352 * s)) (slot_written at (length bytes)) x y
      → JournalSays g limits r x sound current y size
  slot_says s at bytes y size s_lt at_fits few cuts = record {
    settled = λ two. settled two.0 (two.1.settled (1 - a) spare_lt) cuts;
    header = λ two header. inl (raised_header _ _ _ _ (two.1.settled (1 - a) spare_lt) (λ k below. let same = front two.0 k below cuts in omega (arith, same)) header);
  }
    where
      head : List ℕ
      head = slot_written at (length bytes)

      data_in : HasJournals g → (P : ℕ → ℕ → ℕ → Type 0) (z : List ℕ) → Changes (journal_place g (1 - a) + (slots_at g + 4352 * s + 256)) (length bytes) P x z
          → Changes (slots_at g + 4352 * s + 256) (length bytes) P (journal_bytes g x (1 - a)) (journal_bytes g z (1 - a))
      data_in room P z changes = in_journal room (slots_at g + 4352 * s + 256) (length bytes) P x z refl (omega (arith, slots_before_end g limits)) changes

      data_leaves : HasJournals g → (P : ℕ → ℕ → ℕ → Type 0) (z : List ℕ) → Changes (journal_place g (1 - a) + (slots_at g + 4352 * s + 256)) (length bytes) P x z
          → IsSettled (mark_count g) (slots_at g) (journal_bytes g x (1 - a)) → IsSettled (mark_count g) (slots_at g) (journal_bytes g z (1 - a))
      data_leaves room P z changes was = data_settled _ _ (slots_at g + 4352 * s + 256) (length bytes) P _ _
          (slot_out (mark_count g) (slots_at g) s (length bytes) s_lt (omega arith) (marks_before_slots g limits)) (data_in room P z changes) was

      settled : HasJournals g → IsSettled (mark_count g) (slots_at g) (journal_bytes g x (1 - a))
          → CutsPut (journal_place g (1 - a) + (slots_at g + 4352 * s + 256)) bytes (journal_place g (1 - a) + (slots_at g + 4352 * s)) (slot_written at (length bytes)) x y
          → IsSettled (mark_count g) (slots_at g) (journal_bytes g y (1 - a))
      settled room was (inl first) = data_leaves room _ y first was
      settled room was (inr both) =
          let half = rounded_half g limits in
          program_settled _ _ (slots_at g + 4352 * s) (half.0 + 2176 * s) 8 (slot_written at (length bytes)) _ _ (omega (arith, half.1)) (whole_none_below _ 8 (slot_whole at (length bytes) at_fits (omega arith)))
          (in_journal room (slots_at g + 4352 * s) 16 _ both.between y both.first.size (omega (arith, slots_before_end g limits)) both.second)
          (data_leaves room _ both.between both.first was)

      front : HasJournals g → (k : ℕ) → k < 8448
          → CutsPut (journal_place g (1 - a) + (slots_at g + 4352 * s + 256)) bytes (journal_place g (1 - a) + (slots_at g + 4352 * s)) (slot_written at (length bytes)) x y
          → get_or (journal_bytes g y (1 - a)) k 0 ≡ get_or (journal_bytes g x (1 - a)) k 0
      front room k below (inl first) = (data_in room _ y first).before k (omega (arith, marks_before_slots g limits))
      front room k below (inr both) =
          (in_journal room (slots_at g + 4352 * s) 16 _ both.between y both.first.size (omega (arith, slots_before_end g limits)) both.second).before k (omega (arith, marks_before_slots g limits))
          ∙ (data_in room _ both.between both.first).before k (omega (arith, marks_before_slots g limits))

  -- a header: its message, and then its fixed part with the next number
  pub header_says : (number : ℕ) (message y : List ℕ) (size : length y ≡ length x) → number < 2 ^ 32 → number ≡ number_in g x r + 1 → length message ≤ 4084 → ((i : ℕ) → get_or message i 0 ≤ 255)
      → IsBlank x (journal_place g (1 - a)) 32
      → CutsPut (journal_place g (1 - a) + 256) (paired message) (journal_place g (1 - a) + 0) (header_written number (length message)) x y
      → JournalSays g limits r x sound current y size
  header_says number message y size fits next few bytes blank cuts = record {
    settled = λ two. settled two.0 (two.1.settled (1 - a) spare_lt) cuts;
    header = λ two header. inr (named two.0 cuts header);
  }
    where
      whole : AreWhole (paired message) (length message)
      whole = whole-paired message (λ i lt. bytes i)

      message_in : HasJournals g → (P : ℕ → ℕ → ℕ → Type 0) (z : List ℕ) → Changes (journal_place g (1 - a) + 256) (length (paired message)) P x z
          → Changes 256 (2 * length message) P (journal_bytes g x (1 - a)) (journal_bytes g z (1 - a))
      message_in room P z changes = in_journal room 256 (2 * length message) P x z refl (omega (arith, marks_before_slots g limits, slots_before_end g limits))
          (subst (λ (n : ℕ). Changes (journal_place g (1 - a) + 256) n P x z) (length-paired message) changes)

      fixed_in : HasJournals g → (mid : List ℕ) → length mid ≡ length x → Changes (journal_place g (1 - a) + 0) 32 (IsTornProgram (header_written number (length message))) mid y
          → Changes 0 32 (IsTornProgram (header_written number (length message))) (journal_bytes g mid (1 - a)) (journal_bytes g y (1 - a))
      fixed_in room mid mid_size changes = in_journal room 0 32 _ mid y mid_size (omega (arith, slots_before_end g limits)) changes

      fixed_whole : AreWhole (header_written number (length message)) 16
      fixed_whole = header_whole number (length message) fits (omega arith)

      message_settled : HasJournals g → IsSettled (mark_count g) (slots_at g) (journal_bytes g x (1 - a)) → (z : List ℕ)
          → Changes (journal_place g (1 - a) + 256) (length (paired message)) (IsTornProgram (paired message)) x z → IsSettled (mark_count g) (slots_at g) (journal_bytes g z (1 - a))
      message_settled room was z changes = program_settled _ _ 256 128 (length message) (paired message) _ _ (omega arith) (whole_none_below _ _ whole) (message_in room _ z changes) was

      settled : HasJournals g → IsSettled (mark_count g) (slots_at g) (journal_bytes g x (1 - a))
          → CutsPut (journal_place g (1 - a) + 256) (paired message) (journal_place g (1 - a) + 0) (header_written number (length message)) x y → IsSettled (mark_count g) (slots_at g) (journal_bytes g y (1 - a))
      settled room was (inl first) = message_settled room was y first
      settled room was (inr both) =
          program_settled _ _ 0 0 16 (header_written number (length message)) _ _ (omega arith) (whole_none_below _ 16 fixed_whole) (fixed_in room both.between both.first.size both.second)
          (message_settled room was both.between (programmed_torn _ _ (paired message) x both.between (whole_byte (paired message) (length message) (length-paired message) whole) both.first))

      named : HasJournals g → CutsPut (journal_place g (1 - a) + 256) (paired message) (journal_place g (1 - a) + 0) (header_written number (length message)) x y → IsHeader (journal_bytes g y (1 - a))
          → header_number (journal_bytes g y (1 - a)) ≡ number_in g x r + 1
      named room (inl first) header = absurd (blank_no_header (journal_bytes g y (1 - a)) (λ k lt. fixed_blank k lt) header)
        where
          fixed_blank : (k : ℕ) → k < 32 → get_or (journal_bytes g y (1 - a)) (0 + k) 0 ≡ 255
          fixed_blank k lt =
              let spot : 0 + k ≡ k = omega arith in
              subst (λ (p : ℕ). get_or (journal_bytes g y (1 - a)) p 0 ≡ 255) (sym spot)
              ((message_in room _ y first).before k (omega arith) ∙ (get_or-part x (journal_place g (1 - a)) (journal_len g) k (omega (arith, slots_before_end g limits)) ∙ blank k lt))
      named room (inr both) header =
          let fixed = fixed_in room both.between both.first.size both.second in
          let above : (k : ℕ) → k < 32 → get_or (header_written number (length message)) k 0 ≤ get_or (journal_bytes g y (1 - a)) k 0 =
          λ k lt. let spot : 0 + k ≡ k = omega arith in let here = (fixed.inside k lt).0 in subst (λ (p : ℕ). get_or (header_written number (length message)) k 0 ≤ get_or (journal_bytes g y (1 - a)) p 0) spot here in
          same_number (header_written number (length message)) (journal_bytes g y (1 - a)) (whole_none_below _ 16 fixed_whole).each above header ∙ (header_number-written number (length message) ∙ next)
