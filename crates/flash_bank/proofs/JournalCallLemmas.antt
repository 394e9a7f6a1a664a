-- What the calls on the spare journal of a bank leave of contents that it fits.
use Rattle.std.specs.Prelude.{true}
use Rattle.std.proofs.Common.{◌≡◌, ◌⊎◌, inl, inr, ℕ, ◌+◌, ◌-◌, ◌*◌, ◌^◌, ◌<◌, ◌≤◌, ◌==◌, if◌then◌else◌, List, length, get_or, refl, sym, ◌∙◌, ap, subst, arith}
use Rattle.flash_dev.specs.Changes.{Changes, IsBlank, IsTornProgram}
use Rattle.flash_layout.specs.Journal.{header_written, mark_written}
use Rattle.flash_layout.specs.Layout.{Geometry, area_len, area_place, journal_len, journal_place, mark_count, short_len, slots_at}
use Rattle.flash_layout.specs.Pairs.{paired}
use Rattle.flash_layout.specs.Slots.{slot_written}
use Rattle.flash_layout.proofs.PairsLemmas.{length-paired, whole_byte}
use Rattle.flash_layout.proofs.Places.{area_is, first_before_slots, marks_before_slots, slots_before_end}
use Rattle.flash_bank.specs.Bank.{Fits, block_of, current_of, geometry_of, is_begun, spare_journal, spare_record}
use Rattle.flash_bank.specs.Journal.{CutsPut, LeavesForgotten, LeavesMarked, LeavesPut, LeavesResumed, journal_len_of, mark_count_of, mark_place, slot_place}
use Rattle.flash_bank.specs.Runs.{IsRaised}
use Rattle.flash_bank.specs.Sound.{record_in}
use Rattle.flash_bank.specs.declared.bank.Bank.{Bank}
use Rattle.flash_bank.specs.declared.record.Record.{Record}
use Rattle.flash_bank.proofs.BankLemmas.{Kept, Still, kept, layout_cases, layout_is, spare_is, still}
use Rattle.flash_bank.proofs.PutLemmas.{leaves_put}
use Rattle.flash_bank.proofs.SoundLemmas.{keeps}
use Rattle.flash_bank.proofs.SpareLemmas.{Anything, header_says, header_whole, mark_says, put_widened, slot_says, slot_whole}
use Rattle.flash_bank.proofs.StayLemmas.{front_keeps, front_stays, raised_stays}

-- in layout 2 there is a journal
pub journal_len_two : (b : Bank) → (current_of b).layout ≡ 2 → journal_len_of b ≡ journal_len (geometry_of b)
journal_len_two b two = ap (λ (l : ℕ). if l == 2 then journal_len (geometry_of b) else 0) two

-- in layout 1 there is none
pub journal_len_none : (b : Bank) → ((current_of b).layout ≡ 2 → ⊥) → journal_len_of b ≡ 0
journal_len_none b other = pick (layout_cases b)
  where
    pick : ((current_of b).layout ≡ 1) ⊎ ((current_of b).layout ≡ 2) → journal_len_of b ≡ 0
    pick (inl one) = ap (λ (l : ℕ). if l == 2 then journal_len (geometry_of b) else 0) one
    pick (inr two) = absurd (other two)

pub mark_count_two : (b : Bank) → (current_of b).layout ≡ 2 → mark_count_of b ≡ mark_count (geometry_of b)
mark_count_two b two = ap (λ (l : ℕ). if l == 2 then mark_count (geometry_of b) else 0) two

module _ (b : Bank) (x : List ℕ) (fits : Fits b x) where
  abbrev g : Geometry
  g = geometry_of b

  abbrev r : ℕ
  r = block_of b

  -- the spare area as the contents say it
  abbrev k : ℕ
  k = 1 - (record_in g x r).bank

  journal_is : spare_journal b ≡ journal_place g k
  journal_is = ap (journal_place g) (sym (spare_is b x fits))

  -- ---- `resume`

  pub leaves_resumed : (y : List ℕ) → Changes (spare_record b) g.block_len IsRaised x y → LeavesResumed b x y
  leaves_resumed y changes = record { keeps = keeps g x y changes.size fits.sound r (raised_stays g b.limits r x fits.sound fits.current y changes); changes = changes }

  pub resumed_still : (y : List ℕ) → Changes (spare_record b) g.block_len IsRaised x y → Still b x fits y
  resumed_still y changes = still b x fits y changes.size (raised_stays g b.limits r x fits.sound fits.current y changes)

  module _ (two : (current_of b).layout ≡ 2) where
    in_area : short_len g + slots_at g + 69632 ≤ area_len g
    in_area = omega (arith, area_is g b.limits (b.room two), slots_before_end g b.limits)

    -- ---- `forget`

    forgot_changes : (y : List ℕ) → Changes (spare_journal b) g.block_len IsRaised x y → Changes (area_place g k + short_len g) g.block_len IsRaised x y
    forgot_changes y given = subst (λ (p : ℕ). Changes p g.block_len IsRaised x y) journal_is given

    pub forgot_still : (y : List ℕ) → Changes (spare_journal b) g.block_len IsRaised x y → Still b x fits y
    forgot_still y given =
        let changes = forgot_changes y given in
        still b x fits y changes.size (front_stays g b.limits r x fits.sound fits.current (short_len g) g.block_len IsRaised y
        (omega (arith, in_area, first_before_slots g b.limits)) changes (layout_is b x fits ∙ two) (omega arith) (omega arith) (λ i lt. changes.inside i lt))

    pub leaves_forgotten : (y : List ℕ) → Changes (spare_journal b) g.block_len IsRaised x y → LeavesForgotten b x y
    leaves_forgotten y given =
        let changes = forgot_changes y given in
        record {
          keeps = front_keeps g b.limits r x fits.sound fits.current (short_len g) g.block_len IsRaised y
              (omega (arith, in_area, first_before_slots g b.limits)) changes (layout_is b x fits ∙ two) (omega arith) (omega arith) (λ i lt. changes.inside i lt);
          changes = given;
        }

    module _ (begun : is_begun b ≡ true) where
      -- ---- `mark`

      pub marked_kept : (p : ℕ) (y : List ℕ) → p < mark_count g → Changes (mark_place b p) 2 (IsTornProgram mark_written) x y → Kept b x fits y
      marked_kept p y lt given =
          let there : mark_place b p ≡ journal_place g k + (8448 + 2 * p) = omega (arith, journal_is) in
          let here : mark_place b p ≡ area_place g k + (short_len g + (8448 + 2 * p)) = omega (arith, journal_is) in
          kept b x fits begun (short_len g + (8448 + 2 * p)) 2 (IsTornProgram mark_written) y (omega (arith, in_area, marks_before_slots g b.limits))
          (subst (λ (q : ℕ). Changes q 2 (IsTornProgram mark_written) x y) here given)
          (mark_says g b.limits r x fits.sound fits.current p y lt (subst (λ (q : ℕ). Changes q 2 (IsTornProgram mark_written) x y) there given))

      pub leaves_marked : (p : ℕ) (y : List ℕ) → p < mark_count g → Changes (mark_place b p) 2 (IsTornProgram mark_written) x y → LeavesMarked b p x y
      leaves_marked p y lt given = record { keeps = (marked_kept p y lt given).keeps; changes = given }

      moved : (at to : ℕ) (bytes : List ℕ) (next new : ℕ) (more y : List ℕ) → at ≡ to → next ≡ new → CutsPut at bytes next more x y → CutsPut to bytes new more x y
      moved at to bytes next new more y here there cuts = subst (λ (p : ℕ). CutsPut p bytes new more x y) here (subst (λ (p : ℕ). CutsPut at bytes p more x y) there cuts)

      -- ---- `spare`

      module _ (s at : ℕ) (bytes y : List ℕ) (s_lt : s < 16) (at_fits : at < 2 ^ 32) (few : length bytes ≤ 4066)
          (given : CutsPut (slot_place b s + 256) bytes (slot_place b s) (slot_written at (length bytes)) x y) where
        pub slotted_kept : Kept b x fits y
        slotted_kept =
            let first : slot_place b s + 256 ≡ journal_place g k + (slots_at g + 4352 * s + 256) = omega (arith, journal_is) in
            let second : slot_place b s ≡ journal_place g k + (slots_at g + 4352 * s) = omega (arith, journal_is) in
            let cuts = moved _ _ bytes _ _ (slot_written at (length bytes)) y first second given in
            let changes : Changes (area_place g k + short_len g) (slots_at g + 69632) Anything x y =
            put_widened _ bytes _ (slot_written at (length bytes)) (area_place g k + short_len g) (slots_at g + 69632) x y (omega arith) (omega arith) (omega arith) (omega arith) cuts in
            kept b x fits begun (short_len g) (slots_at g + 69632) Anything y (omega (arith, in_area)) changes
            (slot_says g b.limits r x fits.sound fits.current s at bytes y changes.size s_lt at_fits few cuts)

        pub leaves_slotted : IsBlank x (slot_place b s) 4352 → LeavesPut g (slot_place b s + 256) bytes (slot_place b s) (slot_written at (length bytes)) x y
        leaves_slotted blank =
            leaves_put (slot_place b s + 256) bytes (slot_place b s) (slot_written at (length bytes)) x y (omega arith) (λ i lt. blank i (omega arith)) g slotted_kept.keeps
            (omega arith) refl (whole_byte (slot_written at (length bytes)) 8 refl (slot_whole at (length bytes) at_fits (omega arith))) given

      -- ---- `head`

      module _ (number : ℕ) (message y : List ℕ) (number_fits : number < 2 ^ 32) (next : number ≡ (current_of b).number + 1) (few : length message ≤ 4084)
          (bytes : (i : ℕ) → get_or message i 0 ≤ 255) (blank : IsBlank x (spare_journal b) 32)
          (given : CutsPut (spare_journal b + 256) (paired message) (spare_journal b) (header_written number (length message)) x y) where
        pub headed_kept : Kept b x fits y
        headed_kept =
            let first : spare_journal b + 256 ≡ journal_place g k + 256 = omega (arith, journal_is) in
            let second : spare_journal b ≡ journal_place g k + 0 = omega (arith, journal_is) in
            let cuts = moved _ _ (paired message) _ _ (header_written number (length message)) y first second given in
            let changes : Changes (area_place g k + short_len g) (slots_at g + 69632) Anything x y =
            put_widened _ (paired message) _ (header_written number (length message)) (area_place g k + short_len g) (slots_at g + 69632) x y (omega arith)
            (omega (arith, length-paired message, marks_before_slots g b.limits)) (omega arith) (omega arith) cuts in
            kept b x fits begun (short_len g) (slots_at g + 69632) Anything y (omega (arith, in_area)) changes
            (header_says g b.limits r x fits.sound fits.current number message y changes.size number_fits (next ∙ ap (λ (h : Record). h.number + 1) (sym fits.head)) few bytes
            (subst (λ (p : ℕ). IsBlank x p 32) journal_is blank) cuts)

        pub leaves_headed : LeavesPut g (spare_journal b + 256) (paired message) (spare_journal b) (header_written number (length message)) x y
        leaves_headed =
            leaves_put (spare_journal b + 256) (paired message) (spare_journal b) (header_written number (length message)) x y (omega arith) (λ i lt. blank i lt) g headed_kept.keeps
            (omega arith) refl (whole_byte (header_written number (length message)) 16 refl (header_whole number (length message) number_fits (omega arith))) given
