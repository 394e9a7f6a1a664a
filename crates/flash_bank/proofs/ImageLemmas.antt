-- The image of a record over an erased journal is the front of its bank.
use Rattle.std.proofs.Common.{◌≡◌, ◌⊎◌, inl, inr, ℕ, ◌+◌, ◌*◌, ◌<◌, ◌≤◌, ◌==◌, if◌then◌else◌, List, get_or, take, drop, ◌∙◌, ap, subst, arith, get_or-drop}
use Rattle.std.proofs.lemmas.Bool.{cases_lt}
use Rattle.flash_dev.specs.Changes.{IsBlank}
use Rattle.flash_layout.specs.Layout.{Geometry, HasJournals, IsInLimits, area_bytes, area_len, area_place, bank_len, journal_len, journal_place, short_len, slots_at}
use Rattle.flash_layout.specs.Pairs.{part}
use Rattle.flash_layout.specs.Slots.{laid}
use Rattle.flash_layout.proofs.LaidLemmas.{laid_blank}
use Rattle.flash_layout.proofs.PartLemmas.{get_or-part, take_less}
use Rattle.flash_layout.proofs.Places.{area_is, slots_before_end}
use Rattle.flash_bank.specs.Layout.{IsPlaced}
use Rattle.flash_bank.specs.Sound.{image_of}
use Rattle.flash_bank.specs.declared.record.Record.{Record}

module _ (g : Geometry) (c : List ℕ) (head : Record) where
  -- the image with the layout as a variable
  abbrev of_layout : ℕ → List ℕ
  of_layout l =
      take head.length (if l == 2 then laid (short_len g) (drop (short_len g + slots_at g) (area_bytes g c head.bank)) (take (short_len g) (area_bytes g c head.bank)) 16
      else area_bytes g c head.bank)

  -- in layout 1 it is the front of the area
  pub image_one : head.layout ≡ 1 → head.length ≤ area_len g → image_of g c head ≡ part c (area_place g head.bank) head.length
  image_one one fits = ap of_layout one ∙ take_less (drop (area_place g head.bank) c) head.length (area_len g) fits

  -- so it is where its place is not of layout 2
  pub image_plain : IsPlaced g head → (head.layout ≡ 2 → ⊥) → image_of g c head ≡ part c (area_place g head.bank) head.length
  image_plain placed never = let one = layout_one (cases_lt head.layout 2) in image_one one (subst (λ (l : ℕ). head.length ≤ bank_len g l) one placed.fits)
    where
      layout_one : (head.layout < 2) ⊎ (2 ≤ head.layout) → head.layout ≡ 1
      layout_one (inl lt) = omega (arith, placed.least_layout)
      layout_one (inr le) = absurd (never (omega (arith, placed.most_layout)))

  pub fits_area : IsPlaced g head → (head.layout ≡ 2 → ⊥) → head.length ≤ area_len g
  fits_area placed never = by_layout (cases_lt head.layout 2)
    where
      by_layout : (head.layout < 2) ⊎ (2 ≤ head.layout) → head.length ≤ area_len g
      by_layout (inl lt) = let one : head.layout ≡ 1 = omega (arith, placed.least_layout) in subst (λ (l : ℕ). head.length ≤ bank_len g l) one placed.fits
      by_layout (inr le) = absurd (never (omega (arith, placed.most_layout)))

  -- and in layout 2, where the slots are erased
  pub image_two : IsInLimits g → HasJournals g → head.layout ≡ 2 → head.length ≤ short_len g → IsBlank c (journal_place g head.bank) (journal_len g)
      → image_of g c head ≡ part c (area_place g head.bank) head.length
  image_two limits room two fits blank =
      let area = area_bytes g c head.bank in
      let slots = drop (short_len g + slots_at g) area in
      let none : laid (short_len g) slots (take (short_len g) area) 16 ≡ take (short_len g) area = laid_blank (short_len g) slots (take (short_len g) area) 16 (λ k lt. slot_blank k lt) in
      ap of_layout two ∙ (ap (take head.length) none ∙ (take_less area head.length (short_len g) fits
      ∙ take_less (drop (area_place g head.bank) c) head.length (area_len g) (omega (arith, area_is g limits room, fits))))
    where
      slot_blank : (k : ℕ) → k < 4352 * 16 → get_or (drop (short_len g + slots_at g) (area_bytes g c head.bank)) (0 + k) 0 ≡ 255
      slot_blank k lt =
          let spot : 0 + k ≡ k = omega arith in
          let there : area_place g head.bank + (short_len g + slots_at g + k) ≡ journal_place g head.bank + (slots_at g + k) = omega arith in
          ap (λ (p : ℕ). get_or (drop (short_len g + slots_at g) (area_bytes g c head.bank)) p 0) spot
          ∙ (get_or-drop (short_len g + slots_at g) (area_bytes g c head.bank) k 0
          ∙ (get_or-part c (area_place g head.bank) (area_len g) (short_len g + slots_at g + k) (omega (arith, area_is g limits room, slots_before_end g limits))
          ∙ (ap (λ (p : ℕ). get_or c p 0) there ∙ blank (slots_at g + k) (omega (arith, slots_before_end g limits)))))
