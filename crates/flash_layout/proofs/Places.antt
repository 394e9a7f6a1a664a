-- Records, areas and journals lie apart, and within the flash.
use Rattle.std.proofs.Common.{◌≡◌, ◌⊎◌, inl, inr, ℕ, zero, suc, ◌+◌, ◌-◌, ◌*◌, ◌/◌, ◌%◌, ◌<◌, ◌≤◌, List, arith, ap}
use Rattle.std.proofs.Math.Nat.{div-add-mod, mod-lt, mul-le-mul_left}
use Rattle.flash_dev.specs.Changes.{Changes}
use Rattle.flash_layout.specs.Layout.{Geometry, HasJournals, IsInLimits, area_blocks, area_len, area_place, journal_blocks, journal_len, mark_count, record_place, rounded_up, short_len, slots_at}
use Rattle.flash_layout.specs.Pairs.{part}
use Rattle.flash_layout.proofs.PartLemmas.{part_same}

-- the n bytes from `at` on and the m bytes from `place` on have no byte in common
abbrev pub Apart : ℕ → ℕ → ℕ → ℕ → Type 0
Apart at n place m = (at + n ≤ place) ⊎ (place + m ≤ at)

-- what lies apart from a change is as before
pub part_apart : (at n place m : ℕ) (P : ℕ → ℕ → ℕ → Type 0) (x y : List ℕ) → Apart at n place m → Changes place m P x y → part y at n ≡ part x at n
part_apart at n place m P x y (inl front) changes = part_same x y at n changes.size (λ k lt. changes.before (at + k) (omega arith))
part_apart at n place m P x y (inr behind) changes = part_same x y at n changes.size (λ k lt. changes.after (at + k) (omega arith))

module _ (g : Geometry) (limits : IsInLimits g) where
  pub records_apart : (r : ℕ) → r < 2 → Apart (record_place g r) 64 (record_place g (1 - r)) g.block_len
  records_apart zero lt = inl (omega (arith, limits.least_len))
  records_apart (suc zero) lt = inr (omega (arith, limits.least_len))
  records_apart (suc (suc r)) lt = absurd (omega arith)

  -- a bank lies behind both record blocks
  area_behind : (k : ℕ) → 2 * g.block_len ≤ area_place g k
  area_behind k = omega arith

  -- a record block lies before its end
  record_before : (r : ℕ) → r < 2 → record_place g r + g.block_len ≤ 2 * g.block_len
  record_before zero lt = omega arith
  record_before (suc zero) lt = omega arith
  record_before (suc (suc r)) lt = absurd (omega arith)

  -- an area lies behind both record blocks
  pub record_before_area : (r k : ℕ) → r < 2 → record_place g r + g.block_len ≤ area_place g k
  record_before_area r k lt = omega (arith, area_behind k, record_before r lt)

  pub area_from_record : (k r : ℕ) → r < 2 → Apart (area_place g k) (area_len g) (record_place g r) g.block_len
  area_from_record k r lt = inr (omega (arith, area_behind k, record_before r lt))

  pub record_from_area : (r k : ℕ) → r < 2 → Apart (record_place g r) 64 (area_place g k) (area_len g)
  record_from_area r k lt = inl (omega (arith, area_behind k, record_before r lt, limits.least_len))

  pub areas_apart : (k : ℕ) → k < 2 → Apart (area_place g k) (area_len g) (area_place g (1 - k)) (area_len g)
  areas_apart zero lt = inl (omega arith)
  areas_apart (suc zero) lt = inr (omega arith)
  areas_apart (suc (suc k)) lt = absurd (omega arith)

  -- records and banks lie within the flash
  pub record_within : (r : ℕ) → r < 2 → record_place g r + g.block_len ≤ g.blocks * g.block_len
  record_within r lt = omega (arith, record_before r lt, mul-le-mul_left g.block_len limits.least_blocks)

  pub area_within : (k : ℕ) → k < 2 → area_place g k + area_len g ≤ g.blocks * g.block_len
  area_within zero lt = let fits : 2 + area_blocks g ≤ g.blocks = omega (arith, limits.least_blocks) in omega (arith, mul-le-mul_left g.block_len fits)
  area_within (suc zero) lt = let fits : 2 + 2 * area_blocks g ≤ g.blocks = omega (arith, limits.least_blocks) in omega (arith, mul-le-mul_left g.block_len fits)
  area_within (suc (suc k)) lt = absurd (omega arith)

-- a number of bytes rounded up to whole pieces is not less, and less than a piece more
pub rounded_least : (n len : ℕ) → 0 < len → n ≤ rounded_up n len * len
unfolding rounded_up
rounded_least n len some =
    let whole : len * ((n + (len - 1)) / len) + (n + (len - 1)) % len ≡ n + (len - 1) = div-add-mod (n + (len - 1)) len in
    let below : (n + (len - 1)) % len < len = mod-lt (n + (len - 1)) some in
    omega (arith, whole, below)

pub rounded_most : (n len : ℕ) → 0 < len → rounded_up n len * len ≤ n + (len - 1)
unfolding rounded_up
rounded_most n len some =
    let whole : len * ((n + (len - 1)) / len) + (n + (len - 1)) % len ≡ n + (len - 1) = div-add-mod (n + (len - 1)) len in
    omega (arith, whole)

module _ (g : Geometry) (limits : IsInLimits g) where
  some_len : 0 < g.block_len
  some_len = omega (arith, limits.least_len)

  -- the slots lie behind header and marks
  pub marks_before_slots : 8448 + 2 * mark_count g ≤ slots_at g
  marks_before_slots =
      let marks = rounded_least (2 * mark_count g) 256 (omega arith) in
      let slots = rounded_least (8448 + rounded_up (2 * mark_count g) 256 * 256) g.block_len some_len in
      omega (arith, marks, slots)

  pub slots_before_end : slots_at g + 69632 ≤ journal_len g
  slots_before_end = rounded_least (slots_at g + 69632) g.block_len some_len

  -- a journal has a block, and more bytes than one
  pub some_journal : 1 ≤ journal_blocks g
  some_journal = pick (journal_blocks g) slots_before_end
    where
      pick : (n : ℕ) → slots_at g + 69632 ≤ n * g.block_len → 1 ≤ n
      pick zero least = absurd (omega (arith, least))
      pick (suc n) least = omega arith

  pub rest_of_journal : (journal_blocks g - 1) * g.block_len ≡ journal_len g - g.block_len
  rest_of_journal =
      let some = some_journal in
      let all : (journal_blocks g - 1) + 1 ≡ journal_blocks g = omega (arith, some) in
      let bytes : ((journal_blocks g - 1) + 1) * g.block_len ≡ journal_len g = ap (λ (n : ℕ). n * g.block_len) all in
      omega (arith, bytes)

  -- and not in the first block
  pub first_before_slots : g.block_len ≤ slots_at g
  first_before_slots = pick (rounded_up (8448 + rounded_up (2 * mark_count g) 256 * 256) g.block_len) (rounded_least (8448 + rounded_up (2 * mark_count g) 256 * 256) g.block_len some_len)
    where
      pick : (n : ℕ) → 8448 + rounded_up (2 * mark_count g) 256 * 256 ≤ n * g.block_len → g.block_len ≤ n * g.block_len
      pick zero least = absurd (omega (arith, least))
      pick (suc n) least = omega arith

  -- slots begin at an even place
  pub slots_even : slots_at g ≡ 2 * (rounded_up (8448 + rounded_up (2 * mark_count g) 256 * 256) g.block_len * (g.block_len / 256 * 128))
  slots_even =
      let n = rounded_up (8448 + rounded_up (2 * mark_count g) 256 * 256) g.block_len in
      let pages : g.block_len ≡ g.block_len / 256 * 128 + g.block_len / 256 * 128 = omega (arith, limits.page) in
      let all : n * g.block_len ≡ n * (g.block_len / 256 * 128 + g.block_len / 256 * 128) = ap (λ (z : ℕ). n * z) pages in
      omega (arith, all)

  pub rounded_half : (h : ℕ) × (slots_at g ≡ 2 * h)
  rounded_half = (rounded_up (8448 + rounded_up (2 * mark_count g) 256 * 256) g.block_len * (g.block_len / 256 * 128), slots_even)

  module _ (room : HasJournals g) where
    journal_less : journal_len g ≤ area_len g
    journal_less =
        let marks = rounded_most (2 * mark_count g) 256 (omega arith) in
        let slots = rounded_most (8448 + rounded_up (2 * mark_count g) 256 * 256) g.block_len some_len in
        let journal = rounded_most (slots_at g + 69632) g.block_len some_len in
        omega (arith, marks, slots, journal, room, limits.most_len)

    pub journal_fits : journal_blocks g ≤ area_blocks g
    journal_fits = pick (journal_blocks g) (area_blocks g) g.block_len some_len journal_less
      where
        pick : (j a z : ℕ) → 0 < z → j * z ≤ a * z → j ≤ a
        pick zero a z some le = omega arith
        pick (suc j) zero z some le = absurd (omega arith)
        pick (suc j) (suc a) z some le = let less = pick j a z some (omega arith) in omega (arith, less)

    -- bank and journal are the area
    pub area_is : short_len g + journal_len g ≡ area_len g
    area_is =
        let all : (area_blocks g - journal_blocks g) + journal_blocks g ≡ area_blocks g = let fits = journal_fits in omega (arith, fits) in
        let bytes : ((area_blocks g - journal_blocks g) + journal_blocks g) * g.block_len ≡ area_blocks g * g.block_len = ap (λ (n : ℕ). n * g.block_len) all in
        omega (arith, bytes)

    -- the blocks of a bank of layout 2 before the journal
    pub bank_blocks_are : (area_blocks g - journal_blocks g) + journal_blocks g ≡ area_blocks g
    bank_blocks_are = let fits = journal_fits in omega (arith, fits)

    -- the journal's first block lies in the area
    pub first_in_area : short_len g + g.block_len ≤ area_len g
    first_in_area = omega (arith, area_is, first_before_slots, slots_before_end)
