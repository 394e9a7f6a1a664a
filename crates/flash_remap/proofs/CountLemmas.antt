-- Counts of faults, attempt by attempt.
use Rattle.std.proofs.Common.{◌≡◌, ◌⊎◌, inl, inr, ⊎_elim, ℕ, ◌+◌, ◌-◌, ◌^◌, ◌≤◌, min, arith}
use Rattle.std.proofs.lemmas.Bool.{cases_lt}
use Rattle.ssu_io.specs.Faults.{Rose}

-- so many attempts raised the count by as many at least, or it stands at its greatest value
abbrev pub Counted : ℕ → ℕ → ℕ → ℕ → Type 0
Counted before now first next = (2 ^ 64 ≤ now + 1) ⊎ (before + next ≤ now + first)

rose_or : (top before now : ℕ) → min (before + 1) (top - 1) ≤ now → (top ≤ now + 1) ⊎ (before + 1 ≤ now)
rose_or top before now rose = ⊎_elim (λ lt. inl (omega (arith, rose, lt))) (λ le. inr le) (cases_lt now (before + 1))

pub rose_cases : (before now : ℕ) → Rose before now → (2 ^ 64 ≤ now + 1) ⊎ (before + 1 ≤ now)
rose_cases before now rose = rose_or (2 ^ 64) before now rose

pub counted_more : (before mid now first next more : ℕ) → Counted before mid first next → mid ≤ now → more ≤ next + 1 → Rose mid now → Counted before now first more
counted_more before mid now first next more so_far later one rose = ⊎_elim
    (λ top. inl (omega (arith, top, later)))
    (λ count. ⊎_elim (λ top. inl top) (λ up. inr (omega (arith, count, up, one))) (rose_cases mid now rose))
    so_far

pub counted_later : (before mid now first next : ℕ) → Counted before mid first next → mid ≤ now → (2 ^ 64 ≤ now + 1) ⊎ (before + next ≤ now + first)
counted_later before mid now first next so_far later = ⊎_elim (λ top. inl (omega (arith, top, later))) (λ count. inr (omega (arith, count, later))) so_far

-- no more replacements are used than faults were counted
uses_up : (s n j0 i0 j1 i1 f0 f1 : ℕ) → j0 ≤ j1 → j1 ≤ s → i0 ≤ i1 → i1 ≤ n → i1 + j0 ≤ j1 + i0 → f0 + j1 ≤ f1 + j0 → min (s - j0) (n - i0) + f0 ≤ min (s - j1) (n - i1) + f1
uses_up s n j0 i0 j1 i1 f0 f1 spare most_spare slot most_slot slots faults = omega arith

pub uses_at_most : (s n j0 i0 j1 i1 f0 mid f1 : ℕ) → j0 ≤ j1 → j1 ≤ s → i0 ≤ i1 → i1 ≤ n → i1 + j0 ≤ j1 + i0 → Rose f0 mid → mid ≤ f1
    → (2 ^ 64 ≤ f1 + 1) ⊎ (mid + j1 ≤ f1 + j0 + 1) → (2 ^ 64 ≤ f1 + 1) ⊎ (min (s - j0) (n - i0) + f0 ≤ min (s - j1) (n - i1) + f1)
uses_at_most s n j0 i0 j1 i1 f0 mid f1 spare most_spare slot most_slot slots rose later counted = ⊎_elim
    (λ top. inl top)
    (λ count. ⊎_elim (λ top. inl (omega (arith, top, later))) (λ up. inr (uses_up s n j0 i0 j1 i1 f0 f1 spare most_spare slot most_slot slots (omega (arith, up, count)))) (rose_cases f0 mid rose))
    counted

-- each spare that was passed over was tried, and so was the block itself
pub counted_in_all : (f0 mid f1 j0 j1 : ℕ) → Rose f0 mid → mid ≤ f1 → (2 ^ 64 ≤ f1 + 1) ⊎ (mid + j1 ≤ f1 + j0 + 1) → (2 ^ 64 ≤ f1 + 1) ⊎ (f0 + j1 ≤ f1 + j0)
counted_in_all f0 mid f1 j0 j1 rose later counted = ⊎_elim
    (λ top. inl top)
    (λ count. ⊎_elim (λ top. inl (omega (arith, top, later))) (λ up. inr (omega (arith, up, count))) (rose_cases f0 mid rose))
    counted

-- where no replacement is left, each of those that were was tried
none_over : (s n j0 i0 j1 i1 f0 mid f1 : ℕ) → j0 ≤ j1 → j1 ≤ s → i0 ≤ i1 → i1 ≤ n → i1 + j0 ≤ j1 + i0 → min (s - j1) (n - i1) ≡ 0 → f0 + 1 ≤ mid → mid + j1 ≤ f1 + j0
    → min (s - j0) (n - i0) + 1 + f0 ≤ f1
none_over s n j0 i0 j1 i1 f0 mid f1 spare most_spare slot most_slot slots none up count = omega arith

pub tried_all : (s n j0 i0 j1 i1 f0 mid f1 : ℕ) → j0 ≤ j1 → j1 ≤ s → i0 ≤ i1 → i1 ≤ n → i1 + j0 ≤ j1 + i0 → min (s - j1) (n - i1) ≡ 0 → Rose f0 mid → mid ≤ f1
    → (2 ^ 64 ≤ f1 + 1) ⊎ (mid + j1 ≤ f1 + j0) → (2 ^ 64 ≤ f1 + 1) ⊎ (min (s - j0) (n - i0) + 1 + f0 ≤ f1)
tried_all s n j0 i0 j1 i1 f0 mid f1 spare most_spare slot most_slot slots none rose later counted = ⊎_elim
    (λ top. inl top)
    (λ count. ⊎_elim (λ top. inl (omega (arith, top, later))) (λ up. inr (none_over s n j0 i0 j1 i1 f0 mid f1 spare most_spare slot most_slot slots none up count)) (rose_cases f0 mid rose))
    counted

-- replacements that are used do not come back
pub fewer_left : (s n j0 i0 j1 i1 : ℕ) → j0 ≤ j1 → i0 ≤ i1 → min (s - j1) (n - i1) ≤ min (s - j0) (n - i0)
fewer_left s n j0 i0 j1 i1 spare slot = omega arith

pub one_less : (s n j0 i0 j1 i1 : ℕ) → j0 + 1 ≤ j1 → j1 ≤ s → i0 + 1 ≤ i1 → i1 ≤ n → min (s - j1) (n - i1) + 1 ≤ min (s - j0) (n - i0)
one_less s n j0 i0 j1 i1 spare most_spare slot most_slot = omega arith
