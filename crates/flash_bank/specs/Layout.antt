-- Which records are valid, and how long a bank is.
use Rattle.std.specs.Prelude.{◌≡◌, ◌⊎◌, ℕ, ◌<◌, ◌≤◌, List}
use Rattle.flash_layout.specs.Layout.{Geometry, HasJournals, area_len, bank_len, record_bytes, short_len}
use Rattle.flash_bank.specs.Record.{IsValid}
use Rattle.flash_bank.specs.declared.record.Record.{Record}

-- the length of a bank where this is the current record
abbrev pub len_under : Geometry → Record → ℕ
len_under g current = bank_len g current.layout

-- The image of a record has its place: its layout exists, it names one of the two areas, and it is not longer than a bank.
pub record IsPlaced (g : Geometry) (head : Record) : Type 0 where
  pub least_layout : 1 ≤ head.layout
  pub most_layout : head.layout ≤ 2
  pub room : head.layout ≡ 2 → HasJournals g
  pub area : head.bank < 2
  pub fits : head.length ≤ len_under g head

-- The magic `SSU1`, the bank of the record block and a length of at most an area's may stand together.
pub record AllowsOne (g : Geometry) (block magic bank len : ℕ) : Type 0 where
  pub magic_is : magic ≡ 0x53535531
  pub bank_is : bank ≡ block
  pub fits : len ≤ area_len g

-- Where layout 2 exists the magic `SSU2`, either bank and a length of at most a bank's before a journal may stand together.
pub record AllowsTwo (g : Geometry) (magic bank len : ℕ) : Type 0 where
  pub room : HasJournals g
  pub magic_is : magic ≡ 0x53535532
  pub bank_is : bank < 2
  pub fits : len ≤ short_len g

-- one of both
abbrev pub Allows : Geometry → ℕ → ℕ → ℕ → ℕ → Type 0
Allows g block magic bank len = AllowsOne g block magic bank len ⊎ AllowsTwo g magic bank len

-- block r holds a valid record
abbrev pub HoldsRecord : Geometry → List ℕ → ℕ → Type 0
HoldsRecord g contents r = IsValid (Allows g r) (record_bytes g contents r)
