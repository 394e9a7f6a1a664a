-- Sound contents, and what boot takes of them.
use Rattle.std.specs.Prelude.{◌≡◌, ◌≢◌, ◌⊎◌, ℕ, ◌+◌, ◌-◌, ◌*◌, ◌<◌, ◌≤◌, ◌==◌, if◌then◌else◌, List, length, take, drop}
use Rattle.flash_layout.specs.Journal.{IsHeader, IsSettled, header_number}
use Rattle.flash_layout.specs.Layout.{Geometry, area_bytes, journal_bytes, mark_count, record_bytes, short_len, slots_at}
use Rattle.flash_layout.specs.Pairs.{NoneBelow}
use Rattle.flash_layout.specs.Slots.{laid}
use Rattle.flash_bank.specs.Layout.{HoldsRecord}
use Rattle.flash_bank.specs.Record.{record_of}
use Rattle.flash_bank.specs.declared.record.Record.{Record}

-- the record in block r, and its number
abbrev pub record_in : Geometry → List ℕ → ℕ → Record
record_in g contents r = record_of (record_bytes g contents r)

abbrev pub number_in : Geometry → List ℕ → ℕ → ℕ
number_in g contents r = (record_in g contents r).number

-- block r holds a valid record of layout 1, or of layout 2
abbrev pub HoldsOne : Geometry → List ℕ → ℕ → Type 0
HoldsOne g contents r = HoldsRecord g contents r × ((record_in g contents r).layout ≡ 1)

abbrev pub HoldsTwo : Geometry → List ℕ → ℕ → Type 0
HoldsTwo g contents r = HoldsRecord g contents r × ((record_in g contents r).layout ≡ 2)

-- What sound contents with a record of layout 2 say of their journals. No pair of them is below 255. The number of a valid header is at
-- most that of each valid record plus 1, and at most that of one that names its area. Two valid records of layout 2 name different
-- areas, and the image of a valid record of layout 1 ends before the journal of its area.
pub record JournalsFit (g : Geometry) (contents : List ℕ) : Type 0 where
  pub settled : (k : ℕ) → k < 2 → IsSettled (mark_count g) (slots_at g) (journal_bytes g contents k)
  pub next : (k r : ℕ) → k < 2 → r < 2 → IsHeader (journal_bytes g contents k) → HoldsRecord g contents r
      → header_number (journal_bytes g contents k) ≤ number_in g contents r + 1
  pub named : (k r : ℕ) → k < 2 → r < 2 → IsHeader (journal_bytes g contents k) → HoldsRecord g contents r
      → (record_in g contents r).bank ≡ k → header_number (journal_bytes g contents k) ≤ number_in g contents r
  pub apart : HoldsTwo g contents 0 → HoldsTwo g contents 1 → (record_in g contents 0).bank ≢ (record_in g contents 1).bank
  pub short : (r : ℕ) → r < 2 → HoldsOne g contents r → (record_in g contents r).length ≤ short_len g

-- No pair of both records is below 255, at least one record is valid, and two valid ones have different numbers. With a record of
-- layout 2 the journals fit.
pub record IsSound (g : Geometry) (contents : List ℕ) : Type 0 where
  pub size : length contents ≡ g.blocks * g.block_len
  pub settled : (r : ℕ) → r < 2 → NoneBelow (record_bytes g contents r) 32
  pub some : HoldsRecord g contents 0 ⊎ HoldsRecord g contents 1
  pub distinct : HoldsRecord g contents 0 → HoldsRecord g contents 1 → number_in g contents 0 ≢ number_in g contents 1
  pub journals : (r : ℕ) → r < 2 → HoldsTwo g contents r → JournalsFit g contents

-- block r holds the current record: the valid one with the greater number
pub record IsCurrent (g : Geometry) (contents : List ℕ) (r : ℕ) : Type 0 where
  pub is_block : r < 2
  pub valid : HoldsRecord g contents r
  pub newest : HoldsRecord g contents (1 - r) → number_in g contents (1 - r) < number_in g contents r

-- a record with its image
pub record Boot : Type 0 where
  pub head : Record
  pub image : List ℕ

-- The image of a record, out of the bytes of its area: the first of them, in layout 2 those of the bank with the bytes of each valid
-- slot of the journal laid over it.
abbrev pub image_in : Geometry → List ℕ → Record → List ℕ
image_in g area head = take head.length (
    if head.layout == 2 then laid (short_len g) (drop (short_len g + slots_at g) area) (take (short_len g) area) 16 else area)

abbrev pub image_of : Geometry → List ℕ → Record → List ℕ
image_of g contents head = image_in g (area_bytes g contents head.bank) head

-- a record with its image, and the one in block r
abbrev pub boot_of : Geometry → List ℕ → Record → Boot
boot_of g contents head = record { head = head; image = image_of g contents head }

abbrev pub boot_in : Geometry → List ℕ → ℕ → Boot
boot_in g contents r = boot_of g contents (record_in g contents r)

-- what boot takes: the current record with its image
pub record BootOf (g : Geometry) (contents : List ℕ) (boot : Boot) : Type 0 where
  pub block : ℕ
  pub current : IsCurrent g contents block
  pub is : boot ≡ boot_in g contents block

-- what boot took before: the other valid record with its image, where there is one
pub record PrevOf (g : Geometry) (contents : List ℕ) (boot : Boot) : Type 0 where
  pub block : ℕ
  pub current : IsCurrent g contents block
  pub valid : HoldsRecord g contents (1 - block)
  pub is : boot ≡ boot_in g contents (1 - block)

-- y is sound, boot takes of it what it took of x, under the record in the same block, and what it took before is as in x
-- or is there no longer
pub record Keeps (g : Geometry) (x y : List ℕ) : Type 0 where
  pub sound : IsSound g y
  pub current : (r : ℕ) → IsCurrent g x r → IsCurrent g y r
  pub boot : (b : Boot) → BootOf g x b → BootOf g y b
  pub prev : (b : Boot) → PrevOf g y b → PrevOf g x b

-- the same, and what boot took before is there still
pub record KeepsBoth (g : Geometry) (x y : List ℕ) : Type 0 where
  pub keeps : Keeps g x y
  pub prev : (b : Boot) → PrevOf g x b → PrevOf g y b

-- y is sound, boot takes this record with this image, and before it took what boot takes of x
pub record Commits (g : Geometry) (new : Boot) (x y : List ℕ) : Type 0 where
  pub sound : IsSound g y
  pub boot : BootOf g y new
  pub prev : (b : Boot) → BootOf g x b → PrevOf g y b
  pub no_other : (b : Boot) → PrevOf g y b → BootOf g x b

-- the contents are sound, and no record can follow the current one
pub record IsWorn (g : Geometry) (contents : List ℕ) : Type 0 where
  pub sound : IsSound g contents
  pub block : ℕ
  pub current : IsCurrent g contents block
  pub greatest : number_in g contents block ≡ 4294967295
