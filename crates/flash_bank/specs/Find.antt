-- What is found in the two record blocks.
use Rattle.std.specs.Prelude.{◌≡◌, ◌≢◌, ◌⊎◌, ◌↔◌, ℕ, ◌+◌, ◌≤◌, nat_lt, if◌then◌else◌, List, Option, Some, None, IsTrue, IsSome, IfSome}
use Rattle.flash_layout.specs.Journal.{IsHeader, IsSettled, header_number}
use Rattle.flash_layout.specs.Layout.{Geometry, journal_bytes, mark_count, short_len, slots_at}
use Rattle.flash_layout.specs.Pairs.{NoneBelow}
use Rattle.flash_bank.specs.Layout.{Allows}
use Rattle.flash_bank.specs.Record.{IsValid, record_of}
use Rattle.flash_bank.specs.Sound.{IsSound, IsCurrent, record_in}
use Rattle.flash_bank.specs.declared.find.Block.{Block}
use Rattle.flash_bank.specs.declared.find.Current.{Current}
use Rattle.flash_bank.specs.declared.find.Journal.{Journal}
use Rattle.flash_bank.specs.declared.record.Record.{Record}

-- what was found in the bytes of a record block is so
pub record Describes (g : Geometry) (found : Block) (bytes : List ℕ) (block : ℕ) : Type 0 where
  pub settled : IsTrue found.settled ↔ NoneBelow bytes 32
  pub valid : IsSome found.head ↔ IsValid (Allows g block) bytes
  pub value : IfSome found.head (λ r. r ≡ record_of bytes)

abbrev pub newer_of : Record → Record → Option Current
newer_of a b =
    if nat_lt b.number a.number then Some (record { block = 0; head = a })
    else if nat_lt a.number b.number then Some (record { block = 1; head = b })
    else None

abbrev pub valid_of : Option Record → Option Record → Option Current
valid_of None None = None
valid_of (Some a) None = Some (record { block = 0; head = a })
valid_of None (Some b) = Some (record { block = 1; head = b })
valid_of (Some a) (Some b) = newer_of a b

-- the current record of two blocks
abbrev pub current_of_two : Block → Block → Option Current
current_of_two first second = if first.settled then (if second.settled then valid_of first.head second.head else None) else None

-- the contents are sound, and this is their current record
pub record Finds (g : Geometry) (contents : List ℕ) (found : Current) : Type 0 where
  pub sound : IsSound g contents
  pub current : IsCurrent g contents found.block
  pub head : found.head ≡ record_in g contents found.block

-- ---- with a record of layout 2

-- what was found of a journal is so
pub record DescribesJournal (m q : ℕ) (found : Journal) (bytes : List ℕ) : Type 0 where
  pub settled : IsTrue found.settled ↔ IsSettled m q bytes
  pub header : IsSome found.number ↔ IsHeader bytes
  pub number : IfSome found.number (λ n. n ≡ header_number bytes)

-- The number of a header of this area's journal is at most that of the record plus 1, and at most that of one that names the area.
abbrev pub NumberFits : ℕ → ℕ → Record → Type 0
NumberFits area number head = (number ≤ head.number + 1) × (head.bank ≡ area → number ≤ head.number)

-- So it is where there is a header and a record.
abbrev pub HeaderFits : ℕ → Option ℕ → Option Record → Type 0
HeaderFits area number head = IfSome number (λ n. IfSome head (λ h. NumberFits area n h))

-- An image of layout 1 ends before the journal of its area.
abbrev pub IsShort : Geometry → Option Record → Type 0
IsShort g head = IfSome head (λ h. h.layout ≡ 1 → h.length ≤ short_len g)

-- Two records of layout 2 name different areas.
abbrev pub NameApart : Option Record → Option Record → Type 0
NameApart a b = IfSome a (λ h. IfSome b (λ k. h.layout ≡ 2 → k.layout ≡ 2 → h.bank ≢ k.bank))

-- what was found of both record blocks and of both journals goes together
pub record GoTogether (g : Geometry) (first second : Option Record) (front back : Journal) : Type 0 where
  pub front_settled : IsTrue front.settled
  pub back_settled : IsTrue back.settled
  pub first_front : HeaderFits 0 front.number first
  pub first_back : HeaderFits 1 back.number first
  pub second_front : HeaderFits 0 front.number second
  pub second_back : HeaderFits 1 back.number second
  pub apart : NameApart first second
  pub first_short : IsShort g first
  pub second_short : IsShort g second

-- what was found of the journal of an area is so
abbrev pub DescribesArea : Geometry → Journal → List ℕ → ℕ → Type 0
DescribesArea g found contents area = DescribesJournal (mark_count g) (slots_at g) found (journal_bytes g contents area)

-- Both journals go together with what was found of the record blocks, and the current record is that of the blocks; or there is none.
abbrev pub ChecksJournals : Geometry → Block → Block → Journal → Journal → Option Current → Type 0
ChecksJournals g first second front back found =
    (GoTogether g first.head second.head front back × (found ≡ current_of_two first second))
    ⊎ ((GoTogether g first.head second.head front back → ⊥) × (found ≡ None))

-- so it is with what was found of both journals
abbrev pub FindsWith : Geometry → List ℕ → Block → Block → Option Current → Type 0
FindsWith g contents first second found =
    (front back : Journal) × DescribesArea g front contents 0 × DescribesArea g back contents 1
    × ChecksJournals g first second front back found

-- the record is there, and of layout 2
abbrev pub IsTwo : Option Record → Type 0
IsTwo None = ⊥
IsTwo (Some head) = head.layout ≡ 2
