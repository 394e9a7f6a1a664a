-- What `migrate` makes of contents of layout 1.
use Rattle.std.specs.Prelude.{◌≡◌, ◌⊎◌, ℕ, ◌+◌, ◌-◌, ◌<◌, ◌≤◌, List, length, slice_index, Result, Ok, Err}
use Rattle.flash_dev.specs.Changes.{Holds, IsBlank}
use Rattle.flash_layout.specs.Layout.{Geometry, HasJournals, area_len, area_place, journal_len, journal_place, record_place, short_len}
use Rattle.flash_bank.specs.Record.{written}
use Rattle.flash_bank.specs.Runs.{IsOutside}
use Rattle.flash_bank.specs.Sound.{IsSound, IsCurrent, Boot, BootOf, Commits, Keeps, image_of, record_in}
use Rattle.flash_bank.specs.declared.fault.MigrateFault.{MigrateFault}
use Rattle.flash_bank.specs.declared.fault.MigrateFault.TheVariants.{Flash, Foreign, NoFit, Worn}
use Rattle.flash_bank.specs.declared.migration.Migrated.{Migrated}
use Rattle.flash_bank.specs.declared.migration.Migrated.TheVariants.{Now, Already}
use Rattle.flash_bank.specs.declared.record.Record.{Record}

-- ---- when

-- the contents are sound, and this is their current record
pub record HasCurrent (g : Geometry) (contents : List ℕ) (head : Record) : Type 0 where
  pub sound : IsSound g contents
  pub block : ℕ
  pub current : IsCurrent g contents block
  pub head_is : head ≡ record_in g contents block

-- layout 2 exists, and the image of the record is not longer than a bank of it
pub record HasRoom (g : Geometry) (head : Record) : Type 0 where
  pub room : HasJournals g
  pub short : head.length ≤ short_len g

-- The current record is of layout 2 already. Or it is of layout 1: then no record can follow it, or else layout 2 has no room for its
-- image, or else it is moved.
pub record IsMigrated (g : Geometry) (contents : List ℕ) (head : Record) : Type 0 where
  pub has : HasCurrent g contents head
  pub two : head.layout ≡ 2

pub record IsWornOut (g : Geometry) (contents : List ℕ) (head : Record) : Type 0 where
  pub has : HasCurrent g contents head
  pub one : head.layout ≡ 1
  pub greatest : head.number ≡ 4294967295

pub record LacksRoom (g : Geometry) (contents : List ℕ) (head : Record) : Type 0 where
  pub has : HasCurrent g contents head
  pub one : head.layout ≡ 1
  pub next_fits : head.number < 4294967295
  pub lacks : HasRoom g head → ⊥

pub record CanMigrate (g : Geometry) (contents : List ℕ) (head : Record) : Type 0 where
  pub has : HasCurrent g contents head
  pub one : head.layout ≡ 1
  pub next_fits : head.number < 4294967295
  pub has_room : HasRoom g head

-- ---- what is left

-- the record of layout 2 that takes the place of one of layout 1
abbrev pub moved_record : Record → Record
moved_record old = record {
  layout = 2;
  number = old.number + 1;
  bank = old.bank;
  length = old.length;
  software = old.software;
  group = old.group;
}

-- the same image under it
abbrev pub moved_boot : Boot → Boot
moved_boot b = record { head = moved_record b.head; image = b.image }

-- the same image with the same software and group
pub record SameUpdate (b c : Boot) : Type 0 where
  pub image : c.image ≡ b.image
  pub software : c.head.software ≡ b.head.software
  pub group : c.head.group ≡ b.head.group

-- y is x but in the spare record block, in the spare area, and in the journal of the current area, where the current record stands in
-- this block and names this area
pub record SameOutsideMove (g : Geometry) (block area : ℕ) (x y : List ℕ) : Type 0 where
  pub size : length y ≡ length x
  pub same : (k : ℕ) → IsOutside (record_place g (1 - block)) g.block_len k → IsOutside (area_place g (1 - area)) (area_len g) k
      → IsOutside (journal_place g area) (journal_len g) k → slice_index y k ≡ slice_index x k

-- What `migrate` may leave of sound contents: they are sound, and boot takes the former image with its software and group, under the
-- former record or, once it is whole, under the moved one. All else is as before.
pub record LeavesMoved (g : Geometry) (x y : List ℕ) : Type 0 where
  pub sound : IsSound g y
  pub update : (b c : Boot) → BootOf g x b → BootOf g y c → SameUpdate b c
  pub boot : Keeps g x y ⊎ ((b : Boot) × BootOf g x b × Commits g (moved_boot b) x y)
  pub outside : (block : ℕ) → IsCurrent g x block → SameOutsideMove g block (record_in g x block).bank x y

-- The record in this block is moved: the spare record block has the moved record and is erased behind it, the spare area and the
-- journal of the current area are erased, and all else is as before.
pub record Moves (g : Geometry) (block : ℕ) (old : Record) (x y : List ℕ) : Type 0 where
  pub head : Holds y (record_place g (1 - block)) (written (moved_record old))
  pub rest : (k : ℕ) → 64 ≤ k → k < g.block_len → slice_index y (record_place g (1 - block) + k) ≡ 255
  pub area : IsBlank y (area_place g (1 - old.bank)) (area_len g)
  pub journal : IsBlank y (journal_place g old.bank) (journal_len g)
  pub outside : SameOutsideMove g block old.bank x y

-- The record in this block of sound contents is current, of layout 1, and its image ends before the journal of its area.
pub record Movable (g : Geometry) (block : ℕ) (old : Record) (x : List ℕ) : Type 0 where
  pub sound : IsSound g x
  pub current : IsCurrent g x block
  pub head : record_in g x block ≡ old
  pub one : old.layout ≡ 1
  pub short : old.length ≤ short_len g

-- It is moved, and boot takes the moved record with the former image; what it took before is what it took of x.
pub record MovesBoot (g : Geometry) (block : ℕ) (old : Record) (x y : List ℕ) : Type 0 where
  pub commits : Commits g (record { head = moved_record old; image = image_of g x old }) x y
  pub moves : Moves g block old x y

-- So it is done to the current record, and this is the new one.
pub record Migrates (g : Geometry) (new : Record) (x y : List ℕ) : Type 0 where
  pub former : Record
  pub can : CanMigrate g x former
  pub new_is : new ≡ moved_record former
  pub done : MovesBoot g can.has.block former x y

-- ---- the fact for one answer

abbrev pub OnNow : Migrated → (Record → Type 0) → Type 0
OnNow (Now head) fact = fact head
OnNow (Already head) fact = Unit {0}

abbrev pub OnAlready : Migrated → (Record → Type 0) → Type 0
OnAlready (Now head) fact = Unit {0}
OnAlready (Already head) fact = fact head

-- ---- which answer comes

-- it is this one, or the flash failed
abbrev pub SaysForeign : Result Migrated MigrateFault → Type 0
SaysForeign (Err Foreign) = Unit {0}
SaysForeign (Err Flash) = Unit {0}
SaysForeign other = ⊥

abbrev pub SaysAlready : Record → Result Migrated MigrateFault → Type 0
SaysAlready head (Ok (Already told)) = told ≡ head
SaysAlready head (Err Flash) = Unit {0}
SaysAlready head other = ⊥

abbrev pub SaysWorn : Result Migrated MigrateFault → Type 0
SaysWorn (Err Worn) = Unit {0}
SaysWorn (Err Flash) = Unit {0}
SaysWorn other = ⊥

abbrev pub SaysNoFit : Result Migrated MigrateFault → Type 0
SaysNoFit (Err NoFit) = Unit {0}
SaysNoFit (Err Flash) = Unit {0}
SaysNoFit other = ⊥

abbrev pub SaysNow : Record → Result Migrated MigrateFault → Type 0
SaysNow former (Ok (Now new)) = new ≡ moved_record former
SaysNow former (Err Flash) = Unit {0}
SaysNow former other = ⊥

-- The cause of an answer brings it about, unless the flash failed.
pub record IsExact (g : Geometry) (contents : List ℕ) (result : Result Migrated MigrateFault) : Type 0 where
  pub foreign : (IsSound g contents → ⊥) → SaysForeign result
  pub already : (head : Record) → IsMigrated g contents head → SaysAlready head result
  pub worn : (head : Record) → IsWornOut g contents head → SaysWorn result
  pub no_fit : (head : Record) → LacksRoom g contents head → SaysNoFit result
  pub now : (head : Record) → CanMigrate g contents head → SaysNow head result
