-- What whole contents hold and have staged of a group, beside what boot takes: that of the area which the current record does not name.
use Rattle.std.specs.Prelude.{◌≡◌, ℕ, ◌-◌, List}
use Rattle.dsmcc_msg.specs.Control.{DiiFields}
use Rattle.flash_bank.specs.Sound.{IsCurrent, number_in, record_in}
use Rattle.flash_kept.specs.Held.{HasHeldMessage, IsHeld}
use Rattle.flash_kept.specs.SpareArea.{SpareArea, spare_area}
use Rattle.flash_kept.specs.Staged.{HasStagedMessage, IsStaged}
use Rattle.flash_layout.specs.Layout.{Geometry}

-- the area that the record in block r does not name
abbrev pub spare_of : Geometry → List ℕ → ℕ → SpareArea
spare_of g c r = spare_area g (1 - (record_in g c r).bank) (number_in g c r)

-- The current record has layout 2, and this is the area that it does not name.
pub record HasSpareArea (g : Geometry) (c : List ℕ) (area : SpareArea) : Type 0 where
  pub block : ℕ
  pub current : IsCurrent g c block
  pub two : (record_in g c block).layout ≡ 2
  pub is : area ≡ spare_of g c block

-- ---- what is held

-- a message, of this DII
pub record HoldsGroup (g : Geometry) (c message : List ℕ) (dii : DiiFields) : Type 0 where
  pub area : SpareArea
  pub spare : HasSpareArea g c area
  pub held : HasHeldMessage area c message dii

-- under it the place numbered n, with these bytes
pub record HoldsPlace (g : Geometry) (c message : List ℕ) (n : ℕ) (bytes : List ℕ) : Type 0 where
  pub area : SpareArea
  pub spare : HasSpareArea g c area
  pub held : IsHeld area c message n bytes

-- ---- what is staged

pub record StagesGroup (g : Geometry) (c message : List ℕ) (dii : DiiFields) : Type 0 where
  pub area : SpareArea
  pub spare : HasSpareArea g c area
  pub staged : HasStagedMessage area c message dii

pub record StagesPlace (g : Geometry) (c message : List ℕ) (n : ℕ) (bytes : List ℕ) : Type 0 where
  pub area : SpareArea
  pub spare : HasSpareArea g c area
  pub staged : IsStaged area c message n bytes
