-- What the store of a place of a group that is kept leaves.
use Rattle.std.specs.Prelude.{ℕ, List}
use Rattle.dsmcc_msg.specs.Control.{DiiFields}
use Rattle.flash_bank.specs.Leaving.{KeepsBoot}
use Rattle.flash_kept.specs.Offering.{IsOffered, LeavesOffered}
use Rattle.flash_kept.specs.SpareArea.{SpareArea}
use Rattle.flash_layout.specs.Layout.{Geometry}
use Rattle.ssu_group.specs.declared.places.Place.{Place}

-- Some message is staged, and the place, which is one of its group, is not.
pub record IsOfferedUnderSome (area : SpareArea) (p : Place) (bytes contents : List ℕ) : Type 0 where
  pub dii : DiiFields
  pub message : List ℕ
  pub is : IsOffered area dii message p bytes contents

-- Boot takes what it took, and the spare area is as the offer of the place may leave it, torn or done.
pub record LeavesStored (g : Geometry) (area : SpareArea) (dii : DiiFields) (message : List ℕ) (a : ℕ) (bytes x y : List ℕ) : Type 0 where
  pub keeps : KeepsBoot g x y
  pub offered : LeavesOffered area dii message a bytes x y
