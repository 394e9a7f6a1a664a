-- One image per group: whatever part of some sections a receiver hears, in whatever order and how often, it makes the
-- same image of a group, or none. Lists of sections have the newest first.
use Rattle.std.specs.Prelude.{◌≡◌, ℕ, Contains, List, Some}
use Rattle.dsmcc_msg.specs.Control.{DiiFields, DsiFields, GroupFields, dsi}
use Rattle.ssu_group.specs.Carried.{CarriesWhole, filling}
use Rattle.ssu_group.specs.Lays.{IsPlanOf}
use Rattle.ssu_group.specs.declared.group_plan.GroupPlan.{GroupPlan}
use Rattle.ssu_audit.specs.Said.{dii_of_group}

-- All members of the list are among the sections heard. The list may have each of them often, or not at all, in any order.
abbrev pub AreAmong : List (List ℕ) → List (List ℕ) → Type 0
AreAmong heard list = (section : List ℕ) → Contains list section → Contains heard section

-- The sections heard carry the group of this DII whole as this image, and so does every list of some of them that carries
-- the group whole.
pub record HasOneImage (heard : List (List ℕ)) (dii : DiiFields) (image : List ℕ) : Type 0 where
  pub plan : GroupPlan
  pub is_plan : IsPlanOf dii plan
  pub carries : CarriesWhole plan (filling plan heard) image
  pub one : (list : List (List ℕ)) (other_plan : GroupPlan) (other : List ℕ) → AreAmong heard list
      → IsPlanOf dii other_plan → CarriesWhole other_plan (filling other_plan list) other → other ≡ image

-- A DII of the group was heard, and under each that was heard the group has this one image.
pub record GroupHasOneImage (heard : List (List ℕ)) (group : ℕ) (image : List ℕ) : Type 0 where
  pub section : List ℕ
  pub dii : DiiFields
  pub there : Contains heard section
  pub read : dii_of_group group section ≡ Some dii
  pub each : (other : List ℕ) (other_dii : DiiFields) → Contains heard other → dii_of_group group other ≡ Some other_dii
      → HasOneImage heard other_dii image

-- A DSI was heard, and each group of each DSI that was heard has one image.
pub record HasOneImagePerGroup (heard : List (List ℕ)) : Type 0 where
  pub section : List ℕ
  pub d : DsiFields
  pub there : Contains heard section
  pub read : dsi.of section ≡ Some d
  pub each : (other : List ℕ) (other_dsi : DsiFields) (group : GroupFields) → Contains heard other → dsi.of other ≡ Some other_dsi
      → Contains other_dsi.groups group → (image : List ℕ) × GroupHasOneImage heard group.id image
