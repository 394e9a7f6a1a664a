-- What a stage keeps where a group begins.
use Rattle.std.specs.Prelude.{◌≡◌, ◌⊎◌, ◌↔◌, ℕ, ◌<◌, true, false, List, None, Some}
use Rattle.bank_kept.specs.Contents.{StagesPlace}
use Rattle.flash_dev.specs.declared.device.Flash.{Ghosts as FlashGhosts}
use Rattle.flash_bank.specs.Bank.{geometry_of}
use Rattle.flash_bank.specs.declared.bank.Bank.{Bank}
use Rattle.flash_stage.specs.declared.stage.Stage.{Ghosts as StageGhosts}
use Rattle.ssu_group.specs.declared.group_plan.GroupPlan.{GroupPlan}
use Rattle.ssu_group.specs.Carried.{Fills}

-- What it keeps is known: the stage keeps nothing, or the flash tells what it holds.
abbrev pub KnowsKept : {S F : Type 0} → StageGhosts S → FlashGhosts F → Type 0
KnowsKept s f = (s.KEEPS ≡ false) ⊎ f.tells

-- Where the group of this message and plan begins, the stage keeps these places: none, or those that the flash has staged of the message.
pub record KeepsAtStart {S F : Type 0} (s : StageGhosts S) (f : FlashGhosts F) (message : List ℕ) (plan : GroupPlan) (fills : Fills)
    (bank : Bank) (flash : F) : Type 0 where
  pub nothing : s.KEEPS ≡ false → (n : ℕ) → n < plan.places → fills n ≡ None
  pub staged : s.KEEPS ≡ true → f.tells → (n : ℕ) (b : List ℕ) → n < plan.places
      → (fills n ≡ Some b) ↔ StagesPlace (geometry_of bank) (f.contents flash) message n b
