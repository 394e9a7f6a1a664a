-- What becomes of a group once a block of it was taken. Lists of sections have the newest first.
use Rattle.std.specs.Prelude.{◌≡◌, ◌⊎◌, ℕ, List}
use Rattle.flash_dev.specs.declared.device.Flash.{Ghosts as FlashGhosts}
use Rattle.flash_bank.specs.Bank.{current_of, geometry_of}
use Rattle.flash_bank.specs.Leaving.{Installs, KeepsBoot}
use Rattle.flash_bank.specs.Record.{next_record}
use Rattle.flash_bank.specs.Runs.{OnlyReads}
use Rattle.flash_bank.specs.declared.bank.Bank.{Bank}
use Rattle.flash_stage.specs.declared.stage.Stage.{Ghosts as StageGhosts}
use Rattle.flash_stage.specs.Leaving.{SameBank}
use Rattle.ssu_group.specs.Carried.{CarriesWhole, Fills, HasWrong}
use Rattle.ssu_route.specs.declared.choice.Choice.{Choice}
use Rattle.ssu_answer.specs.declared.verdict.Verdict.{Verdict}
use Rattle.ssu_answer.specs.declared.verdict.Verdict.TheVariants.{Installed, BadModule}
use Rattle.ssu_loader.specs.Decisions.{chosen_of}

-- ---- reading what is staged

-- The stage, the bank and the flash were only read.
pub record Stays {S F : Type 0} (s : StageGhosts S) (f : FlashGhosts F) (stage : S) (bank : Bank) (flash : F)
    (stage_after : S) (bank_after : Bank) (flash_after : F) : Type 0 where
  pub has : (n : ℕ) → s.has stage_after n ≡ s.has stage n
  pub bytes : f.tells → (n : ℕ) → s.bytes_at stage_after bank_after (f.contents flash_after) n ≡ s.bytes_at stage bank (f.contents flash) n
  pub same_bank : SameBank bank bank_after
  pub reads : OnlyReads f.tells f.contents f.block_count f.block_len f.moment f.left_since flash flash_after

-- ---- how it is settled

-- The group is carried whole, and y is x with its image installed.
pub record InstallsWhole (choice : Choice) (fills : Fills) (bank : Bank) (x y : List ℕ) : Type 0 where
  pub image : List ℕ
  pub whole : CarriesWhole choice.plan fills image
  pub installs : Installs (geometry_of bank) (next_record (current_of bank) choice.plan.total choice.software choice.group) image x y

-- the verdict on the group of the choice, and what became of x
abbrev pub Settles : Choice → Fills → Bank → List ℕ → List ℕ → Verdict → Type 0
Settles choice fills bank x y (Installed chosen) = (chosen ≡ chosen_of choice) × InstallsWhole choice fills bank x y
Settles choice fills bank x y (BadModule id want found) = HasWrong choice.plan fills id want found × KeepsBoot (geometry_of bank) x y
Settles choice fills bank x y other = ⊥

-- what may be left of x meanwhile
abbrev pub SettlingLeaves : Choice → Fills → Bank → List ℕ → List ℕ → Type 0
SettlingLeaves choice fills bank x y = KeepsBoot (geometry_of bank) x y ⊎ InstallsWhole choice fills bank x y
