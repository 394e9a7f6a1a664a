-- What the flash holds while a group is collected and installed, as the bank of the loader sees it. Lists of sections have the
-- newest first.
use Rattle.std.specs.Prelude.{◌⊎◌, ℕ, List, Option, Some, None, Result, Ok}
use Rattle.flash_bank.specs.Bank.{current_of, geometry_of}
use Rattle.flash_bank.specs.Leaving.{Installs, KeepsBoot}
use Rattle.flash_bank.specs.Record.{next_record}
use Rattle.flash_bank.specs.declared.bank.Bank.{Bank}
use Rattle.ts_section.specs.Events.{Heard}
use Rattle.ssu_answer.specs.declared.chosen.Chosen.{Chosen}
use Rattle.route_tables.specs.Values.{Receiver}
use Rattle.ssu_answer.specs.declared.verdict.Verdict.{Verdict}
use Rattle.ssu_answer.specs.declared.verdict.Verdict.TheVariants.{BadModule, Installed, Unsettled}
use Rattle.ssu_loader.specs.Decisions.{Reaches, Whole}
use Rattle.ssu_loader.specs.Verdicts.{IsReached}

-- The sections carry this group whole, and y is x with its image installed: the next record is of this group and its
-- software.
pub record InstallsChosen (me : Receiver) (heard : List Heard) (bank : Bank) (x y : List ℕ) (chosen : Chosen) : Type 0 where
  pub image : List ℕ
  pub reached : Reaches me heard (Whole chosen image)
  pub installs : Installs (geometry_of bank) (next_record (current_of bank) chosen.bytes chosen.software chosen.group) image x y

-- What may be left of x while these sections are heard: boot takes what it took, or a group that they carry whole. All
-- else but the spare record block and the spare bank is as in x.
abbrev pub SectionsLeave : Receiver → List Heard → Bank → List ℕ → List ℕ → Type 0
SectionsLeave me heard bank x y = KeepsBoot (geometry_of bank) x y ⊎ ((chosen : Chosen) × InstallsChosen me heard bank x y chosen)

-- A verdict was reached, and x became y.
abbrev pub Ends : Receiver → List Heard → Bank → List ℕ → List ℕ → Verdict → Type 0
Ends me heard bank x y (Installed chosen) = InstallsChosen me heard bank x y chosen
Ends me heard bank x y other = IsReached me heard other × KeepsBoot (geometry_of bank) x y

-- the fact, unless a group was installed
abbrev pub UnlessInstalled : {E : Type 0} → Result (Option Verdict) E → Type 0 → Type 0
UnlessInstalled (Ok (Some (Installed chosen))) fact = Unit {0}
UnlessInstalled other fact = fact

-- the fact, where one choice came too many
abbrev pub IfUnsettled : Option Verdict → Type 0 → Type 0
IfUnsettled (Some Unsettled) fact = fact
IfUnsettled other fact = Unit {0}

-- the fact, where a module is wrong
abbrev pub IfBadModule : Option Verdict → Type 0 → Type 0
IfBadModule (Some (BadModule id want found)) fact = fact
IfBadModule other fact = Unit {0}

-- A verdict was reached or not, and x became y.
abbrev pub GoesOn : Receiver → List Heard → Bank → List ℕ → List ℕ → Option Verdict → Type 0
GoesOn me heard bank x y None = KeepsBoot (geometry_of bank) x y
GoesOn me heard bank x y (Some verdict) = Ends me heard bank x y verdict
