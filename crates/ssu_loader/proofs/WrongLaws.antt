-- A choice that stands, and a module of its group that is wrong.
use Rattle.std.proofs.Common.{◌≡◌, ℕ, Bool, true, false, cond, leb, List, Option, Some, None, subst}
use Rattle.std.specs.Prelude.{IsSome}
use Rattle.flash_bank.specs.Bank.{Fits, geometry_of, is_begun}
use Rattle.flash_bank.specs.Leaving.{KeepsBoot}
use Rattle.flash_bank.specs.declared.bank.Bank.{Bank}
use Rattle.flash_bank.proofs.BankLemmas.{begun_gone}
use Rattle.flash_stage.specs.Leaving.{SameBank}
use Rattle.ts_section.specs.Events.{Heard}
use Rattle.route_tables.specs.Values.{Receiver}
use Rattle.ssu_route.specs.Choosing.{level_7}
use Rattle.ssu_route.specs.Windows.{beginnings, standing}
use Rattle.ssu_loader.specs.Storing.{HasNoPrev}
use Rattle.ssu_loader.proofs.KeepingLaws.{leaves_moved}

some_of_cond : {A : Type 0} (b : Bool) (o : Option A) → IsSome (cond b o None) → IsSome o
some_of_cond true o some = some
some_of_cond false None some = absurd cc
some_of_cond false (Some a) some = absurd cc

-- a choice that stands is one
pub standing_some : (me : Receiver) (heard : List Heard) → IsSome (standing me heard) → IsSome (level_7 me heard)
unfolding standing
standing_some me heard some = some_of_cond (leb (beginnings me heard) 16) (level_7 me heard) some

-- where the bank was begun, and then the flash was read and the group forgotten, what boot took before is gone
pub no_prev_left : (bank now : Bank) (x mid y : List ℕ) → Fits bank x → is_begun bank ≡ true → SameBank bank now → mid ≡ x → KeepsBoot (geometry_of now) mid y → HasNoPrev (geometry_of bank) y
no_prev_left bank now x mid y fits begun same read keeps =
    let gone = begun_gone bank x fits begun in
    let kept : KeepsBoot (geometry_of bank) x y = subst (λ (z : List ℕ). KeepsBoot (geometry_of bank) z y) read (leaves_moved bank now mid y same keeps) in
    λ b from. gone b (kept.keeps.prev b from)
