-- Which status comes of which answer of `migrate`.
use Rattle.std.proofs.Common.{◌≡◌, inl, inr, ⊎_elim, ℕ, List, sym, subst}
use Rattle.std.specs.Prelude.{Result, Ok, Err}
use Rattle.flash_bank.specs.Migrate.{IsExact, SaysAlready, SaysForeign, SaysNoFit, SaysNow, SaysWorn}
use Rattle.flash_bank.specs.declared.fault.MigrateFault.{MigrateFault}
use Rattle.flash_bank.specs.declared.fault.MigrateFault.TheVariants as fault
use Rattle.flash_bank.specs.declared.migration.Migrated.{Migrated}
use Rattle.flash_bank.specs.declared.migration.Migrated.TheVariants.{Now, Already}
use Rattle.flash_bank.specs.declared.record.Record.{Record}
use Rattle.flash_layout.specs.Layout.{Geometry as Shape}
use Rattle.ssu_status.specs.Answers.{IsPrinted}
use Rattle.ssu_status.specs.declared.status.Status.{Status}
use Rattle.ssu_status.specs.declared.status.Status.TheVariants.{Done, FlashFault, Foreign, Geometry, NoFit, Worn, WriteFault}
use Rattle.tool_flash.specs.Migrating.{IsOrFails, IsPutOrFails, MigrateDecides}

-- this status tells of this answer
abbrev pub Tells : Result Migrated MigrateFault → Status → Type 0
Tells (Ok migrated) s = IsPrinted s
Tells (Err fault.Geometry) s = s ≡ Geometry
Tells (Err fault.Flash) s = s ≡ FlashFault
Tells (Err fault.Foreign) s = s ≡ Foreign
Tells (Err fault.Worn) s = s ≡ Worn
Tells (Err fault.NoFit) s = s ≡ NoFit

foreign_is : (r : Result Migrated MigrateFault) (s : Status) → Tells r s → SaysForeign r → IsOrFails Foreign s
foreign_is (Ok (Now h)) s tells says = absurd says
foreign_is (Ok (Already h)) s tells says = absurd says
foreign_is (Err fault.Geometry) s tells says = absurd says
foreign_is (Err fault.Flash) s tells says = inr tells
foreign_is (Err fault.Foreign) s tells says = inl tells
foreign_is (Err fault.Worn) s tells says = absurd says
foreign_is (Err fault.NoFit) s tells says = absurd says

worn_is : (r : Result Migrated MigrateFault) (s : Status) → Tells r s → SaysWorn r → IsOrFails Worn s
worn_is (Ok (Now h)) s tells says = absurd says
worn_is (Ok (Already h)) s tells says = absurd says
worn_is (Err fault.Geometry) s tells says = absurd says
worn_is (Err fault.Flash) s tells says = inr tells
worn_is (Err fault.Foreign) s tells says = absurd says
worn_is (Err fault.Worn) s tells says = inl tells
worn_is (Err fault.NoFit) s tells says = absurd says

no_fit_is : (r : Result Migrated MigrateFault) (s : Status) → Tells r s → SaysNoFit r → IsOrFails NoFit s
no_fit_is (Ok (Now h)) s tells says = absurd says
no_fit_is (Ok (Already h)) s tells says = absurd says
no_fit_is (Err fault.Geometry) s tells says = absurd says
no_fit_is (Err fault.Flash) s tells says = inr tells
no_fit_is (Err fault.Foreign) s tells says = absurd says
no_fit_is (Err fault.Worn) s tells says = absurd says
no_fit_is (Err fault.NoFit) s tells says = inl tells

put_is : (s : Status) → IsPrinted s → IsPutOrFails s
put_is Done is = tt
put_is WriteFault is = tt
put_is other is = absurd is

fails_is : (s : Status) → s ≡ FlashFault → IsPutOrFails s
fails_is s is = subst IsPutOrFails (sym is) tt

already_is : (r : Result Migrated MigrateFault) (s : Status) (head : Record) → Tells r s → SaysAlready head r → IsPutOrFails s
already_is (Ok (Now h)) s head tells says = put_is s tells
already_is (Ok (Already h)) s head tells says = put_is s tells
already_is (Err fault.Geometry) s head tells says = absurd says
already_is (Err fault.Flash) s head tells says = fails_is s tells
already_is (Err fault.Foreign) s head tells says = absurd says
already_is (Err fault.Worn) s head tells says = absurd says
already_is (Err fault.NoFit) s head tells says = absurd says

now_is : (r : Result Migrated MigrateFault) (s : Status) (head : Record) → Tells r s → SaysNow head r → IsPutOrFails s
now_is (Ok (Now h)) s head tells says = put_is s tells
now_is (Ok (Already h)) s head tells says = put_is s tells
now_is (Err fault.Geometry) s head tells says = absurd says
now_is (Err fault.Flash) s head tells says = fails_is s tells
now_is (Err fault.Foreign) s head tells says = absurd says
now_is (Err fault.Worn) s head tells says = absurd says
now_is (Err fault.NoFit) s head tells says = absurd says

pub decides : (g : Shape) (x : List ℕ) (r : Result Migrated MigrateFault) (s : Status) → Tells r s → IsExact g x r → MigrateDecides g x s
decides g x r s tells exact = record {
  foreign = λ none. foreign_is r s tells (exact.foreign none);
  worn = λ head is. worn_is r s tells (exact.worn head is);
  no_fit = λ head is. no_fit_is r s tells (exact.no_fit head is);
  done = λ head. ⊎_elim (λ is. already_is r s head tells (exact.already head is)) (λ is. now_is r s head tells (exact.now head is));
}
