-- What a status says where the line was put, or only a prefix of it.
use Rattle.std.proofs.Common.{◌≡◌}
use Rattle.flash_bank.specs.Migrate.{IsMigrated, Migrates, OnAlready, OnNow}
use Rattle.flash_bank.specs.Seen.{FlashSeen}
use Rattle.flash_bank.specs.declared.migration.Migrated.{Migrated}
use Rattle.flash_bank.specs.declared.migration.Migrated.TheVariants.{Now, Already}
use Rattle.ssu_status.specs.Answers.{IsFault, IsPrinted}
use Rattle.ssu_status.specs.Status.{OnDone, OnWriteFault}
use Rattle.ssu_status.specs.declared.status.Status.{Status}
use Rattle.ssu_status.specs.declared.status.Status.TheVariants.{Done, FlashFault, Foreign, Geometry, NoFit, ReadFault, ShelfFault, Worn, WriteFault}
use Rattle.tool_flash.specs.Answers.{IsBootAnswer, IsMigrateAnswer, OnFlashFault, OnForeign, OnNoFit, OnOpeningRefused}
use Rattle.tool_flash.specs.Answers.{OnTaken, OnUnprinted, OnUntouched, OnWorn}
use Rattle.tool_flash.specs.Migrating.{HasLayoutTwo}

pub on_done : {P Q : Type 0} (status : Status) → (P → Q) → OnDone status P → OnDone status Q
on_done Done f p = f p
on_done other f p = tt

pub on_write_fault : {P Q : Type 0} (status : Status) → (P → Q) → OnWriteFault status P → OnWriteFault status Q
on_write_fault WriteFault f p = f p
on_write_fault other f p = tt

pub on_write_faults : {P Q R : Type 0} (status : Status) → (P → Q → R) → OnWriteFault status P → OnWriteFault status Q → OnWriteFault status R
on_write_faults WriteFault f p q = f p q
on_write_faults other f p q = tt

pub not_geometry : (s : Status) → IsPrinted s → s ≡ Geometry → ⊥
not_geometry Done is e = cc
not_geometry WriteFault is e = cc
not_geometry other is e = is

pub no_foreign : (s : Status) (P : Type 0) → IsPrinted s → OnForeign s P
no_foreign Foreign P is = absurd is
no_foreign other P is = tt

pub taken : (s : Status) (P : Type 0) → P → OnTaken s P
taken Done P p = p
taken WriteFault P p = p
taken other P p = tt

pub not_refused : (s : Status) (P : Type 0) → IsPrinted s → OnOpeningRefused s P
not_refused Geometry P is = absurd is
not_refused Foreign P is = absurd is
not_refused other P is = tt

pub no_flash_fault : (s : Status) (P : Type 0) → IsPrinted s → OnFlashFault s P
no_flash_fault FlashFault P is = absurd is
no_flash_fault other P is = tt

pub printed : (s : Status) (P : Type 0) → IsPrinted s → OnUnprinted s P
printed Done P is = tt
printed WriteFault P is = tt
printed other P is = absurd is

pub booted : (s : Status) → IsPrinted s → IsBootAnswer s
booted Done is = tt
booted WriteFault is = tt
booted other is = absurd is

pub unfailed : (s : Status) (P : Type 0) → IsPrinted s → OnWriteFault s P → (P → ⊥) → IsFault s → ⊥
unfailed WriteFault P is cause none fault = none cause
unfailed ReadFault P is cause none fault = is
unfailed FlashFault P is cause none fault = is
unfailed ShelfFault P is cause none fault = is
unfailed other P is cause none fault = fault

pub no_worn : (s : Status) (P : Type 0) → IsPrinted s → OnWorn s P
no_worn Worn P is = absurd is
no_worn other P is = tt

pub no_no_fit : (s : Status) (P : Type 0) → IsPrinted s → OnNoFit s P
no_no_fit NoFit P is = absurd is
no_no_fit other P is = tt

pub not_untouched : (s : Status) (P : Type 0) → IsPrinted s → OnUntouched s P
not_untouched Done P is = tt
not_untouched FlashFault P is = tt
not_untouched WriteFault P is = tt
not_untouched other P is = absurd is

pub migrated : (s : Status) → IsPrinted s → IsMigrateAnswer s
migrated Done is = tt
migrated WriteFault is = tt
migrated other is = absurd is

-- layout 2 is there, now or already
pub has_two : (flash : FlashSeen) (m : Migrated) → (flash.tells → OnNow m (λ new. Migrates flash.blocks new flash.contents flash.contents_after))
    → (flash.tells → OnAlready m (λ head. IsMigrated flash.blocks flash.contents head)) → OnAlready m (λ head. flash.only_reads) → HasLayoutTwo flash m
has_two flash (Now new) now already reads = now
has_two flash (Already head) now already reads = (already, reads)
