-- What a loader stands for: the packets that it took, the newest first.
use Rattle.std.specs.Prelude.{◌≡◌, ℕ, Bool, List, []}
use Rattle.box_file.specs.declared.file.BoxFile.{BoxFile}
use Rattle.flash_dev.specs.declared.device.Flash.{Ghosts as FlashGhosts}
use Rattle.flash_bank.specs.Bank.{current_of, geometry_of, len_of}
use Rattle.flash_bank.specs.declared.bank.Bank.{Bank}
use Rattle.flash_stage.specs.declared.stage.Stage.{Ghosts as StageGhosts}
use Rattle.ts_section.specs.Hearing.{Hears}
use Rattle.route_tables.specs.Values.{Receiver}
use Rattle.ssu_route.specs.Queries.{followed, heard_by}
use Rattle.ssu_route.specs.Route.{Stands}
use Rattle.ssu_loader.specs.declared.loader.Loader.{Loader}
use Rattle.ssu_loader.specs.Collecting.{Collects, Knows, KnowsHeard}
use Rattle.ssu_loader.specs.Opening.{opening_of}
use Rattle.ssu_loader.specs.Verdicts.{receiver_of}

-- the bank that the loader opened
abbrev pub bank_of : {S : Type 0} → Loader S → Bank
bank_of loader = loader.collector.bank

-- the box of this file, with the bank of the loader and the software that runs, where the flash held these contents at the opening; what the stage
-- finds in them, if it keeps its places
abbrev pub receiver_in : {S : Type 0} → Bool → BoxFile → Loader S → List ℕ → Receiver
receiver_in keeps file loader contents =
    receiver_of file (len_of (bank_of loader)) (current_of (bank_of loader)).software
    (opening_of keeps (geometry_of (bank_of loader)) (current_of (bank_of loader)) contents)

-- The loader took these packets, and no verdict was reached in them. It may go on with this flash.
pub record Follows {S F : Type 0} (s : StageGhosts S) (f : FlashGhosts F) (me : Receiver) (ps : List (List ℕ)) (loader : Loader S) (flash : F) : Type 0 where
  pub hears : Hears loader.hearer (followed me ps)
  pub collects : Collects s f me (heard_by me ps) loader.collector flash

-- What it knows of them without the flash: of what was heard,
pub record KnowsPacketsHeard {S : Type 0} (s : StageGhosts S) (me : Receiver) (ps : List (List ℕ)) (loader : Loader S) : Type 0 where
  pub stands : Stands me (heard_by me ps) loader.collector.route
  pub hears : KnowsHeard s me (heard_by me ps) loader.collector

-- and with what was kept.
pub record KnowsPackets {S : Type 0} (s : StageGhosts S) (me : Receiver) (ps : List (List ℕ)) (loader : Loader S) : Type 0 where
  pub heard : KnowsPacketsHeard s me ps loader
  pub knows : Knows s me (heard_by me ps) loader.collector

-- It took the packets of some box, and no verdict was reached in them.
pub record IsUsable {S F : Type 0} (s : StageGhosts S) (f : FlashGhosts F) (loader : Loader S) (flash : F) : Type 0 where
  pub me : Receiver
  pub ps : List (List ℕ)
  pub follows : Follows s f me ps loader flash

-- It took no packet yet.
pub record IsFresh {S : Type 0} (s : StageGhosts S) (me : Receiver) (loader : Loader S) : Type 0 where
  pub hears : Hears loader.hearer (followed me [])
  pub stands : Stands me (heard_by me []) loader.collector.route
  pub made_for : s.most loader.collector.stage ≡ len_of (bank_of loader)
  pub none : loader.collector.choices ≡ 0
