-- Commands on a flash with spares.
use Rattle.std.proofs.Common.{◌≡◌, ◌⊎◌, inl, inr, ⊎_elim, ◌+◌, ◌-◌, ◌*◌, ℕ, List, true, refl, sym, ◌∙◌, subst, ap, arith}
use Rattle.std.specs.Prelude.{Result, Ok, Err, OnOk}
use Rattle.std.proofs.lemmas.Bool.{cases_lt}
use Rattle.flash_bank.specs.Leaving.{KeepsBoot}
use Rattle.flash_bank.specs.Migrate.{LeavesMoved}
use Rattle.flash_bank.specs.Seen.{FlashSeen}
use Rattle.flash_bank.specs.Sound.{Boot, BootOf, IsSound}
use Rattle.flash_bank.proofs.LeavingLemmas.{keeps_boot_same}
use Rattle.flash_bank.proofs.MigrateLemmas.{leaves_same}
use Rattle.flash_dev.specs.Changes.{Changes, IsErased, IsTornErase}
use Rattle.flash_dev.specs.Moments.{LeavesOnly}
use Rattle.flash_dev.specs.declared.device.Flash.{Ghosts as FlashGhosts}
use Rattle.flash_remap.specs.Layout.{Geometry, IsInLimits}
use Rattle.flash_remap.specs.Logical.{IsLeft, logical}
use Rattle.flash_remap.specs.Reads.{ChangesNothing}
use Rattle.flash_remap.specs.Seen.{contents_of, geometry_of, inner_of}
use Rattle.flash_remap.specs.declared.fault.RemapFault.{RemapFault}
use Rattle.flash_remap.specs.declared.fault.RemapFault.TheVariants as remap_fault
use Rattle.flash_remap.proofs.LeavingLemmas.{left_joined}
use Rattle.flash_remap.proofs.ReadLemmas.{reads_joined}
use Rattle.ssu_io.specs.Faults.{Rose}
use Rattle.ssu_io.specs.Seen.{ShelfSeen, SinkSeen, SourceSeen}
use Rattle.ssu_status.specs.Status.{code_of}
use Rattle.ssu_status.specs.Words.{Task, ToHear, ToLoad, ToFind, ToShow, ToBuild, ToBlank, ToFormat, ToBoot, ToMigrate}
use Rattle.ssu_status.specs.Words.{ToReplay, ToAir, ToAudit, ToAuditWithNotice, ToSample}
use Rattle.ssu_status.specs.declared.status.Status.{Status}
use Rattle.ssu_status.specs.declared.status.Status.TheVariants as answer
use Rattle.ssu_tool.specs.Does.{Does}
use Rattle.ssu_tool.specs.Spared.{ChangesMap, IsReadied, KeepsBootAtAnyMoment, KeepsUpdateAtAnyMoment, seen_of}
use Rattle.ssu_tool.specs.Spares.{IsOnFlash}
use Rattle.tool_flash.specs.Answers.{OnFlashFault}
use Rattle.ssu_tool.specs.declared.opened.Opened.{Opened}
use Rattle.ssu_tool.specs.declared.opened.Opening.{Ghosts as OpeningGhosts}
use Rattle.tool_replay.specs.Answers.{InstallsForBox, Says}

-- a fault of the flash comes only where its count rose
pub fault_rose : (task : Task) (status : Status) (shelf : ShelfSeen) (air : SourceSeen) (flash : FlashSeen) (made out : SinkSeen)
    → IsOnFlash task → Does task status shelf air flash made out → status ≡ answer.FlashFault → Rose flash.faults flash.faults_after
fault_rose (ToHear pid) status shelf air flash made out on does is = absurd on
fault_rose (ToLoad pid) status shelf air flash made out on does is = absurd on
fault_rose ToFind status shelf air flash made out on does is = absurd on
fault_rose ToShow status shelf air flash made out on does is = absurd on
fault_rose ToBuild status shelf air flash made out on does is = absurd on
fault_rose (ToBlank blocks) status shelf air flash made out on does is = absurd on
fault_rose (ToFormat name) status shelf air flash made out on does is = subst (λ (s : Status). OnFlashFault s (Rose flash.faults flash.faults_after)) is does.0.flash_cause
fault_rose ToBoot status shelf air flash made out on does is = subst (λ (s : Status). OnFlashFault s (Rose flash.faults flash.faults_after)) is does.0.flash_cause
fault_rose ToMigrate status shelf air flash made out on does is = subst (λ (s : Status). OnFlashFault s (Rose flash.faults flash.faults_after)) is does.0.flash_cause
fault_rose ToReplay status shelf air flash made out on does is = (subst (λ (s : Status). Says true true s shelf air flash out) is does.0.answers).fails.1.0
fault_rose ToAir status shelf air flash made out on does is = absurd on
fault_rose (ToAudit pid) status shelf air flash made out on does is = absurd on
fault_rose (ToAuditWithNotice pid notice) status shelf air flash made out on does is = absurd on
fault_rose (ToSample number) status shelf air flash made out on does is = absurd on

-- why a flash is refused
pub refused_cause : {A B : Type 0} (fault : RemapFault) (status : Status) → (fault ≡ remap_fault.Geometry → status ≡ answer.Geometry) → (fault ≡ remap_fault.Flash → status ≡ answer.FlashFault)
    → (fault ≡ remap_fault.Geometry → A) → (fault ≡ remap_fault.Flash → B) → ((status ≡ answer.Geometry) × A) ⊎ ((status ≡ answer.FlashFault) × B)
refused_cause remap_fault.Geometry status geometry flash first second = inl (geometry refl, first refl)
refused_cause remap_fault.Flash status geometry flash first second = inr (flash refl, second refl)

-- what its status tells of it
pub fault_of : (fault : RemapFault) (status : Status) → (fault ≡ remap_fault.Flash → status ≡ answer.FlashFault) → status ≡ answer.Geometry → fault ≡ remap_fault.Geometry
fault_of remap_fault.Geometry status flash is = refl
fault_of remap_fault.Flash status flash is = let same : answer.FlashFault ≡ answer.Geometry = sym (flash refl) ∙ is in absurd (omega (arith, ap code_of same))

-- limits that are not missed are met
pub limits_met : (blocks spares : ℕ) → ((IsInLimits blocks spares → ⊥) → ⊥) → IsInLimits blocks spares
limits_met blocks spares met = record {
  some = ⊎_elim (λ less. absurd (met (λ l. omega (arith, l.some, less)))) (λ le. le) (cases_lt spares 1);
  few = ⊎_elim (λ more. absurd (met (λ l. omega (arith, l.few, more)))) (λ le. le) (cases_lt 255 spares);
  least = ⊎_elim (λ less. absurd (met (λ l. omega (arith, l.least, less)))) (λ le. le) (cases_lt blocks (spares + 5));
  most = ⊎_elim (λ more. absurd (met (λ l. omega (arith, l.most, more)))) (λ le. le) (cases_lt (spares + 65537) blocks);
}

module _ {F : Type 0} (f : FlashGhosts F) where
  -- what is told where the last block was erased
  pub prepared_ok : {T E : Type 0} (r : Result T E) (old new : F)
      → (f.tells → OnOk r (Changes ((f.block_count old - 1) * f.block_len old) (f.block_len old) IsErased (f.contents old) (f.contents new)))
      → LeavesOnly f.moment f.left_since old new (λ y. f.tells → Changes ((f.block_count old - 1) * f.block_len old) (f.block_len old) IsTornErase (f.contents old) y)
      → f.block_count new ≡ f.block_count old → f.block_len new ≡ f.block_len old → OnOk r (ChangesMap f IsErased old new)
  prepared_ok (Ok x) old new done left blocks block_size = record { held = done; left = left; blocks = blocks; block_size = block_size }
  prepared_ok (Err e) old new done left blocks block_size = tt

  prepared_on : (P : ℕ → ℕ → ℕ → Type 0) (old mid new : F) → ChangesMap f P old mid → ChangesMap f IsTornErase old mid → ChangesNothing f mid new → ChangesMap f P old new
  prepared_on P old mid new prepared torn reads =
      let Map : (ℕ → ℕ → ℕ → Type 0) → List ℕ → Type 0 = λ Q. Changes ((f.block_count old - 1) * f.block_len old) (f.block_len old) Q (f.contents old) in
      record {
        held = λ tells. subst (Map P) (sym (reads.same tells)) (prepared.held tells);
        left = left_joined f old mid new (Map IsTornErase) (λ c. c ≡ f.contents mid) torn.left reads.left (λ tells c is. subst (Map IsTornErase) (sym is) (torn.held tells));
        blocks = reads.blocks ∙ prepared.blocks;
        block_size = reads.block_size ∙ prepared.block_size;
      }

  -- and then the map is read
  pub readied_on : (P : ℕ → ℕ → ℕ → Type 0) (task : Task) (old mid new : F) → IsReadied f P task old mid → IsReadied f IsTornErase task old mid → ChangesNothing f mid new → IsReadied f P task old new
  readied_on P (ToHear pid) old mid new readied torn reads = reads_joined f old mid new readied reads
  readied_on P (ToLoad pid) old mid new readied torn reads = reads_joined f old mid new readied reads
  readied_on P ToFind old mid new readied torn reads = reads_joined f old mid new readied reads
  readied_on P ToShow old mid new readied torn reads = reads_joined f old mid new readied reads
  readied_on P ToBuild old mid new readied torn reads = reads_joined f old mid new readied reads
  readied_on P (ToBlank blocks) old mid new readied torn reads = reads_joined f old mid new readied reads
  readied_on P (ToFormat name) old mid new readied torn reads = prepared_on P old mid new readied torn reads
  readied_on P ToBoot old mid new readied torn reads = reads_joined f old mid new readied reads
  readied_on P ToMigrate old mid new readied torn reads = reads_joined f old mid new readied reads
  readied_on P ToReplay old mid new readied torn reads = reads_joined f old mid new readied reads
  readied_on P ToAir old mid new readied torn reads = reads_joined f old mid new readied reads
  readied_on P (ToAudit pid) old mid new readied torn reads = reads_joined f old mid new readied reads
  readied_on P (ToAuditWithNotice pid notice) old mid new readied torn reads = reads_joined f old mid new readied reads
  readied_on P (ToSample number) old mid new readied torn reads = reads_joined f old mid new readied reads

  module _ {K : Type 0} (k : OpeningGhosts K) where
    -- what a replay promises of the logical contents since its opening, since the flash was handed in
    pub kept_at_any_moment : (task : Task) (status : Status) (flash new : F) (before after : Opened F K f k) (shelf : ShelfSeen) (air : SourceSeen) (made out : SinkSeen)
        → IsReadied f IsErased task flash (inner_of before.remap) → Does task status shelf air (seen_of f k before after) made out → new ≡ inner_of after.remap
        → task ≡ ToReplay → KeepsBootAtAnyMoment f k flash new before after shelf air
    kept_at_any_moment task status flash new before after shelf air made out readied does back is = record { keeps = keeps }
      where
        keeps : f.tells → IsSound (seen_of f k before after).blocks (contents_of before.remap) → (former : Boot)
            → BootOf (seen_of f k before after).blocks (contents_of before.remap) former → (left : List ℕ) → f.left_since new (f.moment flash) left
            → KeepsBoot (seen_of f k before after).blocks (contents_of before.remap) (logical (geometry_of before.remap) left)
            ⊎ InstallsForBox true shelf air (seen_of f k before after) former (logical (geometry_of before.remap) left)
        keeps tells sound former boots left since =
            let G : Geometry = geometry_of before.remap in
            let blocks = (seen_of f k before after).blocks in
            let replays : Does ToReplay status shelf air (seen_of f k before after) made out = subst (λ (t : Task). Does t status shelf air (seen_of f k before after) made out) is does in
            let reads : ChangesNothing f flash (inner_of before.remap) = subst (λ (t : Task). IsReadied f IsErased t flash (inner_of before.remap)) is readied in
            let moments = (replays.0.at_any_moment tells sound former boots).left in
            let same : geometry_of after.remap ≡ G = after.geometry ∙ sym before.geometry in
            let there : f.left_since (inner_of after.remap) (f.moment flash) left = subst (λ (x : F). f.left_since x (f.moment flash) left) back since in
            let view : IsLeft f (geometry_of after.remap) (inner_of after.remap) (f.moment flash) (logical G left) =
            record { tells = tells; beneath = left; since = there; is = ap (λ (h : Geometry). logical h left) (sym same) } in
            ⊎_elim
            (λ was.
            let beneath : was.beneath ≡ f.contents flash = reads.left.each was.beneath was.since tells in
            let held : logical G left ≡ contents_of before.remap = was.is ∙ ap (logical G) (beneath ∙ sym (reads.same tells)) in
            inl (subst (λ (x : List ℕ). KeepsBoot blocks (contents_of before.remap) x) (sym held) (keeps_boot_same blocks (contents_of before.remap) sound)))
            (λ now. now)
            (moments.before (f.moment flash) (logical G left) reads.left.later view)

    -- and what a migration does
    pub moved_at_any_moment : (task : Task) (status : Status) (flash new : F) (before after : Opened F K f k) (shelf : ShelfSeen) (air : SourceSeen) (made out : SinkSeen)
        → IsReadied f IsErased task flash (inner_of before.remap) → Does task status shelf air (seen_of f k before after) made out → new ≡ inner_of after.remap
        → task ≡ ToMigrate → KeepsUpdateAtAnyMoment f k flash new before after
    moved_at_any_moment task status flash new before after shelf air made out readied does back is = record { keeps = keeps }
      where
        keeps : f.tells → IsSound (seen_of f k before after).blocks (contents_of before.remap) → (left : List ℕ) → f.left_since new (f.moment flash) left
            → LeavesMoved (seen_of f k before after).blocks (contents_of before.remap) (logical (geometry_of before.remap) left)
        keeps tells sound left since =
            let G : Geometry = geometry_of before.remap in
            let blocks = (seen_of f k before after).blocks in
            let migrates : Does ToMigrate status shelf air (seen_of f k before after) made out = subst (λ (t : Task). Does t status shelf air (seen_of f k before after) made out) is does in
            let reads : ChangesNothing f flash (inner_of before.remap) = subst (λ (t : Task). IsReadied f IsErased t flash (inner_of before.remap)) is readied in
            let moments = migrates.0.at_any_moment tells sound in
            let same : geometry_of after.remap ≡ G = after.geometry ∙ sym before.geometry in
            let there : f.left_since (inner_of after.remap) (f.moment flash) left = subst (λ (x : F). f.left_since x (f.moment flash) left) back since in
            let view : IsLeft f (geometry_of after.remap) (inner_of after.remap) (f.moment flash) (logical G left) =
            record { tells = tells; beneath = left; since = there; is = ap (λ (h : Geometry). logical h left) (sym same) } in
            ⊎_elim
            (λ was.
            let beneath : was.beneath ≡ f.contents flash = reads.left.each was.beneath was.since tells in
            let held : logical G left ≡ contents_of before.remap = was.is ∙ ap (logical G) (beneath ∙ sym (reads.same tells)) in
            subst (λ (x : List ℕ). LeavesMoved blocks (contents_of before.remap) x) (sym held) (leaves_same blocks (contents_of before.remap) sound))
            (λ now. now)
            (moments.before (f.moment flash) (logical G left) reads.left.later view)
