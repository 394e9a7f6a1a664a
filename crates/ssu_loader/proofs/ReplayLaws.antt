-- What the answers of a replay say.
use Rattle.std.proofs.Common.{◌≡◌, ◌↔◌, inl, refl}
use Rattle.std.specs.Prelude.{Bool, Err, IfErr, IfOk, IsErrOf, Ok, Result}
use Rattle.box_file.specs.declared.file.BoxFile.{BoxFile}
use Rattle.flash_layout.specs.Layout.{IsInLimits}
use Rattle.flash_bank.specs.Seen.{FlashSeen}
use Rattle.flash_bank.specs.Sound.{IsSound, IsWorn}
use Rattle.ssu_io.specs.Faults.{Rose}
use Rattle.ssu_io.specs.Seen.{SourceSeen}
use Rattle.ts_input.specs.Packets.{IsOneMore, IsWithin}
use Rattle.ssu_loader.specs.declared.fault.LoadFault.{LoadFault}
use Rattle.ssu_loader.specs.declared.fault.LoadFault.TheVariants.{Geometry, FlashFault, Foreign, Worn, Memory, ReadFault, TooLong}
use Rattle.ssu_answer.specs.declared.verdict.Verdict.{Verdict}
use Rattle.ssu_loader.specs.Faults.{IsOfOpening, IsOfTaking, opening_fault, WhereInLimits, WhereNotWorn, WhereSound}
use Rattle.ssu_loader.specs.Replaying.{Breaks, Fails, IsCutShort, IsNotBegun, IsReady}

-- two facts of the value, of which one needs a premise
pub with_premise : {T E : Type 0} (A : Type 0) (P Q R : T → Type 0) (r : Result T E) → ((v : T) → P v → (A → Q v) → R v) → IfOk r P → (A → IfOk r Q) → IfOk r R
with_premise A P Q R (Ok v) follows p q = follows v p q
with_premise A P Q R (Err e) follows p q = tt

module _ (keeps : Bool) (file : BoxFile) (air : SourceSeen) (flash : FlashSeen) where
  -- the faults of an opening
  pub opening_fails : {T : Type 0} (r : Result T LoadFault) → (IsErrOf r Geometry ↔ ¬ IsInLimits flash.blocks) → WhereInLimits r (IsInLimits flash.blocks)
      → (flash.tells → IsErrOf r Foreign → ¬ IsSound flash.blocks flash.contents) → (flash.tells → WhereSound r (IsSound flash.blocks flash.contents))
      → (flash.tells → IsErrOf r Worn → IsWorn flash.blocks flash.contents) → (flash.tells → WhereNotWorn r (¬ IsWorn flash.blocks flash.contents))
      → (IsErrOf r FlashFault → Rose flash.faults flash.faults_after) → IsOfOpening r → IsNotBegun air flash → IfErr r (Fails keeps file air flash)
  opening_fails (Ok v) limits in_limits foreign sound worn fresh rose of none = tt
  opening_fails (Err Geometry) limits in_limits foreign sound worn fresh rose of none = (limits.0 refl, none)
  opening_fails (Err FlashFault) limits in_limits foreign sound worn fresh rose of none = (in_limits, (rose refl, inl none))
  opening_fails (Err Foreign) limits in_limits foreign sound worn fresh rose of none = (in_limits, ((λ tells. foreign tells refl), none))
  opening_fails (Err Worn) limits in_limits foreign sound worn fresh rose of none = (in_limits, ((λ tells. worn tells refl), none))
  opening_fails (Err Memory) limits in_limits foreign sound worn fresh rose of none = (record { limits = in_limits; sound = sound; fresh = fresh }, none)
  opening_fails (Err ReadFault) limits in_limits foreign sound worn fresh rose of none = absurd of
  opening_fails (Err TooLong) limits in_limits foreign sound worn fresh rose of none = absurd of

  -- do not come where the flash is ready, it does not fail, and there is memory
  pub opening_ends : (e : LoadFault) → opening_fault e → Fails keeps file air flash e → flash.tells → IsReady flash → ¬ Rose flash.faults flash.faults_after → (e ≡ Memory → ⊥) → ⊥
  opening_ends Geometry of fails tells ready well memory = fails.0 ready.limits
  opening_ends FlashFault of fails tells ready well memory = well fails.1.0
  opening_ends Foreign of fails tells ready well memory = fails.1.0 tells (ready.sound tells)
  opening_ends Worn of fails tells ready well memory = ready.fresh tells (fails.1.0 tells)
  opening_ends Memory of fails tells ready well memory = memory refl
  opening_ends ReadFault of fails tells ready well memory = of
  opening_ends TooLong of fails tells ready well memory = of

  -- and those of taking packets
  pub taking_fails : (r : Result Verdict LoadFault) → IfErr r IsOfTaking → IsReady flash
      → (IsErrOf r ReadFault → Rose air.faults air.faults_after) → (IsErrOf r FlashFault → Rose flash.faults flash.faults_after)
      → (IsErrOf r ReadFault → IsCutShort keeps file air flash IsWithin) → (IsErrOf r TooLong → IsCutShort keeps file air flash IsOneMore)
      → (IsErrOf r FlashFault → Breaks keeps file air flash) → IfErr r (Fails keeps file air flash)
  taking_fails (Ok v) of ready read rose short long breaks = tt
  taking_fails (Err ReadFault) of ready read rose short long breaks = (read refl, short refl)
  taking_fails (Err TooLong) of ready read rose short long breaks = long refl
  taking_fails (Err FlashFault) of ready read rose short long breaks = (ready.limits, (rose refl, breaks refl))
  taking_fails (Err Geometry) of ready read rose short long breaks = absurd of
  taking_fails (Err Foreign) of ready read rose short long breaks = absurd of
  taking_fails (Err Worn) of ready read rose short long breaks = absurd of
  taking_fails (Err Memory) of ready read rose short long breaks = absurd of
