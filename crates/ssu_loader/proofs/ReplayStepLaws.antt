-- What a replay leaves is a step of a life.
use Rattle.std.proofs.Common.{ℕ, Bool, List, Option, subst}
use Rattle.box_file.specs.declared.file.BoxFile.{BoxFile}
use Rattle.flash_bank.specs.Sound.{Boot, BootOf, IsSound}
use Rattle.flash_bank.proofs.LeavingLemmas.{keeps_boot_same}
use Rattle.flash_layout.specs.Layout.{Geometry}
use Rattle.ssu_io.specs.Bytes.{Takes}
use Rattle.ts_section.specs.Events.{Heard}
use Rattle.route_tables.specs.Values.{Receiver}
use Rattle.ssu_loader.specs.Life.{LeavesStep, StepsTo}
use Rattle.ssu_loader.specs.Opening.{opening_of}
use Rattle.ssu_loader.specs.Replaying.{receiver_under}
use Rattle.ssu_loader.specs.Replays.{heard_in}
use Rattle.ssu_loader.specs.Stepping.{TakesStep}
use Rattle.ssu_loader.proofs.HoldingLaws.{holds_itself}
use Rattle.ssu_loader.proofs.StepLaws.{steps_keep}
use Rattle.ssu_loader.proofs.TakingLaws.{heard_is}

module _ (file : BoxFile) (keeps : Bool) (left left_after : Option (List ℕ)) (g : Geometry) (former : Boot) (x : List ℕ) (boot : BootOf g x former) where
  abbrev me : Receiver
  me = receiver_under file g former.head (opening_of keeps g former.head x)

  pub leaves_step : (y : List ℕ) → TakesStep me left left_after g x y → LeavesStep file keeps left left_after g former x y
  leaves_step y is = record {
    taken = is.taken;
    takes = is.takes;
    step = record {
      boots = boot;
      steps = subst (λ (items : List Heard). StepsTo g me items former x y) (heard_is me is.taken) (is.step former boot);
    };
  }

  -- where nothing was changed
  pub same_step : (taken : List ℕ) → Takes left left_after taken → IsSound g x → LeavesStep file keeps left left_after g former x x
  same_step taken takes sound = leaves_step x (record {
    taken = taken;
    takes = takes;
    step = λ other from. steps_keep g me (heard_in me taken) other x x from (keeps_boot_same g x sound) (holds_itself g me (heard_in me taken) x);
  })
