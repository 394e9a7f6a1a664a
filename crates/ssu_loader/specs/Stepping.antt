-- What a replay may leave, as a step of a life. Lists of sections have the newest first.
use Rattle.std.specs.Prelude.{List, ℕ, Option}
use Rattle.flash_bank.specs.Sound.{Boot, BootOf}
use Rattle.flash_layout.specs.Layout.{Geometry}
use Rattle.ssu_io.specs.Bytes.{Takes}
use Rattle.route_tables.specs.Values.{Receiver}
use Rattle.ssu_loader.specs.Life.{StepsTo}
use Rattle.ssu_loader.specs.Replays.{heard_in}

-- These bytes were taken, and y may be left of x where a box hears the sections in their packets.
pub record TakesStep (me : Receiver) (left left_after : Option (List ℕ)) (g : Geometry) (x y : List ℕ) : Type 0 where
  pub taken : List ℕ
  pub takes : Takes left left_after taken
  pub step : (former : Boot) → BootOf g x former → StepsTo g me (heard_in me taken) former x y
