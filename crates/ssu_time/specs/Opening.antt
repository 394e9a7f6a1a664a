-- When a scheduled window is open.
use Rattle.std.specs.Prelude.{ℕ, ◌-◌, ◌%◌, ◌≤◌, ◌<◌}

-- now lies in the window, whose end is no part of it; where the window has a period, now lies in
-- the first `duration` seconds of one of the periods that follow each other from the start on
pub record IsOpen (start end period duration now : ℕ) : Type 0 where
  pub started : start ≤ now
  pub not_ended : now < end
  pub on : 0 < period → (now - start) % period < duration
