-- How far margins fall.
use Rattle.std.proofs.Common.{◌+◌, ◌≤◌, List, [], ◌∷◌, arith}
use Rattle.flash_kept.specs.Margins.{IsRun, Margin, NoneBelowZero, cuts}

newest : (m : Margin) (earlier : List Margin) → IsRun (m ∷ earlier) → m.lost + 16 ≤ m.free + cuts (m ∷ earlier)
unfolding IsRun cuts
newest m [] run = omega (arith, run)
newest m (before ∷ earlier) run =
    let rest = newest before earlier run.1 in
    let step = run.0 in
    omega (arith, rest, step)

pub margins : (ms : List Margin) → IsRun ms → cuts ms ≤ 16 → NoneBelowZero ms
unfolding IsRun cuts NoneBelowZero
margins [] run few = tt
margins (m ∷ []) run few = (omega (arith, run), tt)
margins (m ∷ before ∷ earlier) run few =
    let most = newest m (before ∷ earlier) run in
    (omega (arith, most, few), margins (before ∷ earlier) run.1 (omega (arith, few)))
