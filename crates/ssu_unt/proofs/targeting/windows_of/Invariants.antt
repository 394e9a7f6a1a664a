use Rattle.std.proofs.Common.{◌≡◌, ◌≤◌, ◌++◌, length, take}
use Rattle.std.specs.Prelude.{map}
use Rattle.ssu_unt.specs.Descriptors.{window_of}
use Rattle.ssu_unt.specs.Targeting.{with_tag, windows_of}
use Rattle.ssu_unt.proofs.targeting.windows_of.Given as goal

abbrev pub invariant-loop-desc : goal.invariant-loop-desc
invariant-loop-desc l =
    (take 4 (l.windows.items ++ map (λ d. window_of d.body) (with_tag 1 l.desc-iterator)) ≡ windows_of l.fn.common l.fn.operational)
    × (length l.windows.items ≤ 4)
