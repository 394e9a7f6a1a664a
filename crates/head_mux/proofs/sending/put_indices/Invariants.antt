use Rattle.std.proofs.Common.{◌≡◌}
use Rattle.head_mux.proofs.Queue.{partly_in}
use Rattle.head_mux.proofs.sending.put_indices.Given as goal

-- The indices so far are in.
abbrev pub invariant-loop-item : goal.invariant-loop-item
invariant-loop-item g l = l.wheel.dues ≡ partly_in l.items l.item
