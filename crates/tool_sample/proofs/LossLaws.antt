-- A script that only leaves packets out makes no more of them.
use Rattle.std.proofs.Common.{◌≡◌, ℕ, ◌+◌, ◌≤◌, Bool, true, false, List, [], ◌∷◌, length, replicate, arith, length-append, refl}
use Rattle.std.specs.Prelude.{if◌then◌else◌}
use Rattle.std.proofs.lemmas.List.{length-replicate}
use Rattle.air_channel.specs.Aired.{aired, copies, is_lost, written}
use Rattle.broadcast.specs.Packets.{aired_packets, sent_packets}
use Rattle.tool_sample.specs.Sample.{broadcast_of, script_of}

one_or_none : (lost : Bool) (n : ℕ) → n ≡ (if lost then 0 else 1) → n ≤ 1
one_or_none true n is = rw is (omega arith)
one_or_none false n is = rw is (omega arith)

written_few : (number first : ℕ) (ps : List (List ℕ)) → length (written (script_of number) first ps) ≤ length ps
written_few number first [] = omega arith
written_few number first (p ∷ ps) =
    let script = script_of number in
    let n = copies script first in
    let later = written script (first + 1) ps in
    let parts : length (written script first (p ∷ ps)) ≡ length (replicate n p) + length later = length-append (replicate n p) later in
    omega (arith, parts, length-replicate n p, written_few number (first + 1) ps, one_or_none (is_lost script.loss first) n refl)

pub aired_few : (number : ℕ) → length (aired_packets (broadcast_of number)) ≤ length (sent_packets (broadcast_of number))
unfolding aired_packets aired
aired_few number = written_few number 0 (sent_packets (broadcast_of number))
