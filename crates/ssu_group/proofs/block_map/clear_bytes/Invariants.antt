use Rattle.std.proofs.Common.{◌≡◌, ℕ, ◌<◌, length, get_or}
use Rattle.ssu_group.proofs.block_map.clear_bytes.Given as goal

abbrev pub invariant-loop-i : goal.invariant-loop-i
invariant-loop-i l = record {
  len : length l.bytes.items ≡ length l.initial.bytes.items;
  zero : (k : ℕ) → k < l.i → get_or l.bytes.items k 0 ≡ 0;
}
