use Rattle.std.proofs.Common.{◌≡◌, ◌+◌, ◌-◌, ◌*◌, ◌≤◌, ◌++◌, length, drop}
use Rattle.ts_section.specs.Sections.{starts_behind}
use Rattle.ts_section.specs.Steps.{right_of, unfinished}
use Rattle.ts_section.proofs.starts.put_whole.Given as goal

-- What is found and what starts from here on are all that starts in the packet.
abbrev pub invariant-loop-len : goal.invariant-loop-len
invariant-loop-len l = record {
  within : l.at ≤ length l.payload;
  room : 7 * length l.each + l.pointed ≤ 7 + l.at;
  heard : l.each ++ right_of (starts_behind (drop l.at l.payload) 0) ≡ l.initial.each ++ right_of (starts_behind l.payload l.pointed);
  unfinished_left : unfinished (starts_behind (drop l.at l.payload) 0) ≡ unfinished (starts_behind l.payload l.pointed);
}

abbrev pub decreases-loop-len : goal.decreases-loop-len
decreases-loop-len l = length l.payload - l.at
