use Rattle.std.proofs.Common.{◌≡◌, ◌*◌, ◌≤◌, length, take}
use Rattle.std.specs.Prelude.{None}
use Rattle.std.specs.List.{find, flat_map}
use Rattle.head_carousel.specs.Blocks.{all_blocks}
use Rattle.head_carousel.specs.Refusal.{group_mentions, is_too_long}
use Rattle.head_carousel.proofs.counting.block_count.Given as goal

abbrev pub invariant-loop-group : goal.invariant-loop-group
invariant-loop-group l = record {
  short : find is_too_long (flat_map group_mentions (take l.group-index l.groups)) ≡ None;
  count : l.count ≡ length (all_blocks (take l.group-index l.groups));
  room : l.count ≤ 16777216 * l.group-index;
}
