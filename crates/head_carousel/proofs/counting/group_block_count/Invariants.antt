use Rattle.std.proofs.Common.{◌≡◌, ◌*◌, ◌≤◌, take, drop}
use Rattle.std.specs.List.{find, sum_by}
use Rattle.head_carousel.specs.Blocks.{block_count}
use Rattle.head_carousel.specs.Refusal.{group_mentions, is_too_long, mentions_in}
use Rattle.head_carousel.proofs.counting.group_block_count.Given as goal

abbrev pub invariant-loop-index : goal.invariant-loop-index
invariant-loop-index l = record {
  first : find is_too_long (group_mentions l.fn.group) ≡ find is_too_long (mentions_in l.fn.group.group.block_size (drop l.index l.fn.group.group.modules) (drop l.index l.fn.group.files));
  count : l.count ≡ sum_by (block_count l.fn.group.group.block_size) (take l.index l.fn.group.files);
  room : l.count ≤ 65536 * l.index;
}
