use Rattle.std.proofs.Common.{◌≡◌, true, nat_le, length, le-leb, arith}
use Rattle.toml_fields.proofs.Arrays.{item_count-view}
use Rattle.head_plan.proofs.read.groups.is_counted.Goals as goal

pub returns-then-items-ge1 : goal.returns-then-items-ge1
returns-then-items-ge1 c =
    let one : nat_le 1 (length c.args.items.now) ≡ true = le-leb 1 (length c.args.items.now) (omega arith) in
    rw (item_count-view c.args.items.now, one)
