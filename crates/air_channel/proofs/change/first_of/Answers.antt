use Rattle.std.proofs.Common.{◌≡◌, ltb, ltb-true, ltb-false, arith, rules}
use Rattle.std.proofs.lemmas.List.Sorted.{IsPartitionPoint-from_clause, IsPartitionedBy-ltb}
use Rattle.air_channel.proofs.Changing.{packets_ordered}
use Rattle.air_channel.proofs.change.first_of.Goals as goal

pub returns-clause-before : goal.returns-clause-before
returns-clause-before c =
    let parted = IsPartitionedBy-ltb (λ d. d.packet) _ c.args.number (packets_ordered c.args.changes.now c.requires) in
    let point = IsPartitionPoint-from_clause (λ d. ltb d.packet c.args.number) _ _ c.partition_point.ensures.partitioned parted (λ a r q k. search rules) in
    λ k d low. ltb-true _ _ (point.0 k d (omega arith) low)

pub returns-clause-behind : goal.returns-clause-behind
returns-clause-behind c =
    let parted = IsPartitionedBy-ltb (λ d. d.packet) _ c.args.number (packets_ordered c.args.changes.now c.requires) in
    let point = IsPartitionPoint-from_clause (λ d. ltb d.packet c.args.number) _ _ c.partition_point.ensures.partitioned parted (λ a r q k. search rules) in
    λ k d high low. ltb-false _ _ (point.1 k d high low)
