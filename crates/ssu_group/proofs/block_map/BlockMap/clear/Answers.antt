use Rattle.ssu_group.proofs.MapLaws.{cleared}
use Rattle.std.proofs.Common.{ap, arith}
use Rattle.ssu_group.specs.Map.{Marks}
use Rattle.ssu_group.proofs.block_map.BlockMap.clear.Goals as goal

pub invariant_of-self : goal.invariant_of-self
invariant_of-self c =
    let within = c.requires in
    let most = ap (λ (m : Marks). m.most) c.self.view_is in
    cleared c.self.inside.bits.items c.clear_bytes.new.bytes.items c.self.inside.most c.args.places c.self.invariant.room (omega arith) c.clear_bytes.ensures.len c.clear_bytes.ensures.zero
