use Rattle.std.proofs.Common.{◌≡◌, ℕ, List, false, ap, sym, subst, arith}
use Rattle.ssu_group.specs.Map.{Marks, is_set}
use Rattle.ssu_group.proofs.MapLaws.{one_marked, one_missing}
use Rattle.ssu_group.proofs.block_map.BlockMap.mark.Goals as goal

pub overflow_sub-self : goal.overflow_sub-self
overflow_sub-self c =
    let free : is_set c.self.inside.bits.items c.args.number ≡ false = subst (λ (bits : List ℕ). is_set bits c.args.number ≡ false) c.deref.ensures.value (sym c.if-is_bit_set.ensures) in
    let places = ap (λ (m : Marks). m.places) c.self.view_is in
    let below = c.requires in
    one_missing c.self.inside.bits.items c.self.inside.most c.self.inside.places c.self.inside.missing c.args.number c.self.invariant (omega arith) free

pub invariant_of-self : goal.invariant_of-self
invariant_of-self c =
    let free : is_set c.self.inside.bits.items c.args.number ≡ false = subst (λ (bits : List ℕ). is_set bits c.args.number ≡ false) c.deref.ensures.value (sym c.if-is_bit_set.ensures) in
    let places = ap (λ (m : Marks). m.places) c.self.view_is in
    let below = c.requires in
    one_marked c.self.inside.bits.items c.set_bit.new.bits.items c.self.inside.most c.self.inside.places c.self.inside.missing c.args.number c.self.invariant (omega arith) free
    c.set_bit.ensures.len c.set_bit.ensures.set
