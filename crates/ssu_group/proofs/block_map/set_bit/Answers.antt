use Rattle.std.proofs.Common.{◌≡◌, ℕ, ◌*◌, ◌/◌, ◌%◌, ◌^◌, ◌||◌, eqb, get_or, sym, subst}
use Rattle.std.proofs.Math.ListN.{set}
use Rattle.std.specs.Prelude.{bit_or}
use Rattle.ssu_group.specs.Map.{is_set}
use Rattle.ssu_group.proofs.MapLaws.{set_bit_is}
use Rattle.ssu_group.proofs.block_map.set_bit.Goals as goal

pub returns-clause-set : goal.returns-clause-set
returns-clause-set c = λ k.
    let byte : c.byte_at-byte.result ≡ get_or c.args.bits.now.items (c.args.number / 8) 0 = cc in
    subst (λ (b : ℕ). is_set (set c.args.bits.now.items (c.args.number / 8) (bit_or b (1 * 2 ^ (c.args.number % 8) % 256))) k ≡ (eqb k c.args.number || is_set c.args.bits.now.items k)) (sym byte)
    (set_bit_is c.args.bits.now.items c.args.number k c.requires)
