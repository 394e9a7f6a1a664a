use Rattle.std.proofs.Common.{arith, length, ◌≡◌, ◌*◌}
use Rattle.flash_layout.proofs.PairsLemmas.{paired_from}
use Rattle.flash_layout.proofs.pairs.put_pairs.Goals as goal

pub returns : goal.returns
returns c =
    let size : length c.loop-i.bytes ≡ 2 * length c.args.plain.now = omega arith in
    paired_from c.loop-i.bytes c.args.plain.now size (λ k lt. c.loop-i.invariant k (omega arith))
