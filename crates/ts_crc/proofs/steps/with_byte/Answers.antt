use Rattle.std.proofs.Common.{◌*◌, ◌%◌, ◌^◌, sym, ap, ◌∙◌, bit_xor}
use Rattle.ts_crc.specs.Crc.{lane}
use Rattle.ts_crc.proofs.Sixteen.{one_byte}
use Rattle.ts_crc.proofs.steps.with_byte.Goals as goal

pub returns : goal.returns
unfolding lane
returns c =
    ap (λ n. bit_xor n (c.args.register * 256 % 2 ^ 32)) c.lane_0.ensures
    ∙ sym (one_byte c.args.register c.args.byte c.ranges.register.fits)
