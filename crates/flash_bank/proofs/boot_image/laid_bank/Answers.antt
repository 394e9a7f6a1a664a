use Rattle.std.proofs.Common.{arith}
use Rattle.flash_layout.specs.Shape.{geometry}
use Rattle.flash_layout.proofs.Places.{slots_before_end}
use Rattle.flash_bank.proofs.boot_image.laid_bank.Goals as goal

pub returns-clause-within : goal.returns-clause-within
returns-clause-within c =
    let limits = c.requires.limits in
    record {
      place = omega arith;
      slots = omega (arith, slots_before_end (geometry c.args.shape) limits);
      addressable = omega (arith, limits.most_bytes);
    }
