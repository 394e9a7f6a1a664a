use Rattle.std.proofs.Common.{ℕ, ◌*◌, ap, arith}
use Rattle.flash_layout.specs.Shape.{geometry}
use Rattle.flash_layout.proofs.Places.{area_is}
use Rattle.flash_layout.proofs.layout.Shape.journal_len.Goals as goal

pub returns-clause-value : goal.returns-clause-value
returns-clause-value c = ap (λ (n : ℕ). n * c.args.self.block_size) c.journal_blocks.ensures.value

pub returns-clause-less : goal.returns-clause-less
returns-clause-less c = omega (arith, returns-clause-value c, area_is (geometry c.args.self) c.requires.limits c.requires.room)
