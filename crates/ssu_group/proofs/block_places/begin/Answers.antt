use Rattle.std.proofs.Common.{◌≡◌, ℕ, ◌*◌, ◌<◌, subst, sym}
use Rattle.ssu_group.proofs.PlaceLaws.{block_begins}
use Rattle.ssu_group.proofs.block_places.begin.Goals as goal

pub returns-clause-inside : goal.returns-clause-inside
returns-clause-inside c =
    let product : c.from.result * c.from-2.result ≡ c.args.block * c.args.block_size = cc in
    subst (λ (n : ℕ). n < c.args.size) (sym product) (block_begins c.args.block_size c.args.size c.args.block c.requires.some c.requires.below)
