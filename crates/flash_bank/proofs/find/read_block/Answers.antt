use Rattle.std.proofs.Common.{◌≡◌, List, ℕ, length, sym, subst, arith, rules}
use Rattle.flash_dev.specs.Changes.{Holds}
use Rattle.flash_bank.specs.Find.{Describes}
use Rattle.flash_layout.specs.Layout.{record_place}
use Rattle.flash_layout.specs.Pairs.{part}
use Rattle.flash_layout.specs.Shape.{geometry}
use Rattle.flash_layout.proofs.PartLemmas.{part_held}
use Rattle.flash_layout.proofs.Places.{record_within}
use Rattle.flash_bank.proofs.ReadsLemmas.{reads_one}
use Rattle.flash_bank.proofs.find.read_block.Goals as goal

pub returns-clause-found : goal.returns-clause-found
returns-clause-found g c tells =
    let shape = c.args.shape in
    let old = g.F.Flash.contents c.args.flash.now in
    let bytes = c.read.new.buf in
    let place = record_place (geometry shape) c.args.block in
    let holds : Holds old place bytes = subst (λ (p : ℕ). Holds old p bytes) c.record_place.ensures (c.in_ok-read.ensures.bytes tells) in
    let size : length bytes ≡ 64 = search rules in
    let is : part old place 64 ≡ bytes = part_held old bytes place 64 size (omega (arith, record_within (geometry shape) c.requires.limits c.args.block c.requires.block, c.requires.limits.least_len, c.requires.whole tells)) holds in
    subst (λ (bs : List ℕ). Describes (geometry shape) c.described.result bs c.args.block) (sym is) c.described.ensures.found

pub returns-clause-reads : goal.returns-clause-reads
returns-clause-reads g c =
    let F = g.F.Flash in
    reads_one F.tells F.contents F.block_count F.block_len F.moment F.left_since c.args.flash.now c.read.new.self (g.met.F.Flash.only_now c.args.flash.now)
    c.read.ensures.same c.read.ensures.blocks c.read.ensures.block_size c.read.ensures.time
