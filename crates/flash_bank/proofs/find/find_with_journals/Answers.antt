use Rattle.std.proofs.Common.{List, ℕ, subst}
use Rattle.flash_layout.specs.Shape.{geometry}
use Rattle.flash_bank.specs.Find.{DescribesArea}
use Rattle.flash_bank.proofs.FindLemmas.{placed_checked}
use Rattle.flash_bank.proofs.ReadsLemmas.{reads_joined}
use Rattle.flash_bank.proofs.find.find_with_journals.Goals as goal

pub returns-clause-found : goal.returns-clause-found
returns-clause-found g c tells =
    let shape = geometry c.args.shape in
    let front = c.in_ok-front.front in
    let back = c.in_ok-back.back in
    let there = subst (λ (l : List ℕ). DescribesArea shape back l 1) (c.read_journal.ensures.reads.same tells) (c.in_ok-back.ensures.found tells) in
    (front, back, c.in_ok-front.ensures.found tells, there, c.checked.ensures)

pub returns-clause-placed : goal.returns-clause-placed
returns-clause-placed g c =
    placed_checked (geometry c.args.shape) c.args.first c.args.second c.in_ok-front.front c.in_ok-back.back c.checked.result c.requires.first_placed c.requires.second_placed c.checked.ensures

pub returns-clause-reads : goal.returns-clause-reads
returns-clause-reads g c =
    let F = g.F.Flash in
    reads_joined F.tells F.contents F.block_count F.block_len F.moment F.left_since c.args.flash.now c.read_journal.new.flash c.read_journal-2.new.flash c.read_journal.ensures.reads c.read_journal-2.ensures.reads
