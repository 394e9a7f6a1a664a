use Rattle.std.proofs.Common.{◌≡◌, ◌<◌, inl, inr, List, ℕ, sym, ◌∙◌, subst}
use Rattle.std.specs.Prelude.{IfOk, IfSome, MatchOption, Option, true, false}
use Rattle.flash_bank.specs.Find.{Describes, Finds, FindsWith, IsTwo}
use Rattle.flash_bank.specs.Layout.{IsPlaced}
use Rattle.flash_layout.specs.Layout.{record_bytes}
use Rattle.flash_layout.specs.Shape.{geometry}
use Rattle.flash_bank.specs.Sound.{IsSound}
use Rattle.flash_bank.specs.declared.find.Current.{Current}
use Rattle.flash_bank.proofs.FindLemmas.{found, found_if, placed_two, room_of}
use Rattle.flash_bank.proofs.ReadsLemmas.{reads_joined}
use Rattle.flash_bank.proofs.find.find_current.Goals as goal

pub find_with_journals-requires-clause-room : goal.find_with_journals-requires-clause-room
find_with_journals-requires-clause-room g c =
    room_of (geometry c.args.shape) c.in_ok-first.first.head c.in_ok-second.second.head c.in_ok-first.ensures.placed c.in_ok-second.ensures.placed (c.some_two-two.ensures.0 c.if-two.true)

pub returns-then-two-clause-found : goal.returns-then-two-clause-found
returns-then-two-clause-found g c tells =
    let F = g.F.Flash in
    let shape = geometry c.args.shape in
    let old = F.contents c.args.flash.now in
    let first = c.in_ok-first.first in
    let second = c.in_ok-second.second in
    let same : F.contents c.read_block-2.new.flash ≡ old = c.read_block-2.ensures.reads.same tells ∙ c.read_block.ensures.reads.same tells in
    let other = subst (λ (x : List ℕ). Describes shape second (record_bytes shape x 1) 1) (c.read_block.ensures.reads.same tells) (c.in_ok-second.ensures.found tells) in
    let with = subst (λ (l : List ℕ). IfOk c.find_with_journals.result (λ (o : Option Current). FindsWith shape l first second o)) same (c.find_with_journals.ensures.found tells) in
    found_if shape old (c.requires.whole tells) first second (c.in_ok-first.ensures.found tells) other c.find_with_journals.result (c.some_two-two.ensures.0 c.if-two.true) with

pub returns-else-two-clause-found : goal.returns-else-two-clause-found
returns-else-two-clause-found g c tells =
    let F = g.F.Flash in
    let shape = geometry c.args.shape in
    let old = F.contents c.args.flash.now in
    let first = c.in_ok-first.first in
    let second = c.in_ok-second.second in
    let other = subst (λ (x : List ℕ). Describes shape second (record_bytes shape x 1) 1) (c.read_block.ensures.reads.same tells) (c.in_ok-second.ensures.found tells) in
    let none : IsTwo first.head → ⊥ = λ two. let no : true ≡ false = sym (c.some_two-two.ensures.1 (inl two)) ∙ c.if-two.false in cc no in
    let neither : IsTwo second.head → ⊥ = λ two. let no : true ≡ false = sym (c.some_two-two.ensures.1 (inr two)) ∙ c.if-two.false in cc no in
    let P = λ (o : Option Current). MatchOption o (IsSound shape old → ⊥) (λ current. Finds shape old current) in
    subst P (sym c.choose.ensures) (found shape old (c.requires.whole tells) first second (c.in_ok-first.ensures.found tells) other none neither)

pub returns-else-two-clause-placed : goal.returns-else-two-clause-placed
returns-else-two-clause-placed g c =
    let shape = geometry c.args.shape in
    subst (λ (o : Option Current). IfSome o (λ current. (current.block < 2) × IsPlaced shape current.head)) (sym c.choose.ensures)
    (placed_two shape c.in_ok-first.first c.in_ok-second.second c.in_ok-first.ensures.placed c.in_ok-second.ensures.placed)

pub returns-then-two-clause-reads : goal.returns-then-two-clause-reads
returns-then-two-clause-reads g c =
    let F = g.F.Flash in
    reads_joined F.tells F.contents F.block_count F.block_len F.moment F.left_since c.args.flash.now c.read_block-2.new.flash c.find_with_journals.new.flash
    (reads_joined F.tells F.contents F.block_count F.block_len F.moment F.left_since c.args.flash.now c.read_block.new.flash c.read_block-2.new.flash c.read_block.ensures.reads c.read_block-2.ensures.reads)
    c.find_with_journals.ensures.reads

pub returns-else-two-clause-reads : goal.returns-else-two-clause-reads
returns-else-two-clause-reads g c =
    let F = g.F.Flash in
    reads_joined F.tells F.contents F.block_count F.block_len F.moment F.left_since c.args.flash.now c.read_block.new.flash c.read_block-2.new.flash c.read_block.ensures.reads c.read_block-2.ensures.reads
