use Rattle.std.proofs.Common.{ℕ, List, ◌*◌, ⊎_elim, sym, subst, arith}
use Rattle.flash_dev.specs.Changes.{Changes, IsErased, IsTornErase}
use Rattle.flash_dev.proofs.Moments.{started, goes_on}
use Rattle.flash_bank.specs.Runs.{IsRaised}
use Rattle.flash_bank.proofs.ClearLemmas.{erased_above, torn_above}
use Rattle.flash_bank.proofs.RunsLemmas.{changes_same}
use Rattle.flash_bank.proofs.clear.erase_block.Goals as goal

pub returns-clause-done : goal.returns-clause-done
returns-clause-done g c tells =
    let F = g.F.Flash in
    subst (λ (z : ℕ). Changes (c.args.block * z) z IsErased (F.contents c.args.flash.now) (F.contents c.erase.new.self)) c.requires.block_size (c.in_ok-erase.ensures.done tells)

pub returns-clause-held : goal.returns-clause-held
returns-clause-held g c tells = erased_above _ _ _ _ (g.met.F.Flash.are_bytes tells c.args.flash.now) (returns-clause-done g c tells)

pub returns-in_err-erase-clause-held : goal.returns-in_err-erase-clause-held
returns-in_err-erase-clause-held g c tells =
    let F = g.F.Flash in
    let torn = subst (λ (z : ℕ). Changes (c.args.block * z) z IsTornErase (F.contents c.args.flash.now) (F.contents c.erase.new.self)) c.requires.block_size (c.in_err-erase.ensures.torn tells) in
    torn_above _ _ _ _ torn

pub returns-in_err-erase-clause-left : goal.returns-in_err-erase-clause-left
returns-in_err-erase-clause-left g c tells =
    let F = g.F.Flash in
    let x = F.contents c.args.flash.now in
    let P : List ℕ → Type 0 = Changes (c.args.block * c.args.shape.block_size) c.args.shape.block_size IsRaised x in
    let start = started F.moment F.left_since c.args.flash.now P
    (λ y left. subst P (sym (g.met.F.Flash.only_now c.args.flash.now y left)) (changes_same _ _ IsRaised x (λ k a. omega arith))) in
    goes_on F.moment F.left_since c.args.flash.now c.args.flash.now c.erase.new.self P _ start c.erase.ensures.time
    (λ y. ⊎_elim (λ torn. torn_above _ _ x y (subst (λ (z : ℕ). Changes (c.args.block * z) z IsTornErase x y) c.requires.block_size torn))
    (λ is. subst P (sym is) (returns-in_err-erase-clause-held g c tells)))

pub returns-clause-left : goal.returns-clause-left
returns-clause-left g c tells =
    let F = g.F.Flash in
    let x = F.contents c.args.flash.now in
    let P : List ℕ → Type 0 = Changes (c.args.block * c.args.shape.block_size) c.args.shape.block_size IsRaised x in
    let start = started F.moment F.left_since c.args.flash.now P
    (λ y left. subst P (sym (g.met.F.Flash.only_now c.args.flash.now y left)) (changes_same _ _ IsRaised x (λ k a. omega arith))) in
    goes_on F.moment F.left_since c.args.flash.now c.args.flash.now c.erase.new.self P _ start c.erase.ensures.time
    (λ y. ⊎_elim (λ torn. torn_above _ _ x y (subst (λ (z : ℕ). Changes (c.args.block * z) z IsTornErase x y) c.requires.block_size torn))
    (λ is. subst P (sym is) (returns-clause-held g c tells)))
