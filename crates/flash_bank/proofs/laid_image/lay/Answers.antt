use Rattle.std.proofs.Common.{◌≡◌, ◌+◌, List, ℕ, length, refl, sym, subst, ap, ◌∙◌, arith, rules}
use Rattle.flash_dev.specs.Changes.{Holds}
use Rattle.flash_layout.specs.Pairs.{part}
use Rattle.flash_layout.specs.Slots.{slot_at, slot_len}
use Rattle.flash_layout.proofs.PartLemmas.{part_held}
use Rattle.flash_bank.specs.Laid.{IsSlotHead, Lays}
use Rattle.flash_bank.proofs.ClearLemmas.{on_ok_map}
use Rattle.flash_bank.proofs.OverlayLemmas.{lays_none, lays_some}
use Rattle.flash_bank.proofs.ReadsLemmas.{reads_joined, reads_one}
use Rattle.flash_bank.proofs.laid_image.lay.Goals as goal

pub returns-in_err-read-clause-reads : goal.returns-in_err-read-clause-reads
returns-in_err-read-clause-reads g c =
    let F = g.F.Flash in
    reads_one F.tells F.contents F.block_count F.block_len F.moment F.left_since c.args.flash.now c.read.new.self (g.met.F.Flash.only_now c.args.flash.now)
    c.read.ensures.same c.read.ensures.blocks c.read.ensures.block_size c.read.ensures.time

pub returns-in-None-clause-reads : goal.returns-in-None-clause-reads
returns-in-None-clause-reads g c =
    let F = g.F.Flash in
    reads_one F.tells F.contents F.block_count F.block_len F.moment F.left_since c.args.flash.now c.read.new.self (g.met.F.Flash.only_now c.args.flash.now)
    c.read.ensures.same c.read.ensures.blocks c.read.ensures.block_size c.read.ensures.time

pub returns-in-Some-clause-reads : goal.returns-in-Some-clause-reads
returns-in-Some-clause-reads g c =
    let F = g.F.Flash in
    reads_joined F.tells F.contents F.block_count F.block_len F.moment F.left_since c.args.flash.now c.read.new.self c.lay_range.new.flash
    (reads_one F.tells F.contents F.block_count F.block_len F.moment F.left_since c.args.flash.now c.read.new.self (g.met.F.Flash.only_now c.args.flash.now)
    c.read.ensures.same c.read.ensures.blocks c.read.ensures.block_size c.read.ensures.time) c.lay_range.ensures.reads

pub returns-in-None-clause-laid : goal.returns-in-None-clause-laid
returns-in-None-clause-laid g c tells text long holds =
    let x = g.F.Flash.contents c.args.flash.now in
    let n = c.args.len in
    let p = c.args.slot in
    let bytes = c.read.new.buf in
    let size : length bytes ≡ 16 = search rules in
    let fits = c.requires.inside in
    let is : part x p 16 ≡ bytes = part_held x bytes p 16 size (omega (arith, fits, c.requires.whole tells)) (c.in_ok-read.ensures.bytes tells) in
    let never : IsSlotHead n (part x p 16) → ⊥ = λ valid. let some = c.in-None.ensures.valid.1 (subst (IsSlotHead n) is valid) in cc some in
    subst (λ (t : List ℕ). Holds t c.args.at c.args.piece.now) (sym (lays_none x p n (omega (arith, fits, c.requires.whole tells)) text never)) holds

pub returns-in-Some-clause-laid : goal.returns-in-Some-clause-laid
returns-in-Some-clause-laid g c tells =
    let F = g.F.Flash in
    let x = F.contents c.args.flash.now in
    let n = c.args.len in
    let p = c.args.slot in
    let bytes = c.read.new.buf in
    let range = c.in-Some.range in
    let size : length bytes ≡ 16 = search rules in
    let fits = c.requires.inside in
    let is : part x p 16 ≡ bytes = part_held x bytes p 16 size (omega (arith, fits, c.requires.whole tells)) (c.in_ok-read.ensures.bytes tells) in
    let valid : IsSlotHead n (part x p 16) = subst (IsSlotHead n) (sym is) (c.in-Some.ensures.valid.0 refl) in
    let at_is : range.at ≡ slot_at (part x p 16) = c.in-Some.ensures.value.0 ∙ ap slot_at (sym is) in
    let len_is : range.len ≡ slot_len (part x p 16) = c.in-Some.ensures.value.1 ∙ ap slot_len (sym is) in
    on_ok_map c.lay_range.result _ _
    (λ lays text long holds. lays_some x p n (omega (arith, fits, c.requires.whole tells)) range c.args.at c.args.piece.now c.lay_range.new.piece text valid at_is len_is c.requires.fits
    (subst (λ (y : List ℕ). Lays y (p + 256) range c.args.at c.args.piece.now c.lay_range.new.piece) (c.read.ensures.same tells) lays) long holds)
    (c.lay_range.ensures.lays tells)
