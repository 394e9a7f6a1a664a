use Rattle.std.proofs.Common.{◌≡◌, ℕ, List, ◌+◌, ◌*◌, inl, inr, ⊎_elim, sym, ◌∙◌, subst, ap, arith}
use Rattle.flash_dev.specs.Changes.{Changes, IsErased, IsTornErase}
use Rattle.flash_dev.proofs.Moments.{started, goes_on, weaker, joined}
use Rattle.flash_layout.specs.Layout.{area_len, area_place, record_place}
use Rattle.flash_bank.specs.Runs.{IsRaised}
use Rattle.flash_layout.specs.Shape.{geometry}
use Rattle.flash_bank.specs.Spare.{CutsSpare}
use Rattle.flash_bank.proofs.ClearLemmas.{on_ok_map, torn_above, erased_above, clears_first, clears_more, in_block}
use Rattle.flash_bank.proofs.RunsLemmas.{changes_moved, changes_same}
use Rattle.flash_bank.proofs.runs.erase_spare_one.Goals as goal

pub returns-clause-held : goal.returns-clause-held
returns-clause-held g c tells =
    let F = g.F.Flash in
    let s = geometry c.args.shape in
    let k = c.args.area in
    let b = c.args.block in
    let l = c.args.layout in
    let x = F.contents c.args.flash.now in
    let mid = F.contents c.erase.new.self in
    let z = c.requires.block_size in
    let here = λ (Q : ℕ → ℕ → ℕ → Type 0) (y : List ℕ) (h : Changes (b * F.block_len c.args.flash.now) (F.block_len c.args.flash.now) Q x y).
    changes_moved _ (record_place s b) _ s.block_len Q x y (ap (λ (w : ℕ). b * w) z) z h in
    let first : Changes (record_place s b) s.block_len IsErased x mid = here IsErased mid (c.in_ok-erase.ensures.done tells) in
    let next : F.block_len c.erase.new.self ≡ s.block_len = c.erase.ensures.block_size ∙ z in
    let bytes = g.met.F.Flash.are_bytes tells c.args.flash.now in
    let mid_bytes = g.met.F.Flash.are_bytes tells c.erase.new.self in
    let clears = clears_first s c.requires.limits l b k c.requires.block x mid bytes first in
    let run_place : c.area_block.result * F.block_len c.erase.new.self ≡ area_place s k + 0 =
    let plain : area_place s k ≡ area_place s k + 0 = omega arith in ap (λ (w : ℕ). c.area_block.result * w) next ∙ (ap (λ (n : ℕ). n * s.block_len) c.area_block.ensures.value ∙ plain) in
    let run_len : c.area_blocks.result * F.block_len c.erase.new.self ≡ area_len s = ap (λ (w : ℕ). c.area_blocks.result * w) next ∙ ap (λ (n : ℕ). n * s.block_len) c.area_blocks.ensures.value in
    let more = λ (y : List ℕ) (h : Changes (area_place s k + 0) (area_len s) IsRaised mid y). clears_more s c.requires.limits l b k c.requires.block x mid y 0 (area_len s) (omega arith) clears h (λ two. absurd (c.requires.one two)) in
    let y = F.contents c.erase_blocks.new.flash in
    inr (more y ((changes_moved _ _ _ _ IsRaised mid y run_place run_len (c.erase_blocks.ensures.held tells))))

pub returns-clause-done : goal.returns-clause-done
returns-clause-done g c tells =
    let F = g.F.Flash in
    let s = geometry c.args.shape in
    let k = c.args.area in
    let b = c.args.block in
    let l = c.args.layout in
    let x = F.contents c.args.flash.now in
    let mid = F.contents c.erase.new.self in
    let z = c.requires.block_size in
    let here = λ (Q : ℕ → ℕ → ℕ → Type 0) (y : List ℕ) (h : Changes (b * F.block_len c.args.flash.now) (F.block_len c.args.flash.now) Q x y).
    changes_moved _ (record_place s b) _ s.block_len Q x y (ap (λ (w : ℕ). b * w) z) z h in
    let first : Changes (record_place s b) s.block_len IsErased x mid = here IsErased mid (c.in_ok-erase.ensures.done tells) in
    let next : F.block_len c.erase.new.self ≡ s.block_len = c.erase.ensures.block_size ∙ z in
    let bytes = g.met.F.Flash.are_bytes tells c.args.flash.now in
    let mid_bytes = g.met.F.Flash.are_bytes tells c.erase.new.self in
    let clears = clears_first s c.requires.limits l b k c.requires.block x mid bytes first in
    let run_place : c.area_block.result * F.block_len c.erase.new.self ≡ area_place s k + 0 =
    let plain : area_place s k ≡ area_place s k + 0 = omega arith in ap (λ (w : ℕ). c.area_block.result * w) next ∙ (ap (λ (n : ℕ). n * s.block_len) c.area_block.ensures.value ∙ plain) in
    let run_len : c.area_blocks.result * F.block_len c.erase.new.self ≡ area_len s = ap (λ (w : ℕ). c.area_blocks.result * w) next ∙ ap (λ (n : ℕ). n * s.block_len) c.area_blocks.ensures.value in
    let more = λ (y : List ℕ) (h : Changes (area_place s k + 0) (area_len s) IsRaised mid y). clears_more s c.requires.limits l b k c.requires.block x mid y 0 (area_len s) (omega arith) clears h (λ two. absurd (c.requires.one two)) in
    let y = F.contents c.erase_blocks.new.flash in
    on_ok_map c.erase_blocks.result _ _ (λ changes.
    let h = changes_moved _ _ _ _ IsErased mid y run_place run_len changes in
    record { clears = more y (erased_above _ _ mid y mid_bytes h); area = λ i lt. in_block (area_place s k) (area_len s) mid y h i lt })
    (c.erase_blocks.ensures.done tells)

pub returns-clause-left : goal.returns-clause-left
returns-clause-left g c tells =
    let F = g.F.Flash in
    let s = geometry c.args.shape in
    let k = c.args.area in
    let b = c.args.block in
    let l = c.args.layout in
    let x = F.contents c.args.flash.now in
    let mid = F.contents c.erase.new.self in
    let z = c.requires.block_size in
    let here = λ (Q : ℕ → ℕ → ℕ → Type 0) (y : List ℕ) (h : Changes (b * F.block_len c.args.flash.now) (F.block_len c.args.flash.now) Q x y).
    changes_moved _ (record_place s b) _ s.block_len Q x y (ap (λ (w : ℕ). b * w) z) z h in
    let first : Changes (record_place s b) s.block_len IsErased x mid = here IsErased mid (c.in_ok-erase.ensures.done tells) in
    let next : F.block_len c.erase.new.self ≡ s.block_len = c.erase.ensures.block_size ∙ z in
    let bytes = g.met.F.Flash.are_bytes tells c.args.flash.now in
    let mid_bytes = g.met.F.Flash.are_bytes tells c.erase.new.self in
    let clears = clears_first s c.requires.limits l b k c.requires.block x mid bytes first in
    let run_place : c.area_block.result * F.block_len c.erase.new.self ≡ area_place s k + 0 =
    let plain : area_place s k ≡ area_place s k + 0 = omega arith in ap (λ (w : ℕ). c.area_block.result * w) next ∙ (ap (λ (n : ℕ). n * s.block_len) c.area_block.ensures.value ∙ plain) in
    let run_len : c.area_blocks.result * F.block_len c.erase.new.self ≡ area_len s = ap (λ (w : ℕ). c.area_blocks.result * w) next ∙ ap (λ (n : ℕ). n * s.block_len) c.area_blocks.ensures.value in
    let more = λ (y : List ℕ) (h : Changes (area_place s k + 0) (area_len s) IsRaised mid y). clears_more s c.requires.limits l b k c.requires.block x mid y 0 (area_len s) (omega arith) clears h (λ two. absurd (c.requires.one two)) in
    let P = CutsSpare s l b k x in
    let start = started F.moment F.left_since c.args.flash.now P
    (λ y left. subst P (sym (g.met.F.Flash.only_now c.args.flash.now y left)) (inl (changes_same _ _ IsRaised x (λ k a. omega arith)))) in
    let one = goes_on F.moment F.left_since c.args.flash.now c.args.flash.now c.erase.new.self P _ start c.erase.ensures.time
    (λ y. ⊎_elim (λ torn. inl (torn_above _ _ x y (here IsTornErase y torn))) (λ is. subst P (sym is) (inr clears))) in
    let two = weaker F.moment F.left_since c.erase.new.self c.erase_blocks.new.flash _ P
    (λ y changes. inr (more y ((changes_moved _ _ _ _ IsRaised mid y run_place run_len changes))))
    (c.erase_blocks.ensures.left tells) in
    joined F.moment F.left_since c.args.flash.now c.erase.new.self c.erase_blocks.new.flash P one two
