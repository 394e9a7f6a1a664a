use Rattle.std.proofs.Common.{◌≡◌, ℕ, List, ◌+◌, ◌-◌, ◌*◌, inl, inr, ⊎_elim, sym, ◌∙◌, subst, ap, arith}
use Rattle.flash_dev.specs.Changes.{Changes, IsErased, IsTornErase}
use Rattle.flash_dev.proofs.Moments.{started, goes_on, weaker, joined}
use Rattle.flash_layout.specs.Layout.{journal_len, journal_place}
use Rattle.flash_bank.specs.Runs.{IsRaised}
use Rattle.flash_layout.specs.Shape.{geometry}
use Rattle.flash_bank.specs.Spare.{CutsJournal}
use Rattle.flash_bank.proofs.ClearLemmas.{on_ok_map, first_gone, first_gone_same, journal_done, torn_above}
use Rattle.flash_layout.proofs.Places.{rest_of_journal, some_journal}
use Rattle.flash_bank.proofs.RunsLemmas.{changes_moved, changes_same}
use Rattle.flash_bank.proofs.runs.erase_journal.Goals as goal

pub overflow_sub-rest : goal.overflow_sub-rest
overflow_sub-rest g c = omega (arith, some_journal (geometry c.args.shape) c.requires.limits, c.journal_blocks-rest.ensures.value)

pub erase-requires : goal.erase-requires
erase-requires g c = omega (arith, some_journal (geometry c.args.shape) c.requires.limits, c.journal_block-first.ensures.inside, c.requires.blocks)

pub erase_blocks-requires-clause-inside : goal.erase_blocks-requires-clause-inside
erase_blocks-requires-clause-inside g c =
    omega (arith, some_journal (geometry c.args.shape) c.requires.limits, c.journal_block-first.ensures.inside, c.requires.blocks, c.journal_blocks-rest.ensures.value, c.erase.ensures.blocks)

pub returns-clause-done : goal.returns-clause-done
returns-clause-done g c tells =
    let F = g.F.Flash in
    let s = geometry c.args.shape in
    let k = c.args.area in
    let x = F.contents c.args.flash.now in
    let mid = F.contents c.erase.new.self in
    let z = c.requires.block_size in
    let place : c.journal_block-first.result * s.block_len ≡ journal_place s k = c.journal_block-first.ensures.value in
    let here = λ (Q : ℕ → ℕ → ℕ → Type 0) (y : List ℕ) (h : Changes (c.journal_block-first.result * F.block_len c.args.flash.now) (F.block_len c.args.flash.now) Q x y).
    changes_moved _ (journal_place s k) _ s.block_len Q x y (ap (λ (w : ℕ). c.journal_block-first.result * w) z ∙ place) z h in
    let first : Changes (journal_place s k) s.block_len IsErased x mid = here IsErased mid (c.in_ok-erase.ensures.done tells) in
    let next : F.block_len c.erase.new.self ≡ s.block_len = c.erase.ensures.block_size ∙ z in
    let bytes = g.met.F.Flash.are_bytes tells c.args.flash.now in
    let mid_bytes = g.met.F.Flash.are_bytes tells c.erase.new.self in
    let rest_place : (c.journal_block-first.result + 1) * F.block_len c.erase.new.self ≡ journal_place s k + s.block_len =
    let split : (c.journal_block-first.result + 1) * s.block_len ≡ journal_place s k + s.block_len = omega (arith, place) in ap (λ (w : ℕ). (c.journal_block-first.result + 1) * w) next ∙ split in
    let rest_len : (c.journal_blocks-rest.result - 1) * F.block_len c.erase.new.self ≡ journal_len s - s.block_len =
    ap (λ (w : ℕ). (c.journal_blocks-rest.result - 1) * w) next ∙ (ap (λ (n : ℕ). (n - 1) * s.block_len) c.journal_blocks-rest.ensures.value ∙ rest_of_journal s c.requires.limits) in
    on_ok_map c.erase_blocks.result _ _ (λ changes. journal_done s c.requires.limits c.requires.room k x mid (F.contents c.erase_blocks.new.flash) bytes mid_bytes first
    (changes_moved _ _ _ _ IsErased mid (F.contents c.erase_blocks.new.flash) rest_place rest_len changes)) (c.erase_blocks.ensures.done tells)

pub returns-clause-held : goal.returns-clause-held
returns-clause-held g c tells =
    let F = g.F.Flash in
    let s = geometry c.args.shape in
    let k = c.args.area in
    let x = F.contents c.args.flash.now in
    let mid = F.contents c.erase.new.self in
    let z = c.requires.block_size in
    let place : c.journal_block-first.result * s.block_len ≡ journal_place s k = c.journal_block-first.ensures.value in
    let here = λ (Q : ℕ → ℕ → ℕ → Type 0) (y : List ℕ) (h : Changes (c.journal_block-first.result * F.block_len c.args.flash.now) (F.block_len c.args.flash.now) Q x y).
    changes_moved _ (journal_place s k) _ s.block_len Q x y (ap (λ (w : ℕ). c.journal_block-first.result * w) z ∙ place) z h in
    let first : Changes (journal_place s k) s.block_len IsErased x mid = here IsErased mid (c.in_ok-erase.ensures.done tells) in
    let next : F.block_len c.erase.new.self ≡ s.block_len = c.erase.ensures.block_size ∙ z in
    let bytes = g.met.F.Flash.are_bytes tells c.args.flash.now in
    let mid_bytes = g.met.F.Flash.are_bytes tells c.erase.new.self in
    let rest_place : (c.journal_block-first.result + 1) * F.block_len c.erase.new.self ≡ journal_place s k + s.block_len =
    let split : (c.journal_block-first.result + 1) * s.block_len ≡ journal_place s k + s.block_len = omega (arith, place) in ap (λ (w : ℕ). (c.journal_block-first.result + 1) * w) next ∙ split in
    let rest_len : (c.journal_blocks-rest.result - 1) * F.block_len c.erase.new.self ≡ journal_len s - s.block_len =
    ap (λ (w : ℕ). (c.journal_blocks-rest.result - 1) * w) next ∙ (ap (λ (n : ℕ). (n - 1) * s.block_len) c.journal_blocks-rest.ensures.value ∙ rest_of_journal s c.requires.limits) in
    inr (first_gone s c.requires.limits c.requires.room k x mid (F.contents c.erase_blocks.new.flash) bytes mid_bytes first (changes_moved _ _ _ _ IsRaised mid (F.contents c.erase_blocks.new.flash) rest_place rest_len (c.erase_blocks.ensures.held tells)))

pub returns-clause-left : goal.returns-clause-left
returns-clause-left g c tells =
    let F = g.F.Flash in
    let s = geometry c.args.shape in
    let k = c.args.area in
    let x = F.contents c.args.flash.now in
    let mid = F.contents c.erase.new.self in
    let z = c.requires.block_size in
    let place : c.journal_block-first.result * s.block_len ≡ journal_place s k = c.journal_block-first.ensures.value in
    let here = λ (Q : ℕ → ℕ → ℕ → Type 0) (y : List ℕ) (h : Changes (c.journal_block-first.result * F.block_len c.args.flash.now) (F.block_len c.args.flash.now) Q x y).
    changes_moved _ (journal_place s k) _ s.block_len Q x y (ap (λ (w : ℕ). c.journal_block-first.result * w) z ∙ place) z h in
    let first : Changes (journal_place s k) s.block_len IsErased x mid = here IsErased mid (c.in_ok-erase.ensures.done tells) in
    let next : F.block_len c.erase.new.self ≡ s.block_len = c.erase.ensures.block_size ∙ z in
    let bytes = g.met.F.Flash.are_bytes tells c.args.flash.now in
    let mid_bytes = g.met.F.Flash.are_bytes tells c.erase.new.self in
    let rest_place : (c.journal_block-first.result + 1) * F.block_len c.erase.new.self ≡ journal_place s k + s.block_len =
    let split : (c.journal_block-first.result + 1) * s.block_len ≡ journal_place s k + s.block_len = omega (arith, place) in ap (λ (w : ℕ). (c.journal_block-first.result + 1) * w) next ∙ split in
    let rest_len : (c.journal_blocks-rest.result - 1) * F.block_len c.erase.new.self ≡ journal_len s - s.block_len =
    ap (λ (w : ℕ). (c.journal_blocks-rest.result - 1) * w) next ∙ (ap (λ (n : ℕ). (n - 1) * s.block_len) c.journal_blocks-rest.ensures.value ∙ rest_of_journal s c.requires.limits) in
    let P = CutsJournal s k x in
    let start = started F.moment F.left_since c.args.flash.now P
    (λ y left. subst P (sym (g.met.F.Flash.only_now c.args.flash.now y left)) (inl (changes_same _ _ IsRaised x (λ k a. omega arith)))) in
    let one = goes_on F.moment F.left_since c.args.flash.now c.args.flash.now c.erase.new.self P _ start c.erase.ensures.time
    (λ y. ⊎_elim (λ torn. inl (torn_above _ _ x y (here IsTornErase y torn))) (λ is. subst P (sym is) (inr (first_gone_same s c.requires.limits c.requires.room k x mid bytes mid_bytes first)))) in
    let two = weaker F.moment F.left_since c.erase.new.self c.erase_blocks.new.flash _ P
    (λ y changes. inr (first_gone s c.requires.limits c.requires.room k x mid y bytes mid_bytes first (changes_moved _ _ _ _ IsRaised mid y rest_place rest_len changes)))
    (c.erase_blocks.ensures.left tells) in
    joined F.moment F.left_since c.args.flash.now c.erase.new.self c.erase_blocks.new.flash P one two
