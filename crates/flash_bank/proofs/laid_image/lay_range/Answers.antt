use Rattle.std.proofs.Common.{◌≡◌, ◌⊎◌, inl, inr, ⊎_elim, ◌+◌, ℕ, length, arith}
use Rattle.std.proofs.lemmas.Bool.{cases_lt}
use Rattle.flash_bank.proofs.ClearLemmas.{on_ok_map}
use Rattle.flash_bank.proofs.OverlayLemmas.{lays_common, lays_nothing}
use Rattle.flash_bank.proofs.ReadsLemmas.{reads_none}
use Rattle.flash_bank.proofs.laid_image.lay_range.Goals as goal

pub returns-then-from-to-clause-lays : goal.returns-then-from-to-clause-lays
returns-then-from-to-clause-lays g c tells =
    let at : ℕ = c.args.at in
    let slot = c.args.slot in
    let from : ℕ = c.max-from.result in
    let to : ℕ = c.min-to.result in
    let begins : (from ≡ slot.at) ⊎ (from ≡ at) = ⊎_elim (λ lt. inr (omega (arith, lt))) (λ le. inl (omega (arith, le))) (cases_lt slot.at at) in
    let ends : (to ≡ slot.at + slot.len) ⊎ (to ≡ at + length c.args.piece.now) =
    ⊎_elim (λ lt. inl (omega (arith, lt))) (λ le. inr (omega (arith, le))) (cases_lt (slot.at + slot.len) (at + length c.args.piece.now)) in
    on_ok_map c.read_part.result _ _
    (λ changes. lays_common (g.F.Flash.contents c.args.flash.now) c.args.bytes at from to slot c.args.piece.now c.read_part.new.piece (omega arith) (omega arith) begins ends (omega arith) (omega arith) (omega (arith, c.if-from-to.true)) changes)
    (c.read_part.ensures.bytes tells)

pub returns-else-from-to-clause-lays : goal.returns-else-from-to-clause-lays
returns-else-from-to-clause-lays g c tells =
    let at : ℕ = c.args.at in
    let slot = c.args.slot in
    let from : ℕ = c.max-from.result in
    let to : ℕ = c.min-to.result in
    let n : ℕ = length c.args.piece.now in
    let begins : (from ≡ slot.at) ⊎ (from ≡ at) = ⊎_elim (λ lt. inr (omega (arith, lt))) (λ le. inl (omega (arith, le))) (cases_lt slot.at at) in
    let ends : (to ≡ slot.at + slot.len) ⊎ (to ≡ at + n) = ⊎_elim (λ lt. inl (omega (arith, lt))) (λ le. inr (omega (arith, le))) (cases_lt (slot.at + slot.len) (at + n)) in
    lays_nothing (g.F.Flash.contents c.args.flash.now) c.args.bytes at slot c.args.piece.now
    (⊎_elim
    (λ first. ⊎_elim (λ last. inr (inl (omega (arith, first, last, c.if-from-to.false)))) (λ last. inl (inr (omega (arith, first, last, c.if-from-to.false)))) ends)
    (λ first. ⊎_elim (λ last. inl (inl (omega (arith, first, last, c.if-from-to.false)))) (λ last. inr (inr (omega (arith, first, last, c.if-from-to.false)))) ends)
    begins)

pub returns-else-from-to-clause-reads : goal.returns-else-from-to-clause-reads
returns-else-from-to-clause-reads g c =
    let F = g.F.Flash in
    reads_none F.tells F.contents F.block_count F.block_len F.moment F.left_since c.args.flash.now (g.met.F.Flash.only_now c.args.flash.now)
