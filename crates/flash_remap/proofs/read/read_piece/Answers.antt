use Rattle.std.proofs.Common.{◌≡◌, ◌+◌, ◌*◌, ◌≤◌, ℕ, List, length, drop, sym, subst, ◌∙◌, arith, rules}
use Rattle.flash_dev.specs.Changes.{Holds}
use Rattle.flash_remap.specs.Logical.{logical}
use Rattle.flash_remap.specs.Map.{place_of}
use Rattle.flash_remap.specs.Shape.{geometry}
use Rattle.flash_remap.proofs.ReadLemmas.{logical_read, take_front}
use Rattle.flash_remap.proofs.RemapLemmas.{place_below}
use Rattle.flash_remap.proofs.read.read_piece.Goals as goal

pub place-place-requires-clause-block : goal.place-place-requires-clause-block
place-place-requires-clause-block g c =
    let G = geometry c.args.layout in
    let below = place_below G c.args.entries.now c.parts-block.result.0 c.args.layout.spares c.requires.below c.parts-block.ensures.block in
    omega (arith, c.place_among.ensures, below)

pub returns-clause-bytes : goal.returns-clause-bytes
returns-clause-bytes g c tells =
    let F = g.F.Flash in
    let G = geometry c.args.layout in
    let z = c.args.layout.block_size in
    let n = c.min-n.result in
    let x = F.contents c.args.inner.now in
    let given = c.read.new.buf in
    let block = c.parts-block.result.0 in
    let within = c.parts-block.result.1 in
    let from = c.place_among.result in
    let stands : place_of G x block ≡ from = sym (c.requires.stands tells block c.parts-block.ensures.block) ∙ sym c.place_among.ensures in
    let size : length given ≡ n = search rules in
    let fits : within + n ≤ z = search rules in
    let held : Holds x (from * z + within) given = subst (λ (p : ℕ). Holds x p given) c.place-place.ensures.value (c.in_ok-read.ensures.bytes tells) in
    let seen : Holds (logical G x) c.args.at given =
    subst (λ (p : ℕ). Holds (logical G x) p given) (sym c.parts-block.ensures.is) (logical_read G x given block from within n c.parts-block.ensures.block fits stands size held) in
    subst (λ (bytes : List ℕ). Holds (logical G x) c.args.at bytes) (sym (take_front n given (drop n c.args.buf.now) size)) seen
