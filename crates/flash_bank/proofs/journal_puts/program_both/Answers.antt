use Rattle.std.proofs.Common.{◌≡◌, inl, inr, ℕ, List, ◌+◌, ◌*◌, ◌∙◌, arith}
use Rattle.flash_dev.proofs.Moments.{joined, weaker}
use Rattle.flash_bank.specs.Journal.{CutsPut}
use Rattle.flash_bank.proofs.PutLemmas.{puts}
use Rattle.flash_bank.proofs.journal_puts.program_both.Goals as goal

pub program_pieces-requires-2-clause-inside : goal.program_pieces-requires-2-clause-inside
program_pieces-requires-2-clause-inside g c =
    let F = g.F.Flash in
    let total : F.block_count c.program_pieces.new.flash * F.block_len c.program_pieces.new.flash ≡ F.block_count c.args.flash.now * F.block_len c.args.flash.now =
    (λ i. c.program_pieces.ensures.blocks i * c.program_pieces.ensures.block_size i) in
    omega (arith, total, c.requires.inside, c.requires.apart)

pub program_pieces-requires-2-clause-addressable : goal.program_pieces-requires-2-clause-addressable
program_pieces-requires-2-clause-addressable g c = omega (arith, c.requires.addressable, c.requires.apart)

pub program_pieces-requires-2-clause-blank : goal.program_pieces-requires-2-clause-blank
program_pieces-requires-2-clause-blank g c tells k lt =
    (c.in_ok-program_pieces.ensures.done tells).before (c.args.next + k) (omega (arith, c.requires.apart, lt)) ∙ c.requires.next_blank tells k lt

pub returns-in_err-program_pieces-clause-held : goal.returns-in_err-program_pieces-clause-held
returns-in_err-program_pieces-clause-held g c tells = inl (c.program_pieces.ensures.held tells)

pub returns-in_err-program_pieces-clause-left : goal.returns-in_err-program_pieces-clause-left
returns-in_err-program_pieces-clause-left g c tells =
    let F = g.F.Flash in
    weaker F.moment F.left_since c.args.flash.now c.program_pieces.new.flash _ (CutsPut c.args.at c.args.bytes.now c.args.next c.args.more.now (F.contents c.args.flash.now))
    (λ y h. inl h) (c.program_pieces.ensures.left tells)

pub returns-in_err-program_pieces-2-clause-held : goal.returns-in_err-program_pieces-2-clause-held
returns-in_err-program_pieces-2-clause-held g c tells =
    inr (record { between = g.F.Flash.contents c.program_pieces.new.flash; first = c.in_ok-program_pieces.ensures.done tells; second = c.program_pieces-2.ensures.held tells })

pub returns-in_err-program_pieces-2-clause-left : goal.returns-in_err-program_pieces-2-clause-left
returns-in_err-program_pieces-2-clause-left g c tells =
    let F = g.F.Flash in
    let P : List ℕ → Type 0 = CutsPut c.args.at c.args.bytes.now c.args.next c.args.more.now (F.contents c.args.flash.now) in
    joined F.moment F.left_since c.args.flash.now c.program_pieces.new.flash c.program_pieces-2.new.flash P
    (weaker F.moment F.left_since c.args.flash.now c.program_pieces.new.flash _ P (λ y h. inl h) (c.program_pieces.ensures.left tells))
    (weaker F.moment F.left_since c.program_pieces.new.flash c.program_pieces-2.new.flash _ P
    (λ y h. inr (record { between = F.contents c.program_pieces.new.flash; first = c.in_ok-program_pieces.ensures.done tells; second = h })) (c.program_pieces-2.ensures.left tells))

pub returns-clause-done : goal.returns-clause-done
returns-clause-done g c tells =
    let F = g.F.Flash in
    puts c.args.at c.args.bytes.now c.args.next c.args.more.now (F.contents c.args.flash.now) (F.contents c.program_pieces-2.new.flash) c.requires.apart
    (F.contents c.program_pieces.new.flash) (c.in_ok-program_pieces.ensures.done tells) (c.in_ok-program_pieces-2.ensures.done tells)

pub returns-clause-held : goal.returns-clause-held
returns-clause-held g c tells =
    inr (record { between = g.F.Flash.contents c.program_pieces.new.flash; first = c.in_ok-program_pieces.ensures.done tells; second = c.program_pieces-2.ensures.held tells })

pub returns-clause-left : goal.returns-clause-left
returns-clause-left g c tells =
    let F = g.F.Flash in
    let P : List ℕ → Type 0 = CutsPut c.args.at c.args.bytes.now c.args.next c.args.more.now (F.contents c.args.flash.now) in
    joined F.moment F.left_since c.args.flash.now c.program_pieces.new.flash c.program_pieces-2.new.flash P
    (weaker F.moment F.left_since c.args.flash.now c.program_pieces.new.flash _ P (λ y h. inl h) (c.program_pieces.ensures.left tells))
    (weaker F.moment F.left_since c.program_pieces.new.flash c.program_pieces-2.new.flash _ P
    (λ y h. inr (record { between = F.contents c.program_pieces.new.flash; first = c.in_ok-program_pieces.ensures.done tells; second = h })) (c.program_pieces-2.ensures.left tells))
