use Rattle.std.proofs.Common.{◌≡◌, ◌*◌, List, ℕ, length, ap, sym, ◌∙◌, subst, arith}
use Rattle.flash_layout.specs.Layout.{journal_place}
use Rattle.flash_layout.specs.Pairs.{part, word_at}
use Rattle.flash_layout.specs.Shape.{geometry}
use Rattle.flash_layout.proofs.Places.{marks_before_slots, slots_before_end}
use Rattle.flash_bank.specs.Scan.{HasHeader}
use Rattle.flash_bank.proofs.ScanLemmas.{header_from, header_to, number_held}
use Rattle.flash_bank.proofs.find.read_journal.Goals as goal
use Rattle.std.specs.Prelude.{IfSome}

pub header_in-requires-clause-inside : goal.header_in-requires-clause-inside
header_in-requires-clause-inside g c =
    let F = g.F.Flash in
    let s = geometry c.args.shape in
    let one : F.block_count c.is_settled.new.flash ≡ c.args.shape.blocks = c.is_settled.ensures.reads.blocks ∙ sym c.requires.blocks in
    let two : F.block_len c.is_settled.new.flash ≡ c.args.shape.block_size = c.is_settled.ensures.reads.block_size ∙ sym c.requires.block_size in
    let total : F.block_count c.is_settled.new.flash * F.block_len c.is_settled.new.flash ≡ c.args.shape.blocks * c.args.shape.block_size = (λ i. one i * two i) in
    omega (arith, total, c.journal_place.ensures.inside, marks_before_slots s c.requires.limits, slots_before_end s c.requires.limits)

pub header_in-requires-clause-whole : goal.header_in-requires-clause-whole
header_in-requires-clause-whole g c tells =
    let F = g.F.Flash in
    let one : F.block_count c.is_settled.new.flash ≡ c.args.shape.blocks = c.is_settled.ensures.reads.blocks ∙ sym c.requires.blocks in
    let two : F.block_len c.is_settled.new.flash ≡ c.args.shape.block_size = c.is_settled.ensures.reads.block_size ∙ sym c.requires.block_size in
    let total : F.block_count c.is_settled.new.flash * F.block_len c.is_settled.new.flash ≡ c.args.shape.blocks * c.args.shape.block_size = (λ i. one i * two i) in
    ap length (c.is_settled.ensures.reads.same tells) ∙ (c.requires.whole tells ∙ sym total)

pub returns-clause-found : goal.returns-clause-found
returns-clause-found g c tells =
    let F = g.F.Flash in
    let s = geometry c.args.shape in
    let k = c.args.area in
    let old = F.contents c.args.flash.now in
    let same : F.contents c.is_settled.new.flash ≡ old = c.is_settled.ensures.reads.same tells in
    let place = c.journal_place.ensures.value in
    let here = λ (h : HasHeader (F.contents c.is_settled.new.flash) c.journal_place.result).
    subst (HasHeader old) place (subst (λ (l : List ℕ). HasHeader l c.journal_place.result) same h) in
    let back = λ (h : HasHeader old (journal_place s k)). subst (λ (l : List ℕ). HasHeader l c.journal_place.result) (sym same) (subst (HasHeader old) (sym place) h) in
    let header = c.in_ok-number.ensures.found tells in
    let number = subst (λ (p : ℕ). IfSome c.in_ok-number.number (λ n. n ≡ word_at (part old p 32) 4)) place
    (subst (λ (l : List ℕ). IfSome c.in_ok-number.number (λ n. n ≡ word_at (part l c.journal_place.result 32) 4)) same (c.in_ok-number.ensures.number tells)) in
    record {
      settled = c.in_ok-settled.ensures.found tells;
      header = (λ some. header_from s c.requires.limits old k (here (header.0 some)), λ has. header.1 (back (header_to s c.requires.limits old k has)));
      number = number_held s c.requires.limits old k c.in_ok-number.number number;
    }
