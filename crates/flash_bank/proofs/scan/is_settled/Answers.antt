use Rattle.std.specs.Prelude.{false}
use Rattle.std.proofs.Common.{◌≡◌, ◌+◌, ◌*◌, List, ℕ, subst, ap, sym, ◌∙◌, arith}
use Rattle.flash_layout.specs.Layout.{journal_place, mark_count, slots_at}
use Rattle.flash_bank.specs.Scan.{AreHeads, ArePairs}
use Rattle.flash_layout.specs.Shape.{geometry}
use Rattle.flash_layout.proofs.Places.{marks_before_slots, slots_before_end}
use Rattle.flash_bank.proofs.ScanLemmas.{settled_fixed, settled_from, settled_heads, settled_rest}
use Rattle.flash_bank.proofs.scan.is_settled.Goals as goal

pub scan_pairs-requires-clause-inside : goal.scan_pairs-requires-clause-inside
scan_pairs-requires-clause-inside g c =
    let F = g.F.Flash in
    let s = geometry c.args.shape in
    let total : F.block_count c.args.flash.now * F.block_len c.args.flash.now ≡ c.args.shape.blocks * c.args.shape.block_size = (λ i. c.requires.blocks i * c.requires.block_size i) in
    omega (arith, total, c.journal_place-place.ensures.inside, slots_before_end s c.requires.limits)

pub scan_pairs-requires-2-clause-inside : goal.scan_pairs-requires-2-clause-inside
scan_pairs-requires-2-clause-inside g c =
    let F = g.F.Flash in
    let s = geometry c.args.shape in
    let total : F.block_count c.args.flash.now * F.block_len c.args.flash.now ≡ c.args.shape.blocks * c.args.shape.block_size = (λ i. c.requires.blocks i * c.requires.block_size i) in
    let count : F.block_count c.scan_pairs.new.flash * F.block_len c.scan_pairs.new.flash ≡ F.block_count c.args.flash.now * F.block_len c.args.flash.now = (λ i. c.scan_pairs.ensures.reads.blocks i * c.scan_pairs.ensures.reads.block_size i) in
    omega (arith, count, total, c.journal_place-place.ensures.inside, c.mark_count.ensures.value, marks_before_slots s c.requires.limits, slots_before_end s c.requires.limits)

pub scan_heads-requires-clause-inside : goal.scan_heads-requires-clause-inside
scan_heads-requires-clause-inside g c =
    let F = g.F.Flash in
    let s = geometry c.args.shape in
    let total : F.block_count c.args.flash.now * F.block_len c.args.flash.now ≡ c.args.shape.blocks * c.args.shape.block_size = (λ i. c.requires.blocks i * c.requires.block_size i) in
    let count : F.block_count c.scan_pairs.new.flash * F.block_len c.scan_pairs.new.flash ≡ F.block_count c.args.flash.now * F.block_len c.args.flash.now = (λ i. c.scan_pairs.ensures.reads.blocks i * c.scan_pairs.ensures.reads.block_size i) in
    let more : F.block_count c.scan_pairs-2.new.flash * F.block_len c.scan_pairs-2.new.flash ≡ F.block_count c.scan_pairs.new.flash * F.block_len c.scan_pairs.new.flash = (λ i. c.scan_pairs-2.ensures.reads.blocks i * c.scan_pairs-2.ensures.reads.block_size i) in
    omega (arith, more, count, total, c.journal_place-place.ensures.inside, c.slots_at.ensures.value, slots_before_end s c.requires.limits)

pub returns-clause-found : goal.returns-clause-found
returns-clause-found g c tells =
    let F = g.F.Flash in
    let s = geometry c.args.shape in
    let old = F.contents c.args.flash.now in
    let place = c.journal_place-place.ensures.value in
    let one_same : F.contents c.scan_pairs.new.flash ≡ old = c.scan_pairs.ensures.reads.same tells in
    let two_same : F.contents c.scan_pairs-2.new.flash ≡ old = c.scan_pairs-2.ensures.reads.same tells ∙ one_same in
    let count : 4096 + c.mark_count.result ≡ 4096 + mark_count s = ap (λ (n : ℕ). 4096 + n) c.mark_count.ensures.value in
    let first = c.in_ok-fixed.ensures.found tells in
    let second = c.in_ok-rest.ensures.found tells in
    let third = c.in_ok-heads.ensures.found tells in
    let a = λ (h : ArePairs false old c.journal_place-place.result 16). subst (λ (p : ℕ). ArePairs false old p 16) place h in
    let a_back = λ (h : ArePairs false old (journal_place s c.args.area) 16). subst (λ (p : ℕ). ArePairs false old p 16) (sym place) h in
    let b = λ (h : ArePairs false (F.contents c.scan_pairs.new.flash) (c.journal_place-place.result + 256) (4096 + c.mark_count.result)).
    subst (λ (n : ℕ). ArePairs false old (journal_place s c.args.area + 256) n) count (subst (λ (p : ℕ). ArePairs false old (p + 256) (4096 + c.mark_count.result)) place
    (subst (λ (l : List ℕ). ArePairs false l (c.journal_place-place.result + 256) (4096 + c.mark_count.result)) one_same h)) in
    let b_back = λ (h : ArePairs false old (journal_place s c.args.area + 256) (4096 + mark_count s)).
    subst (λ (l : List ℕ). ArePairs false l (c.journal_place-place.result + 256) (4096 + c.mark_count.result)) (sym one_same)
    (subst (λ (p : ℕ). ArePairs false old (p + 256) (4096 + c.mark_count.result)) (sym place) (subst (λ (n : ℕ). ArePairs false old (journal_place s c.args.area + 256) n) (sym count) h)) in
    let d = λ (h : AreHeads (F.contents c.scan_pairs-2.new.flash) (c.journal_place-place.result + c.slots_at.result) 16).
    subst (λ (n : ℕ). AreHeads old (journal_place s c.args.area + n) 16) c.slots_at.ensures.value (subst (λ (p : ℕ). AreHeads old (p + c.slots_at.result) 16) place
    (subst (λ (l : List ℕ). AreHeads l (c.journal_place-place.result + c.slots_at.result) 16) two_same h)) in
    let d_back = λ (h : AreHeads old (journal_place s c.args.area + slots_at s) 16).
    subst (λ (l : List ℕ). AreHeads l (c.journal_place-place.result + c.slots_at.result) 16) (sym two_same)
    (subst (λ (p : ℕ). AreHeads old (p + c.slots_at.result) 16) (sym place) (subst (λ (n : ℕ). AreHeads old (journal_place s c.args.area + n) 16) (sym c.slots_at.ensures.value) h)) in (
      λ yes. let all = c.all_three.ensures.0 yes in settled_from s c.requires.limits old c.args.area (a (first.0 all.0)) (b (second.0 all.1.0)) (d (third.0 all.1.1)),
      λ settled. c.all_three.ensures.1 (first.1 (a_back (settled_fixed s c.requires.limits old c.args.area settled)), (second.1 (b_back (settled_rest s c.requires.limits old c.args.area settled)), third.1 (d_back (settled_heads s c.requires.limits old c.args.area settled)))),
    )
