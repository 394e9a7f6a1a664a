use Rattle.std.proofs.Common.{◌≡◌, ◌+◌, ◌≤◌, ℕ, List, [], cond, length, ap, sym, subst, ◌∙◌, arith, rules}
use Rattle.flash_dev.specs.Changes.{Holds}
use Rattle.flash_remap.specs.Entry.{entry_in}
use Rattle.flash_remap.specs.Layout.{slot_place}
use Rattle.flash_remap.specs.Map.{IsNextOf, counting_before, is_blank, next_slot_before, with_next}
use Rattle.flash_remap.specs.Shape.{geometry}
use Rattle.flash_remap.specs.declared.entry.Entry.{Entry}
use Rattle.flash_remap.proofs.FillLemmas.{same_product}
use Rattle.flash_remap.proofs.MapLemmas.{next_none}
use Rattle.flash_remap.proofs.NextLemmas.{cond_most, counting_step, next_step, none_counting, none_used}
use Rattle.flash_remap.proofs.ReadLemmas.{reads_joined, reads_none, reads_one, slot_read}
use Rattle.flash_remap.proofs.map.read_map.Goals as goal

pub read-requires : goal.read-requires
read-requires g c =
    let kept = c.loop-slot.invariant in
    let product = same_product _ _ _ _ (kept.reads.blocks ∙ c.requires.blocks) (kept.reads.block_size ∙ c.requires.block_size) in
    omega (arith, product, c.slot_place.ensures.inside)

pub loop-slot-preserved : goal.loop-slot-preserved
loop-slot-preserved g c =
    let F = g.F.Flash in
    let G = geometry c.args.layout in
    let x = F.contents c.args.inner.now in
    let kept = c.loop-slot.invariant in
    let slot = c.loop-slot.slot in
    let bytes = c.read.new.buf in
    let size : length bytes ≡ 16 = search rules in
    let product = same_product _ _ _ _ c.requires.blocks c.requires.block_size in
    let fits = λ (tells : F.tells). let whole : slot_place G slot + 16 ≤ length x = omega (arith, c.slot_place.ensures.value, c.slot_place.ensures.inside, c.requires.whole tells, product) in whole in
    let is = λ (tells : F.tells). slot_read G x bytes slot size (fits tells)
    (subst (λ (p : ℕ). Holds x p bytes) c.slot_place.ensures.value (subst (λ (y : List ℕ). Holds y c.slot_place.result bytes) (kept.reads.same tells) (c.in_ok-read.ensures.bytes tells))) in
    record {
      entries = λ tells. c.take.ensures.entries
          ∙ (ap (λ (es : List Entry). with_next G es (entry_in bytes)) (kept.entries tells)
          ∙ (ap (λ (s : List ℕ). with_next G (counting_before G x slot) (entry_in s)) (sym (is tells)) ∙ sym (counting_step G x slot)));
      used = λ tells. c.take.ensures.slot
          ∙ (ap (λ (n : ℕ). cond (is_blank bytes) n (slot + 1)) (kept.used tells)
          ∙ (ap (λ (s : List ℕ). cond (is_blank s) (next_slot_before G x slot) (slot + 1)) (sym (is tells)) ∙ sym (next_step G x slot)));
      next_is = c.take.ensures.next_is;
      few = c.take.ensures.few;
      most_spare = c.take.ensures.most;
      most_slot = subst (λ (n : ℕ). n ≤ slot + 1) (sym c.take.ensures.slot) (cond_most (is_blank bytes) c.loop-slot.found.next.slot (slot + 1) (slot + 1) (omega (arith, kept.most_slot)) (omega arith));
      reads = reads_joined F c.args.inner.now c.loop-slot.inner c.read.new.self kept.reads
          (reads_one F c.loop-slot.inner c.read.new.self (g.met.F.Flash.only_now c.loop-slot.inner) c.read.ensures.same c.read.ensures.blocks c.read.ensures.block_size c.read.ensures.time c.read.ensures.halt);
      later = omega (arith, kept.later, c.read.ensures.cause.later);
    }

pub loop-slot-init : goal.loop-slot-init
loop-slot-init g c =
    let F = g.F.Flash in
    let G = geometry c.args.layout in
    let x = F.contents c.args.inner.now in
    let none : c.new.result.items ≡ [] = search rules in
    record {
      entries = λ tells. none ∙ sym (none_counting G x);
      used = λ tells. sym (none_used G x);
      next_is = subst (λ (es : List Entry). IsNextOf es 0) (sym none) next_none;
      few = omega (arith, ap length none);
      most_spare = omega arith;
      most_slot = omega arith;
      reads = reads_none F c.args.inner.now (g.met.F.Flash.only_now c.args.inner.now);
      later = omega arith;
    }

pub returns-in_err-read-clause-reads : goal.returns-in_err-read-clause-reads
returns-in_err-read-clause-reads g c =
    let F = g.F.Flash in
    reads_joined F c.args.inner.now c.loop-slot.inner c.read.new.self c.loop-slot.invariant.reads
    (reads_one F c.loop-slot.inner c.read.new.self (g.met.F.Flash.only_now c.loop-slot.inner) c.read.ensures.same c.read.ensures.blocks c.read.ensures.block_size c.read.ensures.time c.read.ensures.halt)
