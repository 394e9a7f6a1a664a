use Rattle.std.proofs.Common.{◌≡◌, ℕ, ◌+◌, ◌-◌, ◌≤◌, List, ◌++◌, length, take, ap, sym, arith, ◌∙◌, length-append}
use Rattle.std.proofs.lemmas.List.{length-take-le, take-append-le}
use Rattle.std.proofs.Math.Seq.{take-append-add}
use borrow.Rule.Slice.PartMut.{put_mid, post_of}
use Rattle.ssu_io.proofs.BytesLemmas.{Takes_join}
use Rattle.ts_input.proofs.fill.fill.Goals as goal

-- what is in front after a write behind it
take_more : (at n k : ℕ) (xs ys : List ℕ) → at ≤ length xs → n ≤ length ys → take (at + n) (put_mid at k xs ys) ≡ take at xs ++ take n ys
take_more at n k xs ys inside within =
    let front = take at xs in
    let behind = ys ++ post_of at k xs in
    ap (λ (m : ℕ). take (m + n) (front ++ behind)) (sym (length-take-le at xs inside))
    ∙ take-append-add front behind n
    ∙ ap (λ (more : List ℕ). front ++ more) (take-append-le n ys (post_of at k xs) within)

-- what is in front is no longer than what is there
long_more : (at n k : ℕ) (xs ys : List ℕ) → at ≤ length xs → n ≤ length ys → at + n ≤ length (put_mid at k xs ys)
long_more at n k xs ys inside within =
    let rest = post_of at k xs in
    omega (arith, length-append (take at xs) (ys ++ rest), length-append ys rest, length-take-le at xs inside)

pub loop-at-preserved : goal.loop-at-preserved
loop-at-preserved g c =
    let at = c.loop-at.at in
    let n = c.in_ok-n.n in
    let buf = c.loop-at.buf in
    let given = c.take.new.buf in
    let kept = c.loop-at.invariant in
    let left = g.A.Source.left in
    let taken = Takes_join (left c.args.air.now) (left c.loop-at.air) (left c.take.new.self) (take at buf) (take n given) kept.taken c.in_ok-n.ensures.taken in
    record {
      within = long_more at n (length buf - at) buf given kept.within c.in_ok-n.ensures.within;
      taken = rw (take_more at n (length buf - at) buf given kept.within c.in_ok-n.ensures.within) taken;
      later = omega (arith, c.in_ok-n.ensures.cause.later, kept.later);
    }
