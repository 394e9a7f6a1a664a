use Rattle.std.proofs.Common.{◌≡◌, ℕ, Bool, List, ◌<◌, ◌+◌, ◌++◌, ◌∙◌, ap, arith, set, get_or, take, drop, length}
use Rattle.std.specs.Prelude.{map}
use Rattle.std.proofs.lemmas.List.{get_or_default}
use Rattle.std.proofs.lemmas.List.Edits.{map_over_more}
use Rattle.ssu_route.specs.declared.found.Found.{Found}
use Rattle.ssu_route.specs.Kept.{mark_if}
use Rattle.ssu_route.proofs.found.mark.Goals as goal

one_more : (group : ℕ) (usable : Bool) (xs ys : List Found) (i : ℕ) (d v : Found) → i < length xs → length ys ≡ length xs →
    ys ≡ map (mark_if group usable) (take i xs) ++ drop i xs → v ≡ mark_if group usable (get_or ys i d) →
    set ys i v ≡ map (mark_if group usable) (take (i + 1) xs) ++ drop (i + 1) xs
one_more group usable xs ys i d v l same before e =
    let m : i < length ys = omega arith in
    ap (set ys i) e ∙ map_over_more (mark_if group usable) xs ys i (get_or ys i d) l before (get_or_default ys i d (get_or ys i d) m)

pub loop-found-preserved : goal.loop-found-preserved
loop-found-preserved c =
    one_more c.args.group c.args.usable c.deref_mut-found-items.result.now c.loop-found.found-items c.loop-found.found-index _ c.marked.result
    c.loop-found-test.true c.loop-found.auto.found-items c.loop-found.invariant c.marked.ensures
