use Rattle.std.proofs.Common.{◌≡◌, Some, sym, ◌∙◌, arith}
use Rattle.ssu_group.specs.Place.{place_at}
use Rattle.flash_journal.proofs.PlanLaws.{below_places, own_place_of}
use Rattle.flash_journal.proofs.places.place_with.Goals as goal

pub returns-then-from-range-clause-found : goal.returns-then-from-range-clause-found
returns-then-from-range-clause-found c =
    let plan = c.args.plan.now in
    let n = c.loop-number.number in
    let p = c.in-Some.place in
    let e : place_at plan.block_size plan.modules.items n ≡ Some p = sym c.nth_place.ensures ∙ c.in-Some.is in
    let at : p.at ≡ c.args.range.at = cc in
    let len : p.len ≡ c.args.range.len = cc in
    (own_place_of plan n p e, at, len)

pub returns-clause-none : goal.returns-clause-none
returns-clause-none c n p e at len =
    let below = below_places c.args.plan.now n p e in
    c.loop-number.invariant.none n p (omega (arith, below, c.loop-number-test.false)) e at len
