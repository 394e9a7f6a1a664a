use Rattle.std.proofs.Common.{◌≡◌, eqb, true, eq-eqb, refl}
use Rattle.std.specs.List.{find}
use Rattle.si_desc.specs.Descriptors.{first_body, whole_descriptors}
use Rattle.si_desc.proofs.rows.first.Goals as goal

pub returns-then-desc-tag : goal.returns-then-desc-tag
unfolding first_body
returns-then-desc-tag c =
    let same : find (λ d. eqb d.tag c.args.tag) (whole_descriptors c.loop-desc.desc-iterator) ≡ find (λ d. eqb d.tag c.args.tag) (whole_descriptors c.args.row.now) = c.loop-desc.invariant in
    let is : eqb c.in-Some.desc.tag c.args.tag ≡ true = eq-eqb _ _ c.if-desc-tag.true in
    rw (← same, c.in-Some.ensures.steps, is) refl
