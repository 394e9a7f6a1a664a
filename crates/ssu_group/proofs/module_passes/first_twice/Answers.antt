use Rattle.std.proofs.Common.{◌≡◌, ℕ, List, true, eqb, refl, sym, subst}
use Rattle.std.specs.List.{list_any}
use Rattle.ssu_group.specs.Refusal.{first_twice}
use Rattle.ssu_group.proofs.module_passes.first_twice.Goals as goal

pub returns-then-contains : goal.returns-then-contains
unfolding first_twice
returns-then-contains c =
    let is : list_any (λ id. eqb id c.in-Some.module.id) c.loop-module.earlier.items ≡ true =
    subst (λ (ids : List ℕ). list_any (λ id. eqb id c.in-Some.module.id) ids ≡ true) c.deref.ensures.0 (sym c.if-contains.ensures.value) in
    rw (← c.loop-module.invariant.same, c.in-Some.ensures.steps, is) refl
