use Rattle.std.proofs.Common.{◌≡◌, ℕ, ◌<◌, ◌≤◌, ◌∙◌, eqb, false, sym, arith}
use Rattle.std.proofs.lemmas.Bool.{eqb-true}
use Rattle.std.proofs.lemmas.Bool.Decides.{nat_tests}
use Rattle.ssu_unt.proofs.Keeping.{kept_full, kept_room}
use Rattle.ssu_route.proofs.accept.add.Goals as goal

pub returns-then-is_full-clause-groups : goal.returns-then-is_full-clause-groups
returns-then-is_full-clause-groups c = kept_full 32 _ _ (eqb-true _ _ (sym c.if-is_full.ensures.value))

below : (n : ℕ) → n ≤ 32 → eqb n 32 ≡ false → n < 32
below n le ne = grind (arith, nat_tests)

pub returns-clause-groups : goal.returns-clause-groups
returns-clause-groups c =
    c.push.ensures.items ∙ kept_room 32 _ _ (below _ c.requires (sym c.if-is_full.ensures.value))
