use Rattle.std.proofs.Common.{◌≡◌, ℕ, ◌<◌, ◌≤◌, ◌∙◌, eqb, false, sym, arith}
use Rattle.std.proofs.lemmas.Bool.{eqb-true}
use Rattle.std.proofs.lemmas.Bool.Decides.{nat_tests}
use Rattle.ssu_unt.proofs.Keeping.{kept_full, kept_room}
use Rattle.ssu_unt.proofs.targeting.add_entry.Goals as goal

pub returns-then-is_full-clause-entries : goal.returns-then-is_full-clause-entries
returns-then-is_full-clause-entries c = kept_full 32 _ _ (eqb-true _ _ (sym c.if-is_full.ensures.value))

below : (n : ℕ) → n ≤ 32 → eqb n 32 ≡ false → n < 32
below n le ne = grind (arith, nat_tests)

pub returns-clause-entries : goal.returns-clause-entries
returns-clause-entries c =
    c.push.ensures.items ∙ kept_room 32 _ _ (below _ c.requires (sym c.if-is_full.ensures.value))
