use Rattle.std.proofs.Common.{sym}
use Rattle.std.proofs.lemmas.Bool.{eqb-true}
use Rattle.ssu_unt.proofs.Keeping.{kept_full}
use Rattle.ssu_unt.proofs.targeting.add_window.Goals as goal

pub returns-then-is_full-clause-windows : goal.returns-then-is_full-clause-windows
returns-then-is_full-clause-windows c = kept_full 4 _ _ (eqb-true _ _ (sym c.if-is_full.ensures.value))
