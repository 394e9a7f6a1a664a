use Rattle.std.proofs.Common.{◌≡◌, ℕ, eqb, false, List, [], get_or, ap, arith}
use Rattle.std.proofs.lemmas.List.{nil_from_length}
use Rattle.ssu_route.proofs.ControlTable.{no_dii, no_dsi}
use Rattle.ssu_route.proofs.kept.is_control.Goals as goal

empty : (section : List ℕ) → section ≡ [] → eqb (get_or section 0 0) 59 ≡ false
empty section e = ap (λ (s : List ℕ). eqb (get_or s 0 0) 59) e

pub returns-in-empty-clause-dsi : goal.returns-in-empty-clause-dsi
returns-in-empty-clause-dsi c = λ _. no_dsi c.args.section.now (empty c.args.section.now (nil_from_length c.args.section.now (omega arith)))

pub returns-in-empty-clause-dii : goal.returns-in-empty-clause-dii
returns-in-empty-clause-dii c = λ _. no_dii c.args.section.now (empty c.args.section.now (nil_from_length c.args.section.now (omega arith)))

pub returns-in-len1-up-clause-dsi : goal.returns-in-len1-up-clause-dsi
returns-in-len1-up-clause-dsi c = λ e. no_dsi c.args.section.now e

pub returns-in-len1-up-clause-dii : goal.returns-in-len1-up-clause-dii
returns-in-len1-up-clause-dii c = λ e. no_dii c.args.section.now e
