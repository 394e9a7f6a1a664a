use Rattle.std.proofs.Common.{◌≡◌, ◌++◌, [], ◌∷◌, eqb, true, take, eq-eqb}
use Rattle.std.specs.Prelude.{map}
use Rattle.ssu_unt.specs.Descriptors.{window_of}
use Rattle.ssu_unt.specs.Targeting.{windows_of, with_tag}
use Rattle.ssu_unt.proofs.Keeping.{kept_more}
use Rattle.ssu_unt.proofs.targeting.windows_of.Goals as goal

pub loop-desc-preserved-then-desc-eq-SCHEDULING : goal.loop-desc-preserved-then-desc-eq-SCHEDULING
loop-desc-preserved-then-desc-eq-SCHEDULING c =
    let is : eqb c.in-Some.desc.tag 1 ≡ true = eq-eqb _ _ c.if-desc-eq-SCHEDULING.true in
    let before : take 4 (c.loop-desc.windows.items ++ map (λ d. window_of d.body) (with_tag 1 c.loop-desc.desc-iterator)) ≡ windows_of c.args.common.now c.args.operational.now = c.loop-desc.invariant.0 in
    let now = rw (c.in-Some.ensures.steps, is, ← c.window_of.ensures) at before in
    (kept_more 4 _ _ (c.window_of.result ∷ []) _ _ c.add_window.ensures.windows now, c.add_window.ensures.fit)
