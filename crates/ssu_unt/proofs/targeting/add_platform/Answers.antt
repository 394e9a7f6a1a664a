use Rattle.std.proofs.Common.{◌≡◌, ◌++◌, [], ◌∷◌, take, refl, sym, ◌∙◌, ap}
use Rattle.std.specs.Prelude.{map}
use Rattle.std.proofs.lemmas.List.{map-append, take-map}
use Rattle.wire.specs.Items.{items_of}
use Rattle.ssu_unt.specs.Table.{pair}
use Rattle.ssu_unt.specs.Targeting.{candidate, pairs_in, targets}
use Rattle.ssu_unt.specs.Views.{entry_view, me_view, pair_view, platform_view}
use Rattle.ssu_unt.proofs.Keeping.{kept_seen, kept_more, targets-cons}
use Rattle.ssu_unt.proofs.targeting.add_platform.Goals as goal

pub loop-pair-preserved-in-Some-entry_for : goal.loop-pair-preserved-in-Some-entry_for
loop-pair-preserved-in-Some-entry_for c =
    let me = me_view c.args.me.now in
    let compat = c.args.platform.now.compat in
    let before : take 32 (map entry_view c.loop-pair.entries.items ++ targets me c.args.common.now (map (candidate compat) (items_of pair c.loop-pair.pair-iterator))) ≡ take 32 (map entry_view c.args.entries.now.items ++ targets me c.args.common.now (pairs_in (platform_view c.args.platform.now))) = c.loop-pair.invariant.0 in
    let one = targets-cons me c.args.common.now (candidate compat (pair_view c.in-Some.pair)) (map (candidate compat) (items_of pair c.next.new.self)) in
    let is = c.in-Some-entry_for.ensures in
    let now = rw (c.in-Some.ensures.steps, one, ← is) at before in
    let new = ap (map entry_view) c.add_entry.ensures.entries ∙ sym (take-map entry_view 32 (c.loop-pair.entries.items ++ c.in-Some-entry_for.entry ∷ [])) ∙ ap (take 32) (map-append entry_view c.loop-pair.entries.items (c.in-Some-entry_for.entry ∷ [])) in
    (kept_more 32 _ _ (entry_view c.in-Some-entry_for.entry ∷ []) _ _ new now, c.add_entry.ensures.fit)

pub returns-clause-entries : goal.returns-clause-entries
returns-clause-entries c =
    let me = me_view c.args.me.now in
    let compat = c.args.platform.now.compat in
    let before : take 32 (map entry_view c.loop-pair.entries.items ++ targets me c.args.common.now (map (candidate compat) (items_of pair c.loop-pair.pair-iterator))) ≡ take 32 (map entry_view c.args.entries.now.items ++ targets me c.args.common.now (pairs_in (platform_view c.args.platform.now))) = c.loop-pair.invariant.0 in
    kept_seen entry_view 32 c.loop-pair.entries.items _ _ c.loop-pair.invariant.1 (rw c.in-None.ensures.steps.0 refl) before
