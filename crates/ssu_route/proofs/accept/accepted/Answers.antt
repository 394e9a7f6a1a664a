use Rattle.std.proofs.Common.{◌≡◌, ◌∙◌, ◌++◌, [], ◌∷◌, take, true, refl, sym}
use Rattle.wire.specs.Items.{items_of}
use Rattle.dsmcc_msg.specs.Control.{group_entry}
use Rattle.ssu_unt.proofs.Keeping.{kept_all, kept_more}
use Rattle.ssu_route.specs.Kept.{afresh, is_accepted_by, group_view, offer_to}
use Rattle.ssu_route.proofs.Accepting.{all_afresh, first_accepted, one_accepted}
use Rattle.ssu_route.proofs.accept.accepted.Goals as goal

pub loop-group-preserved-then-is_accepted : goal.loop-group-preserved-then-is_accepted
loop-group-preserved-then-is_accepted c =
    let terms = c.args.terms.now in
    let running = c.args.running in
    let wanted = c.args.subgroup in
    let g = group_view c.in-Some.group in
    let rest = items_of group_entry c.next.new.self in
    let accepts : is_accepted_by terms running wanted g ≡ true = sym c.is_accepted.ensures ∙ c.if-is_accepted.true in
    let one = one_accepted terms running wanted g rest accepts in
    let before : take 32 (c.loop-group.found.items ++ all_afresh terms running wanted (items_of group_entry c.loop-group.group-iterator))
    ≡ take 32 (all_afresh terms running wanted c.args.dsi.now.groups) = c.loop-group.invariant.kept in
    let now = rw (c.in-Some.ensures.steps, one) at before in
    let added : c.add.new.found.items ≡ take 32 (c.loop-group.found.items ++ afresh (offer_to terms g) ∷ []) = rw c.offered-software.ensures at c.add.ensures.groups in
    record {
      kept = kept_more 32 _ _ (afresh (offer_to terms g) ∷ []) (all_afresh terms running wanted rest) _ added now;
      fit = c.add.ensures.fit;
    }

pub returns : goal.returns
returns c =
    let terms = c.args.terms.now in
    let running = c.args.running in
    let wanted = c.args.subgroup in
    let before : take 32 (c.loop-group.found.items ++ all_afresh terms running wanted (items_of group_entry c.loop-group.group-iterator))
    ≡ take 32 (all_afresh terms running wanted c.args.dsi.now.groups) = c.loop-group.invariant.kept in
    let none : all_afresh terms running wanted (items_of group_entry c.loop-group.group-iterator) ≡ [] = rw c.in-None.ensures.steps.0 refl in
    kept_all 32 _ _ _ c.loop-group.invariant.fit none (before ∙ first_accepted terms running wanted c.args.dsi.now)
