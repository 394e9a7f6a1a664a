use Rattle.std.proofs.Common.{◌≡◌, true, false, sym, ap, ◌∙◌}
use Rattle.std.specs.Prelude.{map}
use Rattle.std.specs.Option.{option_map}
use Rattle.dsmcc_msg.specs.Control.{dsi}
use Rattle.ssu_route.specs.Offers.{same_offers}
use Rattle.ssu_route.specs.Kept.{accepted_in, found_items, afresh, offers_of}
use Rattle.ssu_route.specs.Route.{offers_after}
use Rattle.ssu_route.proofs.Accepting.{after_none, after_some, afresh_offers, seen_offers}
use Rattle.ssu_route.proofs.Same.{offers_itself}
use Rattle.ssu_route.proofs.kept.Kept.hear_control.Goals as goal

pub returns-in-Some-clause-stays : goal.returns-in-Some-clause-stays
returns-in-Some-clause-stays c = λ usable offers groups planned same.
    let said : option_map found_items c.groups_in.result ≡ option_map (λ d. map afresh (accepted_in c.args.terms.now c.args.running c.args.subgroup d)) (dsi.of c.args.section.now) =
    c.groups_in.ensures in
    let found = after_some c.args.terms.now c.args.running c.args.subgroup c.args.section.now c.groups_in.result c.in-Some.groups offers said c.in-Some.is in
    let are : same_offers (offers_of c.in-Some.groups.items) (offers_of c.args.self.now.groups.items) ≡ true =
    ap (λ fs. same_offers (offers_of fs) (offers_of c.args.self.now.groups.items)) found
    ∙ ap (λ os. same_offers os (offers_of c.args.self.now.groups.items)) (afresh_offers (offers_after c.args.terms.now c.args.running c.args.subgroup c.args.section.now offers))
    ∙ ap (same_offers (offers_after c.args.terms.now c.args.running c.args.subgroup c.args.section.now offers)) (ap offers_of groups ∙ seen_offers usable offers)
    ∙ same in
    c.take_groups.ensures.stays usable offers groups planned are

pub returns-in-Some-clause-fresh : goal.returns-in-Some-clause-fresh
returns-in-Some-clause-fresh c = λ usable offers groups differ.
    let said : option_map found_items c.groups_in.result ≡ option_map (λ d. map afresh (accepted_in c.args.terms.now c.args.running c.args.subgroup d)) (dsi.of c.args.section.now) =
    c.groups_in.ensures in
    let found = after_some c.args.terms.now c.args.running c.args.subgroup c.args.section.now c.groups_in.result c.in-Some.groups offers said c.in-Some.is in
    let are : same_offers (offers_of c.in-Some.groups.items) (offers_of c.args.self.now.groups.items) ≡ false =
    ap (λ fs. same_offers (offers_of fs) (offers_of c.args.self.now.groups.items)) found
    ∙ ap (λ os. same_offers os (offers_of c.args.self.now.groups.items)) (afresh_offers (offers_after c.args.terms.now c.args.running c.args.subgroup c.args.section.now offers))
    ∙ ap (same_offers (offers_after c.args.terms.now c.args.running c.args.subgroup c.args.section.now offers)) (ap offers_of groups ∙ seen_offers usable offers)
    ∙ differ in
    c.take_groups.ensures.fresh (offers_after c.args.terms.now c.args.running c.args.subgroup c.args.section.now offers) found are

pub returns-in-None-clause-fresh : goal.returns-in-None-clause-fresh
returns-in-None-clause-fresh c = λ usable offers groups differ.
    let said : option_map found_items c.groups_in.result ≡ option_map (λ d. map afresh (accepted_in c.args.terms.now c.args.running c.args.subgroup d)) (dsi.of c.args.section.now) =
    c.groups_in.ensures in
    let after = after_none c.args.terms.now c.args.running c.args.subgroup c.args.section.now c.groups_in.result offers said c.in-None.is in
    let agree : same_offers (offers_after c.args.terms.now c.args.running c.args.subgroup c.args.section.now offers) offers ≡ true =
    ap (λ os. same_offers os offers) after ∙ offers_itself offers in
    let f = sym agree ∙ differ in cc
