use Rattle.std.proofs.Common.{◌≡◌, true, None, sym, ap, ◌∙◌}
use Rattle.std.specs.Prelude.{unwrap_or}
use Rattle.std.specs.Option.{option_map}
use Rattle.dsmcc_msg.specs.Control.{dii, dsi}
use Rattle.ssu_route.specs.Offers.{same_offers}
use Rattle.ssu_route.specs.Kept.{accepted_in}
use Rattle.ssu_route.specs.Route.{offers_after}
use Rattle.ssu_route.proofs.Same.{offers_itself}
use Rattle.ssu_route.proofs.TakingLaws.{take_none}
use Rattle.ssu_route.proofs.kept.Kept.hear_section.Goals as goal

pub returns-then-not-is_control-clause-stays : goal.returns-then-not-is_control-clause-stays
returns-then-not-is_control-clause-stays c = λ usable offers groups planned same.
    let none : dii.of c.args.section.now ≡ None = c.is_control.ensures.dii c.if-not-is_control.true in
    rw none (take_none c.args.terms.now.bank_len c.args.self.now planned)

pub returns-then-not-is_control-clause-fresh : goal.returns-then-not-is_control-clause-fresh
returns-then-not-is_control-clause-fresh c = λ usable offers groups differ.
    let none : dsi.of c.args.section.now ≡ None = c.is_control.ensures.dsi c.if-not-is_control.true in
    let agree : same_offers (offers_after c.args.terms.now c.args.running c.args.subgroup c.args.section.now offers) offers ≡ true =
    ap (λ d. same_offers (unwrap_or (option_map (accepted_in c.args.terms.now c.args.running c.args.subgroup) d) offers) offers) none ∙ offers_itself offers in
    let f = sym agree ∙ differ in cc
