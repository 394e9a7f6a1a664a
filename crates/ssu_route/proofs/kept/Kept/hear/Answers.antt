use Rattle.std.proofs.Common.{◌≡◌, ◌∷◌, eqb, true, false, List, Some, None, sym, ap, ◌∙◌, subst}
use Rattle.std.specs.Option.{option_map}
use Rattle.route_tables.specs.Values.{same_carousel}
use Rattle.route_tables.specs.Levels.{level_5}
use Rattle.ssu_compat.specs.declared.rule.SwId.{SwId}
use Rattle.ssu_route.specs.Offers.{Offer, same_offers}
use Rattle.ssu_route.specs.Route.{Restarts, offers_after}
use Rattle.route_tables.specs.Standing.{carousel_view}
use Rattle.route_tables.specs.Next.{heard_on}
use Rattle.ssu_route.proofs.Hearing.{hears_carousel, hears_elsewhere, hears_no_carousel, hears_other_carousel}
use Rattle.ssu_route.proofs.kept.Kept.hear.Goals as goal

pub returns-then-not-is_same_carousel : goal.returns-then-not-is_same_carousel
returns-then-not-is_same_carousel c = record {
  heard = λ me heard t running before now stands.
      let item = heard_on c.args.pid c.args.section.now in
      let differs : same_carousel (level_5 me (item ∷ heard)) (level_5 me heard) ≡ false =
      ap (λ x. same_carousel x (level_5 me heard)) (sym now) ∙ ap (same_carousel (option_map carousel_view c.args.now.now)) (sym before)
      ∙ sym c.is_same_carousel.ensures ∙ c.if-not-is_same_carousel.true in
      hears_other_carousel me item heard c.args.self.now c.restart.new.self c.restart.result differs stands
      (c.restart.ensures.groups ∙ c.new.ensures) c.restart.ensures.choice c.restart.ensures.change;
}

pub returns-then-eq : goal.returns-then-eq
returns-then-eq c = record {
  heard = λ me heard t running before now stands.
      let item = heard_on c.args.pid c.args.section.now in
      let carousel = carousel_view c.in-Some.carousel in
      let same : same_carousel (level_5 me (item ∷ heard)) (level_5 me heard) ≡ true =
      ap (λ x. same_carousel x (level_5 me heard)) (sym now) ∙ ap (same_carousel (option_map carousel_view c.args.now.now)) (sym before)
      ∙ sym c.is_same_carousel.ensures ∙ c.if-not-is_same_carousel.false in
      let is : level_5 me (item ∷ heard) ≡ Some carousel = sym now ∙ ap (option_map carousel_view) c.in-Some.is in
      let here : eqb item.pid carousel.pid ≡ true = sym c.eq.ensures ∙ c.if-eq.true in
      let after = λ (r : SwId) (offers : List Offer). offers_after c.args.terms.now r carousel.subgroup c.args.section.now offers in
      hears_carousel me c.args.terms.now item heard carousel c.args.self.now c.hear_section.new.self c.hear_section.result t same is here stands
      (λ usable offers groups planned e. c.hear_section.ensures.stays usable offers groups planned (ap (λ r. same_offers (after r offers) offers) (sym running) ∙ e))
      (λ usable offers groups e.
      subst (λ (r : SwId). Restarts (after r offers) c.args.self.now c.hear_section.new.self c.hear_section.result) (sym running)
      (c.hear_section.ensures.fresh usable offers groups (ap (λ r. same_offers (after r offers) offers) (sym running) ∙ e)));
}

pub returns-else-eq : goal.returns-else-eq
returns-else-eq c = record {
  heard = λ me heard t running before now stands.
      let item = heard_on c.args.pid c.args.section.now in
      let carousel = carousel_view c.in-Some.carousel in
      let same : same_carousel (level_5 me (item ∷ heard)) (level_5 me heard) ≡ true =
      ap (λ x. same_carousel x (level_5 me heard)) (sym now) ∙ ap (same_carousel (option_map carousel_view c.args.now.now)) (sym before)
      ∙ sym c.is_same_carousel.ensures ∙ c.if-not-is_same_carousel.false in
      let is : level_5 me (item ∷ heard) ≡ Some carousel = sym now ∙ ap (option_map carousel_view) c.in-Some.is in
      let elsewhere : eqb item.pid carousel.pid ≡ false = sym c.eq.ensures ∙ c.if-eq.false in
      hears_elsewhere me item heard carousel c.args.self.now same is elsewhere stands;
}

pub returns-in-None : goal.returns-in-None
returns-in-None c = record {
  heard = λ me heard t running before now stands.
      let item = heard_on c.args.pid c.args.section.now in
      let same : same_carousel (level_5 me (item ∷ heard)) (level_5 me heard) ≡ true =
      ap (λ x. same_carousel x (level_5 me heard)) (sym now) ∙ ap (same_carousel (option_map carousel_view c.args.now.now)) (sym before)
      ∙ sym c.is_same_carousel.ensures ∙ c.if-not-is_same_carousel.false in
      let none : level_5 me (item ∷ heard) ≡ None = sym now ∙ ap (option_map carousel_view) c.in-None.is in
      hears_no_carousel me item heard c.args.self.now same none stands;
}
