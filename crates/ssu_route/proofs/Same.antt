-- What passes a test of "the same" is equal.
use Rattle.std.proofs.Common.{◌≡◌, true, List, [], ◌∷◌, Option, Some, None, refl, ap, ◌∙◌}
use Rattle.std.specs.Prelude.{◌==◌}
use Rattle.std.specs.Str.{bytes_eq}
use Rattle.std.proofs.lemmas.Bool.{eq-eqb, eqb-true}
use Rattle.std.proofs.lemmas.Slice.Eq.{bytes_eq-Decides}
use Rattle.route_part.specs.Said.{IsSound}
use Rattle.ssu_compat.specs.declared.rule.SwId.{SwId}
use Rattle.route_tables.specs.Values.{same_option, same_list, same_number}
use Rattle.route_tables.proofs.Same.{and_left, and_right, option_sound, list_sound, number_sound}
use Rattle.ssu_route.specs.Offers.{Offer, same_software, same_offer, same_offers, same_group, same_message}

pub software_sound : IsSound same_software
software_sound s t h =
    ap (λ n. record { model = n; version = s.version }) (eqb-true s.model t.model (and_left (s.model == t.model) (s.version == t.version) h))
    ∙ ap (λ n. record { model = t.model; version = n }) (eqb-true s.version t.version (and_right (s.model == t.model) (s.version == t.version) h))

pub offer_sound : IsSound same_offer
offer_sound o p h =
    ap (λ n. record { group = n; software = o.software })
    (eqb-true o.group p.group (and_left (o.group == p.group) (same_option same_software o.software p.software) h))
    ∙ ap (λ n. record { group = p.group; software = n })
    (option_sound same_software software_sound o.software p.software (and_right (o.group == p.group) (same_option same_software o.software p.software) h))

pub offers_sound : IsSound same_offers
offers_sound = list_sound same_offer offer_sound

pub group_sound : IsSound same_group
group_sound = option_sound same_number number_sound

bytes_sound : IsSound bytes_eq
bytes_sound xs ys h = (bytes_eq-Decides xs ys).0 h

pub message_sound : IsSound same_message
message_sound = option_sound bytes_eq bytes_sound

-- ---- and what is equal passes it

software_itself : (s : Option SwId) → same_option same_software s s ≡ true
unfolding same_option
software_itself None = refl
software_itself (Some s) = rw (eq-eqb s.model s.model refl, eq-eqb s.version s.version refl) refl

offer_itself : (o : Offer) → same_offer o o ≡ true
offer_itself o = rw (eq-eqb o.group o.group refl, software_itself o.software) refl

pub offers_itself : (os : List Offer) → same_offers os os ≡ true
unfolding same_list
offers_itself [] = refl
offers_itself (o ∷ os) = rw (offer_itself o, offers_itself os) refl
