-- What passes a test of "the same" is equal.
use Rattle.std.proofs.Common.{◌≡◌, ℕ, Bool, true, false, ◌&&◌, [], ◌∷◌, Some, None, refl, ap, ◌∙◌, arith}
use Rattle.std.specs.Prelude.{◌==◌}
use Rattle.std.proofs.lemmas.Bool.{eqb-true}
use Rattle.route_part.specs.Said.{IsSound}
use Rattle.route_tables.specs.Values.{same_option, same_list, same_number, same_service, same_services, same_carousel_found, same_carousel, same_program_found, same_program, same_stream, same_component_found, same_component}

pub and_left : (a b : Bool) → (a && b) ≡ true → a ≡ true
and_left true b h = refl
and_left false b h = cc

pub and_right : (a b : Bool) → (a && b) ≡ true → b ≡ true
and_right true b h = h
and_right false b h = cc

pub option_sound : {A : Type 0} (same : A → A → Bool) → IsSound same → IsSound (same_option same)
unfolding same_option
option_sound same sound None None h = refl
option_sound same sound None (Some y) h = cc
option_sound same sound (Some x) None h = cc
option_sound same sound (Some x) (Some y) h = ap (λ z. Some z) (sound x y h)

pub list_sound : {A : Type 0} (same : A → A → Bool) → IsSound same → IsSound (same_list same)
unfolding same_list
list_sound same sound [] [] h = refl
list_sound same sound [] (y ∷ ys) h = cc
list_sound same sound (x ∷ xs) [] h = cc
list_sound same sound (x ∷ xs) (y ∷ ys) h =
    ap (λ z. z ∷ xs) (sound x y (and_left (same x y) (same_list same xs ys) h))
    ∙ ap (λ zs. y ∷ zs) (list_sound same sound xs ys (and_right (same x y) (same_list same xs ys) h))

pub number_sound : IsSound same_number
number_sound m n h = eqb-true m n h

three : (a b c d e f : ℕ) → (a == b && c == d && e == f) ≡ true → (a ≡ b) × (c ≡ d) × (e ≡ f)
three a b c d e f h = (grind (arith, h), grind (arith, h), grind (arith, h))

pub service_sound : IsSound same_service
service_sound s t h =
    let x = three s.ts t.ts s.network t.network s.service t.service h in
    ap (λ n. record { ts = n; network = s.network; service = s.service }) x.0
    ∙ ap (λ n. record { ts = t.ts; network = n; service = s.service }) x.1
    ∙ ap (λ n. record { ts = t.ts; network = t.network; service = n }) x.2

pub services_sound : IsSound same_services
services_sound = list_sound same_service service_sound

carousel_found_sound : IsSound same_carousel_found
carousel_found_sound c d h =
    ap (λ n. record { pid = n; subgroup = c.subgroup })
    (eqb-true c.pid d.pid (and_left (c.pid == d.pid) (same_option same_number c.subgroup d.subgroup) h))
    ∙ ap (λ n. record { pid = d.pid; subgroup = n })
    (option_sound same_number number_sound c.subgroup d.subgroup (and_right (c.pid == d.pid) (same_option same_number c.subgroup d.subgroup) h))

pub carousel_sound : IsSound same_carousel
carousel_sound = option_sound same_carousel_found carousel_found_sound

program_found_sound : IsSound same_program_found
program_found_sound p q h =
    ap (λ n. record { service = n; pid = p.pid })
    (service_sound p.service q.service (and_left (same_service p.service q.service) (p.pid == q.pid) h))
    ∙ ap (λ n. record { service = q.service; pid = n })
    (eqb-true p.pid q.pid (and_right (same_service p.service q.service) (p.pid == q.pid) h))

pub program_sound : IsSound same_program
program_sound = option_sound same_program_found program_found_sound

stream_sound : IsSound same_stream
stream_sound s t h =
    ap (λ n. record { tag = n; pid = s.pid }) (eqb-true s.tag t.tag (and_left (s.tag == t.tag) (s.pid == t.pid) h))
    ∙ ap (λ n. record { tag = t.tag; pid = n }) (eqb-true s.pid t.pid (and_right (s.tag == t.tag) (s.pid == t.pid) h))

component_found_sound : IsSound same_component_found
component_found_sound c d h =
    let front = and_left (c.pid == d.pid && c.update_type == d.update_type) (same_list same_stream c.tagged d.tagged) h in
    ap (λ n. record { pid = n; update_type = c.update_type; tagged = c.tagged })
    (eqb-true c.pid d.pid (and_left (c.pid == d.pid) (c.update_type == d.update_type) front))
    ∙ ap (λ n. record { pid = d.pid; update_type = n; tagged = c.tagged })
    (eqb-true c.update_type d.update_type (and_right (c.pid == d.pid) (c.update_type == d.update_type) front))
    ∙ ap (λ n. record { pid = d.pid; update_type = d.update_type; tagged = n })
    (list_sound same_stream stream_sound c.tagged d.tagged (and_right (c.pid == d.pid && c.update_type == d.update_type) (same_list same_stream c.tagged d.tagged) h))

pub component_sound : IsSound same_component
component_sound = option_sound same_component_found component_found_sound
