-- One item more, for what is read of a row of descriptors or of a list.
use Rattle.std.proofs.Common.{◌≡◌, ℕ, List, [], ◌∷◌, Option, Some, None, refl, ap, ◌∙◌}
use Rattle.std.specs.List.{cons_option, filter_map, find, flat_map}
use Rattle.std.specs.Option.{option_and_then, option_map, option_or, unwrap_or}
use Rattle.std.proofs.lemmas.List.Folds.{find-append}
use Rattle.si_desc.specs.Descriptors.{DescFields, whole_descriptors}
use Rattle.si_desc.specs.Linkage.{linkage}
use Rattle.si_desc.specs.SsuInfo.{InfoFields, update_infos}
use Rattle.route_tables.specs.Said.{bodies, body_if, is_update_for, linked_service, linked_services, type_of, update_type_of}
use Rattle.route_tables.specs.Levels.{first_type_of, linked_by, type_by}

bodies_more : (tag : ℕ) (row behind : List ℕ) (d : DescFields) → whole_descriptors row ≡ d ∷ whole_descriptors behind
    → bodies tag row ≡ cons_option (body_if tag d) (bodies tag behind)
unfolding bodies
bodies_more tag row behind d e = rw e refl

bodies_none : (tag : ℕ) (row : List ℕ) → whole_descriptors row ≡ [] → bodies tag row ≡ []
unfolding bodies
bodies_none tag row e = rw e refl

-- ---- linkages

pub linked_more : (oui : ℕ) (row behind : List ℕ) (d : DescFields) → whole_descriptors row ≡ d ∷ whole_descriptors behind
    → linked_services oui row ≡ cons_option (linked_by oui d) (linked_services oui behind)
unfolding linked_services
linked_more oui row behind d e = rw (bodies_more 0x4A row behind d e) (one (body_if 0x4A d))
  where
    one : (o : Option (List ℕ))
        → filter_map (λ body. option_and_then (linked_service oui) (linkage.of body)) (cons_option o (bodies 0x4A behind))
        ≡ cons_option (option_and_then (λ body. option_and_then (linked_service oui) (linkage.of body)) o)
        (filter_map (λ body. option_and_then (linked_service oui) (linkage.of body)) (bodies 0x4A behind))
    one None = refl
    one (Some body) = refl

pub linked_none : (oui : ℕ) (row : List ℕ) → whole_descriptors row ≡ [] → linked_services oui row ≡ []
unfolding linked_services
linked_none oui row e = rw (bodies_none 0x4A row e) refl

-- ---- update types

typed : (o : Option (List InfoFields)) (oui : ℕ) (later : List InfoFields)
    → option_map type_of (option_or (find (is_update_for oui) (unwrap_or o [])) (find (is_update_for oui) later))
    ≡ option_or (option_and_then (first_type_of oui) o) (option_map type_of (find (is_update_for oui) later))
typed None oui later = refl
typed (Some infos) oui later = of_first (find (is_update_for oui) infos) (find (is_update_for oui) later)
  where
    of_first : (a b : Option InfoFields) → option_map type_of (option_or a b) ≡ option_or (option_map type_of a) (option_map type_of b)
    of_first None b = refl
    of_first (Some i) b = refl

abbrev infos_in : List ℕ → List InfoFields
infos_in body = unwrap_or (update_infos.of body) []

pub type_more : (oui : ℕ) (row behind : List ℕ) (d : DescFields) → whole_descriptors row ≡ d ∷ whole_descriptors behind
    → update_type_of oui row ≡ option_or (type_by oui d) (update_type_of oui behind)
unfolding update_type_of
type_more oui row behind d e = rw (bodies_more 0x66 row behind d e) (one (body_if 0x66 d))
  where
    one : (o : Option (List ℕ))
        → option_map type_of (find (is_update_for oui) (flat_map infos_in (cons_option o (bodies 0x66 behind))))
        ≡ option_or (option_and_then (λ body. option_and_then (first_type_of oui) (update_infos.of body)) o)
        (option_map type_of (find (is_update_for oui) (flat_map infos_in (bodies 0x66 behind))))
    one None = refl
    one (Some body) =
        ap (λ (o : Option InfoFields). option_map type_of o) (find-append (is_update_for oui) (infos_in body) (flat_map infos_in (bodies 0x66 behind)))
        ∙ typed (update_infos.of body) oui (flat_map infos_in (bodies 0x66 behind))

pub type_none : (oui : ℕ) (row : List ℕ) → whole_descriptors row ≡ [] → update_type_of oui row ≡ None
unfolding update_type_of
type_none oui row e = rw (bodies_none 0x66 row e) refl
