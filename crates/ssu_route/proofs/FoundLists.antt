-- Lists of the groups that were found.
use Rattle.std.proofs.Common.{◌≡◌, ◌≢◌, ℕ, suc, ◌+◌, ◌<◌, ◌≤◌, Bool, true, false, ◌&&◌, List, [], ◌∷◌, length, drop, get_or, refl, ap, ◌∙◌, sym, arith}
use Rattle.std.proofs.lemmas.Bool.{false_from_ne_true}
use Rattle.std.proofs.lemmas.List.{drop_more, drop_all, length-map}
use Rattle.route_tables.specs.Values.{same_list}
use Rattle.route_tables.proofs.Same.{and_right}
use Rattle.ssu_route.specs.declared.found.Found.{Found}
use Rattle.ssu_route.specs.Offers.{Offer, same_offer, same_offers}
use Rattle.ssu_route.specs.Kept.{seen_offer, offers_of}

-- one place further, where both lists have one
same_more : (xs ys : List Found) (i : ℕ) (d e : Found) → i < length xs → i < length ys →
    same_offers (offers_of (drop i xs)) (offers_of (drop i ys))
    ≡ (same_offer (seen_offer (get_or xs i d)) (seen_offer (get_or ys i e)) && same_offers (offers_of (drop (i + 1) xs)) (offers_of (drop (i + 1) ys)))
unfolding same_list
same_more xs ys i d e l m = rw (drop_more xs i d l, drop_more ys i e m) refl

-- these differ, or they are the same here
pub differ_at : (xs ys : List Found) (i : ℕ) (d e : Found) (b : Bool) → i < length xs → length xs ≡ length ys →
    same_offers (offers_of (drop i xs)) (offers_of (drop i ys)) ≡ same_offers (offers_of xs) (offers_of ys) →
    b ≡ same_offer (seen_offer (get_or xs i d)) (seen_offer (get_or ys i e)) → b ≡ false → false ≡ same_offers (offers_of xs) (offers_of ys)
differ_at xs ys i d e b l same before is differs =
    let m : i < length ys = omega arith in
    ap (λ t. t && same_offers (offers_of (drop (i + 1) xs)) (offers_of (drop (i + 1) ys))) (sym differs ∙ is) ∙ sym (same_more xs ys i d e l m) ∙ before

pub agree_at : (xs ys : List Found) (i : ℕ) (d e : Found) (b : Bool) → i < length xs → length xs ≡ length ys →
    same_offers (offers_of (drop i xs)) (offers_of (drop i ys)) ≡ same_offers (offers_of xs) (offers_of ys) →
    b ≡ same_offer (seen_offer (get_or xs i d)) (seen_offer (get_or ys i e)) → b ≡ true →
    same_offers (offers_of (drop (i + 1) xs)) (offers_of (drop (i + 1) ys)) ≡ same_offers (offers_of xs) (offers_of ys)
agree_at xs ys i d e b l same before is agrees =
    let m : i < length ys = omega arith in
    ap (λ t. t && same_offers (offers_of (drop (i + 1) xs)) (offers_of (drop (i + 1) ys))) (sym agrees ∙ is) ∙ sym (same_more xs ys i d e l m) ∙ before

pub agree_all : (xs ys : List Found) (i : ℕ) → length xs ≤ i → length xs ≡ length ys →
    same_offers (offers_of (drop i xs)) (offers_of (drop i ys)) ≡ same_offers (offers_of xs) (offers_of ys) →
    true ≡ same_offers (offers_of xs) (offers_of ys)
unfolding same_list
agree_all xs ys i l same before =
    let m : length ys ≤ i = omega arith in
    sym (rw (drop_all i xs l, drop_all i ys m) refl) ∙ before

-- lists of different lengths differ
same_lengths : (os ps : List Offer) → same_offers os ps ≡ true → length os ≡ length ps
unfolding same_list
same_lengths [] [] h = refl
same_lengths [] (p ∷ ps) h = cc
same_lengths (o ∷ os) [] h = cc
same_lengths (o ∷ os) (p ∷ ps) h = ap suc (same_lengths os ps (and_right (same_offer o p) (same_offers os ps) h))

pub longer_differ : (xs ys : List Found) → length xs ≢ length ys → false ≡ same_offers (offers_of xs) (offers_of ys)
longer_differ xs ys n =
    sym (false_from_ne_true _ (λ h. n (sym (length-map xs seen_offer) ∙ same_lengths (offers_of xs) (offers_of ys) h ∙ length-map ys seen_offer)))
