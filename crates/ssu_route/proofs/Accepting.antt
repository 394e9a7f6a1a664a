-- The groups of a DSI that the box accepts.
use Rattle.std.proofs.Common.{◌≡◌, ℕ, Bool, true, false, List, [], ◌∷◌, take, Option, Some, None, refl, ap, ◌∙◌, sym}
use Rattle.std.specs.Prelude.{map, IfSome, if◌then◌else◌, unwrap_or}
use Rattle.std.specs.Option.{option_map}
use Rattle.arrayvec.specs.ArrayVec.{ArrayVec}
use Rattle.std.specs.List.{filter}
use Rattle.std.proofs.lemmas.List.{take-map}
use Rattle.wire.specs.Format.{Whole}
use Rattle.wire.specs.Exact.{IsWhole}
use Rattle.ssu_compat.specs.declared.rule.SwId.{SwId}
use Rattle.dsmcc_msg.specs.Control.{GroupFields, DsiFields, dsi}
use Rattle.ssu_route.specs.declared.found.Found.{Found}
use Rattle.ssu_route.specs.declared.accept.Terms.{Terms}
use Rattle.ssu_route.specs.Offers.{Offer}
use Rattle.ssu_route.specs.Kept.{afresh, offers_of, seen, is_accepted_by, offer_to, accepted_in, found_items}
use Rattle.ssu_route.specs.Route.{offers_after}

abbrev some : {A : Type 0} → A → Option A
some x = Some x

some_same : {A : Type 0} (x y : A) → some x ≡ some y → x ≡ y
some_same x y e = cc

-- what a reader answers that answers exactly what is spelled so
pub read_is : {A : Type 0} (w : Whole A) → IsWhole w → (bytes : List ℕ) (r : Option A) → IfSome r (λ x. w.Spells x bytes) →
    ((x : A) → w.Spells x bytes → r ≡ Some x) → r ≡ w.of bytes
read_is {A} w exact bytes None found only = sym (none (w.of bytes) refl)
  where
    none : (o : Option A) → w.of bytes ≡ o → o ≡ None
    none None e = refl
    none (Some x) e = let h = only x (exact.takes bytes x e) in cc
read_is w exact bytes (Some x) found only = sym (exact.again x bytes found)

-- all groups that the box accepts
abbrev pub all_afresh : Terms → SwId → Option ℕ → List GroupFields → List Found
all_afresh terms running wanted gs = map afresh (map (offer_to terms) (filter (is_accepted_by terms running wanted) gs))

one_of : (terms : Terms) (running : SwId) (wanted : Option ℕ) (g : GroupFields) (gs : List GroupFields) (b : Bool) → is_accepted_by terms running wanted g ≡ b →
    all_afresh terms running wanted (g ∷ gs) ≡ (if b then afresh (offer_to terms g) ∷ all_afresh terms running wanted gs else all_afresh terms running wanted gs)
one_of terms running wanted g gs true e = rw e refl
one_of terms running wanted g gs false e = rw e refl

pub one_accepted : (terms : Terms) (running : SwId) (wanted : Option ℕ) (g : GroupFields) (gs : List GroupFields) → is_accepted_by terms running wanted g ≡ true →
    all_afresh terms running wanted (g ∷ gs) ≡ afresh (offer_to terms g) ∷ all_afresh terms running wanted gs
one_accepted terms running wanted g gs e = one_of terms running wanted g gs true e

pub one_passed_over : (terms : Terms) (running : SwId) (wanted : Option ℕ) (g : GroupFields) (gs : List GroupFields) → is_accepted_by terms running wanted g ≡ false →
    all_afresh terms running wanted (g ∷ gs) ≡ all_afresh terms running wanted gs
one_passed_over terms running wanted g gs e = one_of terms running wanted g gs false e

pub first_accepted : (terms : Terms) (running : SwId) (wanted : Option ℕ) (d : DsiFields) →
    take 32 (all_afresh terms running wanted d.groups) ≡ map afresh (accepted_in terms running wanted d)
unfolding accepted_in
first_accepted terms running wanted d = take-map afresh 32 (map (offer_to terms) (filter (is_accepted_by terms running wanted) d.groups))

-- ---- what the groups of a section are, where it is a DSI

none_said : (found : Option (ArrayVec Found)) (said : Option (List Offer)) → option_map found_items found ≡ option_map (map afresh) said → found ≡ None → said ≡ None
none_said found None e n = refl
none_said found (Some os) e n = let f = ap (option_map found_items) (sym n) ∙ e in cc

some_said : (found : Option (ArrayVec Found)) (said : Option (List Offer)) (groups : ArrayVec Found) → option_map found_items found ≡ option_map (map afresh) said → found ≡ Some groups →
    (os : List Offer) × (said ≡ Some os) × (groups.items ≡ map afresh os)
some_said found None groups e n = let f = ap (option_map found_items) (sym n) ∙ e in cc
some_said found (Some os) groups e n = (os, refl, some_same groups.items (map afresh os) (ap (option_map found_items) (sym n) ∙ e))

pub afresh_offers : (os : List Offer) → offers_of (map afresh os) ≡ os
afresh_offers [] = refl
afresh_offers (o ∷ os) = ap (λ rest. o ∷ rest) (afresh_offers os)

pub seen_offers : (usable : ℕ → Bool) (os : List Offer) → offers_of (map (seen usable) os) ≡ os
seen_offers usable [] = refl
seen_offers usable (o ∷ os) = ap (λ rest. o ∷ rest) (seen_offers usable os)

said_by : (terms : Terms) (running : SwId) (wanted : Option ℕ) (d : Option DsiFields) →
    option_map (λ d. map afresh (accepted_in terms running wanted d)) d ≡ option_map (map afresh) (option_map (accepted_in terms running wanted) d)
said_by terms running wanted None = refl
said_by terms running wanted (Some d) = refl

-- no DSI: the groups stay
pub after_none : (terms : Terms) (running : SwId) (wanted : Option ℕ) (section : List ℕ) (found : Option (ArrayVec Found)) (offers : List Offer) →
    option_map found_items found ≡ option_map (λ d. map afresh (accepted_in terms running wanted d)) (dsi.of section) → found ≡ None →
    offers_after terms running wanted section offers ≡ offers
after_none terms running wanted section found offers e n =
    ap (λ x. unwrap_or x offers) (none_said found (option_map (accepted_in terms running wanted) (dsi.of section)) (e ∙ said_by terms running wanted (dsi.of section)) n)

-- a DSI: its groups
pub after_some : (terms : Terms) (running : SwId) (wanted : Option ℕ) (section : List ℕ) (found : Option (ArrayVec Found)) (groups : ArrayVec Found) (offers : List Offer) →
    option_map found_items found ≡ option_map (λ d. map afresh (accepted_in terms running wanted d)) (dsi.of section) → found ≡ Some groups →
    groups.items ≡ map afresh (offers_after terms running wanted section offers)
after_some terms running wanted section found groups offers e n =
    let said = some_said found (option_map (accepted_in terms running wanted) (dsi.of section)) groups (e ∙ said_by terms running wanted (dsi.of section)) n in
    said.2 ∙ ap (λ x. map afresh (unwrap_or x offers)) (sym said.1)
