-- The group that a box wants was listed by a DSI, matches the box, and was admitted.
use Rattle.std.proofs.Common.{◌≡◌, ℕ, ◌&&◌, Bool, true, false, cond, eqb, List, [], Option, Some, None, refl, sym, ap, subst, ◌∙◌}
use Rattle.std.specs.Prelude.{Contains, map, unwrap_or}
use Rattle.std.specs.List.{filter, find}
use Rattle.std.specs.Option.{option_and_then}
use Rattle.std.proofs.lemmas.Bool.{and_parts, eqb-true}
use Rattle.dsmcc_msg.specs.Control.{dsi}
use Rattle.route_part.specs.Part.{since}
use Rattle.route_part.specs.Said.{last_said}
use Rattle.route_tables.specs.Levels.{level_5}
use Rattle.route_tables.specs.Said.{on}
use Rattle.route_tables.specs.Values.{CarouselFound, Receiver, same_carousel}
use Rattle.ssu_compat.specs.Match.{admits, offered}
use Rattle.ssu_route.specs.Choosing.{group_of, is_usable, level_6, offers_by, wanted, wanted_at}
use Rattle.ssu_route.specs.Offers.{Offer, carries_subgroup, dii_said, is_accepted, matches_box, offer_of, offers_in, offers_said, same_offers}
use Rattle.ts_section.specs.Events.{Heard}
use Rattle.ssu_loader.specs.Life.{IsAdmitted}
use Rattle.ssu_loader.proofs.AmongLaws.{found, last_said_by, mapped, none_in, of_filter, of_map, of_take, same_list, since_part, then_some}

-- what a section of this PID is
on_tells : (pid : ℕ) (item : Heard) (section : List ℕ) → on pid item ≡ Some section → (item.pid ≡ pid) × (item.section ≡ section)
on_tells pid item section e = by_test (eqb item.pid pid) refl
  where
    by_test : (b : Bool) → eqb item.pid pid ≡ b → (item.pid ≡ pid) × (item.section ≡ section)
    by_test true t =
        let f : Some item.section ≡ Some section = ap (λ (b : Bool). cond b (Some item.section) None) (sym t) ∙ e in
        let same : item.section ≡ section = cc in
        (eqb-true item.pid pid t, same)
    by_test false t =
        let nothing : Option (List ℕ) = None in
        let f : nothing ≡ Some section = ap (λ (b : Bool). cond b (Some item.section) nothing) (sym t) ∙ e in absurd cc

module _ (me : Receiver) (heard : List Heard) (id : ℕ) (offer : Offer) (own_id : offer.group ≡ id) where
  -- the group of the offer
  by_dsi : (c : CarouselFound) (offers : List Offer) (item : Heard) → level_5 me heard ≡ Some c → Contains offers offer → Contains heard item → offers_said me c item ≡ Some offers
      → IsAdmitted me heard id
  unfolding offers_said
  by_dsi c offers item carousel among own said =
      let d = mapped (offers_in me c) (option_and_then (λ section. dsi.of section) (on c.pid item)) offers said in
      let text = then_some (λ section. dsi.of section) (on c.pid item) d.0 d.1 in
      let place = on_tells c.pid item text.0 text.1 in
      let listed = of_take 32 (map (offer_of me) (filter (is_accepted me c) d.0.groups)) offer (same_list offer (sym d.2) among) in
      let a = of_map (offer_of me) (filter (is_accepted me c) d.0.groups) offer listed in
      let b = of_filter (is_accepted me c) d.0.groups a.of a.own in
      let parts = and_parts (matches_box me a.of && admits me.file.rule me.running (offered me.file.id.oui a.of.compat)) (carries_subgroup c.subgroup a.of) b.passes in
      let first = and_parts (matches_box me a.of) (admits me.file.rule me.running (offered me.file.id.oui a.of.compat)) parts.0 in
      record {
        carousel = c;
        found = carousel;
        item = item;
        own = own;
        on_it = place.0;
        fields = d.0;
        reads = ap dsi.of place.1 ∙ text.2;
        group = a.of;
        listed = b.own;
        own_id = ap (λ (o : Offer). o.group) a.is ∙ own_id;
        matching = first.0;
        admitted = first.1;
      }

  by_said : (c : CarouselFound) (o : Option (List Offer)) → level_5 me heard ≡ Some c → last_said (offers_said me c) (since same_carousel (level_5 me) heard) ≡ o
      → Contains (unwrap_or o []) offer → IsAdmitted me heard id
  by_said c None carousel said among = absurd (none_in among)
  by_said c (Some offers) carousel said among =
      let is = last_said_by (offers_said me c) (since same_carousel (level_5 me) heard) offers said in
      by_dsi c offers is.of carousel among (since_part same_carousel (level_5 me) heard is.of is.own) is.is

  by_level : (c : CarouselFound) → level_5 me heard ≡ Some c → Contains (level_6 me heard) offer → IsAdmitted me heard id
  unfolding level_6
  by_level c carousel among =
      by_said c (last_said (offers_said me c) (since same_carousel (level_5 me) heard)) carousel refl
      (subst (λ (o : Option CarouselFound). Contains (offers_by me o (since same_carousel (level_5 me) heard)) offer) carousel among)

pub admitted_group : (me : Receiver) (heard : List Heard) (id : ℕ) → wanted me heard ≡ Some id → IsAdmitted me heard id
unfolding wanted
admitted_group me heard id e = by_carousel (level_5 me heard) refl e
  where
    by_carousel : (o : Option CarouselFound) → level_5 me heard ≡ o → wanted_at me.bank_len o (level_6 me heard) (since same_offers (level_6 me) heard) ≡ Some id → IsAdmitted me heard id
    by_carousel None carousel is = absurd cc
    by_carousel (Some c) carousel is =
        let test : Offer → Bool = λ o. is_usable me.bank_len (last_said (dii_said c.pid o.group) (since same_offers (level_6 me) heard)) in
        let m = mapped group_of (find test (level_6 me heard)) id is in
        by_level me heard id m.0 m.2 c carousel (found test (level_6 me heard) m.0 m.1).own
