-- A group that a box heard whole is a group of the plan for it.
use Rattle.std.proofs.Common.{◌≡◌, ◌≢◌, ℕ, inl, inr, ◌&&◌, ◌||◌, Bool, true, false, cond, eqb, List, [], ◌∷◌, get_or, Option, Some, None, refl, sym, ap, subst, ◌∙◌, arith}
use Rattle.std.specs.Prelude.{Contains, map, unwrap_or}
use Rattle.std.specs.List.{All, filter, find}
use Rattle.std.specs.Option.{option_and_then}
use Rattle.std.proofs.lemmas.Bool.{and_parts, eq-eqb, eqb-true}
use Rattle.std.proofs.lemmas.List.Elements.{All-contains_itself, All-weaker}
use Rattle.dsmcc_msg.specs.Control.{DiiFields}
use Rattle.dsmcc_msg.specs.Written.{dii_of as dii_written}
use Rattle.dsmcc_msg.proofs.Exact.{dii_exact}
use Rattle.head_carousel.specs.Control.{dii_draft, group_fields, hardware_and_software}
use Rattle.head_carousel.specs.GroupFiles.{GroupFiles}
use Rattle.head_carousel.specs.Sections.{plan_groups}
use Rattle.head_plan.specs.Plans.{GroupData, PlanData}
use Rattle.route_tables.specs.Levels.{level_5}
use Rattle.route_tables.specs.Values.{CarouselFound, Receiver}
use Rattle.ssu_answer.specs.Software.{no_software}
use Rattle.ssu_compat.specs.Match.{admits, matches, offered}
use Rattle.ssu_compat.specs.Written.{entry_of}
use Rattle.ssu_compat.specs.declared.rule.SwId.{SwId}
use Rattle.ssu_group.specs.Carried.{CarriesWhole, filling}
use Rattle.ssu_group.specs.Lays.{IsPlanOf}
use Rattle.route_part.specs.Part.{since}
use Rattle.ssu_route.specs.Choosing.{group_of, level_6, level_7, wanted, wanted_at}
use Rattle.ssu_route.specs.Offers.{Offer, carries_subgroup, dii_of, is_accepted, matches_box, offer_of, offers_in, same_offers}
use Rattle.ssu_route.specs.Windows.{IsChoice, chosen_dii, is_group, offered_by, software_of, window}
use Rattle.ssu_route.specs.declared.choice.Choice.{Choice}
use Rattle.ssu_route.proofs.LevelSteps.{wanted_is}
use Rattle.ssu_route.proofs.Messages.{message_read}
use Rattle.ssu_route.proofs.OwnGroup.{is_own}
use Rattle.ts_section.specs.Events.{Heard}
use Rattle.broadcast_laws.specs.OneOf.{IsGroupForBox, software_of_group}
use Rattle.broadcast_laws.specs.Planned.{IsOfPlan, IsSent, dsi_of_plan}
use Rattle.broadcast_laws.proofs.FileLaws.{joins_files}
use Rattle.broadcast_laws.proofs.KindLaws.{dii_planned, dsi_planned}
use Rattle.broadcast_laws.proofs.Lists.{first_or_later, here, none_in, of_filter, of_map, of_take, same_list, there}
use Rattle.broadcast_laws.proofs.PlanGroups.{told_apart}
use Rattle.broadcast_laws.proofs.ReceivedLaws.{groups_heard, mapped, modules_heard, then_some, window_heard}
use Rattle.broadcast_laws.proofs.TableLaws.{dii_table, dsi_table}

abbrev IsHeardOfPlan : PlanData → List (List ℕ) → List Heard → Type 0
IsHeardOfPlan p images heard = (item : Heard) → Contains heard item → IsOfPlan p images item.section

no_time : (section : List ℕ) → get_or section 0 0 ≡ 59 → get_or section 0 0 ≢ 0x70
no_time section a b = absurd (omega (arith, a, b))

-- ---- the first that passes

pub record IsFound {X : Type 0} (test : X → Bool) (xs : List X) (x : X) : Type 0 where
  pub own : Contains xs x
  pub passes : test x ≡ true

found_step : {X : Type 0} (test : X → Bool) (y : X) (xs : List X) (x : X) (b : Bool) → test y ≡ b → (find test xs ≡ Some x → IsFound test xs x)
    → cond b (Some y) (find test xs) ≡ Some x → IsFound test (y ∷ xs) x
found_step {X} test y xs x true t before e = let same : y ≡ x = cc in subst (λ (z : X). IsFound test (y ∷ xs) z) same (record { own = here y xs; passes = t })
found_step test y xs x false t before e = let i = before e in record { own = there y xs x i.own; passes = i.passes }

found : {X : Type 0} (test : X → Bool) (xs : List X) (x : X) → find test xs ≡ Some x → IsFound test xs x
found test [] x e = absurd cc
found test (y ∷ xs) x e = found_step test y xs x (test y) refl (found test xs x) e

-- the first that passes, where one does
record IsThere {X : Type 0} (test : X → Bool) (xs : List X) : Type 0 where
  pub first : X
  pub is : find test xs ≡ Some first
  pub found : IsFound test xs first

there_step : {X : Type 0} (test : X → Bool) (y : X) (xs : List X) (x : X) (b : Bool) → test y ≡ b → (Contains xs x → IsThere test xs) → Contains (y ∷ xs) x → test x ≡ true
    → IsThere test (y ∷ xs)
there_step test y xs x true s before c t = record { first = y; is = rw s refl; found = record { own = here y xs; passes = s } }
there_step test y xs x false s before c t = elim (first_or_later y xs x c) [
  | inl same ↦ let f = sym s ∙ ap test same ∙ t in absurd cc
  | inr later ↦
      let i = before later in
      record { first = i.first; is = rw s i.is; found = record { own = there y xs i.first i.found.own; passes = i.found.passes } }
]

there_is : {X : Type 0} (test : X → Bool) (xs : List X) (x : X) → Contains xs x → test x ≡ true → IsThere test xs
there_is test [] x c t = absurd (none_in c)
there_is test (y ∷ xs) x c t = there_step test y xs x (test y) refl (λ later. there_is test xs x later t) c t

-- ---- the group of an offer

-- The offer is of this group of the plan, which the box accepts.
record IsOfferOf (p : PlanData) (images : List (List ℕ)) (me : Receiver) (offer : Offer) : Type 0 where
  pub group : GroupFiles
  pub own : Contains (plan_groups p images) group
  pub is : offer_of me (group_fields p.oui group) ≡ offer
  pub matches_it : matches_box me (group_fields p.oui group) ≡ true
  pub admitted : admits me.file.rule me.running (offered me.file.id.oui (group_fields p.oui group).compat) ≡ true

offer_from : (p : PlanData) (images : List (List ℕ)) (me : Receiver) (c : CarouselFound) (offer : Offer) → Contains (offers_in me c (dsi_of_plan p images)) offer → IsOfferOf p images me offer
offer_from p images me c offer own =
    let gs = plan_groups p images in
    let groups = map (group_fields p.oui) gs in
    let listed = of_take 32 (map (offer_of me) (filter (is_accepted me c) groups)) offer own in
    let a = of_map (offer_of me) (filter (is_accepted me c) groups) offer listed in
    let b = of_filter (is_accepted me c) groups a.of a.own in
    let d = of_map (group_fields p.oui) gs a.of b.own in
    let passes : is_accepted me c (group_fields p.oui d.of) ≡ true = ap (is_accepted me c) d.is ∙ b.passes in
    let x = group_fields p.oui d.of in
    let parts = and_parts (matches_box me x && admits me.file.rule me.running (offered me.file.id.oui x.compat)) (carries_subgroup c.subgroup x) passes in
    let first = and_parts (matches_box me x) (admits me.file.rule me.running (offered me.file.id.oui x.compat)) parts.0 in
    record { group = d.of; own = d.own; is = ap (offer_of me) d.is ∙ a.is; matches_it = first.0; admitted = first.1 }

offer_planned : (p : PlanData) (images : List (List ℕ)) (me : Receiver) (heard : List Heard) (offer : Offer) → IsSent p images → IsHeardOfPlan p images heard → Contains (level_6 me heard) offer
    → IsOfferOf p images me offer
offer_planned p images me heard offer sent of_plan own =
    let h = groups_heard me heard offer own in
    let table = dsi_table h.item.section h.is.fields h.is.read in
    let is : h.is.fields ≡ dsi_of_plan p images = dsi_planned p images h.item.section h.is.fields sent (of_plan h.item h.heard_so (no_time h.item.section table)) h.is.read in
    offer_from p images me h.carousel offer (same_list offer (h.is.offers ∙ ap (offers_in me h.carousel) is) own)

-- ---- what a group says to a box

or_false : (a : Bool) → a || (false || false) ≡ true → a ≡ true
or_false true e = refl
or_false false e = absurd cc

record IsHardware (p : PlanData) (g : GroupData) (oui model version : ℕ) : Type 0 where
  pub oui_is : p.oui ≡ oui
  pub model_is : g.model ≡ model
  pub version_is : g.version ≡ version

hardware_is : (p : PlanData) (g : GroupData) (oui model version : ℕ) → matches oui model version (map entry_of (hardware_and_software p.oui g)) ≡ true → IsHardware p g oui model version
unfolding matches
hardware_is p g oui model version e =
    let all : eqb p.oui oui && eqb g.model model && eqb g.version version ≡ true = or_false (eqb p.oui oui && eqb g.model model && eqb g.version version) e in
    let a = and_parts (eqb p.oui oui && eqb g.model model) (eqb g.version version) all in
    let b = and_parts (eqb p.oui oui) (eqb g.model model) a.0 in
    record { oui_is = eqb-true p.oui oui b.0; model_is = eqb-true g.model model b.1; version_is = eqb-true g.version version a.1 }

software_is : (p : PlanData) (g : GroupFiles) (oui : ℕ) → p.oui ≡ oui → offered oui (map entry_of (hardware_and_software p.oui g.group)) ≡ Some (software_of_group g)
unfolding offered
software_is p g oui e = rw (eq-eqb p.oui oui e) refl

-- ---- the wanted group

-- A group of level 6 has this id.
record IsListed (me : Receiver) (heard : List Heard) (group : ℕ) : Type 0 where
  pub offer : Offer
  pub own : Contains (level_6 me heard) offer
  pub id : offer.group ≡ group

listed : (me : Receiver) (heard : List Heard) (group : ℕ) → wanted me heard ≡ Some group → IsListed me heard group
unfolding wanted
listed me heard group e = by_carousel (level_5 me heard) e
  where
    by_carousel : (o : Option CarouselFound) → wanted_at me.bank_len o (level_6 me heard) (since same_offers (level_6 me) heard) ≡ Some group → IsListed me heard group
    by_carousel None f = absurd cc
    by_carousel (Some c) f =
        let m = mapped group_of _ group f in
        let i = found _ (level_6 me heard) m.0 m.1 in
        record { offer = m.0; own = i.own; id = m.2 }

-- ---- the DII

record IsChosenDii (p : PlanData) (images : List (List ℕ)) (me : Receiver) (heard : List Heard) (choice : Choice) : Type 0 where
  pub group : GroupFiles
  pub own : Contains (plan_groups p images) group
  pub id : group.id ≡ choice.group
  pub plan : IsPlanOf (dii_written (dii_draft group)) choice.plan

draft_id : (g : GroupFiles) → (dii_written (dii_draft g)).transaction ≡ g.id
unfolding dii_draft
draft_id g = refl

chosen : (p : PlanData) (images : List (List ℕ)) (me : Receiver) (heard : List Heard) (choice : Choice) → IsSent p images → IsHeardOfPlan p images heard → IsChoice me heard choice
    → IsChosenDii p images me heard choice
unfolding chosen_dii
chosen p images me heard choice sent of_plan is =
    let m = then_some dii_of (level_7 me heard) is.dii is.read in
    let h = modules_heard me heard m.0 m.1 in
    let spelled = dii_exact.takes h.item.section h.is.fields h.is.read in
    let read : dii_of m.0 ≡ Some h.is.fields = ap dii_of (sym h.is.own) ∙ message_read h.is.fields h.item.section spelled in
    let table = dii_table h.item.section h.is.fields h.is.read in
    let planned = dii_planned p images h.item.section h.is.fields sent (of_plan h.item h.heard_so (no_time h.item.section table)) h.is.read in
    let own = is_own me heard m.0 m.1 in
    let e = sym read ∙ m.2 in
    let fields_is : h.is.fields ≡ is.dii = cc in
    let f = sym own.read ∙ m.2 in
    let own_is : own.dii ≡ is.dii = cc in
    let dii_is : is.dii ≡ dii_written (dii_draft planned.group) = sym fields_is ∙ planned.is in
    let w = sym (wanted_is me heard ∙ own.first) ∙ is.group in
    let id : own.dii.transaction ≡ choice.group = cc in
    record {
      group = planned.group;
      own = planned.own;
      id = sym (draft_id planned.group) ∙ ap (λ (d : DiiFields). d.transaction) (sym dii_is ∙ sym own_is) ∙ id;
      plan = subst (λ (d : DiiFields). IsPlanOf d choice.plan) dii_is is.plan;
    }

-- ---- all of it

-- Every offer of this id is that of the group.
one_group : (p : PlanData) (images : List (List ℕ)) (me : Receiver) (g : GroupFiles) (offer : Offer) → Contains (plan_groups p images) g → (of : IsOfferOf p images me offer) → offer.group ≡ g.id
    → of.group ≡ g
one_group p images me g offer own of id = told_apart 0 p.group images of.group g of.own own (ap (λ (o : Offer). o.group) of.is ∙ id)

offered_is : (p : PlanData) (images : List (List ℕ)) (me : Receiver) (heard : List Heard) (g : GroupFiles) (offer : Offer) → IsSent p images → IsHeardOfPlan p images heard
    → Contains (plan_groups p images) g → Contains (level_6 me heard) offer → offer.group ≡ g.id → p.oui ≡ me.file.id.oui → offered_by g.id (level_6 me heard) ≡ software_of_group g
unfolding offered_by
offered_is p images me heard g offer sent of_plan own listed_so id oui =
    let first = there_is (is_group g.id) (level_6 me heard) offer listed_so (eq-eqb offer.group g.id id) in
    let of = offer_planned p images me heard first.first sent of_plan first.found.own in
    let same = one_group p images me g first.first own of (eqb-true first.first.group g.id first.found.passes) in
    let offer_is : offer_of me (group_fields p.oui g) ≡ first.first = ap (λ (x : GroupFiles). offer_of me (group_fields p.oui x)) (sym same) ∙ of.is in
    let software : first.first.software ≡ Some (software_of_group g) = ap (λ (o : Offer). o.software) (sym offer_is) ∙ software_is p g me.file.id.oui oui in
    ap (λ (o : Option Offer). unwrap_or (option_and_then software_of o) no_software) first.is
    ∙ ap (λ (o : Option SwId). unwrap_or o no_software) software

window_known : (p : PlanData) (images : List (List ℕ)) (me : Receiver) (heard : List Heard) → IsHeardOfPlan p images heard → All (IsOfPlan p images) (window me heard)
window_known p images me heard of_plan =
    All-weaker (Contains (window me heard)) (IsOfPlan p images)
    (λ section c. let h = window_heard me heard section c in subst (IsOfPlan p images) h.is (of_plan h.item h.heard_so))
    (window me heard) (All-contains_itself (window me heard))

pub is_for_box_over : (p : PlanData) (images : List (List ℕ)) → IsSent p images → (me : Receiver) (heard : List Heard) → ((item : Heard) → Contains heard item → IsOfPlan p images item.section)
    → (sections : List (List ℕ)) → All (IsOfPlan p images) sections → (choice : Choice) (image : List ℕ) → IsChoice me heard choice
    → CarriesWhole choice.plan (filling choice.plan sections) image → IsGroupForBox p images me choice.group choice.software image
is_for_box_over p images sent me heard of_plan sections known choice image is whole =
    let dii_of_group = chosen p images me heard choice sent of_plan is in
    let g = dii_of_group.group in
    let offer = listed me heard choice.group is.group in
    let of = offer_planned p images me heard offer.offer sent of_plan offer.own in
    let id : offer.offer.group ≡ g.id = offer.id ∙ sym dii_of_group.id in
    let same = one_group p images me g offer.offer dii_of_group.own of id in
    let matched = subst (λ (x : GroupFiles). matches_box me (group_fields p.oui x) ≡ true) same of.matches_it in
    let hardware = hardware_is p g.group me.file.id.oui me.file.id.model me.file.id.version matched in
    let admitted = subst (λ (x : GroupFiles). admits me.file.rule me.running (offered me.file.id.oui (group_fields p.oui x).compat) ≡ true) same of.admitted in
    let software = software_is p g me.file.id.oui hardware.oui_is in
    let joined = joins_files p images g choice.plan sections sent dii_of_group.own dii_of_group.plan known whole.filled in
    record {
      group = g;
      own = dii_of_group.own;
      own_id = dii_of_group.id;
      oui = hardware.oui_is;
      model = hardware.model_is;
      version = hardware.version_is;
      offers = sym (offered_is p images me heard g offer.offer sent of_plan dii_of_group.own offer.own id hardware.oui_is)
          ∙ ap (λ (n : ℕ). offered_by n (level_6 me heard)) dii_of_group.id
          ∙ sym is.software;
      admitted = ap (admits me.file.rule me.running) (sym software) ∙ admitted;
      joined = whole.joins ∙ joined;
    }

-- by the window of its choice
pub is_for_box : (p : PlanData) (images : List (List ℕ)) → IsSent p images → (me : Receiver) (heard : List Heard) → ((item : Heard) → Contains heard item → IsOfPlan p images item.section)
    → (choice : Choice) (image : List ℕ) → IsChoice me heard choice → CarriesWhole choice.plan (filling choice.plan (window me heard)) image
    → IsGroupForBox p images me choice.group choice.software image
is_for_box p images sent me heard of_plan = is_for_box_over p images sent me heard of_plan (window me heard) (window_known p images me heard of_plan)
