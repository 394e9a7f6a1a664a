-- A group that is decided was collected, and from audited sections it has one image.
use Rattle.std.proofs.Common.{◌≡◌, ℕ, ◌<◌, Bool, true, false, cond, eqb, leb, List, [], ◌∷◌, ◌++◌, Option, Some, None, inl, inr, refl, sym, ap, subst, ◌∙◌, arith}
use Rattle.std.proofs.lemmas.Bool.{eqb-true, eq-eqb}
use Rattle.std.specs.Prelude.{Contains, IsSome, Ok}
use Rattle.std.specs.List.{filter_map}
use Rattle.std.specs.Option.{option_map}
use Rattle.audit_answer.specs.declared.answers.AuditYes.{AuditYes}
use Rattle.dsmcc_msg.specs.Control.{DiiFields}
use Rattle.route_part.specs.Part.{since}
use Rattle.route_tables.specs.Levels.{level_5}
use Rattle.route_tables.specs.Said.{on}
use Rattle.route_tables.specs.Values.{CarouselFound, Receiver}
use Rattle.ssu_answer.specs.declared.chosen.Chosen.{Chosen}
use Rattle.ssu_audit.specs.Calls.{Call, carousel}
use Rattle.ssu_audit.specs.Ending.{Ends}
use Rattle.ssu_audit.specs.Hearing.{IsOpen}
use Rattle.ssu_audit.specs.OneImage.{HasOneImage}
use Rattle.ssu_audit.specs.Said.{dii_of_group}
use Rattle.ssu_audit.proofs.Holding.{says_dii}
use Rattle.ssu_audit.proofs.OneImages.{one_image_per_group}
use Rattle.ssu_audit.proofs.Places.{contains-here, contains-later, first_or_other}
use Rattle.ssu_group.specs.Carried.{CarriesWhole, Fills}
use Rattle.ssu_loader.proofs.KeptLaws.{window_alone}
use Rattle.ssu_loader.specs.Decisions.{IsWhole, Reaches, Whole}
use Rattle.ssu_loader.specs.Opening.{KeepsNothing}
use Rattle.ssu_route.specs.Choosing.{level_7}
use Rattle.ssu_route.specs.Queries.{carousel_pid}
use Rattle.ssu_route.specs.Windows.{beginnings, most_choices, standing, window, window_of}
use Rattle.ssu_route.specs.Offers.{same_message}
use Rattle.ssu_route.proofs.Choices.{carousel_stands}
use Rattle.ts_section.specs.Events.{Heard}
use Rattle.audit_replay.specs.Collected.{AreAudited, IsCollected, IsListed}

abbrev added : Option (List ℕ) → List (List ℕ) → List (List ℕ)
added None others = others
added (Some x) others = x ∷ others

none_is : (o : Option (List ℕ)) → o ≡ None → IsSome o → ⊥
none_is None e some = absurd cc
none_is (Some x) e some = cc

-- ---- the window of a choice

contains-none : {A : Type 0} (x : A) → Contains [] x → ⊥
contains-none x c = let no : c.0 < 0 = c.1 in omega arith

since_among : (same : Option (List ℕ) → Option (List ℕ) → Bool) (value : List Heard → Option (List ℕ)) (heard : List Heard) (x : Heard) → Contains (since same value heard) x → Contains heard x
unfolding since
since_among same value [] x c = c
since_among same value (item ∷ earlier) x c = by_test (same (value (item ∷ earlier)) (value earlier)) (since_among same value earlier x) c
  where
    by_test : (is : Bool) → (Contains (since same value earlier) x → Contains earlier x) → Contains (cond is (item ∷ since same value earlier) []) x → Contains (item ∷ earlier) x
    by_test false more c = absurd (contains-none x c)
    by_test true more c =
        elim (first_or_other x item (since same value earlier) c) as (λ _. Contains (item ∷ earlier) x) [
          | inl is ↦ subst (λ (y : Heard). Contains (item ∷ earlier) y) is (contains-here item earlier)
          | inr later ↦ contains-later x item earlier (more later)
        ]

-- a section of the window, with where it was heard
record HeardOn (pid : ℕ) (heard : List Heard) (section : List ℕ) : Type 0 where
  item : Heard
  among : Contains heard item
  own : item.pid ≡ pid
  is : item.section ≡ section

filtered : (pid : ℕ) (part : List Heard) (section : List ℕ) → Contains (filter_map (on pid) part) section → HeardOn pid part section
filtered pid [] section c = absurd (contains-none section c)
filtered pid (item ∷ part) section c = by_test (eqb item.pid pid) refl (filtered pid part section) c
  where
    later : HeardOn pid part section → HeardOn pid (item ∷ part) section
    later h = record { item = h.item; among = contains-later h.item item part h.among; own = h.own; is = h.is }

    by_test : (is : Bool) → eqb item.pid pid ≡ is → (Contains (filter_map (on pid) part) section → HeardOn pid part section)
        → Contains (filter_map (on pid) (item ∷ part)) section → HeardOn pid (item ∷ part) section
    by_test false e more c = later (more (subst (λ (o : Option (List ℕ)). Contains (added o (filter_map (on pid) part)) section) (ap (λ (b : Bool). cond b (Some item.section) None) e) c))
    by_test true e more c =
        elim (first_or_other section item.section (filter_map (on pid) part)
        (subst (λ (o : Option (List ℕ)). Contains (added o (filter_map (on pid) part)) section) (ap (λ (b : Bool). cond b (Some item.section) None) e) c))
        as (λ _. HeardOn pid (item ∷ part) section) [
          | inl is ↦ record { item = item; among = contains-here item part; own = eqb-true item.pid pid e; is = is }
          | inr other ↦ later (more other)
        ]

in_window : (me : Receiver) (heard : List Heard) (pid : ℕ) (section : List ℕ) → carousel_pid me heard ≡ Some pid → Contains (window me heard) section → HeardOn pid heard section
unfolding window carousel_pid
in_window me heard pid section e c = by_carousel (level_5 me heard) e c
  where
    by_carousel : (o : Option CarouselFound) → option_map (λ (f : CarouselFound). f.pid) o ≡ Some pid → Contains (window_of o (since same_message (level_7 me) heard)) section → HeardOn pid heard section
    by_carousel None e c = cc
    by_carousel (Some f) e c =
        let own : f.pid ≡ pid = cc in
        let h = filtered f.pid (since same_message (level_7 me) heard) section c in
        record { item = h.item; among = since_among same_message (level_7 me) heard h.item h.among; own = h.own ∙ own; is = h.is }

-- ---- what is decided

level_stands : (me : Receiver) (heard : List Heard) → IsSome (standing me heard) → IsSome (level_7 me heard)
unfolding standing
level_stands me heard some = by_count (leb (beginnings me heard) most_choices) some
  where
    by_count : (few : Bool) → IsSome (cond few (level_7 me heard) None) → IsSome (level_7 me heard)
    by_count true some = some
    by_count false some = absurd (none_is None refl some)

value_of : (o : Option ℕ) → IsSome o → (n : ℕ) × (o ≡ Some n)
value_of None some = absurd cc
value_of (Some n) some = (n, refl)

abbrev Collects : Receiver → List Heard → Chosen → List ℕ → Type 0
Collects me heard chosen image = (pid : ℕ) × ((dii : DiiFields) × IsCollected me heard chosen image pid dii)

collected_now : (me : Receiver) → KeepsNothing me → (item : Heard) (earlier : List Heard) (chosen : Chosen) (image : List ℕ) → IsWhole me (item ∷ earlier) chosen image → Collects me (item ∷ earlier) chosen image
collected_now me keeps item earlier chosen image w =
    let v = value_of (carousel_pid me (item ∷ earlier)) (carousel_stands me (item ∷ earlier) (level_stands me (item ∷ earlier) w.standing.stands)) in (
      v.0,
      (
        w.standing.chosen.dii,
        record {
          later = [];
          item = item;
          earlier = earlier;
          parts = refl;
          choice = w.choice;
          standing = w.standing;
          is = w.is;
          whole = subst (λ (fills : Fills). CarriesWhole w.choice.plan fills image)
              (window_alone me keeps (item ∷ earlier) w.choice.plan (level_stands me (item ∷ earlier) w.standing.stands)) w.whole;
          plan = w.standing.chosen.plan;
          on = v.1;
        },
      ),
    )

collected_later : (me : Receiver) (item : Heard) (earlier : List Heard) (chosen : Chosen) (image : List ℕ) → Collects me earlier chosen image → Collects me (item ∷ earlier) chosen image
collected_later me item earlier chosen image c =
    let i = c.1.1 in (
      c.0,
      (
        c.1.0,
        record {
          later = item ∷ i.later;
          item = i.item;
          earlier = i.earlier;
          parts = ap (λ (xs : List Heard). item ∷ xs) i.parts;
          choice = i.choice;
          standing = i.standing;
          is = i.is;
          whole = i.whole;
          plan = i.plan;
          on = i.on;
        },
      ),
    )

pub collected : (me : Receiver) → KeepsNothing me → (heard : List Heard) (chosen : Chosen) (image : List ℕ) → Reaches me heard (Whole chosen image) → Collects me heard chosen image
unfolding Reaches
collected me keeps [] chosen image r = absurd r
collected me keeps (item ∷ earlier) chosen image (inl r) = collected_later me item earlier chosen image (collected me keeps earlier chosen image r)
collected me keeps (item ∷ earlier) chosen image (inr r) = collected_now me keeps item earlier chosen image r.1

-- ---- one image

among_behind : (later earlier : List Heard) (x : Heard) → Contains earlier x → Contains (later ++ earlier) x
among_behind [] earlier x c = c
among_behind (y ∷ later) earlier x c = contains-later x y (later ++ earlier) (among_behind later earlier x c)

pub one_image : (calls : List Call) (counts : AuditYes) → IsOpen calls → Ends calls (Ok counts) → (me : Receiver) (heard : List Heard) (chosen : Chosen) (image : List ℕ) (pid : ℕ) (dii : DiiFields)
    → IsCollected me heard chosen image pid dii → AreAudited calls pid heard → IsListed calls dii → HasOneImage (carousel calls) dii image
one_image calls counts undecided ends me heard chosen image pid dii c audited listed =
    let per = one_image_per_group calls undecided ends.0 in
    let g = per.each listed.dsi_section listed.d listed.group listed.dsi_there listed.dsi_read listed.among in
    let own : dii_of_group listed.group.id listed.section ≡ Some dii =
    says_dii listed.group.id listed.section dii listed.read ∙ ap (λ (b : Bool). cond b (Some dii) None) (eq-eqb listed.group.id dii.transaction listed.own) in
    let has = g.1.each listed.section dii listed.there own in
    let now = c.item ∷ c.earlier in
    let same : image ≡ g.0 = has.one (window me now) c.choice.plan image
    (λ section among.
    let h = in_window me now pid section c.on among in
    let in_heard : Contains heard h.item = subst (λ (xs : List Heard). Contains xs h.item) (sym c.parts) (among_behind c.later now h.item h.among) in
    subst (λ (s : List ℕ). Contains (carousel calls) s) h.is (audited h.item in_heard h.own))
    c.plan c.whole in
    subst (λ (xs : List ℕ). HasOneImage (carousel calls) dii xs) (sym same) has
