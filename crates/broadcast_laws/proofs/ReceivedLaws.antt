-- Of which sections the levels of a route are made.
use Rattle.std.proofs.Common.{◌≡◌, ℕ, inl, inr, Bool, true, false, cond, eqb, List, [], ◌∷◌, Option, Some, None, refl, sym, ap, subst, ◌∙◌}
use Rattle.std.specs.Prelude.{Contains, unwrap_or}
use Rattle.std.specs.Option.{option_and_then, option_map, option_or}
use Rattle.std.proofs.lemmas.Bool.{eqb-true}
use Rattle.route_part.specs.Part.{since, steady}
use Rattle.route_part.specs.Said.{held_said, last_said}
use Rattle.route_part.proofs.Steps.{last_said-none, last_said-step, since-changes, since-stays}
use Rattle.dsmcc_msg.specs.Control.{DiiFields, dii, dsi}
use Rattle.route_tables.specs.Levels.{level_5}
use Rattle.route_tables.specs.Said.{on}
use Rattle.route_tables.specs.Values.{CarouselFound, Receiver, same_carousel}
use Rattle.ssu_route.specs.Choosing.{level_6, level_7, message_bytes, message_by, message_said, offers_by, wanted_by}
use Rattle.ssu_route.specs.Offers.{Offer, dii_if, dii_said, offers_in, offers_said, same_group, same_message, same_offers}
use Rattle.ssu_route.specs.Windows.{window, window_of}
use Rattle.ts_section.specs.Events.{Heard}
use Rattle.broadcast_laws.specs.Received.{IsDiiOf, IsDsiOf, IsHeardOn}
use Rattle.broadcast_laws.proofs.Lists.{IsSaid, first_or_later, here, none_in, of_filter_map, same_list, there}

-- ---- parts of a history

since_step : {X V : Type 0} (same : V → V → Bool) (value : List X → V) (item : X) (earlier : List X) (x : X) (b : Bool) → same (value (item ∷ earlier)) (value earlier) ≡ b
    → (Contains (since same value earlier) x → Contains earlier x) → Contains (since same value (item ∷ earlier)) x → Contains (item ∷ earlier) x
since_step {X} {V} same value item earlier x true e before c = elim (first_or_later item (since same value earlier) x (same_list x (since-stays same value item earlier e) c)) [
  | inl first ↦ subst (λ (z : X). Contains (item ∷ earlier) z) first (here item earlier)
  | inr later ↦ there item earlier x (before later)
]
since_step same value item earlier x false e before c = absurd (none_in (same_list x (since-changes same value item earlier e) c))

since_part : {X V : Type 0} (same : V → V → Bool) (value : List X → V) (xs : List X) (x : X) → Contains (since same value xs) x → Contains xs x
unfolding since
since_part same value [] x c = c
since_part same value (item ∷ earlier) x c =
    since_step same value item earlier x (same (value (item ∷ earlier)) (value earlier)) refl (since_part same value earlier x) c

steady_else : {X : Type 0} (item : X) (earlier part : List X) (x : X) (b : Bool) → (Contains part x → Contains earlier x) → Contains (item ∷ cond b part []) x → Contains (item ∷ earlier) x
steady_else {X} item earlier part x true before c = elim (first_or_later item part x c) [
  | inl first ↦ subst (λ (z : X). Contains (item ∷ earlier) z) first (here item earlier)
  | inr later ↦ there item earlier x (before later)
]
steady_else {X} item earlier part x false before c = elim (first_or_later item [] x c) [
  | inl first ↦ subst (λ (z : X). Contains (item ∷ earlier) z) first (here item earlier)
  | inr later ↦ absurd (none_in later)
]

steady_part : {X V : Type 0} (same : V → V → Bool) (value : List X → V) (xs : List X) (x : X) → Contains (steady same value xs) x → Contains xs x
unfolding steady
steady_part same value [] x c = c
steady_part same value (item ∷ earlier) x c =
    steady_else item earlier (steady same value earlier) x (same (value (item ∷ earlier)) (value earlier)) (steady_part same value earlier x) c

last_step : {X A : Type 0} (says : X → Option A) (item : X) (earlier : List X) (a : A) (o : Option A) → says item ≡ o → (last_said says earlier ≡ Some a → IsSaid says earlier a)
    → option_or o (last_said says earlier) ≡ Some a → IsSaid says (item ∷ earlier) a
last_step says item earlier a None is before e = let i = before e in record { of = i.of; own = there item earlier i.of i.own; is = i.is }
last_step says item earlier a (Some b) is before e = record { of = item; own = here item earlier; is = is ∙ e }

last_said_by : {X A : Type 0} (says : X → Option A) (part : List X) (a : A) → last_said says part ≡ Some a → IsSaid says part a
last_said_by says [] a e = let none = last_said-none says in absurd cc
last_said_by says (item ∷ earlier) a e = last_step says item earlier a (says item) refl (last_said_by says earlier a) (sym (last_said-step says item earlier) ∙ e)

-- ---- what one item says

abbrev pub IsMapped : {A B : Type 0} → (A → B) → Option A → B → Type 0
IsMapped {A} f o b = (a : A) × (o ≡ Some a) × (f a ≡ b)

pub mapped : {A B : Type 0} (f : A → B) (o : Option A) (b : B) → option_map f o ≡ Some b → IsMapped f o b
mapped f None b e = absurd cc
mapped {A} {B} f (Some a) b e = let same : f a ≡ b = cc in (a, refl, same)

abbrev pub IsThen : {A B : Type 0} → (A → Option B) → Option A → B → Type 0
IsThen {A} f o b = (a : A) × (o ≡ Some a) × (f a ≡ Some b)

pub then_some : {A B : Type 0} (f : A → Option B) (o : Option A) (b : B) → option_and_then f o ≡ Some b → IsThen f o b
then_some f None b e = absurd cc
then_some f (Some a) b e = (a, refl, e)

on_tells : (pid : ℕ) (item : Heard) (section : List ℕ) → on pid item ≡ Some section → (item.pid ≡ pid) × (item.section ≡ section)
on_tells pid item section e = by_test (eqb item.pid pid) refl
  where
    by_test : (b : Bool) → eqb item.pid pid ≡ b → (item.pid ≡ pid) × (item.section ≡ section)
    by_test true t =
        let f : Some item.section ≡ Some section = ap (λ (b : Bool). cond b (Some item.section) None) (sym t) ∙ e in
        let same : item.section ≡ section = cc in
        (eqb-true item.pid pid t, same)
    by_test false t =
        let nothing : Option (List ℕ) = None in
        let f : nothing ≡ Some section = ap (λ (b : Bool). cond b (Some item.section) nothing) (sym t) ∙ e in absurd cc

if_tells : (group : ℕ) (d e : DiiFields) → dii_if group d ≡ Some e → d ≡ e
if_tells group d e h = by_test (eqb d.transaction group) h
  where
    by_test : (b : Bool) → cond b (Some d) None ≡ Some e → d ≡ e
    by_test true f = cc
    by_test false f = absurd cc

-- ---- level 7

by_dii : (me : Receiver) (heard : List Heard) (c : CarouselFound) (group : ℕ) (message : List ℕ) (item : Heard) → level_5 me heard ≡ Some c → Contains heard item
    → option_map message_bytes (dii_said c.pid group item) ≡ Some message → IsHeardOn me heard (λ c section. IsDiiOf message section)
unfolding dii_said
by_dii me heard c group message item found among said =
    let d = mapped message_bytes (dii_said c.pid group item) message said in
    let read = then_some (dii_if group) (option_and_then (λ section. dii.of section) (on c.pid item)) d.0 d.1 in
    let text = then_some (λ section. dii.of section) (on c.pid item) read.0 read.1 in
    let place = on_tells c.pid item text.0 text.1 in
    record {
      carousel = c;
      found = found;
      item = item;
      heard_so = among;
      on_it = place.0;
      is = record { fields = d.0; read = ap dii.of place.1 ∙ text.2 ∙ ap (λ (x : DiiFields). Some x) (if_tells group read.0 d.0 read.2); own = d.2 };
    }

by_wanted : (me : Receiver) (heard : List Heard) (c : CarouselFound) (group : Option ℕ) (message : List ℕ) (item : Heard) → level_5 me heard ≡ Some c → Contains heard item
    → message_said c.pid group item ≡ Some message → IsHeardOn me heard (λ c section. IsDiiOf message section)
by_wanted me heard c None message item found among said = absurd cc
by_wanted me heard c (Some group) message item found among said = by_dii me heard c group message item found among said

by_held : (me : Receiver) (heard : List Heard) (message : List ℕ) (o : Option CarouselFound) (offers : List Offer) → level_5 me heard ≡ o
    → message_by me.bank_len o offers (since same_offers (level_6 me) heard) ≡ Some message → IsHeardOn me heard (λ c section. IsDiiOf message section)
unfolding held_said
by_held me heard message None offers found said = absurd cc
by_held me heard message (Some c) offers found said =
    let part = since same_offers (level_6 me) heard in
    let key = wanted_by me.bank_len c.pid offers in
    let is = last_said_by (message_said c.pid (key part)) (steady same_group key part) message said in
    by_wanted me heard c (key part) message is.of found (since_part same_offers (level_6 me) heard is.of (steady_part same_group key part is.of is.own)) is.is

pub modules_heard : (me : Receiver) (heard : List Heard) (message : List ℕ) → level_7 me heard ≡ Some message → IsHeardOn me heard (λ c section. IsDiiOf message section)
unfolding level_7
modules_heard me heard message e = by_held me heard message (level_5 me heard) (level_6 me heard) refl e

-- ---- level 6

by_dsi : (me : Receiver) (heard : List Heard) (c : CarouselFound) (offers : List Offer) (item : Heard) → level_5 me heard ≡ Some c → level_6 me heard ≡ offers → Contains heard item
    → offers_said me c item ≡ Some offers → IsHeardOn me heard (IsDsiOf me heard)
unfolding offers_said
by_dsi me heard c offers item found same among said =
    let d = mapped (offers_in me c) (option_and_then (λ section. dsi.of section) (on c.pid item)) offers said in
    let text = then_some (λ section. dsi.of section) (on c.pid item) d.0 d.1 in
    let place = on_tells c.pid item text.0 text.1 in
    record {
      carousel = c;
      found = found;
      item = item;
      heard_so = among;
      on_it = place.0;
      is = record { fields = d.0; read = ap dsi.of place.1 ∙ text.2; offers = same ∙ sym d.2 };
    }

by_said : (me : Receiver) (heard : List Heard) (c : CarouselFound) (offer : Offer) (o : Option (List Offer)) → level_5 me heard ≡ Some c → level_6 me heard ≡ unwrap_or o []
    → last_said (offers_said me c) (since same_carousel (level_5 me) heard) ≡ o → Contains (unwrap_or o []) offer → IsHeardOn me heard (IsDsiOf me heard)
by_said me heard c offer None found same said among = absurd (none_in among)
by_said me heard c offer (Some offers) found same said among =
    let is = last_said_by (offers_said me c) (since same_carousel (level_5 me) heard) offers said in
    by_dsi me heard c offers is.of found same (since_part same_carousel (level_5 me) heard is.of is.own) is.is

by_carousel : (me : Receiver) (heard : List Heard) (offer : Offer) (o : Option CarouselFound) → level_5 me heard ≡ o → level_6 me heard ≡ offers_by me o (since same_carousel (level_5 me) heard)
    → Contains (offers_by me o (since same_carousel (level_5 me) heard)) offer → IsHeardOn me heard (IsDsiOf me heard)
by_carousel me heard offer None found same among = absurd (none_in among)
by_carousel me heard offer (Some c) found same among =
    by_said me heard c offer (last_said (offers_said me c) (since same_carousel (level_5 me) heard)) found same refl among

pub groups_heard : (me : Receiver) (heard : List Heard) (offer : Offer) → Contains (level_6 me heard) offer → IsHeardOn me heard (IsDsiOf me heard)
unfolding level_6
groups_heard me heard offer among = by_carousel me heard offer (level_5 me heard) refl refl among

-- ---- the window

by_place : (me : Receiver) (heard : List Heard) (section : List ℕ) (o : Option CarouselFound) → level_5 me heard ≡ o → Contains (window_of o (since same_message (level_7 me) heard)) section
    → IsHeardOn me heard (λ c heard_section. heard_section ≡ section)
by_place me heard section None found among = absurd (none_in among)
by_place me heard section (Some c) found among =
    let is = of_filter_map (on c.pid) (since same_message (level_7 me) heard) section among in
    let place = on_tells c.pid is.of section is.is in
    record {
      carousel = c;
      found = found;
      item = is.of;
      heard_so = since_part same_message (level_7 me) heard is.of is.own;
      on_it = place.0;
      is = place.1;
    }

pub window_heard : (me : Receiver) (heard : List Heard) (section : List ℕ) → Contains (window me heard) section → IsHeardOn me heard (λ c heard_section. heard_section ≡ section)
unfolding window
window_heard me heard section among = by_place me heard section (level_5 me heard) refl among
