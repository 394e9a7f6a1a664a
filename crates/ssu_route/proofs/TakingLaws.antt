-- What a DII does to what is kept.
use Rattle.std.proofs.Common.{◌≡◌, ℕ, eqb, Bool, true, false, not, List, [], ◌∷◌, Option, Some, None, refl, ap, ◌∙◌, sym, subst}
use Rattle.std.specs.Prelude.{map, if◌then◌else◌, is_some}
use Rattle.std.specs.List.{find, list_any}
use Rattle.std.specs.Option.{option_map, option_or}
use Rattle.std.specs.Str.{bytes_eq}
use Rattle.std.proofs.lemmas.Bool.{eqb-true, eq-eqb, eqb-false, ne_eqb, or_parts}
use Rattle.std.proofs.lemmas.Slice.Eq.{bytes_eq-Decides}
use Rattle.dsmcc_msg.specs.Control.{DiiFields}
use Rattle.ssu_group.specs.Refusal.{refusal}
use Rattle.ssu_group.specs.Lays.{IsPlanOf}
use Rattle.ssu_group.specs.declared.group_plan.GroupPlan.{GroupPlan}
use Rattle.route_tables.specs.Values.{same_option}
use Rattle.ssu_route.specs.declared.change.Change.{Change}
use Rattle.ssu_route.specs.declared.change.Change.TheVariants.{Same, Chosen, Lost}
use Rattle.ssu_route.specs.declared.choice.Choice.{Choice}
use Rattle.ssu_route.specs.declared.found.Found.{Found}
use Rattle.ssu_route.specs.declared.kept.Kept.{Kept}
use Rattle.ssu_route.specs.Offers.{Offer, dii_of, same_group, same_message}
use Rattle.ssu_route.specs.Windows.{change_of, offered_by}
use Rattle.ssu_route.specs.Kept.{IsPlanned, first_usable, found_group, has_group, mark_if, marked, message_for, message_if, next_held, offers_of, seen, seen_offer, stands}
use Rattle.ssu_route.specs.Route.{Chooses, EndsLapsed, Takes, WherePlanned, choice_of, held, held_by, is_first, is_held, lapses}

abbrev pub some : {A : Type 0} → A → Option A
some x = Some x

pub some_same : {A : Type 0} (x y : A) → some x ≡ some y → x ≡ y
some_same x y e = cc

-- ---- the same is the same

bytes_same : (xs : List ℕ) → bytes_eq xs xs ≡ true
bytes_same xs = (bytes_eq-Decides xs xs).1 refl

pub message_same : (m : Option (List ℕ)) → same_message m m ≡ true
unfolding same_option
message_same None = refl
message_same (Some m) = bytes_same m

pub group_same : (g : Option ℕ) → same_group g g ≡ true
unfolding same_option
group_same None = refl
group_same (Some g) = eq-eqb g g refl

pub nothing_changes : (m : Option (List ℕ)) → Same ≡ change_of m m
unfolding change_of
nothing_changes m = rw (message_same m) refl

pub lost : (m : List ℕ) → Lost ≡ change_of (Some m) None
unfolding change_of same_option
lost m = refl

pub chosen : (before : Option (List ℕ)) (m : List ℕ) → same_message before (Some m) ≡ false → change_of before (Some m) ≡ Chosen
unfolding change_of
chosen before m h = rw h refl

message_if-none : (c : Option Choice) → is_some c ≡ false → Same ≡ change_of (message_if c) None
message_if-none None h = nothing_changes None
message_if-none (Some c) h = cc

message_if-some : (c : Option Choice) → is_some c ≡ true → Lost ≡ change_of (message_if c) None
message_if-some None h = cc
message_if-some (Some c) h = lost c.message.items

pub ends_none : (kept : Kept) → is_some kept.choice ≡ false → Same ≡ change_of (held kept) None
ends_none kept h = message_if-none kept.choice h

pub ends_some : (kept : Kept) → is_some kept.choice ≡ true → Lost ≡ change_of (held kept) None
ends_some kept h = message_if-some kept.choice h

abbrev none_held : Option (List ℕ)
none_held = None

-- ---- marks

unmarked : (f : Found) (usable b : Bool) → seen_offer (if b then record f { usable = usable } else f) ≡ seen_offer f
unmarked f usable true = refl
unmarked f usable false = refl

pub offers-mark : (group : ℕ) (usable : Bool) (fs : List Found) → offers_of (map (mark_if group usable) fs) ≡ offers_of fs
offers-mark group usable [] = refl
offers-mark group usable (f ∷ fs) =
    ap (λ o. o ∷ offers_of (map (mark_if group usable) fs)) (unmarked f usable (eqb f.group group))
    ∙ ap (λ os. seen_offer f ∷ os) (offers-mark group usable fs)

pub mark_unlisted : (group : ℕ) (usable : Bool) (fs : List Found) → list_any (has_group group) fs ≡ false → map (mark_if group usable) fs ≡ fs
mark_unlisted group usable [] h = refl
mark_unlisted group usable (f ∷ fs) h =
    let parts = or_parts (eqb f.group group) (list_any (has_group group) fs) h in
    ap (λ b. (if b then record f { usable = usable } else f) ∷ map (mark_if group usable) fs) parts.0
    ∙ ap (λ rest. f ∷ rest) (mark_unlisted group usable fs parts.1)

seen_marked : (usable : ℕ → Bool) (group : ℕ) (o : Offer) (b : Bool) → eqb o.group group ≡ b → usable group ≡ true →
    (if b then record (seen usable o) { usable = true } else seen usable o) ≡ seen usable o
seen_marked usable group o true e u = ap (λ t. record (seen usable o) { usable = t }) (sym (ap usable (eqb-true o.group group e) ∙ u))
seen_marked usable group o false e u = refl

pub mark_seen : (usable : ℕ → Bool) (group : ℕ) (os : List Offer) → usable group ≡ true → map (mark_if group true) (map (seen usable) os) ≡ map (seen usable) os
mark_seen usable group [] u = refl
mark_seen usable group (o ∷ os) u =
    ap (λ f. f ∷ map (mark_if group true) (map (seen usable) os)) (seen_marked usable group o (eqb o.group group) refl u)
    ∙ ap (λ rest. seen usable o ∷ rest) (mark_seen usable group os u)

-- ---- the first that stands

pub first-cons : (f : Found) (fs : List Found) → first_usable (f ∷ fs) ≡ (if f.usable then Some f.group else first_usable fs)
unfolding first_usable
first-cons f fs = by_mark f.usable
  where
    by_mark : (b : Bool) → option_map found_group (if b then Some f else find stands fs) ≡ (if b then Some f.group else option_map found_group (find stands fs))
    by_mark true = refl
    by_mark false = refl

-- where the head is not of the group, or does not stand, the group is first only if it is in the rest
not_here : (group : ℕ) (g : ℕ) (b : Bool) (rest : Option ℕ) → (b ≡ true → eqb g group ≡ false) → same_group rest (Some group) ≡ false →
    same_group (if b then Some g else rest) (Some group) ≡ false
unfolding same_option
not_here group g true rest other later = other refl
not_here group g false rest other later = later

pub first_unlisted : (group : ℕ) (fs : List Found) → list_any (has_group group) fs ≡ false → is_first group fs ≡ false
unfolding same_option first_usable
first_unlisted group [] h = refl
first_unlisted group (f ∷ fs) h =
    let parts = or_parts (eqb f.group group) (list_any (has_group group) fs) h in
    ap (λ g. same_group g (Some group)) (first-cons f fs) ∙ not_here group f.group f.usable (first_usable fs) (λ _. parts.0) (first_unlisted group fs parts.1)

refused_at : (group : ℕ) (f : Found) (rest : Option ℕ) (b : Bool) → eqb f.group group ≡ b → same_group rest (Some group) ≡ false →
    same_group (if (if b then record f { usable = false } else f).usable then Some (if b then record f { usable = false } else f).group else rest) (Some group) ≡ false
refused_at group f rest true e later = later
refused_at group f rest false e later = not_here group f.group f.usable rest (λ _. e) later

pub first_refused : (group : ℕ) (fs : List Found) → is_first group (map (mark_if group false) fs) ≡ false
unfolding same_option first_usable
first_refused group [] = refl
first_refused group (f ∷ fs) =
    ap (λ g. same_group g (Some group)) (first-cons (mark_if group false f) (map (mark_if group false) fs))
    ∙ refused_at group f (first_usable (map (mark_if group false) fs)) (eqb f.group group) refl (first_refused group fs)

seen_at : (usable : ℕ → Bool) (o : Offer) (group : ℕ) (rest : Option ℕ) (b : Bool) → usable o.group ≡ b → (rest ≡ Some group → usable group ≡ true) →
    (if b then Some o.group else rest) ≡ Some group → usable group ≡ true
seen_at usable o group rest true e later h = ap usable (sym (some_same o.group group h)) ∙ e
seen_at usable o group rest false e later h = later h

pub seen_first : (usable : ℕ → Bool) (os : List Offer) (group : ℕ) → first_usable (map (seen usable) os) ≡ Some group → usable group ≡ true
unfolding first_usable
seen_first usable [] group h = cc
seen_first usable (o ∷ os) group h =
    seen_at usable o group (first_usable (map (seen usable) os)) (usable o.group) refl (seen_first usable os group)
    (sym (first-cons (seen usable o) (map (seen usable) os)) ∙ h)

-- ---- the message of the wanted group

message_other : (w : Option ℕ) (d : DiiFields) → same_group w (Some d.transaction) ≡ false → message_for w (Some d) ≡ None
unfolding same_option
message_other None d h = refl
message_other (Some g) d h =
    let differs : eqb d.transaction g ≡ false = ne_eqb d.transaction g (λ e. eqb-false g d.transaction h (sym e)) in
    rw differs refl

message_own : (w : Option ℕ) (d : DiiFields) → same_group w (Some d.transaction) ≡ true → message_for w (Some d) ≡ Some d.message
unfolding same_option
message_own None d h = cc
message_own (Some g) d h =
    let agrees : eqb d.transaction g ≡ true = eq-eqb d.transaction g (sym (eqb-true g d.transaction h)) in
    rw agrees refl

first_same : (w : Option ℕ) (group : ℕ) → same_group w (Some group) ≡ true → w ≡ Some group
unfolding same_option
first_same None group h = cc
first_same (Some g) group h = ap some (eqb-true g group h)

-- ---- what a DII changes

-- a DII of no group that was found
pub take_unlisted : (bank_len : ℕ) (d : DiiFields) (kept : Kept) → list_any (has_group d.transaction) kept.groups.items ≡ false → WherePlanned bank_len kept →
    Takes bank_len (Some d) kept kept Same
take_unlisted bank_len d kept h planned = record {
  groups = sym (mark_unlisted d.transaction (not (is_some (refusal d bank_len))) kept.groups.items h);
  message = stays;
  planned = planned;
  change = nothing_changes (held kept);
}
  where
    none : message_for (first_usable kept.groups.items) (Some d) ≡ None
    none = message_other (first_usable kept.groups.items) d (first_unlisted d.transaction kept.groups.items h)

    stays : held kept ≡ next_held (Some d) (first_usable kept.groups.items) (first_usable kept.groups.items) (held kept)
    stays = rw (none, group_same (first_usable kept.groups.items)) refl

-- no DII
pub take_none : (bank_len : ℕ) (kept : Kept) → WherePlanned bank_len kept → Takes bank_len None kept kept Same
take_none bank_len kept planned = record {
  groups = refl;
  message = stays (first_usable kept.groups.items);
  planned = planned;
  change = nothing_changes (held kept);
}
  where
    none : (w : Option ℕ) → message_for w None ≡ None
    none None = refl
    none (Some g) = refl

    stays : (w : Option ℕ) → held kept ≡ next_held None w w (held kept)
    stays w = rw (none w, group_same w) refl

-- the DII that is held already
pub take_held : (bank_len : ℕ) (d : DiiFields) (kept : Kept) (usable : ℕ → Bool) (offers : List Offer) → kept.groups.items ≡ map (seen usable) offers →
    WherePlanned bank_len kept → dii_of d.message ≡ Some d → is_held d.message kept ≡ true → Takes bank_len (Some d) kept kept Same
take_held bank_len d kept usable offers groups planned read is = by_choice kept.choice refl is
  where
    of_choice : (choice : Choice) → kept.choice ≡ Some choice → bytes_eq choice.message.items d.message ≡ true → Takes bank_len (Some d) kept kept Same
    of_choice choice e equal =
        let p = planned choice e in
        let bytes : choice.message.items ≡ d.message = (bytes_eq-Decides choice.message.items d.message).0 equal in
        let same : p.dii ≡ d = some_same p.dii d (sym p.read ∙ ap dii_of bytes ∙ read) in
        let own : d.transaction ≡ choice.group = ap (λ (x : DiiFields). x.transaction) (sym same) ∙ p.own in
        let usable_dii : refusal d bank_len ≡ None = ap (λ x. refusal x bank_len) (sym same) ∙ p.usable in
        let first : first_usable kept.groups.items ≡ Some d.transaction = p.first ∙ ap some (sym own) in
        let stands_so : usable d.transaction ≡ true = seen_first usable offers d.transaction (ap first_usable (sym groups) ∙ first) in
        let held_is : held kept ≡ Some d.message = ap message_if e ∙ ap some bytes in
        let own_message : message_for (first_usable kept.groups.items) (Some d) ≡ Some d.message =
        message_own (first_usable kept.groups.items) d (ap (λ g. same_group g (Some d.transaction)) first ∙ group_same (some d.transaction)) in
        record {
          groups = groups ∙ sym (mark_seen usable d.transaction offers stands_so) ∙ ap (map (mark_if d.transaction true)) (sym groups)
              ∙ ap (λ r. map (mark_if d.transaction (not (is_some r))) kept.groups.items) (sym usable_dii);
          message = held_is ∙ ap (λ m. option_or m (if same_group (first_usable kept.groups.items) (first_usable kept.groups.items) then held kept else None)) (sym own_message);
          planned = planned;
          change = nothing_changes (held kept);
        }

    by_choice : (c : Option Choice) → kept.choice ≡ c → held_by d.message c ≡ true → Takes bank_len (Some d) kept kept Same
    by_choice None e h = cc
    by_choice (Some choice) e h = of_choice choice e h

-- what stays of a choice that has not lapsed
replanned : (bank_len : ℕ) (old mid : List Found) (choice : Choice) → IsPlanned bank_len old choice →
    offers_of mid ≡ offers_of old → first_usable mid ≡ Some choice.group → IsPlanned bank_len mid choice
replanned bank_len old mid choice p offers first = record {
  dii = p.dii;
  read = p.read;
  usable = p.usable;
  own = p.own;
  first = first;
  software = p.software ∙ ap (offered_by choice.group) (sym offers);
  plan = p.plan;
}

either_none : (b : Bool) → (if b then none_held else none_held) ≡ none_held
either_none true = refl
either_none false = refl

-- the DII is of a group that is not the first that stands
pub take_other : (bank_len : ℕ) (d : DiiFields) (usable : Bool) (old mid new : Kept) (answer : Change) →
    mid.groups.items ≡ map (mark_if d.transaction usable) old.groups.items → mid.choice ≡ old.choice →
    usable ≡ not (is_some (refusal d bank_len)) → is_first d.transaction mid.groups.items ≡ false → EndsLapsed mid new answer →
    WherePlanned bank_len old → Takes bank_len (Some d) old new answer
take_other bank_len d usable old mid new answer groups choice says other ended planned = by_choice old.choice refl
  where
    marks : new.groups.items ≡ marked bank_len (Some d) old.groups.items
    marks = ended.groups ∙ groups ∙ ap (λ b. map (mark_if d.transaction b) old.groups.items) says

    no_message : message_for (first_usable new.groups.items) (Some d) ≡ None
    no_message = message_other (first_usable new.groups.items) d (ap (is_first d.transaction) ended.groups ∙ other)

    offers_stay : offers_of new.groups.items ≡ offers_of old.groups.items
    offers_stay = ap offers_of (ended.groups ∙ groups) ∙ offers-mark d.transaction usable old.groups.items

    -- where no choice stands afterwards
    gone : new.choice ≡ None → ((if same_group (first_usable new.groups.items) (first_usable old.groups.items) then held old else None) ≡ None) →
        answer ≡ change_of (held old) None → Takes bank_len (Some d) old new answer
    gone none before said =
        let held_new : held new ≡ None = ap message_if none in
        record {
          groups = marks;
          message = held_new ∙ sym (rw no_message before);
          planned = λ c e. let f = sym none ∙ e in cc;
          change = said ∙ ap (change_of (held old)) (sym held_new);
        }

    of_none : old.choice ≡ None → Takes bank_len (Some d) old new answer
    of_none e =
        let stays = ended.stays (ap (lapses mid.groups.items) (choice ∙ e)) in
        let held_old : held old ≡ None = ap message_if e in
        gone (ap (λ (k : Kept). k.choice) stays.0 ∙ choice ∙ e) (rw held_old (either_none (same_group (first_usable new.groups.items) (first_usable old.groups.items))))
        (stays.1 ∙ nothing_changes None ∙ ap (λ m. change_of m None) (sym held_old))

    of_lapsed : (c : Choice) → old.choice ≡ Some c → same_group (first_usable mid.groups.items) (Some c.group) ≡ false → Takes bank_len (Some d) old new answer
    of_lapsed c e lapsed =
        let ends = ended.ends (ap (lapses mid.groups.items) (choice ∙ e) ∙ ap not lapsed) in
        let p = planned c e in
        let held_old : held old ≡ Some c.message.items = ap message_if e in
        let differs : same_group (first_usable new.groups.items) (first_usable old.groups.items) ≡ false =
        ap (λ fs. same_group (first_usable fs) (first_usable old.groups.items)) ended.groups ∙ ap (same_group (first_usable mid.groups.items)) p.first ∙ lapsed in
        gone ends.0 (rw differs refl) (ends.1 ∙ lost c.message.items ∙ ap (λ m. change_of m None) (sym held_old))

    of_same : (c : Choice) → old.choice ≡ Some c → same_group (first_usable mid.groups.items) (Some c.group) ≡ true → Takes bank_len (Some d) old new answer
    of_same c e same =
        let stays = ended.stays (ap (lapses mid.groups.items) (choice ∙ e) ∙ ap not same) in
        let p = planned c e in
        let choice_new : new.choice ≡ Some c = ap (λ (k : Kept). k.choice) stays.0 ∙ choice ∙ e in
        let held_old : held old ≡ Some c.message.items = ap message_if e in
        let held_new : held new ≡ Some c.message.items = ap message_if choice_new in
        let first_new : first_usable new.groups.items ≡ Some c.group = ap first_usable ended.groups ∙ first_same (first_usable mid.groups.items) c.group same in
        let same_first : same_group (first_usable new.groups.items) (first_usable old.groups.items) ≡ true =
        ap (λ g. same_group g (first_usable old.groups.items)) first_new ∙ ap (same_group (some c.group)) p.first ∙ group_same (some c.group) in
        record {
          groups = marks;
          message = held_new ∙ sym (rw (no_message, same_first) held_old);
          planned = λ x f.
              let is : c ≡ x = some_same c x (sym choice_new ∙ f) in
              subst (λ (y : Choice). IsPlanned bank_len new.groups.items y) is (replanned bank_len old.groups.items new.groups.items c p offers_stay first_new);
          change = stays.1 ∙ nothing_changes (some c.message.items) ∙ ap (λ m. change_of m (some c.message.items)) (sym held_old) ∙ ap (change_of (held old)) (sym held_new);
        }

    of_some : (c : Choice) → old.choice ≡ Some c → (b : Bool) → same_group (first_usable mid.groups.items) (Some c.group) ≡ b → Takes bank_len (Some d) old new answer
    of_some c e true same = of_same c e same
    of_some c e false lapsed = of_lapsed c e lapsed

    by_choice : (c : Option Choice) → old.choice ≡ c → Takes bank_len (Some d) old new answer
    by_choice None e = of_none e
    by_choice (Some c) e = of_some c e (same_group (first_usable mid.groups.items) (Some c.group)) refl

not_held : (message : List ℕ) (c : Option Choice) → held_by message c ≡ false → same_message (message_if c) (Some message) ≡ false
unfolding same_option
not_held message None h = refl
not_held message (Some c) h = h

-- the DII is of the first group that stands, and is not held already
pub take_chosen : (bank_len : ℕ) (d : DiiFields) (plan : GroupPlan) (old mid new : Kept) (answer : Change) →
    mid.groups.items ≡ map (mark_if d.transaction true) old.groups.items → refusal d bank_len ≡ None → IsPlanOf d plan →
    is_first d.transaction mid.groups.items ≡ true → dii_of d.message ≡ Some d → is_held d.message old ≡ false → Chooses d plan mid new answer →
    Takes bank_len (Some d) old new answer
take_chosen bank_len d plan old mid new answer groups usable planned first read other chooses = record {
  groups = chooses.groups ∙ groups ∙ ap (λ r. map (mark_if d.transaction (not (is_some r))) old.groups.items) (sym usable);
  message = held_new ∙ sym (rw own_message refl);
  planned = λ c e.
      let is : choice_of d plan mid.groups.items ≡ c = some_same (choice_of d plan mid.groups.items) c (sym chooses.choice ∙ e) in
      subst (λ (y : Choice). IsPlanned bank_len new.groups.items y) is made;
  change = chooses.change ∙ sym (chosen (held old) d.message differs) ∙ ap (change_of (held old)) (sym held_new);
}
  where
    held_new : held new ≡ Some d.message
    held_new = ap message_if chooses.choice

    first_new : first_usable new.groups.items ≡ Some d.transaction
    first_new = ap first_usable chooses.groups ∙ first_same (first_usable mid.groups.items) d.transaction first

    own_message : message_for (first_usable new.groups.items) (Some d) ≡ Some d.message
    own_message = message_own (first_usable new.groups.items) d (ap (λ g. same_group g (Some d.transaction)) first_new ∙ group_same (some d.transaction))

    differs : same_message (held old) (Some d.message) ≡ false
    differs = not_held d.message old.choice other

    made : IsPlanned bank_len new.groups.items (choice_of d plan mid.groups.items)
    made = record {
      dii = d;
      read = read;
      usable = usable;
      own = refl;
      first = first_new;
      software = ap (λ fs. offered_by d.transaction (offers_of fs)) (sym chooses.groups);
      plan = planned;
    }
