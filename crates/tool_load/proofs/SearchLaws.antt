-- What one section more leaves of the search for a group.
use Rattle.std.proofs.Common.{◌≡◌, ℕ, List, [], ◌∷◌, ◌++◌, Option, Some, None, refl, sym, ap, subst, ◌∙◌}
use Rattle.std.specs.Option.{option_or, option_map}
use Rattle.dsmcc_msg.specs.Control.{DiiFields}
use Rattle.ssu_group.specs.declared.group_plan.GroupPlan.{GroupPlan}
use Rattle.ssu_group.specs.Lays.{IsPlanOf}
use Rattle.tool_load.specs.Load.{first_with_later, one_later, none_later, group_in, dii_in, first_group, first_dii, Chooses, IsChosen, IsWanted}

-- ---- the first item that says something, with the items after it

said_none : {X A : Type 0} (says : X → Option A) → first_with_later says [] ≡ None
unfolding first_with_later
said_none says = refl

said_more : {X A : Type 0} (says : X → Option A) (x : X) (xs : List X)
    → first_with_later says (x ∷ xs) ≡ option_or (option_map (one_later x) (first_with_later says xs)) (option_map none_later (says x))
unfolding first_with_later
said_more says x xs = refl

-- what was said stays, and the item came after it
said_stays : {X A : Type 0} (says : X → Option A) (x : X) (xs : List X) (a : A) (later : List X) → first_with_later says xs ≡ Some (a, later)
    → first_with_later says (x ∷ xs) ≡ Some (a, x ∷ later)
said_stays {X} {A} says x xs a later e =
    said_more says x xs ∙ ap (λ (o : Option (A × List X)). option_or (option_map (one_later x) o) (option_map none_later (says x))) e

-- the item is the first that says something
said_now : {X A : Type 0} (says : X → Option A) (x : X) (xs : List X) (a : A) → first_with_later says xs ≡ None → says x ≡ Some a
    → first_with_later says (x ∷ xs) ≡ Some (a, [])
said_now {X} {A} says x xs a e f =
    said_more says x xs
    ∙ ap (λ (o : Option (A × List X)). option_or (option_map (one_later x) o) (option_map none_later (says x))) e
    ∙ ap (λ (o : Option A). option_map none_later o) f

-- nothing was said, and the item says nothing
said_nothing : {X A : Type 0} (says : X → Option A) (x : X) (xs : List X) → first_with_later says xs ≡ None → says x ≡ None
    → first_with_later says (x ∷ xs) ≡ None
said_nothing {X} {A} says x xs e f =
    said_more says x xs
    ∙ ap (λ (o : Option (A × List X)). option_or (option_map (one_later x) o) (option_map none_later (says x))) e
    ∙ ap (λ (o : Option A). option_map none_later o) f

-- ---- the search, one section on

pub no_group_on : (section : List ℕ) (sections : List (List ℕ)) → first_group sections ≡ None → group_in section ≡ None → first_group (section ∷ sections) ≡ None
no_group_on section sections none nothing = said_nothing group_in section sections none nothing

pub wanted_now : (section : List ℕ) (sections : List (List ℕ)) (group : ℕ) → first_group sections ≡ None → group_in section ≡ Some group → IsWanted group (section ∷ sections)
wanted_now section sections group none found = record {
  later = [];
  by_dsi = said_now group_in section sections group none found;
  none = said_none (dii_in group);
}

pub wanted_on : (section : List ℕ) (sections : List (List ℕ)) (group : ℕ) → IsWanted group sections → dii_in group section ≡ None → IsWanted group (section ∷ sections)
wanted_on section sections group is nothing = record {
  later = section ∷ is.later;
  by_dsi = said_stays group_in section sections group is.later is.by_dsi;
  none = said_nothing (dii_in group) section is.later is.none nothing;
}

pub chosen_now : (section : List ℕ) (sections : List (List ℕ)) (group : ℕ) (d : DiiFields) (plan : GroupPlan) → IsWanted group sections → dii_in group section ≡ Some d → IsPlanOf d plan
    → Chooses (section ∷ sections) group plan []
chosen_now section sections group d plan is found planned = record {
  later = section ∷ is.later;
  dii = d;
  by_dsi = said_stays group_in section sections group is.later is.by_dsi;
  by_dii = said_now (dii_in group) section is.later d is.none found;
  planned = planned;
}

pub chosen_on : (section : List ℕ) (sections : List (List ℕ)) (group : ℕ) (plan : GroupPlan) (window : List (List ℕ)) → Chooses sections group plan window
    → Chooses (section ∷ sections) group plan (section ∷ window)
chosen_on section sections group plan window is = record {
  later = section ∷ is.later;
  dii = is.dii;
  by_dsi = said_stays group_in section sections group is.later is.by_dsi;
  by_dii = said_stays (dii_in group) section is.later is.dii window is.by_dii;
  planned = is.planned;
}

-- ---- before a group is chosen

pub no_group_chosen : (sections : List (List ℕ)) (group : ℕ) (plan : GroupPlan) (window : List (List ℕ)) → first_group sections ≡ None → Chooses sections group plan window → ⊥
no_group_chosen sections group plan window none is = let by_dsi = is.by_dsi in cc

same_found : (a b : ℕ × List (List ℕ)) → Some a ≡ Some b → a ≡ b
same_found a b e = cc

pub wanted_chosen : (sections : List (List ℕ)) (wanted group : ℕ) (plan : GroupPlan) (window : List (List ℕ)) → IsWanted wanted sections → Chooses sections group plan window → ⊥
wanted_chosen sections wanted group plan window w is =
    let same : (wanted, w.later) ≡ (group, is.later) = same_found (wanted, w.later) (group, is.later) (sym w.by_dsi ∙ is.by_dsi) in
    let found : first_dii group is.later ≡ Some (is.dii, window) = is.by_dii in
    let none : first_dii group is.later ≡ None = subst (λ (x : ℕ × List (List ℕ)). first_dii x.0 x.1 ≡ None) same w.none in
    cc

-- ---- sections that follow

pub chosen_stays : (more sections : List (List ℕ)) → IsChosen sections → IsChosen (more ++ sections)
chosen_stays [] sections is = is
chosen_stays (section ∷ more) sections is =
    let on = chosen_stays more sections is in
    record { group = on.group; plan = on.plan; window = section ∷ on.window; chooses = chosen_on section (more ++ sections) on.group on.plan on.window on.chooses }

pub same_choice : (sections : List (List ℕ)) (group group' : ℕ) (plan plan' : GroupPlan) (window : List (List ℕ)) → group' ≡ group → plan' ≡ plan
    → Chooses sections group plan window → Chooses sections group' plan' window
same_choice sections group group' plan plan' window e f is =
    subst (λ (g : ℕ). Chooses sections g plan' window) (sym e) (subst (λ (p : GroupPlan). Chooses sections group p window) (sym f) is)

-- before the first section
pub no_group_yet : first_group [] ≡ None
no_group_yet = said_none group_in
