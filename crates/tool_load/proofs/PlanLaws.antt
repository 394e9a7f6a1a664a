-- A group is chosen once, and the sections of one packet join those before it.
use Rattle.std.proofs.Common.{◌≡◌, ℕ, ◌+◌, List, [], ◌∷◌, ◌++◌, reverse, take, drop, zero, suc, Some, sym, ap, subst, ◌∙◌, append_assoc, arith}
use Rattle.std.specs.List.{slice_get}
use Rattle.std.proofs.lemmas.List.{reverse-append, take-append-drop}
use Rattle.dsmcc_msg.specs.Control.{DiiFields}
use Rattle.ssu_group.specs.declared.group_plan.GroupPlan.{GroupPlan}
use Rattle.ssu_group.specs.Lays.{IsPlanOf}
use Rattle.ssu_group.proofs.SamePlans.{IsSamePlan, same_plan}
use Rattle.tool_load.specs.Load.{Chooses, first_dii}

-- ---- a group is chosen once

pub record IsOneChoice (group group' : ℕ) (plan plan' : GroupPlan) (window window' : List (List ℕ)) : Type 0 where
  pub is_group : group' ≡ group
  pub is_plan : IsSamePlan plan' plan
  pub is_window : window' ≡ window

same_found : {A : Type 0} (a b : A × List (List ℕ)) → Some a ≡ Some b → a ≡ b
same_found a b e = cc

pub one_choice : (sections : List (List ℕ)) (g g' : ℕ) (plan plan' : GroupPlan) (w w' : List (List ℕ)) → Chooses sections g plan w → Chooses sections g' plan' w' → IsOneChoice g g' plan plan' w w'
one_choice sections g g' plan plan' w w' p q =
    let found : (g', q.later) ≡ (g, p.later) = same_found (g', q.later) (g, p.later) (sym q.by_dsi ∙ p.by_dsi) in
    let by_dii : first_dii g p.later ≡ Some (q.dii, w') = subst (λ (x : ℕ × List (List ℕ)). first_dii x.0 x.1 ≡ Some (q.dii, w')) found q.by_dii in
    let dii : (q.dii, w') ≡ (p.dii, w) = same_found (q.dii, w') (p.dii, w) (sym by_dii ∙ p.by_dii) in
    record {
      is_group = ap (λ (x : ℕ × List (List ℕ)). x.0) found;
      is_plan = same_plan p.dii plan' plan (subst (λ (x : DiiFields × List (List ℕ)). IsPlanOf x.0 plan') dii q.planned) p.planned;
      is_window = ap (λ (x : DiiFields × List (List ℕ)). x.1) dii;
    }

-- ---- sections that come one after the other

taken_more : (each : List (List ℕ)) (k : ℕ) (x : List ℕ) → slice_get each k ≡ Some x → take (suc k) each ≡ take k each ++ x ∷ []
taken_more [] k x e = absurd cc
taken_more (y ∷ ys) zero x e = let same : y ≡ x = cc in ap (λ (z : List ℕ). z ∷ []) same
taken_more (y ∷ ys) (suc k) x e = ap (λ (zs : List (List ℕ)). y ∷ zs) (taken_more ys k x e)

-- the sections so far, and one more
pub onto_more : (each sections : List (List ℕ)) (k : ℕ) (x : List ℕ) → slice_get each k ≡ Some x
    → reverse (take (k + 1) each) ++ sections ≡ x ∷ (reverse (take k each) ++ sections)
onto_more each sections k x e =
    let next : k + 1 ≡ suc k = omega arith in
    ap (λ (n : ℕ). reverse (take n each) ++ sections) next
    ∙ ap (λ (zs : List (List ℕ)). reverse zs ++ sections) (taken_more each k x e)
    ∙ ap (λ (zs : List (List ℕ)). zs ++ sections) (reverse-append (take k each) (x ∷ []))

-- the sections so far, and the others
pub onto_all : (each sections : List (List ℕ)) (k : ℕ) → reverse each ++ sections ≡ reverse (drop k each) ++ (reverse (take k each) ++ sections)
onto_all each sections k =
    ap (λ (zs : List (List ℕ)). reverse zs ++ sections) (sym (take-append-drop k each))
    ∙ ap (λ (zs : List (List ℕ)). zs ++ sections) (reverse-append (take k each) (drop k each))
    ∙ append_assoc (reverse (drop k each)) (reverse (take k each)) sections
