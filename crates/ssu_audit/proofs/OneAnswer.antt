-- There is one answer.
use Rattle.std.proofs.Common.{◌≡◌, ℕ, cond, eqb, not, List, [], ◌∷◌, length, Option, Some, None, inl, inr, sym, ap, subst, ◌∙◌}
use Rattle.std.specs.Prelude.{Result, Ok, Err, is_some, unwrap_or}
use Rattle.std.specs.Option.{option_or}
use Rattle.audit_answer.specs.declared.answers.AuditNo.{AuditNo}
use Rattle.audit_answer.specs.declared.answers.AuditNo.TheVariants.{SizeDiffers}
use Rattle.audit_answer.specs.declared.answers.AuditYes.{AuditYes}
use Rattle.dsmcc_msg.specs.Control.{DiiFields, DsiFields, GroupFields, dsi}
use Rattle.ssu_group.specs.declared.group_plan.GroupPlan.{GroupPlan}
use Rattle.ssu_group.specs.declared.module_plan.ModulePlan.{ModulePlan}
use Rattle.ssu_group.specs.Carried.{carried_image, filling, joined, wrong_module}
use Rattle.ssu_group.proofs.SamePlans.{IsSamePlan, same_filling, same_plan}
use Rattle.flash_stage.proofs.TextLaws.{joined_same}
use Rattle.ssu_audit.specs.Calls.{Call, carousel}
use Rattle.ssu_audit.specs.Ending.{AgainstDii, AgainstDsi, AgainstGroups, AgainstPlan, Concludes, Counts, Ends, IsFirstDsi, OrLater, against_notices, against_plan, bad_module, first_below, first_missing, place_missing, size_differs}
use Rattle.ssu_audit.specs.Hearing.{first_dii}
use Rattle.ssu_audit.proofs.Below.{below-same}

abbrev ok_of : AuditYes → Result AuditYes AuditNo
ok_of counts = Ok counts

abbrev sized : ℕ → ℕ → ℕ → Option AuditNo
sized group size total = cond (eqb size total) None (Some (SizeDiffers group size total))

-- ---- plans of one DII

pub same_image : (p q : GroupPlan) (sections : List (List ℕ)) → IsSamePlan p q → carried_image p (filling p sections) ≡ carried_image q (filling q sections)
same_image p q sections s =
    joined_same (λ n. unwrap_or (filling p sections n) []) (λ n. unwrap_or (filling q sections n) []) p.places
    (λ n lt. ap (λ (o : Option (List ℕ)). unwrap_or o []) (same_filling p q sections n s))
    ∙ ap (joined (λ n. unwrap_or (filling q sections n) [])) s.places

same_first : (p q : GroupPlan) (sections : List (List ℕ)) → IsSamePlan p q → first_missing p sections ≡ first_missing q sections
same_first p q sections s =
    below-same (λ n. not (is_some (filling p sections n))) (λ n. not (is_some (filling q sections n))) p.places
    (λ n lt. ap (λ (o : Option (List ℕ)). not (is_some o)) (same_filling p q sections n s))
    ∙ ap (first_below (λ n. not (is_some (filling q sections n)))) s.places

same_against : (group size : ℕ) (p q : GroupPlan) (sections : List (List ℕ)) → IsSamePlan p q → against_plan group size p sections ≡ against_plan group size q sections
same_against group size p q sections s =
    ap (λ (o : Option AuditNo). option_or o (option_or (place_missing group (first_missing p sections)) (bad_module group (wrong_module p.modules.items (carried_image p (filling p sections)))))) (same_size s.total)
    ∙ ap (λ (o : Option ℕ). option_or (size_differs group size q) (option_or (place_missing group o) (bad_module group (wrong_module p.modules.items (carried_image p (filling p sections)))))) (same_first p q sections s)
    ∙ ap (λ (ms : List ModulePlan). option_or (size_differs group size q) (option_or (place_missing group (first_missing q sections)) (bad_module group (wrong_module ms (carried_image p (filling p sections)))))) s.modules
    ∙ ap (λ (image : List ℕ). option_or (size_differs group size q) (option_or (place_missing group (first_missing q sections)) (bad_module group (wrong_module q.modules.items image)))) (same_image p q sections s)
  where
    same_size : p.total ≡ q.total → size_differs group size p ≡ size_differs group size q
    same_size e = ap (λ (n : ℕ). sized group size n) e

-- ---- one fact

one_plan : (group size : ℕ) (sections : List (List ℕ)) (d : DiiFields) (a b : Option AuditNo) → AgainstPlan group size sections d a → AgainstPlan group size sections d b → a ≡ b
one_plan group size sections d a b x y = x.1.1 ∙ same_against group size x.0 y.0 sections (same_plan d x.0 y.0 x.1.0 y.1.0) ∙ sym y.1.1

one_dii : (group size : ℕ) (sections : List (List ℕ)) (o : Option (ℕ × DiiFields)) (a b : Option AuditNo) → AgainstDii group size sections o a → AgainstDii group size sections o b → a ≡ b
one_dii group size sections None a b x y = x ∙ sym y
one_dii group size sections (Some first) a b (inl x) (inl y) = x.1 ∙ sym y.1
one_dii group size sections (Some first) a b (inl x) (inr y) = absurd (x.0 y.0)
one_dii group size sections (Some first) a b (inr x) (inl y) = absurd (y.0 x.0)
one_dii group size sections (Some first) a b (inr x) (inr y) = one_plan group size sections first.1 a b x.1 y.1

one_later : (calls : List Call) (later : List GroupFields) (own : Option AuditNo) (a b : Option AuditNo)
    → (AgainstGroups calls later a → AgainstGroups calls later b → a ≡ b) → OrLater own (AgainstGroups calls later) a → OrLater own (AgainstGroups calls later) b → a ≡ b
one_later calls later None a b one x y = one x y
one_later calls later (Some fact) a b one x y = x ∙ sym y

pub one_groups : (calls : List Call) (gs : List GroupFields) (a b : Option AuditNo) → AgainstGroups calls gs a → AgainstGroups calls gs b → a ≡ b
unfolding AgainstGroups
one_groups calls [] a b x y = x ∙ sym y
one_groups calls (g ∷ gs) a b x y =
    let own : x.0 ≡ y.0 = one_dii g.id g.size (carousel calls) (first_dii g.id calls) x.0 y.0 x.1.0 y.1.0 in
    one_later calls gs y.0 a b (one_groups calls gs a b) (subst (λ (o : Option AuditNo). OrLater o (AgainstGroups calls gs) a) own x.1.1) y.1.1

one_dsi : (calls : List Call) (d e : DsiFields) → IsFirstDsi calls d → IsFirstDsi calls e → d ≡ e
one_dsi calls d e x y =
    let first = x.first in
    let other = y.first in
    let same : x.section ≡ y.section = (let both : (x.number, x.section) ≡ (y.number, y.section) = cc in ap (λ (z : ℕ × List ℕ). z.1) both) in
    let read : dsi.of y.section ≡ Some d = ap (λ (s : List ℕ). dsi.of s) (sym same) ∙ x.read in
    let other_read = y.read in
    cc

against_dsi : (calls : List Call) (d : DsiFields) (a b : Option AuditNo) → AgainstDsi calls d a → AgainstDsi calls d b → a ≡ b
against_dsi calls d a b x y =
    x.1.1 ∙ ap (λ (o : Option AuditNo). option_or o (against_notices calls d.groups)) (one_groups calls d.groups x.0 y.0 x.1.0 y.1.0) ∙ sym y.1.1

pub one_conclusion : (calls : List Call) (a b : Option AuditNo) → Concludes calls a → Concludes calls b → a ≡ b
one_conclusion calls a b (inl x) (inl y) = x.1 ∙ sym y.1
one_conclusion calls a b (inl x) (inr y) = let none = x.0 in let some = y.1.0.first in cc
one_conclusion calls a b (inr x) (inl y) = let none = y.0 in let some = x.1.0.first in cc
one_conclusion calls a b (inr x) (inr y) =
    let same : x.0 ≡ y.0 = one_dsi calls x.0 y.0 x.1.0 y.1.0 in
    against_dsi calls y.0 a b (subst (λ (d : DsiFields). AgainstDsi calls d a) same x.1.1) y.1.1

one_count : (calls : List Call) (a b : AuditYes) → Counts calls a → Counts calls b → a ≡ b
one_count calls a b x y =
    let same : x.d ≡ y.d = one_dsi calls x.d y.d x.first y.first in
    let groups : a.groups ≡ b.groups = x.groups ∙ ap (λ (d : DsiFields). length d.groups) same ∙ sym y.groups in
    let blocks : a.blocks ≡ b.blocks = x.blocks ∙ sym y.blocks in
    (λ i. record { groups = groups i; blocks = blocks i })

pub one_answer : (calls : List Call) (a b : Result AuditYes AuditNo) → Ends calls a → Ends calls b → a ≡ b
one_answer calls (Ok a) (Ok b) x y = ap ok_of (one_count calls a b x.1 y.1)
one_answer calls (Ok a) (Err b) x y = let one = one_conclusion calls None (Some b) x.0 y in cc
one_answer calls (Err a) (Ok b) x y = let one = one_conclusion calls (Some a) None x y.0 in cc
one_answer calls (Err a) (Err b) x y = let one = one_conclusion calls (Some a) (Some b) x y in cc
