-- What is decided is one, and stays. Lists of sections have the newest first.
use Rattle.std.proofs.Common.{◌≡◌, inl, inr, ℕ, ◌+◌, ◌≤◌, min, Bool, true, false, ◌&&◌, List, [], ◌∷◌, Option, Some, None, refl, sym, ap, ◌∙◌, arith}
use Rattle.std.specs.Prelude.{IsSome, IsTrue, ◌==◌, nat_le, if◌then◌else◌}
use Rattle.std.proofs.lemmas.Bool.{eqb-true, leb-true}
use Rattle.ts_crc.specs.Crc.{crc_of}
use Rattle.ts_section.specs.Events.{Heard}
use Rattle.ssu_answer.specs.declared.chosen.Chosen.{Chosen}
use Rattle.ssu_group.specs.declared.module_plan.ModulePlan.{ModulePlan}
use Rattle.ssu_group.specs.Carried.{carried_image, module_bytes, wrong_module}
use Rattle.route_tables.specs.Values.{Receiver}
use Rattle.ssu_route.specs.declared.choice.Choice.{Choice}
use Rattle.ssu_route.specs.Choosing.{level_7}
use Rattle.ssu_route.specs.Windows.{begins_at, beginnings, choices, is_one_too_many, standing}
use Rattle.ssu_loader.specs.Opening.{fills_at}
use Rattle.ssu_loader.specs.Decisions.{Decides, Decision, IsWhole, IsWrong, Reaches, TooMany, Whole, Wrong, chosen_of}
use Rattle.ssu_loader.proofs.DecisionLaws.{IsOneChoice, one_choice}
use Rattle.ssu_loader.proofs.PlanLaws.{same_image}

-- ---- a decision is one

some_same : {A : Type 0} (x y : A) → Some x ≡ Some y → x ≡ y
some_same x y e = cc

same_chosen : (a b : Choice) → IsOneChoice a b → chosen_of a ≡ chosen_of b
same_chosen a b same = (λ i. record { group = same.group i; software = same.software i; bytes = same.plan.total i })

wholes_one : (me : Receiver) (heard : List Heard) (c d : Chosen) (i j : List ℕ) → IsWhole me heard c i → IsWhole me heard d j → Whole c i ≡ Whole d j
wholes_one me heard c d i j first second =
    let a = first.choice in
    let b = second.choice in
    let same = one_choice me heard a b first.standing.chosen second.standing.chosen in
    let chosen : c ≡ d = first.is ∙ (same_chosen a b same ∙ sym second.is) in
    let image : i ≡ j = first.whole.joins ∙ (same_image me heard a.plan b.plan same.plan ∙ sym second.whole.joins) in
    (λ k. Whole (chosen k) (image k))

-- the first wrong module of the same plan is the same
same_wrong : (me : Receiver) (heard : List Heard) (a b : Choice) → IsOneChoice a b
    → wrong_module a.plan.modules.items (carried_image a.plan (fills_at me heard a.plan)) ≡ wrong_module b.plan.modules.items (carried_image b.plan (fills_at me heard b.plan))
same_wrong me heard a b same =
    ap (λ (ms : List ModulePlan). wrong_module ms (carried_image a.plan (fills_at me heard a.plan))) same.plan.modules
    ∙ ap (λ (image : List ℕ). wrong_module b.plan.modules.items image) (same_image me heard a.plan b.plan same.plan)

whole_not_wrong : (me : Receiver) (heard : List Heard) (c : Chosen) (i : List ℕ) (id want found : ℕ) → IsWhole me heard c i → IsWrong me heard id want found → ⊥
whole_not_wrong me heard c i id want found first second =
    let a = first.choice in
    let b = second.choice in
    let same = one_choice me heard a b first.standing.chosen second.standing.chosen in
    let none : wrong_module a.plan.modules.items (carried_image a.plan (fills_at me heard a.plan)) ≡ None =
    ap (λ (image : List ℕ). wrong_module a.plan.modules.items image) (sym first.whole.joins) ∙ first.whole.right in
    let some : None ≡ Some second.wrong.module_plan = sym none ∙ (same_wrong me heard a b same ∙ second.wrong.first) in
    cc

wrongs_one : (me : Receiver) (heard : List Heard) (id want found id' want' found' : ℕ) → IsWrong me heard id want found → IsWrong me heard id' want' found' → Wrong id want found ≡ Wrong id' want' found'
wrongs_one me heard id want found id' want' found' first second =
    let a = first.choice in
    let b = second.choice in
    let same = one_choice me heard a b first.standing.chosen second.standing.chosen in
    let m = first.wrong.module_plan in
    let n = second.wrong.module_plan in
    let module_plan : m ≡ n = some_same m n (sym first.wrong.first ∙ (same_wrong me heard a b same ∙ second.wrong.first)) in
    let own_id : id ≡ id' = first.wrong.own_id ∙ (ap (λ (p : ModulePlan). p.id) module_plan ∙ sym second.wrong.own_id) in
    let wanted : want ≡ want' = some_same want want' (sym first.wrong.wanted ∙ (ap (λ (p : ModulePlan). p.crc) module_plan ∙ second.wrong.wanted)) in
    let image = same_image me heard a.plan b.plan same.plan in
    let has : found ≡ found' =
    first.wrong.has ∙ (ap (λ (p : ModulePlan). crc_of (module_bytes (carried_image a.plan (fills_at me heard a.plan)) p)) module_plan
    ∙ (ap (λ (bytes : List ℕ). crc_of (module_bytes bytes n)) image ∙ sym second.wrong.has)) in
    (λ k. Wrong (own_id k) (wanted k) (has k))

-- Where one choice came too many, none stands.
too_many : (b : Bool) (n : ℕ) (o : Option (List ℕ)) → (b && (min 16 n == 16)) ≡ true → IsSome (if nat_le (n + (if b then 1 else 0)) 16 then o else None) → ⊥
too_many false n o is some = cc
too_many true n o is some = by_count (nat_le (n + 1) 16) refl some
  where
    by_count : (few : Bool) → nat_le (n + 1) 16 ≡ few → IsSome (if few then o else None) → ⊥
    by_count true e s =
        let most : min 16 n ≡ 16 = eqb-true (min 16 n) 16 is in
        let few : n + 1 ≤ 16 = leb-true (n + 1) 16 e in
        absurd (omega (arith, most, few))
    by_count false e s = cc

none_stands : (me : Receiver) (heard : List Heard) → IsTrue (is_one_too_many me heard) → IsSome (standing me heard) → ⊥
unfolding is_one_too_many choices standing beginnings
none_stands me [] is some = cc
none_stands me (item ∷ earlier) is some = too_many (begins_at me item earlier) (beginnings me earlier) (level_7 me (item ∷ earlier)) is some

decides_one : (me : Receiver) (heard : List Heard) (d e : Decision) → Decides me heard d → Decides me heard e → d ≡ e
decides_one me heard (Whole c i) (Whole d j) first second = wholes_one me heard c d i j first second
decides_one me heard (Whole c i) (Wrong id want found) first second = absurd (whole_not_wrong me heard c i id want found first second)
decides_one me heard (Whole c i) TooMany first second = absurd (none_stands me heard second first.standing.stands)
decides_one me heard (Wrong id want found) (Whole c i) first second = absurd (whole_not_wrong me heard c i id want found second first)
decides_one me heard (Wrong id want found) (Wrong id' want' found') first second = wrongs_one me heard id want found id' want' found' first second
decides_one me heard (Wrong id want found) TooMany first second = absurd (none_stands me heard second first.standing.stands)
decides_one me heard TooMany (Whole c i) first second = absurd (none_stands me heard first second.standing.stands)
decides_one me heard TooMany (Wrong id want found) first second = absurd (none_stands me heard first second.standing.stands)
decides_one me heard TooMany TooMany first second = refl

-- what is reached, section by section
pub reaches_one : (me : Receiver) (heard : List Heard) (d e : Decision) → Reaches me heard d → Reaches me heard e → d ≡ e
unfolding Reaches
reaches_one me [] d e first second = absurd first
reaches_one me (item ∷ earlier) d e (inl first) (inl second) = reaches_one me earlier d e first second
reaches_one me (item ∷ earlier) d e (inl first) (inr second) = absurd (second.0 d first)
reaches_one me (item ∷ earlier) d e (inr first) (inl second) = absurd (first.0 e second)
reaches_one me (item ∷ earlier) d e (inr first) (inr second) = decides_one me (item ∷ earlier) d e first.1 second.1
