-- What a block more leaves in the image that is collected, and what the image is once no place is missing.
use Rattle.std.proofs.Common.{◌≡◌, ℕ, ◌<◌, Bool, true, false, ◌||◌, cond, eqb, List, [], ◌∷◌, Option, Some, None, refl, sym, ap, subst, ◌∙◌}
use Rattle.std.specs.Prelude.{is_some, unwrap_or}
use Rattle.std.specs.Option.{option_or}
use Rattle.std.proofs.lemmas.Bool.{eqb-true, eq-eqb}
use Rattle.dsmcc_msg.specs.Block.{DdbFields, ddb}
use Rattle.ssu_group.specs.declared.places.Place.{Place}
use Rattle.ssu_group.specs.declared.group_plan.GroupPlan.{GroupPlan}
use Rattle.ssu_group.specs.Place.{place_of}
use Rattle.ssu_group.specs.Carried.{brings, filling, missing_places, carried_image}
use Rattle.ssu_group.specs.Map.{missing_below}
use Rattle.ssu_group.proofs.MapLaws.{missing_same, all_marked}
use Rattle.ssu_group.proofs.Filling.{filling-none, filling-step, brings_place}
use Rattle.group_image.specs.Image.{Collected, is_there, missing_in, image_of, bytes_at, IsFor, IsEmpty}
use Rattle.group_image.proofs.ImageLaws.{joined_image}
use Rattle.tool_load.specs.Progress.{Holds}

pub holds_none : (plan : GroupPlan) (image : Collected) → IsFor plan image → IsEmpty image → Holds plan image []
holds_none plan image is none = record {
  there = λ n below. none n (subst (λ (k : ℕ). n < k) (sym is.places) below) ∙ ap is_some (sym (filling-none plan n));
  bytes = λ n b below e. let no = filling-none plan n in absurd cc;
}

or_none : {A : Type 0} (o : Option A) → option_or o None ≡ o
or_none None = refl
or_none (Some a) = refl

-- a section that fills no place
pub holds_same : (plan : GroupPlan) (image : Collected) (window : List (List ℕ)) (section : List ℕ) → ((n : ℕ) → brings plan n section ≡ None)
    → Holds plan image window → Holds plan image (section ∷ window)
holds_same plan image window section nothing holds =
    let same = λ (n : ℕ). filling-step plan section window n ∙ ap (option_or (filling plan window n)) (nothing n) ∙ or_none (filling plan window n) in
    record {
      there = λ n below. holds.there n below ∙ ap is_some (sym (same n));
      bytes = λ n b below e. holds.bytes n b below (sym (same n) ∙ e);
    }

some_or : {A : Type 0} (o : Option A) (a : A) → is_some (option_or o (Some a)) ≡ true
some_or None a = refl
some_or (Some b) a = refl

-- a block that fills a place
pub holds_more : (plan : GroupPlan) (old new : Collected) (window : List (List ℕ)) (section : List ℕ) (d : DdbFields) (p : Place)
    → ddb.of section ≡ Some d → place_of plan d ≡ Some p
    → ((n : ℕ) → is_there new n ≡ (eqb n p.number || is_there old n))
    → ((n : ℕ) → eqb n p.number ≡ true → is_there old n ≡ false → bytes_at plan new n ≡ d.bytes)
    → ((n : ℕ) → is_there old n ≡ true → bytes_at plan new n ≡ bytes_at plan old n)
    → Holds plan old window → Holds plan new (section ∷ window)
holds_more plan old new window section d p e f there own kept holds = record {
  there = λ n below. by_number n below (eqb n p.number) refl;
  bytes = λ n b below g. by_filling n b below (filling plan window n) refl (sym (filling-step plan section window n) ∙ g);
}
  where
    brought : (n : ℕ) → brings plan n section ≡ cond (eqb p.number n) (Some d.bytes) None
    brought n = brings_place plan n section d p e f

    by_number : (n : ℕ) → n < plan.places → (same : Bool) → eqb n p.number ≡ same → is_there new n ≡ is_some (filling plan (section ∷ window) n)
    by_number n below true is =
        let own : eqb p.number n ≡ true = eq-eqb p.number n (sym (eqb-true n p.number is)) in
        let block : brings plan n section ≡ Some d.bytes = brought n ∙ ap (λ (b : Bool). cond b (Some d.bytes) None) own in
        let there_now : is_there new n ≡ true = there n ∙ ap (λ (b : Bool). b || is_there old n) is in
        there_now ∙ sym (ap is_some (filling-step plan section window n) ∙ ap (λ (o : Option (List ℕ)). is_some (option_or (filling plan window n) o)) block ∙ some_or (filling plan window n) d.bytes)
    by_number n below false is =
        let other : eqb p.number n ≡ false = by_test (eqb p.number n) refl in
        let no_block : brings plan n section ≡ None = brought n ∙ ap (λ (b : Bool). cond b (Some d.bytes) None) other in
        let as_before : is_there new n ≡ is_there old n = there n ∙ ap (λ (b : Bool). b || is_there old n) is in
        as_before ∙ holds.there n below ∙ sym (ap is_some (filling-step plan section window n) ∙ ap (λ (o : Option (List ℕ)). is_some (option_or (filling plan window n) o)) no_block ∙ ap is_some (or_none (filling plan window n)))
      where
        by_test : (same : Bool) → eqb p.number n ≡ same → eqb p.number n ≡ false
        by_test false g = g
        by_test true g = let yes : eqb n p.number ≡ true = eq-eqb n p.number (sym (eqb-true p.number n g)) in absurd cc

    by_filling : (n : ℕ) (b : List ℕ) → n < plan.places → (o : Option (List ℕ)) → filling plan window n ≡ o → option_or (filling plan window n) (brings plan n section) ≡ Some b
        → bytes_at plan new n ≡ b
    by_filling n b below (Some x) is g =
        let same : x ≡ b = let h : option_or (Some x) (brings plan n section) ≡ Some b = ap (λ (o : Option (List ℕ)). option_or o (brings plan n section)) (sym is) ∙ g in cc in
        let was : is_there old n ≡ true = holds.there n below ∙ ap is_some is in
        kept n was ∙ holds.bytes n x below is ∙ same
    by_filling n b below None is g =
        let block : cond (eqb p.number n) (Some d.bytes) None ≡ Some b =
        sym (brought n) ∙ (let h : option_or None (brings plan n section) ≡ Some b = ap (λ (o : Option (List ℕ)). option_or o (brings plan n section)) (sym is) ∙ g in h) in
        let was : is_there old n ≡ false = holds.there n below ∙ ap is_some is in
        by_test (eqb p.number n) refl block was
      where
        by_test : (same : Bool) → eqb p.number n ≡ same → cond same (Some d.bytes) None ≡ Some b → is_there old n ≡ false → bytes_at plan new n ≡ b
        by_test true same block was =
            let is_own : eqb n p.number ≡ true = eq-eqb n p.number (sym (eqb-true p.number n same)) in
            let found : d.bytes ≡ b = cc in
            own n is_own was ∙ found
        by_test false same block was = absurd cc

-- a block that fills a place that is there
pub holds_again : (plan : GroupPlan) (image : Collected) (window : List (List ℕ)) (section : List ℕ) (d : DdbFields) (p : Place)
    → ddb.of section ≡ Some d → place_of plan d ≡ Some p → is_there image p.number ≡ true → Holds plan image window → Holds plan image (section ∷ window)
holds_again plan image window section d p e f there holds =
    holds_more plan image image window section d p e f (λ n. as_before n (eqb n p.number) refl) (λ n same none. let was : is_there image n ≡ true = ap (is_there image) (eqb-true n p.number same) ∙ there in absurd cc)
    (λ n was. refl) holds
  where
    as_before : (n : ℕ) → (same : Bool) → eqb n p.number ≡ same → is_there image n ≡ (same || is_there image n)
    as_before n true is = ap (is_there image) (eqb-true n p.number is) ∙ there
    as_before n false is = refl

-- ---- how many are missing, and the image

pub missing_is : (plan : GroupPlan) (image : Collected) (window : List (List ℕ)) → IsFor plan image → Holds plan image window
    → missing_in image ≡ missing_places plan (filling plan window)
missing_is plan image window is holds =
    ap (missing_below (is_there image)) is.places
    ∙ missing_same (λ n. is_some (filling plan window n)) (is_there image) plan.places (λ n below. holds.there n below)

value_of : (o : Option (List ℕ)) → is_some o ≡ true → (b : List ℕ) × (o ≡ Some b)
value_of None h = absurd cc
value_of (Some b) h = (b, refl)

pub image_is : (plan : GroupPlan) (image : Collected) (window : List (List ℕ)) → IsFor plan image → Holds plan image window → missing_places plan (filling plan window) ≡ 0
    → image_of image ≡ carried_image plan (filling plan window)
image_is plan image window is holds none =
    sym (joined_image plan image (λ n. unwrap_or (filling plan window n) []) is (λ n below.
    let some = value_of (filling plan window n) (all_marked (λ (k : ℕ). is_some (filling plan window k)) plan.places none n below) in
    holds.bytes n some.0 below some.1 ∙ sym (ap (λ (o : Option (List ℕ)). unwrap_or o []) some.1)))
