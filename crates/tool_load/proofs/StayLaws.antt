-- A verdict that was reached stays when a section more is heard.
use Rattle.std.proofs.Common.{◌≡◌, ℕ, zero, suc, ◌<◌, List, [], ◌∷◌, ◌++◌, true, Option, Some, None, refl, sym, ap, subst, ◌∙◌, arith}
use Rattle.std.specs.Prelude.{is_some, unwrap_or}
use Rattle.std.specs.Option.{option_or}
use Rattle.ts_crc.specs.Crc.{crc_of}
use Rattle.route_part.proofs.Steps.{first_said-step}
use Rattle.ssu_answer.specs.declared.chosen.Chosen.{Chosen}
use Rattle.ssu_group.specs.declared.group_plan.GroupPlan.{GroupPlan}
use Rattle.ssu_group.specs.Carried.{brings, filling, missing_places, joined, carried_image, wrong_module, module_bytes}
use Rattle.ssu_group.proofs.MapLaws.{missing_same, all_marked}
use Rattle.tool_load.specs.Load.{IsLoaded, IsBad}
use Rattle.tool_load.proofs.SearchLaws.{chosen_on}

value_of : (o : Option (List ℕ)) → is_some o ≡ true → (b : List ℕ) × (o ≡ Some b)
value_of None h = absurd cc
value_of (Some b) h = (b, refl)

-- where all places are filled, each keeps its bytes
filling_stays : (plan : GroupPlan) (window : List (List ℕ)) (section : List ℕ) → missing_places plan (filling plan window) ≡ 0 → (n : ℕ) → n < plan.places
    → filling plan (section ∷ window) n ≡ filling plan window n
unfolding filling
filling_stays plan window section filled n below =
    let some = value_of (filling plan window n) (all_marked (λ (k : ℕ). is_some (filling plan window k)) plan.places filled n below) in
    first_said-step (brings plan n) section window
    ∙ ap (λ (o : Option (List ℕ)). option_or o (brings plan n section)) some.1
    ∙ sym some.1

filled_stays : (plan : GroupPlan) (window : List (List ℕ)) (section : List ℕ) → missing_places plan (filling plan window) ≡ 0 → missing_places plan (filling plan (section ∷ window)) ≡ 0
filled_stays plan window section filled =
    missing_same (λ (n : ℕ). is_some (filling plan window n)) (λ (n : ℕ). is_some (filling plan (section ∷ window) n)) plan.places
    (λ n below. ap is_some (filling_stays plan window section filled n below))
    ∙ filled

joined_same : (f g : ℕ → List ℕ) (n : ℕ) → ((k : ℕ) → k < n → f k ≡ g k) → joined f n ≡ joined g n
unfolding joined
joined_same f g zero same = refl
joined_same f g (suc n) same =
    ap (λ (xs : List ℕ). xs ++ f n) (joined_same f g n (λ k below. same k (omega (arith, below))))
    ∙ ap (λ (xs : List ℕ). joined g n ++ xs) (same n (omega arith))

image_stays : (plan : GroupPlan) (window : List (List ℕ)) (section : List ℕ) → missing_places plan (filling plan window) ≡ 0
    → carried_image plan (filling plan window) ≡ carried_image plan (filling plan (section ∷ window))
image_stays plan window section filled =
    joined_same (λ (n : ℕ). unwrap_or (filling plan window n) []) (λ (n : ℕ). unwrap_or (filling plan (section ∷ window) n) []) plan.places
    (λ n below. ap (λ (o : Option (List ℕ)). unwrap_or o []) (sym (filling_stays plan window section filled n below)))

pub loaded_stays : (section : List ℕ) (sections : List (List ℕ)) (chosen : Chosen) (image : List ℕ) → IsLoaded sections chosen image → IsLoaded (section ∷ sections) chosen image
loaded_stays section sections chosen image is = record {
  plan = is.plan;
  window = section ∷ is.window;
  chooses = chosen_on section sections chosen.group is.plan is.window is.chooses;
  is = is.is;
  whole = record {
    filled = filled_stays is.plan is.window section is.whole.filled;
    joins = is.whole.joins ∙ image_stays is.plan is.window section is.whole.filled;
    right = is.whole.right;
  };
}

pub bad_stays : (section : List ℕ) (sections : List (List ℕ)) (id want found : ℕ) → IsBad sections id want found → IsBad (section ∷ sections) id want found
bad_stays section sections id want found is =
    let image : carried_image is.plan (filling is.plan is.window) ≡ carried_image is.plan (filling is.plan (section ∷ is.window)) = image_stays is.plan is.window section is.wrong.filled in
    record {
      group = is.group;
      plan = is.plan;
      window = section ∷ is.window;
      chooses = chosen_on section sections is.group is.plan is.window is.chooses;
      wrong = record {
        filled = filled_stays is.plan is.window section is.wrong.filled;
        module_plan = is.wrong.module_plan;
        first = subst (λ (bytes : List ℕ). wrong_module is.plan.modules.items bytes ≡ Some is.wrong.module_plan) image is.wrong.first;
        own_id = is.wrong.own_id;
        wanted = is.wrong.wanted;
        has = is.wrong.has ∙ ap (λ (bytes : List ℕ). crc_of (module_bytes bytes is.wrong.module_plan)) image;
      };
    }
