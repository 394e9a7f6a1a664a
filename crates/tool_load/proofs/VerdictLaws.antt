-- What the verdict is by what was collected.
use Rattle.std.proofs.Common.{◌≡◌, ℕ, zero, suc, ◌+◌, ◌<◌, ◌≤◌, true, List, [], ◌∷◌, length, get_or, Some, None, refl, sym, ap, subst, ◌∙◌, arith}
use Rattle.std.specs.Prelude.{sum_by}
use Rattle.std.specs.List.{find}
use Rattle.ts_crc.specs.Crc.{crc_of}
use Rattle.ssu_answer.specs.declared.chosen.Chosen.{Chosen}
use Rattle.ssu_group.specs.declared.module_plan.ModulePlan.{ModulePlan}
use Rattle.ssu_group.specs.declared.group_plan.GroupPlan.{GroupPlan}
use Rattle.ssu_group.specs.Plan.{are_joined, size_of}
use Rattle.ssu_group.specs.Carried.{IsWrong, carried_image, filling, is_wrong, missing_places, module_bytes, wrong_module}
use Rattle.ssu_group.proofs.PlaceLaws.{begin_joined}
use Rattle.group_image.specs.Image.{missing_in, image_of}
use Rattle.tool_load.specs.declared.blocks.Blocks.{Blocks}
use Rattle.ssu_group.specs.declared.wrong.Wrong.{Wrong}
use Rattle.tool_load.specs.Load.{chosen_of, IsLoaded, IsIncomplete, IsBad}
use Rattle.tool_load.specs.Progress.{Collects}
use Rattle.tool_load.proofs.BlocksLaws.{missing_is, image_is}

-- ---- the modules of a plan lie inside it

inside_from : (b at first : ℕ) (ms : List ModulePlan) → are_joined b at first ms ≡ true → (k : ℕ) (d : ModulePlan) → k < length ms
    → (get_or ms k d).at + (get_or ms k d).size ≤ at + sum_by size_of ms
inside_from b at first [] joined k d below = absurd (omega arith)
inside_from b at first (m ∷ ms) joined zero d below =
    let s = begin_joined b at first m ms joined in
    omega (arith, s.begins, s.bytes)
inside_from b at first (m ∷ ms) joined (suc k) d below =
    let s = begin_joined b at first m ms joined in
    let others = inside_from b (at + m.size) (first + m.blocks) ms s.others k d (omega (arith, below)) in
    omega (arith, s.bytes, others)

pub modules_inside : (plan : GroupPlan) (k : ℕ) (d : ModulePlan) → k < length plan.modules.items
    → (get_or plan.modules.items k d).at + (get_or plan.modules.items k d).size ≤ plan.total
modules_inside plan k d below =
    let is = plan.planned in
    let all = is.all_bytes in
    let inside = inside_from plan.block_size 0 0 plan.modules.items is.joined k d below in
    omega (arith, all, inside)

-- ---- the verdicts

count_is : (blocks : Blocks) (sections : List (List ℕ)) → (is : Collects blocks sections) → missing_in blocks.image ≡ missing_places blocks.plan (filling blocks.plan is.window)
count_is blocks sections is = missing_is blocks.plan blocks.image is.window blocks.is_for is.holds

pub incomplete_is : (blocks : Blocks) (sections : List (List ℕ)) (chosen : Chosen) (missing : ℕ) → Collects blocks sections → chosen ≡ chosen_of blocks.group blocks.plan
    → missing ≡ missing_in blocks.image → 1 ≤ missing → IsIncomplete sections chosen missing
incomplete_is blocks sections chosen missing is e count some =
    subst (λ (c : Chosen). IsIncomplete sections c missing) (sym e) (record {
      plan = blocks.plan;
      window = is.window;
      chooses = is.chooses;
      is = refl;
      count = count ∙ count_is blocks sections is;
      some = some;
    })

pub loaded_is : (blocks : Blocks) (sections : List (List ℕ)) (chosen : Chosen) → Collects blocks sections → chosen ≡ chosen_of blocks.group blocks.plan
    → missing_in blocks.image ≡ 0 → find (is_wrong (image_of blocks.image)) blocks.plan.modules.items ≡ None → IsLoaded sections chosen (image_of blocks.image)
unfolding wrong_module
loaded_is blocks sections chosen is e none right =
    let filled : missing_places blocks.plan (filling blocks.plan is.window) ≡ 0 = sym (count_is blocks sections is) ∙ none in
    subst (λ (c : Chosen). IsLoaded sections c (image_of blocks.image)) (sym e) (record {
      plan = blocks.plan;
      window = is.window;
      chooses = is.chooses;
      is = refl;
      whole = record {
        filled = filled;
        joins = image_is blocks.plan blocks.image is.window blocks.is_for is.holds filled;
        right = right;
      };
    })

pub bad_is : (blocks : Blocks) (sections : List (List ℕ)) (m : ModulePlan) (wrong : Wrong) → Collects blocks sections → missing_in blocks.image ≡ 0
    → find (is_wrong (image_of blocks.image)) blocks.plan.modules.items ≡ Some m → IsWrong (image_of blocks.image) m wrong
    → IsBad sections wrong.id wrong.want wrong.found
unfolding wrong_module
bad_is blocks sections m wrong is none first wrong_is =
    let filled : missing_places blocks.plan (filling blocks.plan is.window) ≡ 0 = sym (count_is blocks sections is) ∙ none in
    let image : image_of blocks.image ≡ carried_image blocks.plan (filling blocks.plan is.window) = image_is blocks.plan blocks.image is.window blocks.is_for is.holds filled in
    record {
      group = blocks.group;
      plan = blocks.plan;
      window = is.window;
      chooses = is.chooses;
      wrong = record {
        filled = filled;
        module_plan = m;
        first = subst (λ (bytes : List ℕ). find (is_wrong bytes) blocks.plan.modules.items ≡ Some m) image first;
        own_id = wrong_is.own_id;
        wanted = wrong_is.wanted;
        has = wrong_is.has ∙ ap (λ (bytes : List ℕ). crc_of (module_bytes bytes m)) image;
      };
    }
