-- What a stage in memory keeps.
use Rattle.std.proofs.Common.{◌≡◌, ℕ, Bool, true, false, ◌&&◌, not, cond, List, refl, sym, ap, subst, ◌∙◌, arith}
use Rattle.std.specs.Prelude.{Contains}
use Rattle.flash_bank.specs.declared.bank.Bank.{Bank}
use Rattle.group_image.specs.Image.{Collected, IsFor, bytes_at, bytes_of, image_of}
use Rattle.group_image.proofs.ImageLaws.{joined_image}
use Rattle.ssu_group.specs.declared.group_plan.GroupPlan.{GroupPlan}
use Rattle.ssu_group.specs.declared.module_plan.ModulePlan.{ModulePlan}
use Rattle.ssu_group.specs.Carried.{module_bytes}
use Rattle.ssu_group.specs.Plan.{IsPlan}
use Rattle.flash_stage.specs.declared.ram_stage.RamStage.{RamStage}
use Rattle.flash_stage.specs.Outline.{group_text, module_text}
use Rattle.flash_stage.specs.Ram.{IsStarted, bytes_in, outline_in}
use Rattle.flash_stage.proofs.TextLaws.{lies, module_inside, take-drop-take, text_of_module}

-- the plan that it keeps, but for its download id, which no place has to do with
abbrev pub plan_in : (s : RamStage) (bank : Bank) → IsStarted s bank → GroupPlan
plan_in s bank started = record {
  download = 0;
  block_size = s.block_size;
  modules = record { items = s.modules.items };
  places = s.image.map.places;
  total = s.image.total;
  planned = started.planned;
}

-- the image that its places join to
pub whole_text : (s : RamStage) (bank : Bank) (contents : List ℕ) → IsStarted s bank → group_text (bytes_in s bank contents) (outline_in s) ≡ image_of s.image
unfolding bytes_in bytes_at
whole_text s bank contents started = joined_image (plan_in s bank started) s.image (bytes_in s bank contents) (record { places = refl; total = refl }) (λ number below. refl)

-- the bytes of a module
pub module_in : (s : RamStage) (bank : Bank) (contents : List ℕ) (m : ModulePlan) → IsStarted s bank → Contains s.modules.items m
    → module_bytes (image_of s.image) m ≡ module_text (bytes_in s bank contents) m
unfolding bytes_in
module_in s bank contents m started among =
    let l = lies s.block_size 0 0 s.modules.items m started.planned.joined among in
    let least = started.planned.least in
    take-drop-take m.at m.size s.image.total s.image.buffer (module_inside s.block_size s.modules.items s.image.map.places s.image.total m started.planned among)
    ∙ sym (text_of_module s.block_size m s.image.buffer (bytes_in s bank contents) (omega arith) l.inside.count (λ k below. ap (bytes_of s.image.buffer) (sym (l.places k below))))

-- the bytes of a place that was not there, and of one that was
pub new_text : (same there : Bool) (new old : List ℕ) → same ≡ true → there ≡ false → cond (same && not there) new old ≡ new
new_text true false new old is free = refl
new_text true true new old is free = absurd cc
new_text false there new old is free = absurd cc

pub old_text : (same there : Bool) (new old : List ℕ) → there ≡ true → cond (same && not there) new old ≡ old
old_text true true new old is = refl
old_text false true new old is = refl
old_text same false new old is = absurd cc

-- another image for the same plan
pub still_started : (s t : RamStage) (bank : Bank) (started : IsStarted s bank) → t.block_size ≡ s.block_size → t.modules ≡ s.modules → IsFor (plan_in s bank started) t.image → IsStarted t bank
still_started s t bank started block_size modules is = record {
  planned =
      subst (λ (b : ℕ). IsPlan b t.modules.items t.image.map.places t.image.total) (sym block_size)
      (subst (λ (ms : _). IsPlan s.block_size ms.items t.image.map.places t.image.total) (sym modules)
      (subst (λ (n : ℕ). IsPlan s.block_size s.modules.items n t.image.total) (sym is.places)
      (subst (λ (n : ℕ). IsPlan s.block_size s.modules.items s.image.map.places n) (sym is.total) started.planned)));
  fits = let total = is.total in let fits = started.fits in omega arith;
}

pub still_outline : (s : RamStage) (image : Collected) (bank : Bank) (started : IsStarted s bank) → IsFor (plan_in s bank started) image
    → record { block_size = s.block_size; modules = s.modules.items; places = image.map.places; total = image.total } ≡ outline_in s
still_outline s image bank started is =
    let places = is.places in
    let total = is.total in
    (λ i. record { block_size = s.block_size; modules = s.modules.items; places = places i; total = total i })
