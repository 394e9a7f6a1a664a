-- What stands in the spare bank for the places of a plan.
use Rattle.std.proofs.Common.{◌≡◌, ◌≢◌, ◌⊎◌, inl, inr, ⊎_elim, ℕ, suc, ◌+◌, ◌-◌, ◌*◌, ◌<◌, ◌≤◌, min, Bool, true, false, ◌||◌, eqb, List, ◌++◌, length, get_or, drop, Option, None, Some, refl, sym, ap, subst, ◌∙◌, arith}
use Rattle.std.specs.Prelude.{Contains}
use Rattle.std.proofs.lemmas.Bool.{cases_lt, eq-eqb}
use Rattle.flash_dev.specs.Changes.{Changes, Holds, IsBlank, IsProgrammed}
use Rattle.flash_bank.specs.Bank.{Fits, current_of, geometry_of, len_of, spare_bank, spare_journal}
use Rattle.flash_layout.specs.Layout.{Geometry, area_len, area_place, journal_len, journal_place}
use Rattle.flash_layout.specs.Pairs.{part}
use Rattle.flash_bank.specs.Sound.{image_of}
use Rattle.flash_bank.specs.declared.bank.Bank.{Bank}
use Rattle.flash_bank.specs.declared.record.Record.{Record}
use Rattle.flash_layout.proofs.PartLemmas.{part_held}
use Rattle.flash_layout.proofs.Places.{area_within, part_apart}
use Rattle.flash_bank.specs.Record.{next_record}
use Rattle.group_image.specs.Image.{bytes_at, bytes_of}
use Rattle.group_image.proofs.ImageLaws.{joined_image, place_inside, places-le-total, places_apart}
use Rattle.ssu_compat.specs.declared.rule.SwId.{SwId}
use Rattle.ssu_group.specs.Place.{place_at, place_in}
use Rattle.ssu_group.specs.declared.group_plan.GroupPlan.{GroupPlan}
use Rattle.ssu_group.specs.declared.module_plan.ModulePlan.{ModulePlan}
use Rattle.ssu_group.specs.declared.places.Place.{Place}
use Rattle.ssu_group.proofs.PlaceLaws.{fill_image}
use Rattle.flash_bank.proofs.BankLemmas.{front_image, len_less}
use Rattle.flash_stage.specs.InBank.{IsBegun, bytes_from, bytes_in_bank, outline_in_bank}
use Rattle.flash_stage.specs.Leaving.{SameBank}
use Rattle.flash_stage.specs.Outline.{group_text, module_text}
use Rattle.flash_stage.specs.declared.bank_stage.BankStage.{BankStage}
use Rattle.flash_stage.proofs.LeavingLaws.{spare_bank_same}
use Rattle.flash_stage.proofs.TextLaws.{lies, take-add, take-drop-add, text_of_module}

-- ---- the places of a plan

abbrev pub place_of : GroupPlan → ℕ → Option Place
place_of plan number = place_at plan.block_size plan.modules.items number

-- the number of a place is its own
pub own_number : (plan : GroupPlan) (n : ℕ) (p : Place) → place_of plan n ≡ Some p → p.number ≡ n
own_number plan n p e = (fill_image plan.block_size plan.modules.items plan.places plan.total plan.planned).numbered n p e

-- a place ends inside the image
pub inside_plan : (plan : GroupPlan) (n : ℕ) (p : Place) → place_of plan n ≡ Some p → p.at + p.len ≤ plan.total
inside_plan plan n p e = place_inside plan p (subst (λ (i : ℕ). place_of plan i ≡ Some p) (sym (own_number plan n p e)) e)

-- two places have no byte in common
pub apart : (plan : GroupPlan) (n m : ℕ) (p q : Place) → place_of plan n ≡ Some p → place_of plan m ≡ Some q → n ≢ m → (p.at + p.len ≤ q.at) ⊎ (q.at + q.len ≤ p.at)
apart plan n m p q e f other = by_order (cases_lt n m) (cases_lt m n)
  where
    by_order : (n < m) ⊎ (m ≤ n) → (m < n) ⊎ (n ≤ m) → (p.at + p.len ≤ q.at) ⊎ (q.at + q.len ≤ p.at)
    by_order (inl before) _ =
        let number : m ≡ n + suc (m - suc n) = omega (arith, before) in
        inl (places_apart plan (m - suc n) n p q e (subst (λ (i : ℕ). place_of plan i ≡ Some q) number f))
    by_order (inr le) (inl behind) =
        let number : n ≡ m + suc (n - suc m) = omega (arith, behind) in
        inr (places_apart plan (n - suc m) m q p f (subst (λ (i : ℕ). place_of plan i ≡ Some p) number e))
    by_order (inr le) (inr ge) = absurd (other (let same : n ≡ m = omega (arith, le, ge) in same))

-- a plan has no more places than a map made for its bank
pub few_places : (plan : GroupPlan) (most room : ℕ) → min most 33161216 ≤ room → plan.total ≤ most → plan.places ≤ room
few_places plan most room enough fits = let few = places-le-total plan in let most_places = plan.planned.most_places in omega (arith, few, most_places)

-- ---- what stands for a place

-- the bytes of a place, read from behind what lies before the bank
read_from : (bank : Bank) (c : List ℕ) (o : Option Place) → bytes_of (drop (spare_bank bank) c) o ≡ bytes_from (spare_bank bank) c o
read_from bank c None = refl
read_from bank c (Some p) = sym (take-drop-add (spare_bank bank) p.at p.len c)

-- an erased bank is blank at each place
pub blank_place : (plan : GroupPlan) (old new : Bank) (c : List ℕ) (n : ℕ) (p : Place) → SameBank old new → plan.total ≤ len_of old
    → IsBlank c (spare_bank old) (len_of old) → place_of plan n ≡ Some p → IsBlank c (spare_bank new + p.at) p.len
blank_place plan old new c n p same fits blank e k lt =
    let inside = inside_plan plan n p e in
    let spot : spare_bank old + (p.at + k) ≡ spare_bank new + p.at + k = omega (arith, spare_bank_same old new same) in
    subst (λ (i : ℕ). get_or c i 0 ≡ 255) spot (blank (p.at + k) (omega (arith, inside)))

-- a change at one place leaves what is blank at another
pub still_blank : (plan : GroupPlan) (old new : Bank) (P : ℕ → ℕ → ℕ → Type 0) (x y : List ℕ) (n m : ℕ) (p q : Place) → SameBank old new → place_of plan n ≡ Some p → place_of plan m ≡ Some q → n ≢ m
    → Changes (spare_bank old + q.at) q.len P x y → IsBlank x (spare_bank old + p.at) p.len → IsBlank y (spare_bank new + p.at) p.len
still_blank plan old new P x y n m p q same e f other changes blank k lt =
    let spot : spare_bank old + p.at + k ≡ spare_bank new + p.at + k = omega (arith, spare_bank_same old new same) in
    subst (λ (i : ℕ). get_or y i 0 ≡ 255) spot
    (⊎_elim (λ front. changes.before (spare_bank old + p.at + k) (omega (arith, front)) ∙ blank k lt) (λ behind. changes.after (spare_bank old + p.at + k) (omega (arith, behind)) ∙ blank k lt)
    (apart plan n m p q e f other))

-- an erased journal is one of the same bank
pub same_journal : (old new : Bank) (c : List ℕ) → SameBank old new → ((current_of old).layout ≡ 2 → IsBlank c (spare_journal old) (journal_len (geometry_of old)))
    → (current_of new).layout ≡ 2 → IsBlank c (spare_journal new) (journal_len (geometry_of new))
same_journal old new c same blank two =
    let was : (current_of old).layout ≡ 2 = ap (λ (r : Record). r.layout) (sym same.current) ∙ two in
    subst (λ (g : Geometry). IsBlank c (journal_place g (1 - (current_of new).bank)) (journal_len g)) (sym same.geometry)
    (subst (λ (r : Record). IsBlank c (journal_place (geometry_of old) (1 - r.bank)) (journal_len (geometry_of old))) (sym same.current) (blank was))

-- and what stands at another
pub still_bytes : (plan : GroupPlan) (old new : Bank) (P : ℕ → ℕ → ℕ → Type 0) (x y : List ℕ) (n m : ℕ) (q : Place) → SameBank old new → place_of plan m ≡ Some q → n ≢ m
    → Changes (spare_bank old + q.at) q.len P x y → bytes_from (spare_bank new) y (place_of plan n) ≡ bytes_from (spare_bank old) x (place_of plan n)
still_bytes plan old new P x y n m q same f other changes = by_place (place_of plan n) refl
  where
    by_place : (o : Option Place) → place_of plan n ≡ o → bytes_from (spare_bank new) y o ≡ bytes_from (spare_bank old) x o
    by_place None e = refl
    by_place (Some p) e =
        ap (λ (s : ℕ). part y (s + p.at) p.len) (spare_bank_same old new same)
        ∙ ⊎_elim (λ front. part_apart (spare_bank old + p.at) p.len (spare_bank old + q.at) q.len P x y (inl (omega (arith, front))) changes)
        (λ behind. part_apart (spare_bank old + p.at) p.len (spare_bank old + q.at) q.len P x y (inr (omega (arith, behind))) changes) (apart plan n m p q e f other)

-- bytes that were programmed at a place stand there
pub new_bytes : (plan : GroupPlan) (old new : Bank) (x y bytes : List ℕ) (n : ℕ) (q : Place) → SameBank old new → place_of plan n ≡ Some q → length bytes ≡ q.len → Fits new y
    → plan.total ≤ len_of new → Changes (spare_bank old + q.at) (length bytes) (IsProgrammed bytes) x y → bytes_from (spare_bank new) y (place_of plan n) ≡ bytes
new_bytes plan old new x y bytes n q same f long fits short changes =
    let g = geometry_of new in
    let inside = inside_plan plan n q f in
    let within : area_place g (1 - (current_of new).bank) + area_len g ≤ g.blocks * g.block_len = area_within g new.limits (1 - (current_of new).bank) (omega arith) in
    let spot : spare_bank old + q.at ≡ spare_bank new + q.at = ap (λ (s : ℕ). s + q.at) (sym (spare_bank_same old new same)) in
    ap (bytes_from (spare_bank new) y) f
    ∙ part_held y bytes (spare_bank new + q.at) q.len long (omega (arith, within, inside, len_less new, fits.sound.size)) (λ k lt. subst (λ (s : ℕ). get_or y (s + k) 0 ≡ get_or bytes k 0) spot (changes.inside k lt))

-- bytes that were read are a part of the contents
pub read_part : (bank : Bank) (c bytes : List ℕ) (at n : ℕ) → Fits bank c → length bytes ≡ n → at + n ≤ len_of bank → Holds c (spare_bank bank + at) bytes → part c (spare_bank bank + at) n ≡ bytes
read_part bank c bytes at n fits long inside holds =
    let g = geometry_of bank in
    let within : area_place g (1 - (current_of bank).bank) + area_len g ≤ g.blocks * g.block_len = area_within g bank.limits (1 - (current_of bank).bank) (omega arith) in
    part_held c bytes (spare_bank bank + at) n long (omega (arith, within, len_less bank, fits.sound.size)) holds

-- a part and the one behind it
pub parts_joined : (c : List ℕ) (at m n : ℕ) → part c at m ++ part c (at + m) n ≡ part c at (m + n)
parts_joined c at m n = ap (λ (xs : List ℕ). part c at m ++ xs) (take-drop-add at m n c) ∙ take-add m n (drop at c)

-- the same where the bank and what is held are the same
pub same_part : (old new : Bank) (x y : List ℕ) (at n : ℕ) → SameBank old new → y ≡ x → part y (spare_bank new + at) n ≡ part x (spare_bank old + at) n
same_part old new x y at n same held = ap (λ (c : List ℕ). part c (spare_bank new + at) n) held ∙ ap (λ (s : ℕ). part x (s + at) n) (spare_bank_same old new same)

pub same_place_bytes : (old new : Bank) (x y : List ℕ) (o : Option Place) → SameBank old new → y ≡ x → bytes_from (spare_bank new) y o ≡ bytes_from (spare_bank old) x o
same_place_bytes old new x y o same held = ap (λ (c : List ℕ). bytes_from (spare_bank new) c o) held ∙ ap (λ (s : ℕ). bytes_from s x o) (spare_bank_same old new same)

pub blank_same : (old new : Bank) (x y : List ℕ) (at n : ℕ) → SameBank old new → y ≡ x → IsBlank x (spare_bank old + at) n → IsBlank y (spare_bank new + at) n
blank_same old new x y at n same held blank =
    subst (λ (c : List ℕ). IsBlank c (spare_bank new + at) n) (sym held) (subst (λ (s : ℕ). IsBlank x (s + at) n) (sym (spare_bank_same old new same)) blank)

-- ---- the stage

-- the plan that it keeps, but for its download id, which no place has to do with
abbrev pub plan_in_bank : (s : BankStage) (bank : Bank) → IsBegun s bank → GroupPlan
plan_in_bank s bank begun = record {
  download = 0;
  block_size = s.block_size;
  modules = record { items = s.modules.items };
  places = s.map.places;
  total = s.total;
  planned = begun.planned;
}

-- a number that is not marked once another is
pub unmarked : (n q : ℕ) (was now : Bool) → now ≡ (eqb n q || was) → now ≡ false → (n ≢ q) × (was ≡ false)
unmarked n q was now is free = (λ same. let yes : eqb n q ≡ true = eq-eqb n q same in cc, by_test (eqb n q) was (sym is ∙ free))
  where
    by_test : (a b : Bool) → (a || b) ≡ false → b ≡ false
    by_test true b e = absurd cc
    by_test false b e = e

-- a place is marked and another is not
pub other_number : (marked : ℕ → Bool) (n q : ℕ) → marked n ≡ true → marked q ≡ false → n ≢ q
other_number marked n q set free same = let is : marked n ≡ marked q = ap marked same in absurd cc

-- the image that its places join to
pub whole_bank : (s : BankStage) (bank : Bank) (c : List ℕ) → Fits bank c → ((current_of bank).layout ≡ 2 → IsBlank c (spare_journal bank) (journal_len (geometry_of bank))) → IsBegun s bank → (software : SwId) (group : ℕ)
    → image_of (geometry_of bank) c (next_record (current_of bank) s.total software group) ≡ group_text (bytes_in_bank s bank c) (outline_in_bank s)
unfolding bytes_in_bank bytes_at
whole_bank s bank c fits journal begun software group =
    front_image bank c fits (next_record (current_of bank) s.total software group) refl refl begun.fits journal
    ∙ sym (joined_image (plan_in_bank s bank begun) (record { map = s.map; total = s.total; buffer = drop (spare_bank bank) c }) (bytes_in_bank s bank c) (record { places = refl; total = refl })
    (λ number below. read_from bank c (place_at s.block_size s.modules.items number)))

-- the bytes of a module
pub module_in_bank : (s : BankStage) (bank : Bank) (c : List ℕ) (m : ModulePlan) → IsBegun s bank → Contains s.modules.items m
    → part c (spare_bank bank + m.at) m.size ≡ module_text (bytes_in_bank s bank c) m
unfolding bytes_in_bank
module_in_bank s bank c m begun among =
    let l = lies s.block_size 0 0 s.modules.items m begun.planned.joined among in
    let least = begun.planned.least in
    take-drop-add (spare_bank bank) m.at m.size c
    ∙ sym (text_of_module s.block_size m (drop (spare_bank bank) c) (bytes_in_bank s bank c) (omega arith) l.inside.count (λ k below. read_from bank c (Some (place_in s.block_size m k)) ∙ ap (bytes_from (spare_bank bank) c) (sym (l.places k below))))
