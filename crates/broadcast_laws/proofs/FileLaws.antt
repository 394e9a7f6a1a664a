-- Under the DII of a group its blocks join to its files.
use Rattle.std.proofs.Common.{◌≡◌, ◌≢◌, get_or, ℕ, zero, suc, ◌+◌, ◌-◌, ◌*◌, inl, inr, Bool, true, false, cond, eqb, List, [], ◌∷◌, ◌++◌, length, take, drop, Option, Some, None, refl, sym, ap, subst, ◌∙◌, arith, length-append}
use Rattle.std.specs.Prelude.{Contains, ◌&&◌, IsSome, is_some, map, min, sum_by, unwrap_or}
use Rattle.std.specs.List.{All, concat, find}
use Rattle.std.specs.Option.{option_and_then, option_or}
use Rattle.std.proofs.Math.Seq.{drop-append_seam, take-append_seam}
use Rattle.std.proofs.lemmas.Bool.{eq-eqb, eqb-true}
use Rattle.std.proofs.lemmas.List.Elements.{All-head, All-tail}
use Rattle.std.proofs.lemmas.List.Sums.{sum_by-cons}
use Rattle.dsmcc_msg.specs.Block.{DdbFields, ddb}
use Rattle.dsmcc_msg.specs.Control.{ModuleFields}
use Rattle.dsmcc_msg.specs.Written.{dii_of}
use Rattle.group_image.specs.Image.{Collected, bytes_at}
use Rattle.group_image.proofs.ImageLaws.{joined_image}
use Rattle.group_image.proofs.LengthLaws.{placed_is_place}
use Rattle.head_carousel.specs.Blocks.{block_of, ddb_fields}
use Rattle.head_carousel.specs.Control.{dii_draft, module_fields}
use Rattle.head_carousel.specs.GroupFiles.{GroupFiles, modules_of, numbered}
use Rattle.head_carousel.specs.Sections.{plan_groups}
use Rattle.head_plan.specs.Plans.{PlanData}
use Rattle.ssu_group.specs.Carried.{brings, bytes_at as brought_at, carried_image, filling, missing_places}
use Rattle.ssu_group.specs.Lays.{IsPlanOf}
use Rattle.ssu_group.specs.Place.{block_length, block_place, has_block, is_module_of, place_at, place_in, place_of}
use Rattle.ssu_group.specs.Plan.{blocks_of, laid_out, module_at, size_of}
use Rattle.ssu_group.specs.Refusal.{total_of}
use Rattle.ssu_group.specs.declared.group_plan.GroupPlan.{GroupPlan}
use Rattle.ssu_group.specs.declared.module_plan.ModulePlan.{ModulePlan}
use Rattle.ssu_group.specs.declared.places.Place.{Place}
use Rattle.ssu_group.proofs.Filling.{filling-none, filling-step}
use Rattle.ssu_group.proofs.LayoutLaws.{laid_bytes}
use Rattle.ssu_group.proofs.MapLaws.{all_marked}
use Rattle.ssu_group.proofs.PlaceLaws.{fill_image}
use Rattle.broadcast_laws.specs.Planned.{IsOfPlan, IsPlannedDdb, IsSent}
use Rattle.broadcast_laws.proofs.KindLaws.{ddb_planned, numbered_so}
use Rattle.broadcast_laws.proofs.Lists.{first_or_later, none_in}
use Rattle.broadcast_laws.proofs.PlanGroups.{told_apart}
use Rattle.broadcast_laws.proofs.TableLaws.{ddb_table}

-- ---- parts of lists

drop_drop : {X : Type 0} (a b : ℕ) (xs : List X) → drop b (drop a xs) ≡ drop (a + b) xs
drop_drop zero b xs = let e : b ≡ 0 + b = omega arith in ap (λ (n : ℕ). drop n xs) e
drop_drop (suc a) b [] = nothing b ∙ sym (nothing (suc a + b))
  where
    nothing : {X : Type 0} (n : ℕ) → ◌≡◌ {A = List X} (drop n []) []
    nothing zero = refl
    nothing (suc n) = refl
drop_drop {X} (suc a) b (x ∷ xs) = let e : suc (a + b) ≡ suc a + b = omega arith in drop_drop a b xs ∙ ap (λ (n : ℕ). drop n (x ∷ xs)) e

take_take : {X : Type 0} (a b c : ℕ) (xs : List X) → c ≡ min a b → take a (take b xs) ≡ take c xs
take_take zero b c xs e = let f : 0 ≡ c = omega arith in ap (λ (n : ℕ). take n xs) f
take_take (suc a) zero c xs e = let f : 0 ≡ c = omega arith in ap (λ (n : ℕ). take n xs) f
take_take (suc a) (suc b) zero xs e = absurd (omega arith)
take_take (suc a) (suc b) (suc c) [] e = refl
take_take {X} (suc a) (suc b) (suc c) (x ∷ xs) e = ap (λ (ys : List X). x ∷ ys) (take_take a b c xs (omega arith))

take_whole : {X : Type 0} (n : ℕ) (xs : List X) → n ≡ length xs → take n xs ≡ xs
take_whole zero [] e = refl
take_whole zero (x ∷ xs) e = absurd (omega arith)
take_whole (suc n) [] e = absurd (omega arith)
take_whole {X} (suc n) (x ∷ xs) e = ap (λ (ys : List X). x ∷ ys) (take_whole n xs (omega arith))

-- ---- where a module stands

-- The module of this id stands in the image with its file.
record IsLaid (at : ℕ) (image : List ℕ) (m : ModulePlan) (file : List ℕ) : Type 0 where
  pub offset : ℕ
  pub at_it : m.at ≡ at + offset
  pub size : m.size ≡ length file
  pub bytes : file ≡ take (length file) (drop offset image)

laid_later : (at : ℕ) (front image : List ℕ) (m : ModulePlan) (file : List ℕ) → IsLaid (at + length front) image m file → IsLaid at (front ++ image) m file
laid_later at front image m file is =
    let at_it = is.at_it in
    record {
      offset = length front + is.offset;
      at_it = omega arith;
      size = is.size;
      bytes = is.bytes ∙ ap (take (length file)) (sym (sym (drop_drop (length front) is.offset (front ++ image)) ∙ ap (drop is.offset) (drop-append_seam front image)));
    }

found_first : (t : Bool) (x m : ModulePlan) (o : Option ModulePlan) → t ≡ true → cond t (Some x) o ≡ Some m → x ≡ m
found_first true x m o e f = cc
found_first false x m o e f = absurd cc

found_later : (t : Bool) (x m : ModulePlan) (o : Option ModulePlan) → t ≡ false → cond t (Some x) o ≡ Some m → o ≡ Some m
found_later true x m o e f = absurd cc
found_later false x m o e f = f

passes : (n version : ℕ) (d : DdbFields) → eqb n d.module_id ≡ true → d.version ≡ version → eqb n d.module_id && eqb version d.version ≡ true
passes n version d t same = rw (t, eq-eqb version d.version (sym same)) refl

fails : (n version : ℕ) (d : DdbFields) → eqb n d.module_id ≡ false → eqb n d.module_id && eqb version d.version ≡ false
fails n version d t = rw t refl

apart : (n m : ℕ) → eqb n m ≡ false → n ≡ m → ⊥
apart n m t e = let f = sym t ∙ eq-eqb n m e in absurd cc

first_laid : (b at first version n : ℕ) (f : List ℕ) (fs : List (List ℕ)) (d : DdbFields) (m : ModulePlan) (file : List ℕ) → n ≡ d.module_id
    → module_at b at first (module_fields version (n, f)) ≡ m → Contains ((n, f) ∷ numbered (n + 1) fs) (d.module_id, file) → IsLaid at (concat (f ∷ fs)) m file
first_laid b at first version n f fs d m file same is own = elim (first_or_later (n, f) (numbered (n + 1) fs) (d.module_id, file) own) [
  | inl here ↦
      let file_is : f ≡ file = ap (λ (x : ℕ × List ℕ). x.1) here in
      let own_at : at ≡ m.at = ap (λ (x : ModulePlan). x.at) is in
      let own_size : length f ≡ m.size = ap (λ (x : ModulePlan). x.size) is in
      record {
        offset = 0;
        at_it = omega arith;
        size = sym own_size ∙ ap (λ (xs : List ℕ). length xs) file_is;
        bytes = subst (λ (xs : List ℕ). xs ≡ take (length xs) (f ++ concat fs)) file_is (sym (take-append_seam f (concat fs)));
      }
  | inr later ↦ let least = (numbered_so (n + 1) fs (d.module_id, file) later).least in absurd (omega arith)
]

laid_step : (b at first version n : ℕ) (f : List ℕ) (fs : List (List ℕ)) (d : DdbFields) (m : ModulePlan) (file : List ℕ) (later : List ModulePlan) (t : Bool)
    → eqb n d.module_id ≡ t → d.version ≡ version
    → (find (is_module_of d) later ≡ Some m → Contains (numbered (n + 1) fs) (d.module_id, file) → IsLaid (at + length f) (concat fs) m file)
    → find (is_module_of d) (module_at b at first (module_fields version (n, f)) ∷ later) ≡ Some m
    → Contains ((n, f) ∷ numbered (n + 1) fs) (d.module_id, file) → IsLaid at (concat (f ∷ fs)) m file
laid_step b at first version n f fs d m file later true t same before found own =
    first_laid b at first version n f fs d m file (eqb-true n d.module_id t)
    (found_first (eqb n d.module_id && eqb version d.version) (module_at b at first (module_fields version (n, f))) m (find (is_module_of d) later) (passes n version d t same) found) own
laid_step b at first version n f fs d m file later false t same before found own =
    elim (first_or_later (n, f) (numbered (n + 1) fs) (d.module_id, file) own) [
      | inl here ↦ absurd (apart n d.module_id t (ap (λ (x : ℕ × List ℕ). x.0) here))
      | inr behind ↦
          laid_later at f (concat fs) m file (
          before (found_later (eqb n d.module_id && eqb version d.version) (module_at b at first (module_fields version (n, f))) m (find (is_module_of d) later) (fails n version d t) found) behind)
    ]

laid_file : (b at first version n : ℕ) (files : List (List ℕ)) (d : DdbFields) (m : ModulePlan) (file : List ℕ) → d.version ≡ version
    → find (is_module_of d) (laid_out b at first (map (module_fields version) (numbered n files))) ≡ Some m → Contains (numbered n files) (d.module_id, file)
    → IsLaid at (concat files) m file
unfolding laid_out numbered
laid_file b at first version n [] d m file same found own = absurd (none_in own)
laid_file b at first version n (f ∷ fs) d m file same found own =
    let next = first + blocks_of b (module_fields version (n, f)) in
    laid_step b at first version n f fs d m file (laid_out b (at + length f) next (map (module_fields version) (numbered (n + 1) fs))) (eqb n d.module_id) refl same
    (laid_file b (at + length f) next version (n + 1) fs d m file same) found own

drop_of_take : {X : Type 0} (n m : ℕ) (xs : List X) → drop n (take m xs) ≡ take (m - n) (drop n xs)
drop_of_take zero m xs = let e : m ≡ m - 0 = omega arith in ap (λ (k : ℕ). take k xs) e
drop_of_take (suc n) zero xs = let e : 0 ≡ 0 - suc n = omega arith in ap (λ (k : ℕ). take k (drop (suc n) xs)) e
drop_of_take (suc n) (suc m) [] = sym (nothing (suc m - suc n))
  where
    nothing : {X : Type 0} (k : ℕ) → ◌≡◌ {A = List X} (take k []) []
    nothing zero = refl
    nothing (suc k) = refl
drop_of_take (suc n) (suc m) (x ∷ xs) = let e : m - n ≡ suc m - suc n = omega arith in drop_of_take n m xs ∙ ap (λ (k : ℕ). take k (drop n xs)) e

-- ---- what fills a place

-- The block of a file that is laid so has the bytes of its place.
block_bytes : (b k : ℕ) (image : List ℕ) (m : ModulePlan) (file : List ℕ) → IsLaid 0 image m file
    → block_of b file k ≡ take (block_length b m.size k) (drop (m.at + k * b) image)
block_bytes b k image m file is =
    let size = is.size in
    let at_it = is.at_it in
    let place : is.offset + k * b ≡ m.at + k * b = omega arith in
    let len : block_length b m.size k ≡ min b (length file - k * b) = omega arith in
    ap (λ (xs : List ℕ). take b (drop (k * b) xs)) is.bytes
    ∙ ap (take b) (drop_of_take (k * b) (length file) (drop is.offset image) ∙ ap (take (length file - k * b)) (drop_drop is.offset (k * b) image))
    ∙ take_take b (length file - k * b) (block_length b m.size k) (drop (is.offset + k * b) image) len
    ∙ ap (λ (n : ℕ). take (block_length b m.size k) (drop n image)) place

by_block : (b : ℕ) (d : DdbFields) (m : ModulePlan) (q : Place) (t : Bool) → cond t (Some (place_in b m d.block)) None ≡ Some q → place_in b m d.block ≡ q
by_block b d m q true e = cc
by_block b d m q false e = absurd cc

by_module : (g : GroupFiles) (file : ℕ × List ℕ) (k b : ℕ) (modules : List ModulePlan) (o : Option ModulePlan) (q : Place) → b ≡ g.group.block_size
    → find (is_module_of (ddb_fields g file k)) modules ≡ o
    → ((m : ModulePlan) → find (is_module_of (ddb_fields g file k)) modules ≡ Some m → IsLaid 0 (concat g.files) m file.1)
    → option_and_then (block_place b (ddb_fields g file k)) o ≡ Some q → block_of g.group.block_size file.1 k ≡ take q.len (drop q.at (concat g.files))
by_module g file k b modules None q size found laid e = absurd cc
by_module g file k b modules (Some m) q size found laid e =
    let is = by_block b (ddb_fields g file k) m q (has_block b (ddb_fields g file k) m) e in
    let bytes : block_of b file.1 k ≡ take q.len (drop q.at (concat g.files)) =
    block_bytes b k (concat g.files) m file.1 (laid m found) ∙ ap (λ (p : Place). take p.len (drop p.at (concat g.files))) is in
    subst (λ (n : ℕ). block_of n file.1 k ≡ take q.len (drop q.at (concat g.files))) size bytes

placed_bytes : (plan : GroupPlan) (g : GroupFiles) (file : ℕ × List ℕ) (k : ℕ) (q : Place) → IsPlanOf (dii_of (dii_draft g)) plan → Contains (modules_of g) file
    → place_of plan (ddb_fields g file k) ≡ Some q → block_of g.group.block_size file.1 k ≡ take q.len (drop q.at (concat g.files))
unfolding place_of dii_draft
placed_bytes plan g file k q is own placed = by_test (eqb g.id plan.download) placed
  where
    laid : (m : ModulePlan) → find (is_module_of (ddb_fields g file k)) plan.modules.items ≡ Some m → IsLaid 0 (concat g.files) m file.1
    laid m found =
        laid_file g.group.block_size 0 0 g.group.module_version 1 g.files (ddb_fields g file k) m file.1 refl
        (ap (λ (ms : List ModulePlan). find (is_module_of (ddb_fields g file k)) ms) (sym is.modules) ∙ found) own

    by_test : (t : Bool) → cond t (option_and_then (block_place plan.block_size (ddb_fields g file k)) (find (is_module_of (ddb_fields g file k)) plan.modules.items)) None ≡ Some q
        → block_of g.group.block_size file.1 k ≡ take q.len (drop q.at (concat g.files))
    by_test true e = by_module g file k plan.block_size plan.modules.items (find (is_module_of (ddb_fields g file k)) plan.modules.items) q is.block_size refl laid e
    by_test false e = absurd cc

own_download : (plan : GroupPlan) (d : DdbFields) (q : Place) → place_of plan d ≡ Some q → d.download ≡ plan.download
unfolding place_of
own_download plan d q placed = by_test (eqb d.download plan.download) refl placed
  where
    by_test : (t : Bool) → eqb d.download plan.download ≡ t → cond t (option_and_then (block_place plan.block_size d) (find (is_module_of d) plan.modules.items)) None ≡ Some q
        → d.download ≡ plan.download
    by_test true t e = eqb-true d.download plan.download t
    by_test false t e = absurd cc

-- bytes that stand for a place are those of the image there
abbrev HasBytes : GroupPlan → List ℕ → ℕ → Option (List ℕ) → Type 0
HasBytes plan image n o = (p : Place) (b : List ℕ) → place_at plan.block_size plan.modules.items n ≡ Some p → o ≡ Some b → b ≡ take p.len (drop p.at image)

same_place : (p q : Place) → Some p ≡ Some q → p ≡ q
same_place p q e = cc

placed_has : (plan : GroupPlan) (image : List ℕ) (n : ℕ) (d : DdbFields) (q : Place) (t : Bool) → eqb q.number n ≡ t → place_of plan d ≡ Some q → d.bytes ≡ take q.len (drop q.at image)
    → HasBytes plan image n (cond t (Some d.bytes) None)
placed_has plan image n d q true t placed is = λ p b at some.
    let number : q.number ≡ n = eqb-true q.number n t in
    let same : q ≡ p = same_place q p (sym (placed_is_place plan d q placed) ∙ ap (place_at plan.block_size plan.modules.items) number ∙ at) in
    let bytes : d.bytes ≡ b = cc in
    sym bytes ∙ is ∙ ap (λ (x : Place). take x.len (drop x.at image)) same
placed_has plan image n d q false t placed is = λ p b at some. absurd cc

record IsUnder (p : PlanData) (images : List (List ℕ)) (g : GroupFiles) (plan : GroupPlan) : Type 0 where
  pub sent : IsSent p images
  pub own : Contains (plan_groups p images) g
  pub is : IsPlanOf (dii_of (dii_draft g)) plan

plan_download : (g : GroupFiles) (plan : GroupPlan) → IsPlanOf (dii_of (dii_draft g)) plan → plan.download ≡ g.id
unfolding dii_draft
plan_download g plan is = is.download

block_has : (p : PlanData) (images : List (List ℕ)) (g : GroupFiles) (plan : GroupPlan) (n : ℕ) (d : DdbFields) (o : Option Place) → IsUnder p images g plan → IsPlannedDdb p images d
    → place_of plan d ≡ o → HasBytes plan (concat g.files) n (option_and_then (brought_at n d) o)
block_has p images g plan n d None under planned placed = λ q b at some. absurd cc
block_has p images g plan n d (Some q) under planned placed =
    let id : planned.group.id ≡ g.id = ap (λ (x : DdbFields). x.download) (sym planned.is) ∙ own_download plan d q placed ∙ plan_download g plan under.is in
    let same : planned.group ≡ g = told_apart 0 p.group images planned.group g planned.own under.own id in
    let d_is : d ≡ ddb_fields g planned.file planned.number = planned.is ∙ ap (λ (x : GroupFiles). ddb_fields x planned.file planned.number) same in
    let bytes = placed_bytes plan g planned.file planned.number q under.is (subst (λ (x : GroupFiles). Contains (modules_of x) planned.file) same planned.own_file)
    (ap (place_of plan) (sym d_is) ∙ placed) in
    placed_has plan (concat g.files) n d q (eqb q.number n) refl placed (ap (λ (x : DdbFields). x.bytes) d_is ∙ bytes)

no_time : (section : List ℕ) → get_or section 0 0 ≡ 60 → get_or section 0 0 ≢ 0x70
no_time section a b = absurd (omega (arith, a, b))

brought : (p : PlanData) (images : List (List ℕ)) (g : GroupFiles) (plan : GroupPlan) (n : ℕ) (section : List ℕ) → IsUnder p images g plan → IsOfPlan p images section
    → HasBytes plan (concat g.files) n (brings plan n section)
unfolding brings
brought p images g plan n section under among = by_section (ddb.of section) refl
  where
    by_section : (o : Option DdbFields) → ddb.of section ≡ o → HasBytes plan (concat g.files) n (option_and_then (λ d. option_and_then (brought_at n d) (place_of plan d)) o)
    by_section None e = λ q b at some. absurd cc
    by_section (Some d) e = block_has p images g plan n d (place_of plan d) under (ddb_planned p images section d under.sent (among (no_time section (ddb_table section d e))) e) refl

either_has : (plan : GroupPlan) (image : List ℕ) (n : ℕ) (a b : Option (List ℕ)) → HasBytes plan image n a → HasBytes plan image n b → HasBytes plan image n (option_or a b)
either_has plan image n None b p q = q
either_has plan image n (Some x) b p q = p

filled_with : (p : PlanData) (images : List (List ℕ)) (g : GroupFiles) (plan : GroupPlan) (n : ℕ) (sections : List (List ℕ)) → IsUnder p images g plan
    → All (IsOfPlan p images) sections → HasBytes plan (concat g.files) n (filling plan sections n)
filled_with p images g plan n [] under all = λ q b at some. let none = filling-none plan n in absurd cc
filled_with p images g plan n (section ∷ sections) under all =
    subst (HasBytes plan (concat g.files) n) (sym (filling-step plan section sections n))
    (either_has plan (concat g.files) n (filling plan sections n) (brings plan n section)
    (filled_with p images g plan n sections under (All-tail (IsOfPlan p images) section sections all))
    (brought p images g plan n section under (All-head (IsOfPlan p images) section sections all)))

-- ---- the whole

value_of : (o : Option (List ℕ)) → is_some o ≡ true → (b : List ℕ) × (o ≡ Some b)
value_of None e = absurd cc
value_of (Some b) e = (b, refl)

files_total : (version n : ℕ) (files : List (List ℕ)) → total_of (map (module_fields version) (numbered n files)) ≡ length (concat files)
unfolding numbered
files_total version n [] = refl
files_total version n (f ∷ fs) =
    let s = sum_by-cons (λ (m : ModuleFields). m.size) (module_fields version (n, f)) (map (module_fields version) (numbered (n + 1) fs)) in
    let later = files_total version (n + 1) fs in
    let l = length-append f (concat fs) in
    omega (arith, s, later, l)

whole_length : (g : GroupFiles) (plan : GroupPlan) → IsPlanOf (dii_of (dii_draft g)) plan → plan.total ≡ length (concat g.files)
unfolding dii_draft
whole_length g plan is =
    plan.planned.all_bytes
    ∙ ap (λ (ms : List ModulePlan). sum_by size_of ms) is.modules
    ∙ laid_bytes g.group.block_size 0 0 (map (module_fields g.group.module_version) (modules_of g))
    ∙ files_total g.group.module_version 1 g.files

read_at : (plan : GroupPlan) (image : Collected) (n : ℕ) (o : Option Place) (bytes : List ℕ) → place_at plan.block_size plan.modules.items n ≡ o → IsSome o
    → ((q : Place) → place_at plan.block_size plan.modules.items n ≡ Some q → bytes ≡ take q.len (drop q.at image.buffer)) → bytes_at plan image n ≡ bytes
unfolding bytes_at
read_at plan image n None bytes e some is = absurd cc
read_at plan image n (Some q) bytes e some is = rw e (sym (is q e))

pub joins_files : (p : PlanData) (images : List (List ℕ)) (g : GroupFiles) (plan : GroupPlan) (sections : List (List ℕ)) → IsSent p images → Contains (plan_groups p images) g
    → IsPlanOf (dii_of (dii_draft g)) plan → All (IsOfPlan p images) sections → missing_places plan (filling plan sections) ≡ 0 → carried_image plan (filling plan sections) ≡ concat g.files
joins_files p images g plan sections sent own is all filled =
    let under : IsUnder p images g plan = record { sent = sent; own = own; is = is } in
    let whole : Collected = record { map = record { most = plan.places; places = plan.places; bits = [] }; total = plan.total; buffer = concat g.files } in
    let fills = fill_image plan.block_size plan.modules.items plan.places plan.total plan.planned in
    let text = λ (n : ℕ). unwrap_or (filling plan sections n) [] in
    joined_image plan whole text (record { places = refl; total = refl }) (λ n below.
    let v = value_of (filling plan sections n) (all_marked (λ (k : ℕ). is_some (filling plan sections k)) plan.places filled n below) in
    let bytes : text n ≡ v.0 = ap (λ (o : Option (List ℕ)). unwrap_or o []) v.1 in
    read_at plan whole n (place_at plan.block_size plan.modules.items n) (text n) refl (fills.there n below) (λ q at. bytes ∙ filled_with p images g plan n sections under all q v.0 at v.1))
    ∙ take_whole plan.total (concat g.files) (whole_length g plan is)
