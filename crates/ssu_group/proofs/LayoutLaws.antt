-- What is laid out is a plan, where no module stands in the way.
use Rattle.std.proofs.Common.{◌≡◌, ℕ, zero, suc, ◌+◌, ◌*◌, ◌^◌, ◌<◌, ◌≤◌, Bool, true, false, ◌||◌, cond, eqb, ltb, List, [], ◌∷◌, ◌++◌, length, Option, Some, None, refl, sym, ap, ◌∙◌, arith, append_assoc, subst}
use Rattle.std.specs.Prelude.{sum_by, slice_get, map}
use Rattle.std.specs.List.{find, list_any, list_all}
use Rattle.std.specs.Option.{option_map, option_or}
use Rattle.std.proofs.lemmas.Bool.{eq-eqb, eqb-true, le-leb, ltb-false}
use Rattle.std.proofs.lemmas.List.{append-nil}
use Rattle.std.proofs.lemmas.List.Folds.{list_any-append}
use Rattle.std.proofs.lemmas.List.Sums.{sum_by-cons}
use Rattle.dsmcc_msg.specs.Control.{ModuleFields}
use Rattle.ssu_group.specs.declared.module_plan.ModulePlan.{ModulePlan}
use Rattle.ssu_group.specs.Plan.{blocks_of, module_at, laid_out, size_of, block_count, are_joined, are_distinct, few_blocks, IsPlan}
use Rattle.dsmcc_msg.specs.Control.{DiiFields}
use Rattle.ssu_group.specs.declared.unusable.Unusable.{Unusable}
use Rattle.ssu_group.specs.declared.unusable.Unusable.TheVariants.{Compressed, NoBlockSize, TooManyBlocks, TwiceModule, TooLong, Empty}
use Rattle.ssu_group.specs.Refusal.{id_of, has_too_many, first_compressed, is_no_block_size, first_too_many, first_twice, StoodEarlier, total_of, where_so, refusal}

pub laid_joined : (b at first : ℕ) (ms : List ModuleFields) → are_joined b at first (laid_out b at first ms) ≡ true
unfolding laid_out are_joined
laid_joined b at first [] = refl
laid_joined b at first (m ∷ ms) =
    rw (eq-eqb at at refl, eq-eqb first first refl, eq-eqb (blocks_of b m) (blocks_of b m) refl, laid_joined b (at + m.size) (first + blocks_of b m) ms) refl

pub laid_bytes : (b at first : ℕ) (ms : List ModuleFields) → sum_by size_of (laid_out b at first ms) ≡ total_of ms
unfolding laid_out
laid_bytes b at first [] = refl
laid_bytes b at first (m ∷ ms) =
    sum_by-cons size_of (module_at b at first m) (laid_out b (at + m.size) (first + blocks_of b m) ms)
    ∙ ap (λ (n : ℕ). m.size + n) (laid_bytes b (at + m.size) (first + blocks_of b m) ms)
    ∙ sym (sum_by-cons (λ (m : ModuleFields). m.size) m ms)

pub laid_blocks : (b at first : ℕ) (ms : List ModuleFields) → sum_by block_count (laid_out b at first ms) ≡ sum_by (blocks_of b) ms
unfolding laid_out
laid_blocks b at first [] = refl
laid_blocks b at first (m ∷ ms) =
    sum_by-cons block_count (module_at b at first m) (laid_out b (at + m.size) (first + blocks_of b m) ms)
    ∙ ap (λ (n : ℕ). blocks_of b m + n) (laid_blocks b (at + m.size) (first + blocks_of b m) ms)
    ∙ sym (sum_by-cons (blocks_of b) m ms)

pub length-laid_out : (b at first : ℕ) (ms : List ModuleFields) → length (laid_out b at first ms) ≡ length ms
unfolding laid_out
length-laid_out b at first [] = refl
length-laid_out b at first (m ∷ ms) = ap (λ (n : ℕ). suc n) (length-laid_out b (at + m.size) (first + blocks_of b m) ms)

-- ---- no module has too many blocks

none_first : (found : Bool) (m : ModuleFields) (others : Option ModuleFields) → option_map id_of (cond found (Some m) others) ≡ None → (found ≡ false) × (option_map id_of others ≡ None)
none_first true m others none = absurd cc
none_first false m others none = (refl, none)

pub laid_few : (b at first : ℕ) (ms : List ModuleFields) → first_too_many b ms ≡ None → list_all few_blocks (laid_out b at first ms) ≡ true
unfolding laid_out first_too_many
laid_few b at first [] none = refl
laid_few b at first (m ∷ ms) none =
    let step = none_first (has_too_many b m) m (find (has_too_many b) ms) none in
    rw (le-leb (blocks_of b m) 65536 (ltb-false 65536 (blocks_of b m) step.0), laid_few b (at + m.size) (first + blocks_of b m) ms step.1) refl

pub blocks_few : (b : ℕ) (ms : List ModuleFields) → first_too_many b ms ≡ None → sum_by (blocks_of b) ms ≤ 65536 * length ms
unfolding first_too_many
blocks_few b [] none = omega arith
blocks_few b (m ∷ ms) none =
    let step = none_first (has_too_many b m) m (find (has_too_many b) ms) none in
    let few : blocks_of b m ≤ 65536 = ltb-false 65536 (blocks_of b m) step.0 in
    let others : sum_by (blocks_of b) ms ≤ 65536 * length ms = blocks_few b ms step.1 in
    let sum : sum_by (blocks_of b) (m ∷ ms) ≡ blocks_of b m + sum_by (blocks_of b) ms = sum_by-cons (blocks_of b) m ms in
    rw sum (omega arith)

-- ---- no id stands twice

abbrev some_plan : ModulePlan → Option ModulePlan
some_plan p = Some p

none_twice : (twice : Bool) (id : ℕ) (others : Option ℕ) → cond twice (Some id) others ≡ None → (twice ≡ false) × (others ≡ None)
none_twice true id others none = absurd cc
none_twice false id others none = (refl, none)

abbrev is_id : ℕ → ℕ → Bool
is_id x id = eqb id x

differs : (earlier : List ℕ) (id x : ℕ) (same : Bool) → eqb id x ≡ same → list_any (is_id id) earlier ≡ false → list_any (is_id x) earlier ≡ true → same ≡ false
differs earlier id x true is lacks has =
    let e : list_any (is_id id) earlier ≡ list_any (is_id x) earlier = ap (λ (y : ℕ). list_any (is_id y) earlier) (eqb-true id x is) in
    absurd cc
differs earlier id x false is lacks has = refl

or_true : (a b : Bool) → a ≡ true → a || b ≡ true
or_true a b e = rw e refl

or_last : (a b : Bool) → b ≡ true → a || b ≡ true
or_last true b e = refl
or_last false b e = e

not_among : (x b at first : ℕ) (earlier : List ℕ) (ms : List ModuleFields) → first_twice earlier ms ≡ None → list_any (is_id x) earlier ≡ true →
    list_any (λ (n : ModulePlan). eqb n.id x) (laid_out b at first ms) ≡ false
unfolding laid_out first_twice
not_among x b at first earlier [] none has = refl
not_among x b at first earlier (m ∷ ms) none has =
    let step = none_twice (list_any (is_id m.id) earlier) m.id (first_twice (earlier ++ m.id ∷ []) ms) none in
    let longer : list_any (is_id x) (earlier ++ m.id ∷ []) ≡ true = list_any-append (is_id x) earlier (m.id ∷ []) ∙ or_true (list_any (is_id x) earlier) (list_any (is_id x) (m.id ∷ [])) has in
    rw (differs earlier m.id x (eqb m.id x) refl step.0 has, not_among x b (at + m.size) (first + blocks_of b m) (earlier ++ m.id ∷ []) ms step.1 longer) refl

pub laid_distinct : (b at first : ℕ) (earlier : List ℕ) (ms : List ModuleFields) → first_twice earlier ms ≡ None → are_distinct (laid_out b at first ms) ≡ true
unfolding laid_out first_twice are_distinct
laid_distinct b at first earlier [] none = refl
laid_distinct b at first earlier (m ∷ ms) none =
    let step = none_twice (list_any (is_id m.id) earlier) m.id (first_twice (earlier ++ m.id ∷ []) ms) none in
    let last : list_any (is_id m.id) (m.id ∷ []) ≡ true = rw (eq-eqb m.id m.id refl) refl in
    let own : list_any (is_id m.id) (earlier ++ m.id ∷ []) ≡ true = list_any-append (is_id m.id) earlier (m.id ∷ []) ∙ or_last (list_any (is_id m.id) earlier) (list_any (is_id m.id) (m.id ∷ [])) last in
    rw (not_among m.id b (at + m.size) (first + blocks_of b m) (earlier ++ m.id ∷ []) ms step.1 own, laid_distinct b (at + m.size) (first + blocks_of b m) (earlier ++ m.id ∷ []) ms step.1) refl

-- ---- what a DII says that is not refused

pub record IsUsable (dii : DiiFields) (bank_len : ℕ) : Type 0 where
  pub least : 1 ≤ dii.block_size
  pub most : dii.block_size ≤ 4066
  pub few : first_too_many dii.block_size dii.modules ≡ None
  pub distinct : first_twice [] dii.modules ≡ None
  pub fits : total_of dii.modules ≤ bank_len
  pub some : 1 ≤ total_of dii.modules

neither : {A : Type 0} (a b : Option A) → option_or a b ≡ None → (a ≡ None) × (b ≡ None)
neither None b e = (refl, e)
neither (Some x) b e = absurd cc

not_so : (fact : Bool) (why : Unusable) → where_so fact why ≡ None → fact ≡ false
not_so true why e = absurd cc
not_so false why e = refl

no_id : (f : ℕ → Unusable) (o : Option ℕ) → option_map f o ≡ None → o ≡ None
no_id f None e = refl
no_id f (Some x) e = absurd cc

a_block_size : (n : ℕ) (zero over : Bool) → eqb n 0 ≡ zero → ltb 4066 n ≡ over → zero || over ≡ false → (1 ≤ n) × (n ≤ 4066)
a_block_size n true over z o e = absurd cc
a_block_size n false true z o e = absurd cc
a_block_size n false false z o e = (above_zero n z, ltb-false 4066 n o)
  where
    above_zero : (n : ℕ) → eqb n 0 ≡ false → 1 ≤ n
    above_zero zero e = absurd cc
    above_zero (suc n) e = omega arith

pub not_refused : (dii : DiiFields) (bank_len : ℕ) → refusal dii bank_len ≡ None → IsUsable dii bank_len
unfolding refusal
not_refused dii bank_len none =
    let a = neither (option_map Compressed (first_compressed dii.modules)) _ none in
    let b = neither (where_so (is_no_block_size dii.block_size) NoBlockSize) _ a.1 in
    let c = neither (option_map TooManyBlocks (first_too_many dii.block_size dii.modules)) _ b.1 in
    let d = neither (option_map TwiceModule (first_twice [] dii.modules)) _ c.1 in
    let e = neither (where_so (ltb bank_len (total_of dii.modules)) (TooLong (total_of dii.modules))) _ d.1 in
    let size = a_block_size dii.block_size (eqb dii.block_size 0) (ltb 4066 dii.block_size) refl refl (not_so (is_no_block_size dii.block_size) NoBlockSize b.0) in
    record {
      least = size.0;
      most = size.1;
      few = no_id TooManyBlocks (first_too_many dii.block_size dii.modules) c.0;
      distinct = no_id TwiceModule (first_twice [] dii.modules) d.0;
      fits = ltb-false bank_len (total_of dii.modules) (not_so (ltb bank_len (total_of dii.modules)) (TooLong (total_of dii.modules)) e.0);
      some = above_none (total_of dii.modules) (not_so (eqb (total_of dii.modules) 0) Empty e.1);
    }
  where
    above_none : (n : ℕ) → eqb n 0 ≡ false → 1 ≤ n
    above_none zero e = absurd cc
    above_none (suc n) e = omega arith

-- the modules of a DII that is not refused are a plan
pub laid_plan : (dii : DiiFields) (bank_len : ℕ) → refusal dii bank_len ≡ None → length dii.modules ≤ 506 → bank_len < 2 ^ 32 →
    IsPlan dii.block_size (laid_out dii.block_size 0 0 dii.modules) (sum_by (blocks_of dii.block_size) dii.modules) (total_of dii.modules)
laid_plan dii bank_len none short small =
    let is = not_refused dii bank_len none in
    let len = length-laid_out dii.block_size 0 0 dii.modules in
    record {
      least = is.least;
      most = is.most;
      few_modules = omega arith;
      few = laid_few dii.block_size 0 0 dii.modules is.few;
      distinct = laid_distinct dii.block_size 0 0 [] dii.modules is.distinct;
      joined = laid_joined dii.block_size 0 0 dii.modules;
      all_places = sym (laid_blocks dii.block_size 0 0 dii.modules);
      all_bytes = sym (laid_bytes dii.block_size 0 0 dii.modules);
      some = is.some;
      most_places = let few = blocks_few dii.block_size dii.modules is.few in omega (arith, few);
      most_bytes = let fits = is.fits in omega (arith, fits);
    }

-- ---- where a module stands, and an id that stands twice, without going along the list

moved : (b at at' first first' : ℕ) (m : ModuleFields) → at ≡ at' → first ≡ first' → some_plan (module_at b at first m) ≡ some_plan (module_at b at' first' m)
moved b at at' first first' m e f = ap (λ (n : ℕ). some_plan (module_at b n first m)) e ∙ ap (λ (n : ℕ). some_plan (module_at b at' n m)) f

placed : (b at first : ℕ) (before : List ModuleFields) (m : ModuleFields) (behind : List ModuleFields) →
    slice_get (laid_out b at first (before ++ m ∷ behind)) (length before) ≡ Some (module_at b (at + total_of before) (first + sum_by (blocks_of b) before) m)
unfolding laid_out
placed b at first [] m behind = moved b at (at + 0) first (first + 0) m (omega arith) (omega arith)
placed b at first (n ∷ ns) m behind =
    let bytes : total_of (n ∷ ns) ≡ n.size + total_of ns = sum_by-cons (λ (m : ModuleFields). m.size) n ns in
    let blocks : sum_by (blocks_of b) (n ∷ ns) ≡ blocks_of b n + sum_by (blocks_of b) ns = sum_by-cons (blocks_of b) n ns in
    placed b (at + n.size) (first + blocks_of b n) ns m behind
    ∙ moved b ((at + n.size) + total_of ns) (at + total_of (n ∷ ns)) ((first + blocks_of b n) + sum_by (blocks_of b) ns) (first + sum_by (blocks_of b) (n ∷ ns)) m
    (omega (arith, bytes)) (omega (arith, blocks))

-- a module begins at the sum of the sizes before it, and has as many blocks before it as the modules before it have
pub module_placed : (b : ℕ) (before : List ModuleFields) (m : ModuleFields) (behind : List ModuleFields) →
    slice_get (laid_out b 0 0 (before ++ m ∷ behind)) (length before) ≡ Some (module_at b (total_of before) (sum_by (blocks_of b) before) m)
module_placed b before m behind =
    placed b 0 0 before m behind ∙ moved b (0 + total_of before) (total_of before) (0 + sum_by (blocks_of b) before) (sum_by (blocks_of b) before) m (omega arith) (omega arith)

found_twice : (earlier : List ℕ) (before : List ModuleFields) (m : ModuleFields) (behind : List ModuleFields) → first_twice earlier before ≡ None →
    list_any (is_id m.id) (earlier ++ map id_of before) ≡ true → first_twice earlier (before ++ m ∷ behind) ≡ Some m.id
unfolding first_twice
found_twice earlier [] m behind none stood =
    let here : list_any (is_id m.id) earlier ≡ true = subst (λ (ids : List ℕ). list_any (is_id m.id) ids ≡ true) (append-nil earlier) stood in
    rw here refl
found_twice earlier (n ∷ ns) m behind none stood =
    let step = none_twice (list_any (is_id n.id) earlier) n.id (first_twice (earlier ++ n.id ∷ []) ns) none in
    let later : list_any (is_id m.id) ((earlier ++ n.id ∷ []) ++ map id_of ns) ≡ true =
    subst (λ (ids : List ℕ). list_any (is_id m.id) ids ≡ true) (sym (append_assoc earlier (n.id ∷ []) (map id_of ns))) stood in
    rw step.0 (found_twice (earlier ++ n.id ∷ []) ns m behind step.1 later)

-- an id that stood earlier is found, where none was found before it
pub repeat_found : (before : List ModuleFields) (m : ModuleFields) (behind : List ModuleFields) → first_twice [] before ≡ None →
    list_any (is_id m.id) (map id_of before) ≡ true → first_twice [] (before ++ m ∷ behind) ≡ Some m.id
repeat_found before m behind none stood = found_twice [] before m behind none stood

stood_by : (earlier : List ℕ) (m : ModuleFields) (ms : List ModuleFields) (id : ℕ) (stood : Bool) → list_any (is_id m.id) earlier ≡ stood →
    cond stood (Some m.id) (first_twice (earlier ++ m.id ∷ []) ms) ≡ Some id →
    (first_twice (earlier ++ m.id ∷ []) ms ≡ Some id → StoodEarlier (earlier ++ m.id ∷ []) ms id) → StoodEarlier earlier (m ∷ ms) id
stood_by earlier m ms id true is e more =
    let own : m.id ≡ id = cc in
    record {
      before = [];
      part = m;
      behind = ms;
      parts = refl;
      own = own;
      stood = subst (λ (ids : List ℕ). list_any (is_id id) ids ≡ true) (sym (append-nil earlier)) (subst (λ (x : ℕ). list_any (is_id x) earlier ≡ true) own is);
    }
stood_by earlier m ms id false is e more =
    let s = more e in
    record {
      before = m ∷ s.before;
      part = s.part;
      behind = s.behind;
      parts = ap (λ (u : List ModuleFields). m ∷ u) s.parts;
      own = s.own;
      stood = subst (λ (ids : List ℕ). list_any (is_id id) ids ≡ true) (append_assoc earlier (m.id ∷ []) (map id_of s.before)) s.stood;
    }

-- what is found stood earlier
pub found_stood : (earlier : List ℕ) (ms : List ModuleFields) (id : ℕ) → first_twice earlier ms ≡ Some id → StoodEarlier earlier ms id
unfolding first_twice
found_stood earlier [] id e = absurd cc
found_stood earlier (m ∷ ms) id e = stood_by earlier m ms id (list_any (is_id m.id) earlier) refl e (found_stood (earlier ++ m.id ∷ []) ms id)
