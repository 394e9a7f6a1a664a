-- The place that a block fills, by the key of the block.
use Rattle.std.proofs.Common.{◌≡◌, ℕ, zero, suc, ◌+◌, ◌-◌, ◌<◌, ◌≤◌, Bool, true, false, not, ◌||◌, cond, eqb, ltb, List, [], ◌∷◌, length, get_or, Option, Some, None, ◌⊎◌, inl, inr, refl, sym, ap, subst, ◌∙◌, arith}
use Rattle.std.proofs.lemmas.Bool.{and_parts, eqb-true, eq-eqb, lt-ltb, ltb-true, ltb-false}
use Rattle.std.specs.Prelude.{Contains, sum_by}
use Rattle.std.specs.List.{find, list_any}
use Rattle.std.specs.Option.{option_and_then}
use Rattle.dsmcc_msg.specs.Block.{DdbFields, ddb}
use Rattle.ssu_group.specs.declared.group_plan.GroupPlan.{GroupPlan}
use Rattle.ssu_group.specs.declared.module_plan.ModulePlan.{ModulePlan}
use Rattle.ssu_group.specs.declared.places.Place.{Place}
use Rattle.ssu_group.specs.Carried.{brings}
use Rattle.ssu_group.specs.Place.{block_length, block_place, has_block, is_module_of, place_in, place_of}
use Rattle.ssu_group.specs.Plan.{are_distinct, are_joined, block_count}
use Rattle.ssu_group.proofs.Filling.{brings_no_block, brings_no_place, brings_place}
use Rattle.ssu_group.proofs.PlaceLaws.{begin_joined}
use Rattle.flash_stage.proofs.TextLaws.{lies}
use Rattle.ssu_audit.specs.declared.key.BlockKey.{BlockKey}
use Rattle.ssu_audit.specs.Filled.{key_at}
use Rattle.ssu_audit.specs.Said.{block_with, key_of, same_key}
use Rattle.ssu_audit.proofs.Holding.{same_key-refl, same_keys, says_block, says_no_block}

abbrev some_module : ModulePlan → Option ModulePlan
some_module m = Some m

-- ---- members of a list

contains-none : {A : Type 0} (x : A) → Contains [] x → ⊥
contains-none x c = let no : c.0 < 0 = c.1 in omega arith

-- a member is the first, or one of the others
pub first_or_other : {A : Type 0} (x y : A) (ys : List A) → Contains (y ∷ ys) x → (y ≡ x) ⊎ Contains ys x
first_or_other {A} x y ys c = by_index c.0 c.1 c.2
  where
    by_index : (i : ℕ) → i < length (y ∷ ys) → get_or (y ∷ ys) i x ≡ x → (y ≡ x) ⊎ Contains ys x
    by_index zero lt is = inl is
    by_index (suc i) lt is = inr (i, omega arith, is)

pub contains-here : {A : Type 0} (x : A) (ys : List A) → Contains (x ∷ ys) x
contains-here x ys = (0, omega arith, refl)

pub contains-later : {A : Type 0} (x y : A) (ys : List A) → Contains ys x → Contains (y ∷ ys) x
contains-later x y ys c = let i = c.0 in let lt : i < length ys = c.1 in (suc i, omega arith, c.2)

pub found_in : {A : Type 0} (p : A → Bool) (ys : List A) (x : A) → find p ys ≡ Some x → Contains ys x × (p x ≡ true)
found_in p [] x e = absurd cc
found_in {A} p (y ∷ ys) x e = by_test (found_in p ys x) (p y) refl e
  where
    by_test : (find p ys ≡ Some x → Contains ys x × (p x ≡ true)) → (is : Bool) → p y ≡ is → cond is (Some y) (find p ys) ≡ Some x → Contains (y ∷ ys) x × (p x ≡ true)
    by_test more true is e = let same : y ≡ x = cc in (subst (λ (z : A). Contains (y ∷ ys) z) same (contains-here y ys), ap p (sym same) ∙ is)
    by_test more false is e = let later = more e in (contains-later x y ys later.0, later.1)

-- ---- one module at a number

pub one_module : (b at first : ℕ) (ms : List ModulePlan) (m n : ModulePlan) (k : ℕ) → are_joined b at first ms ≡ true → Contains ms m → Contains ms n
    → m.first ≤ k → k < m.first + m.blocks → n.first ≤ k → k < n.first + n.blocks → m ≡ n
one_module b at first [] m n k joined c d a0 a1 b0 b1 = absurd (contains-none m c)
one_module b at first (x ∷ xs) m n k joined c d a0 a1 b0 b1 =
    let s = begin_joined b at first x xs joined in
    let before = s.before in
    elim (first_or_other m x xs c) as (λ _. m ≡ n) [
      | inl is_m ↦ elim (first_or_other n x xs d) as (λ _. m ≡ n) [
        | inl is_n ↦ sym is_m ∙ is_n
        | inr later ↦
            let l = lies b (at + x.size) (first + x.blocks) xs n s.others later in
            let low = l.inside.first_in in
            let first_is : x.first ≡ m.first = ap (λ (z : ModulePlan). z.first) is_m in
            let blocks_is : x.blocks ≡ m.blocks = ap (λ (z : ModulePlan). z.blocks) is_m in
            absurd (omega arith)
      ]
      | inr earlier ↦ elim (first_or_other n x xs d) as (λ _. m ≡ n) [
        | inl is_n ↦
            let l = lies b (at + x.size) (first + x.blocks) xs m s.others earlier in
            let low = l.inside.first_in in
            let first_is : x.first ≡ n.first = ap (λ (z : ModulePlan). z.first) is_n in
            let blocks_is : x.blocks ≡ n.blocks = ap (λ (z : ModulePlan). z.blocks) is_n in
            absurd (omega arith)
        | inr later ↦ one_module b (at + x.size) (first + x.blocks) xs m n k s.others earlier later a0 a1 b0 b1
      ]
    ]

-- the module of a block, by its id and version
distinct_head : (x : ModulePlan) (xs : List ModulePlan) → are_distinct (x ∷ xs) ≡ true → (list_any (λ (n : ModulePlan). eqb n.id x.id) xs ≡ false) × (are_distinct xs ≡ true)
unfolding are_distinct
distinct_head x xs e =
    let p = and_parts (not (list_any (λ (n : ModulePlan). eqb n.id x.id) xs)) (are_distinct xs) e in
    (not_true (list_any (λ (n : ModulePlan). eqb n.id x.id) xs) p.0, p.1)
  where
    not_true : (b : Bool) → not b ≡ true → b ≡ false
    not_true false e = refl
    not_true true e = cc

any-false : (p : ModulePlan → Bool) (xs : List ModulePlan) (x : ModulePlan) → list_any p xs ≡ false → Contains xs x → p x ≡ false
any-false p [] x none c = absurd (contains-none x c)
any-false p (y ∷ ys) x none c = by_test (any-false p ys x) (p y) refl none (first_or_other x y ys c)
  where
    by_test : (list_any p ys ≡ false → Contains ys x → p x ≡ false) → (is : Bool) → p y ≡ is → (is || list_any p ys) ≡ false → (y ≡ x) ⊎ Contains ys x → p x ≡ false
    by_test more true is none either = cc
    by_test more false is none (inl same) = ap p (sym same) ∙ is
    by_test more false is none (inr later) = more none later

pub finds_module : (d : DdbFields) (ms : List ModulePlan) (m : ModulePlan) → are_distinct ms ≡ true → Contains ms m → is_module_of d m ≡ true → find (is_module_of d) ms ≡ Some m
finds_module d [] m distinct c is = absurd (contains-none m c)
finds_module d (x ∷ xs) m distinct c is = by_test (λ later. finds_module d xs m (distinct_head x xs distinct).1 later is) (is_module_of d x) refl (first_or_other m x xs c)
  where
    parts : (list_any (λ (n : ModulePlan). eqb n.id x.id) xs ≡ false) × (are_distinct xs ≡ true)
    parts = distinct_head x xs distinct

    own : (y : ModulePlan) → is_module_of d y ≡ true → y.id ≡ d.module_id
    own y e = eqb-true y.id d.module_id (and_parts (eqb y.id d.module_id) (eqb y.version d.version) e).0

    by_test : (Contains xs m → find (is_module_of d) xs ≡ Some m) → (passes : Bool) → is_module_of d x ≡ passes → (x ≡ m) ⊎ Contains xs m → cond passes (Some x) (find (is_module_of d) xs) ≡ Some m
    by_test more true e (inl same) = ap (λ (y : ModulePlan). some_module y) same
    by_test more true e (inr later) =
        let apart : eqb m.id x.id ≡ false = any-false (λ (n : ModulePlan). eqb n.id x.id) xs m parts.0 later in
        let same : eqb m.id x.id ≡ true = eq-eqb m.id x.id (own m is ∙ sym (own x e)) in
        cc
    by_test more false e (inl same) = let passes : is_module_of d x ≡ true = ap (is_module_of d) same ∙ is in cc
    by_test more false e (inr later) = more later

-- ---- what a section brings for a block of a module

abbrev pub if_long : ℕ → List ℕ → Option (List ℕ)
if_long len bytes = cond (eqb (length bytes) len) (Some bytes) None

module _ (plan : GroupPlan) (m : ModulePlan) (k : ℕ) (among : Contains plan.modules.items m) (below : k < m.blocks) where
  abbrev pub len : ℕ
  len = block_length plan.block_size m.size k

  abbrev pub key : BlockKey
  key = key_at plan.download m k

  -- a block with the key
  with_key : (section : List ℕ) (d : DdbFields) → ddb.of section ≡ Some d → key ≡ key_of d → brings plan (m.first + k) section ≡ if_long len d.bytes
  unfolding brings place_of
  with_key section d is same =
      let download : d.download ≡ plan.download = sym (ap (λ (x : BlockKey). x.download) same) in
      let id : m.id ≡ d.module_id = ap (λ (x : BlockKey). x.module_id) same in
      let version : m.version ≡ d.version = ap (λ (x : BlockKey). x.version) same in
      let block : k ≡ d.block = ap (λ (x : BlockKey). x.block) same in
      let passes : is_module_of d m ≡ true = rw (eq-eqb m.id d.module_id id, eq-eqb m.version d.version version) refl in
      let found = finds_module d plan.modules.items m plan.planned.distinct among passes in
      let there : ltb d.block m.blocks ≡ true = lt-ltb d.block m.blocks (omega arith) in
      rw (is, eq-eqb d.download plan.download download, found, there) (by_len d block (eqb (length d.bytes) (block_length plan.block_size m.size d.block)) refl)
    where
      by_len : (d : DdbFields) → k ≡ d.block → (fits : Bool) → eqb (length d.bytes) (block_length plan.block_size m.size d.block) ≡ fits
          → option_and_then (λ (p : Place). cond (eqb p.number (m.first + k)) (Some d.bytes) None) (cond fits (Some (place_in plan.block_size m d.block)) None) ≡ if_long len d.bytes
      by_len d block true e =
          let own : eqb (m.first + d.block) (m.first + k) ≡ true = eq-eqb (m.first + d.block) (m.first + k) (omega arith) in
          let long : eqb (length d.bytes) len ≡ true = ap (λ (j : ℕ). eqb (length d.bytes) (block_length plan.block_size m.size j)) block ∙ e in
          rw (own, long) refl
      by_len d block false e =
          let long : eqb (length d.bytes) len ≡ false = ap (λ (j : ℕ). eqb (length d.bytes) (block_length plan.block_size m.size j)) block ∙ e in
          rw long refl

  -- what fills the place has its key
  filler_key : (d : DdbFields) (p : Place) → place_of plan d ≡ Some p → p.number ≡ m.first + k → key ≡ key_of d
  unfolding place_of
  filler_key d p e number = by_download (eqb d.download plan.download) refl e
    where
      by_download : (same : Bool) → eqb d.download plan.download ≡ same
          → cond same (option_and_then (block_place plan.block_size d) (find (is_module_of d) plan.modules.items)) None ≡ Some p → key ≡ key_of d
      by_download false same e = cc
      by_download true same e = by_module (find (is_module_of d) plan.modules.items) refl e
        where
          by_module : (o : Option ModulePlan) → find (is_module_of d) plan.modules.items ≡ o → option_and_then (block_place plan.block_size d) o ≡ Some p → key ≡ key_of d
          by_module None found e = cc
          by_module (Some n) found e = by_block (has_block plan.block_size d n) refl e
            where
              by_block : (has : Bool) → has_block plan.block_size d n ≡ has → cond has (Some (place_in plan.block_size n d.block)) None ≡ Some p → key ≡ key_of d
              by_block false has e = cc
              by_block true has e =
                  let is : place_in plan.block_size n d.block ≡ p = cc in
                  let at : n.first + d.block ≡ m.first + k = ap (λ (q : Place). q.number) is ∙ number in
                  let lt : d.block < n.blocks = ltb-true d.block n.blocks (and_parts (ltb d.block n.blocks) (eqb (length d.bytes) (block_length plan.block_size n.size d.block)) has).0 in
                  let own = found_in (is_module_of d) plan.modules.items n found in
                  let one : m ≡ n = one_module plan.block_size 0 0 plan.modules.items m n (m.first + k) plan.planned.joined among own.0 (omega arith) (omega arith) (omega arith) (omega arith) in
                  let ids = and_parts (eqb n.id d.module_id) (eqb n.version d.version) own.1 in
                  let download : plan.download ≡ d.download = sym (eqb-true d.download plan.download same) in
                  let id : m.id ≡ d.module_id = ap (λ (x : ModulePlan). x.id) one ∙ eqb-true n.id d.module_id ids.0 in
                  let version : m.version ≡ d.version = ap (λ (x : ModulePlan). x.version) one ∙ eqb-true n.version d.version ids.1 in
                  let first_is : m.first ≡ n.first = ap (λ (x : ModulePlan). x.first) one in
                  let block : k ≡ d.block = omega arith in
                  (λ i. record { download = download i; module_id = id i; version = version i; block = block i })

  -- and any other brings nothing
  without_key : (section : List ℕ) (d : DdbFields) → ddb.of section ≡ Some d → (key ≡ key_of d → ⊥) → brings plan (m.first + k) section ≡ None
  without_key section d is apart = by_place (place_of plan d) refl
    where
      by_place : (o : Option Place) → place_of plan d ≡ o → brings plan (m.first + k) section ≡ None
      by_place None e = brings_no_place plan (m.first + k) section d is e
      by_place (Some p) e = brings_place plan (m.first + k) section d p is e ∙ by_number (eqb p.number (m.first + k)) refl
        where
          by_number : (same : Bool) → eqb p.number (m.first + k) ≡ same → cond same (Some d.bytes) None ≡ None
          by_number false n = refl
          by_number true n = absurd (apart (filler_key d p e (eqb-true p.number (m.first + k) n)))

  -- So a section brings for the place the bytes of the block with its key, if they have its length.
  pub brings_by_key : (section : List ℕ) → brings plan (m.first + k) section ≡ option_and_then (if_long len) (block_with key section)
  brings_by_key section = by_section (ddb.of section) refl
    where
      by_section : (o : Option DdbFields) → ddb.of section ≡ o → brings plan (m.first + k) section ≡ option_and_then (if_long len) (block_with key section)
      by_section None e = brings_no_block plan (m.first + k) section e ∙ sym (ap (option_and_then (if_long len)) (says_no_block key section e))
      by_section (Some d) e = by_key (same_key key (key_of d)) refl ∙ sym (ap (option_and_then (if_long len)) (says_block key section d e))
        where
          by_key : (same : Bool) → same_key key (key_of d) ≡ same → brings plan (m.first + k) section ≡ option_and_then (if_long len) (cond same (Some d.bytes) None)
          by_key true s = with_key section d e (same_keys key (key_of d) s)
          by_key false s = without_key section d e (λ is. let yes_is : same_key key (key_of d) ≡ true = ap (λ (x : BlockKey). same_key key x) (sym is) ∙ same_key-refl key in cc)

-- ---- the module and the block of a place

pub record IsBlock (modules : List ModulePlan) (n : ℕ) : Type 0 where
  pub module_plan : ModulePlan
  pub block : ℕ
  pub among : Contains modules module_plan
  pub below : block < module_plan.blocks
  pub is : n ≡ module_plan.first + block

difference : (a b : ℕ) → a ≤ b → (r : ℕ) × (b ≡ a + r)
difference a b le = (b - a, omega arith)

pub block_at_place : (b at first : ℕ) (ms : List ModulePlan) (n : ℕ) → are_joined b at first ms ≡ true → first ≤ n → n < first + sum_by block_count ms → IsBlock ms n
block_at_place b at first [] n joined low high = absurd (omega arith)
block_at_place b at first (m ∷ ms) n joined low high =
    let s = begin_joined b at first m ms joined in
    by_test (λ low joined high. block_at_place b (at + m.size) (first + m.blocks) ms n joined low high) (ltb n (first + m.blocks)) refl s.before s.blocks s.others
  where
    by_test : ((first + m.blocks ≤ n) → are_joined b (at + m.size) (first + m.blocks) ms ≡ true → n < first + m.blocks + sum_by block_count ms → IsBlock ms n)
        → (is : Bool) → ltb n (first + m.blocks) ≡ is → m.first ≡ first → sum_by block_count (m ∷ ms) ≡ m.blocks + sum_by block_count ms
        → are_joined b (at + m.size) (first + m.blocks) ms ≡ true → IsBlock (m ∷ ms) n
    by_test more true e before blocks others =
        let lt = ltb-true n (first + m.blocks) e in
        let r = difference first n low in
        let is : n ≡ first + r.0 = r.1 in
        record { module_plan = m; block = r.0; among = contains-here m ms; below = omega arith; is = omega arith }
    by_test more false e before blocks others =
        let past = ltb-false n (first + m.blocks) e in
        let l = more past others (omega arith) in
        record { module_plan = l.module_plan; block = l.block; among = contains-later l.module_plan m ms l.among; below = l.below; is = l.is }
