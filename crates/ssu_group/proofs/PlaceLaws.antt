-- Where the places of a plan lie.
use Rattle.std.proofs.Common.{◌≡◌, ℕ, ◌+◌, ◌-◌, ◌*◌, ◌^◌, ◌<◌, ◌≤◌, min, Bool, true, false, ◌&&◌, cond, eqb, ltb, List, [], ◌∷◌, length, Option, Some, None, ◌⊎◌, inl, inr, refl, sym, ap, subst, ◌∙◌, arith}
use Rattle.std.specs.Prelude.{sum_by, IsSome, IfSome}
use Rattle.std.specs.List.{find}
use Rattle.std.specs.Int.{div_ceil}
use Rattle.std.proofs.lemmas.Bool.{eqb-true, lt-ltb, le-ltb, ltb-true, ltb-false, and_parts}
use Rattle.std.proofs.lemmas.List.Sums.{sum_by-cons}
use Rattle.std.proofs.lemmas.Grind.{div_ceil_times}
use Rattle.std.proofs.Math.Nat.{mul-le-mul_right}
use Rattle.ssu_group.specs.declared.module_plan.ModulePlan.{ModulePlan}
use Rattle.ssu_group.specs.declared.places.Place.{Place}
use Rattle.ssu_group.specs.Plan.{size_of, block_count, are_joined, IsPlan}
use Rattle.dsmcc_msg.specs.Block.{DdbFields}
use Rattle.ssu_group.specs.Place.{block_length, place_in, place_at, FillImage, is_module_of, has_block, block_place}

-- ---- blocks of one module

-- a block begins inside its module
pub block_begins : (b size k : ℕ) → 0 < b → k < div_ceil size b → k * b < size
block_begins b size k some below =
    let few : (div_ceil size b) * b < size + b = (div_ceil_times size b some).1 in
    let next : (k + 1) * b ≤ (div_ceil size b) * b = mul-le-mul_right b (omega arith) in
    omega (arith, few, next)

-- the blocks reach to the module's end
pub blocks_reach : (b size : ℕ) → 0 < b → size ≤ (div_ceil size b) * b
blocks_reach b size some = (div_ceil_times size b some).0

-- ---- what joined modules say

pub record Begins (b at first : ℕ) (m : ModulePlan) (ms : List ModulePlan) : Type 0 where
  pub begins : m.at ≡ at
  pub before : m.first ≡ first
  pub count : m.blocks ≡ div_ceil m.size b
  pub others : are_joined b (at + m.size) (first + m.blocks) ms ≡ true
  pub bytes : sum_by size_of (m ∷ ms) ≡ m.size + sum_by size_of ms
  pub blocks : sum_by block_count (m ∷ ms) ≡ m.blocks + sum_by block_count ms

pub begin_joined : (b at first : ℕ) (m : ModulePlan) (ms : List ModulePlan) → are_joined b at first (m ∷ ms) ≡ true → Begins b at first m ms
unfolding are_joined
begin_joined b at first m ms joined =
    let a = and_parts (eqb m.at at && eqb m.first first && eqb m.blocks (div_ceil m.size b)) (are_joined b (at + m.size) (first + m.blocks) ms) joined in
    let c = and_parts (eqb m.at at && eqb m.first first) (eqb m.blocks (div_ceil m.size b)) a.0 in
    let d = and_parts (eqb m.at at) (eqb m.first first) c.0 in
    record {
      begins = eqb-true m.at at d.0;
      before = eqb-true m.first first d.1;
      count = eqb-true m.blocks (div_ceil m.size b) c.1;
      others = a.1;
      bytes = sum_by-cons size_of m ms;
      blocks = sum_by-cons block_count m ms;
    }

-- A module of the plan lies inside it.
pub record Inside (b at first bytes blocks : ℕ) (m : ModulePlan) : Type 0 where
  pub count : m.blocks ≡ div_ceil m.size b
  pub begins : at ≤ m.at
  pub ends : m.at + m.size ≤ at + bytes
  pub first_in : first ≤ m.first
  pub last : m.first + m.blocks ≤ first + blocks

pub found_inside : (b at first : ℕ) (p : ModulePlan → Bool) (ms : List ModulePlan) (m : ModulePlan) → are_joined b at first ms ≡ true → find p ms ≡ Some m →
    Inside b at first (sum_by size_of ms) (sum_by block_count ms) m
found_inside b at first p [] m joined found = absurd cc
found_inside b at first p (n ∷ ms) m joined found = here (p n) (begin_joined b at first n ms joined) found (found_inside b (at + n.size) (first + n.blocks) p ms m)
  where
    here : (is : Bool) → Begins b at first n ms → cond is (Some n) (find p ms) ≡ Some m →
        (are_joined b (at + n.size) (first + n.blocks) ms ≡ true → find p ms ≡ Some m → Inside b (at + n.size) (first + n.blocks) (sum_by size_of ms) (sum_by block_count ms) m) →
        Inside b at first (sum_by size_of (n ∷ ms)) (sum_by block_count (n ∷ ms)) m
    here true s e more =
        let is : n ≡ m = cc in
        let bytes = s.bytes in let blocks = s.blocks in let begins = s.begins in let before = s.before in
        subst (λ (x : ModulePlan). Inside b at first (sum_by size_of (n ∷ ms)) (sum_by block_count (n ∷ ms)) x) is
        (record { count = s.count; begins = omega arith; ends = omega arith; first_in = omega arith; last = omega arith })
    here false s e more =
        let i = more s.others e in
        let bytes = s.bytes in let blocks = s.blocks in let begins = i.begins in let ends = i.ends in let first_in = i.first_in in let last = i.last in
        record { count = i.count; begins = omega arith; ends = omega arith; first_in = omega arith; last = omega arith }

-- ---- the places, one behind the other

-- of the places of modules that are joined from there on
pub record Lie (b at first : ℕ) (ms : List ModulePlan) : Type 0 where
  pub there : (n : ℕ) → first ≤ n → n < first + sum_by block_count ms → IsSome (place_at b ms n)
  pub no_more : (n : ℕ) → first + sum_by block_count ms ≤ n → place_at b ms n ≡ None
  pub numbered : (n : ℕ) (p : Place) → first ≤ n → place_at b ms n ≡ Some p → p.number ≡ n
  pub not_empty : (n : ℕ) (p : Place) → first ≤ n → place_at b ms n ≡ Some p → (0 < p.len) × (p.len ≤ b)
  pub begins : (p : Place) → place_at b ms first ≡ Some p → p.at ≡ at
  pub goes_on : (n : ℕ) (p next : Place) → first ≤ n → place_at b ms n ≡ Some p → place_at b ms (n + 1) ≡ Some next → next.at ≡ p.at + p.len
  pub ends : (n : ℕ) (p : Place) → first ≤ n → place_at b ms n ≡ Some p → n + 1 ≡ first + sum_by block_count ms → p.at + p.len ≡ at + sum_by size_of ms

-- ---- the two cases of a number: a block of the first module, or of the others

abbrev some_place : Place → Option Place
some_place p = Some p

-- a block of the first module
own_place : (b : ℕ) (m : ModulePlan) (ms : List ModulePlan) (n : ℕ) → n < m.first + m.blocks → place_at b (m ∷ ms) n ≡ Some (place_in b m (n - m.first))
unfolding place_at
own_place b m ms n below = rw (lt-ltb n (m.first + m.blocks) below) refl

-- a block of the others
other_place : (b : ℕ) (m : ModulePlan) (ms : List ModulePlan) (n : ℕ) → m.first + m.blocks ≤ n → place_at b (m ∷ ms) n ≡ place_at b ms n
unfolding place_at
other_place b m ms n past = rw (le-ltb n (m.first + m.blocks) past) refl

same_place : (p q : Place) → Some p ≡ Some q → p ≡ q
same_place p q e = cc

-- a block that is not the last is followed by the next, and the last ends its module
pub record Block (b size count k : ℕ) : Type 0 where
  pub begins : k * b < size
  pub next : k + 1 < count → min b (size - k * b) ≡ b
  pub last : k + 1 ≡ count → k * b + min b (size - k * b) ≡ size

block_of : (b size count k : ℕ) → 0 < b → count ≡ div_ceil size b → k < count → Block b size count k
block_of b size count k some is below =
    let begins : k * b < size = block_begins b size k some (omega arith) in
    let reach : size ≤ (div_ceil size b) * b = blocks_reach b size some in
    record {
      begins = begins;
      next = λ more. let after : (k + 1) * b < size = block_begins b size (k + 1) some (omega arith) in omega (arith, after);
      last = λ end. let all : size ≤ (k + 1) * b = subst (λ (c : ℕ). size ≤ c * b) (sym is ∙ sym end) reach in omega (arith, all, begins);
    }

-- no blocks have no bytes
no_bytes : (b at first : ℕ) (ms : List ModulePlan) → 0 < b → are_joined b at first ms ≡ true → sum_by block_count ms ≡ 0 → sum_by size_of ms ≡ 0
no_bytes b at first [] some joined none = refl
no_bytes b at first (m ∷ ms) some joined none =
    let s = begin_joined b at first m ms joined in
    let bytes = s.bytes in
    let blocks = s.blocks in
    let count : m.blocks ≡ 0 = omega arith in
    let reach : m.size ≤ (div_ceil m.size b) * b = blocks_reach b m.size some in
    let zero : div_ceil m.size b ≡ 0 = sym s.count ∙ count in
    let empty : m.size ≤ 0 * b = subst (λ (c : ℕ). m.size ≤ c * b) zero reach in
    let others = no_bytes b (at + m.size) (first + m.blocks) ms some s.others (omega arith) in
    omega (arith, empty)

-- what a place of a module says
record Own (b : ℕ) (m : ModulePlan) (k : ℕ) (p : Place) : Type 0 where
  number : p.number ≡ m.first + k
  begins : p.at ≡ m.at + k * b
  some : 0 < p.len
  few : p.len ≤ b
  next : k + 1 < m.blocks → p.at + p.len ≡ m.at + (k + 1) * b
  last : k + 1 ≡ m.blocks → p.at + p.len ≡ m.at + m.size

own_says : (b : ℕ) (m : ModulePlan) (k : ℕ) (p : Place) → 0 < b → m.blocks ≡ div_ceil m.size b → k < m.blocks → place_in b m k ≡ p → Own b m k p
own_says b m k p some is below e =
    let block = block_of b m.size m.blocks k some is below in
    let begins : k * b < m.size = block.begins in
    subst (λ (x : Place). Own b m k x) e (record {
      number = refl;
      begins = refl;
      some = omega (arith, begins);
      few = omega arith;
      next = λ more. let full : min b (m.size - k * b) ≡ b = block.next more in omega (arith, full);
      last = λ end. let all : k * b + min b (m.size - k * b) ≡ m.size = block.last end in omega (arith, all);
    })

own_of : (b : ℕ) (m : ModulePlan) (ms : List ModulePlan) (n : ℕ) (p : Place) → 0 < b → m.blocks ≡ div_ceil m.size b → m.first ≤ n → n < m.first + m.blocks →
    place_at b (m ∷ ms) n ≡ Some p → Own b m (n - m.first) p
own_of b m ms n p some is low below e =
    own_says b m (n - m.first) p some is (omega arith) (same_place (place_in b m (n - m.first)) p (sym (own_place b m ms n below) ∙ e))

lt_or_le : (a b : ℕ) → (a < b) ⊎ (b ≤ a)
lt_or_le a b = by_test (ltb a b) refl
  where
    by_test : (is : Bool) → ltb a b ≡ is → (a < b) ⊎ (b ≤ a)
    by_test true e = inl (ltb-true a b e)
    by_test false e = inr (ltb-false a b e)

lie_none : (b at first : ℕ) → Lie b at first []
unfolding place_at
lie_none b at first = record {
  there = λ n low high. absurd (omega arith);
  no_more = λ n past. refl;
  numbered = λ n p low e. absurd cc;
  not_empty = λ n p low e. absurd cc;
  begins = λ p e. absurd cc;
  goes_on = λ n p next low e f. absurd cc;
  ends = λ n p low e last. absurd cc;
}

lie_more : (b at first : ℕ) (m : ModulePlan) (ms : List ModulePlan) → 0 < b → Begins b at first m ms → Lie b (at + m.size) (first + m.blocks) ms →
    (sum_by block_count ms ≡ 0 → sum_by size_of ms ≡ 0) → Lie b at first (m ∷ ms)
lie_more b at first m ms some s o empty =
    let begins : m.at ≡ at = s.begins in
    let before : m.first ≡ first = s.before in
    let blocks : sum_by block_count (m ∷ ms) ≡ m.blocks + sum_by block_count ms = s.blocks in
    let bytes : sum_by size_of (m ∷ ms) ≡ m.size + sum_by size_of ms = s.bytes in
    let top = m.first + m.blocks in
    record {
      there = λ n low high. elim (lt_or_le n top) [
        | inl below ↦ rw (own_place b m ms n below) refl
        | inr past ↦ rw (other_place b m ms n past) (o.there n (omega arith) (omega arith))
      ];
      no_more = λ n past. other_place b m ms n (omega arith) ∙ o.no_more n (omega arith);
      numbered = λ n p low e. elim (lt_or_le n top) [
        | inl below ↦ let own = (own_of b m ms n p some s.count (omega arith) below e).number in omega arith
        | inr past ↦ o.numbered n p (omega arith) (sym (other_place b m ms n past) ∙ e)
      ];
      not_empty = λ n p low e. elim (lt_or_le n top) [
        | inl below ↦ let own = own_of b m ms n p some s.count (omega arith) below e in (own.some, own.few)
        | inr past ↦ o.not_empty n p (omega arith) (sym (other_place b m ms n past) ∙ e)
      ];
      begins = λ p e. elim (lt_or_le first top) [
        | inl below ↦
            let own = own_of b m ms first p some s.count (omega arith) below e in
            let none : first - m.first ≡ 0 = omega arith in
            let at_is : p.at ≡ m.at + 0 * b = subst (λ (k : ℕ). p.at ≡ m.at + k * b) none own.begins in
            omega (arith, at_is)
        | inr past ↦
            let count : m.blocks ≡ 0 = omega arith in
            let zero : div_ceil m.size b ≡ 0 = sym s.count ∙ count in
            let small : m.size ≤ 0 * b = subst (λ (c : ℕ). m.size ≤ c * b) zero (blocks_reach b m.size some) in
            let here : place_at b ms (first + m.blocks) ≡ Some p = ap (λ (n : ℕ). place_at b ms n) (let l : first + m.blocks ≡ first = omega arith in l) ∙ sym (other_place b m ms first past) ∙ e in
            let at_is : p.at ≡ at + m.size = o.begins p here in
            omega (arith, small, at_is)
      ];
      goes_on = λ n p next low e f. elim (lt_or_le n top) [
        | inl below ↦
            let own = own_of b m ms n p some s.count (omega arith) below e in
            elim (lt_or_le (n + 1) top) [
              | inl more ↦
                  let following = own_of b m ms (n + 1) next some s.count (omega arith) more f in
                  let step : (n + 1) - m.first ≡ (n - m.first) + 1 = omega arith in
                  let at_is : next.at ≡ m.at + ((n - m.first) + 1) * b = subst (λ (k : ℕ). next.at ≡ m.at + k * b) step following.begins in
                  at_is ∙ sym (own.next (omega arith))
              | inr past ↦
                  let end = own.last (omega arith) in
                  let here : place_at b ms (first + m.blocks) ≡ Some next = ap (λ (k : ℕ). place_at b ms k) (let l : first + m.blocks ≡ n + 1 = omega arith in l) ∙ sym (other_place b m ms (n + 1) past) ∙ f in
                  let at_is : next.at ≡ at + m.size = o.begins next here in
                  omega (arith, end, at_is)
            ]
        | inr past ↦ o.goes_on n p next (omega arith) (sym (other_place b m ms n past) ∙ e) (sym (other_place b m ms (n + 1) (omega arith)) ∙ f)
      ];
      ends = λ n p low e last. elim (lt_or_le n top) [
        | inl below ↦
            let own = own_of b m ms n p some s.count (omega arith) below e in
            let others : sum_by size_of ms ≡ 0 = empty (omega arith) in
            let end = own.last (omega arith) in
            omega (arith, end, others)
        | inr past ↦
            let end = o.ends n p (omega arith) (sym (other_place b m ms n past) ∙ e) (omega arith) in
            omega (arith, end)
      ];
    }

pub lie : (b at first : ℕ) (ms : List ModulePlan) → 0 < b → are_joined b at first ms ≡ true → Lie b at first ms
lie b at first [] some joined = lie_none b at first
lie b at first (m ∷ ms) some joined =
    let s = begin_joined b at first m ms joined in
    lie_more b at first m ms some s (lie b (at + m.size) (first + m.blocks) ms some s.others) (no_bytes b (at + m.size) (first + m.blocks) ms some s.others)

-- the places of a plan fill its image
pub fill_image : (block_size : ℕ) (modules : List ModulePlan) (places total : ℕ) → IsPlan block_size modules places total → FillImage block_size modules places total
fill_image block_size modules places total is =
    let l = lie block_size 0 0 modules is.least is.joined in
    let all_places : places ≡ sum_by block_count modules = is.all_places in
    let all_bytes : total ≡ sum_by size_of modules = is.all_bytes in
    record {
      there = λ n below. l.there n (omega arith) (omega arith);
      no_more = λ n past. l.no_more n (omega arith);
      numbered = λ n p e. l.numbered n p (omega arith) e;
      not_empty = λ n p e. l.not_empty n p (omega arith) e;
      begins = λ p e. l.begins p e;
      goes_on = λ n p next e f. l.goes_on n p next (omega arith) e f;
      ends = λ n p e last. let end = l.ends n p (omega arith) e (omega arith) in omega arith;
    }

-- a block of a module of the plan is a place of it
pub found_place : (b at first : ℕ) (p : ModulePlan → Bool) (ms : List ModulePlan) (m : ModulePlan) (k : ℕ) → are_joined b at first ms ≡ true → find p ms ≡ Some m → k < m.blocks →
    place_at b ms (m.first + k) ≡ Some (place_in b m k)
found_place b at first p [] m k joined found below = absurd cc
found_place b at first p (n ∷ ms) m k joined found below =
    let s = begin_joined b at first n ms joined in
    here (p n) s found (found_place b (at + n.size) (first + n.blocks) p ms m k s.others) (λ others. found_inside b (at + n.size) (first + n.blocks) p ms m s.others others)
  where
    here : (is : Bool) → Begins b at first n ms → cond is (Some n) (find p ms) ≡ Some m →
        (find p ms ≡ Some m → k < m.blocks → place_at b ms (m.first + k) ≡ Some (place_in b m k)) →
        (find p ms ≡ Some m → Inside b (at + n.size) (first + n.blocks) (sum_by size_of ms) (sum_by block_count ms) m) →
        place_at b (n ∷ ms) (m.first + k) ≡ Some (place_in b m k)
    here true s e more inside =
        let is : n ≡ m = cc in
        let count : k < n.blocks = subst (λ (x : ModulePlan). k < x.blocks) (sym is) below in
        let number : (n.first + k) - n.first ≡ k = omega arith in
        let own : place_at b (n ∷ ms) (n.first + k) ≡ Some (place_in b n k) = own_place b n ms (n.first + k) (omega arith) ∙ ap (λ (j : ℕ). some_place (place_in b n j)) number in
        subst (λ (x : ModulePlan). place_at b (n ∷ ms) (x.first + k) ≡ some_place (place_in b x k)) is own
    here false s e more inside =
        let i = inside e in
        let low = i.first_in in
        let before = s.before in
        other_place b n ms (m.first + k) (omega arith) ∙ more e below

-- ---- the block that fills a place

-- the numbers of a module of a plan do not pass 32 bits
pub record Bounded (b : ℕ) (m : ModulePlan) : Type 0 where
  pub count : m.blocks ≡ div_ceil m.size b
  pub bytes : m.at + m.size < 2 ^ 32
  pub blocks : m.first + m.blocks < 2 ^ 32

pub bounded : (b : ℕ) (modules : List ModulePlan) (places total : ℕ) (p : ModulePlan → Bool) (m : ModulePlan) → IsPlan b modules places total → find p modules ≡ Some m → Bounded b m
bounded b modules places total p m is found =
    let inside = found_inside b 0 0 p modules m is.joined found in
    let all_places = is.all_places in
    let all_bytes = is.all_bytes in
    let most_places = is.most_places in
    let most_bytes = is.most_bytes in
    let ends = inside.ends in
    let last = inside.last in
    record { count = inside.count; bytes = omega arith; blocks = omega arith }

pub block_is_place : (b : ℕ) (modules : List ModulePlan) (places total : ℕ) (d : DdbFields) (m : ModulePlan) → IsPlan b modules places total → find (is_module_of d) modules ≡ Some m →
    IfSome (block_place b d m) (λ (p : Place). place_at b modules p.number ≡ Some p)
block_is_place b modules places total d m is found = by_test (has_block b d m) refl
  where
    by_test : (has : Bool) → has_block b d m ≡ has → IfSome (cond has (Some (place_in b m d.block)) None) (λ (p : Place). place_at b modules p.number ≡ Some p)
    by_test true e = found_place b 0 0 (is_module_of d) modules m d.block is.joined found (ltb-true d.block m.blocks (and_parts (ltb d.block m.blocks) (eqb (length d.bytes) (block_length b m.size d.block)) e).0)
    by_test false e = tt
