-- The bytes of a module, and of the places that it has.
use Rattle.std.proofs.Common.{◌≡◌, ℕ, zero, suc, ◌+◌, ◌-◌, ◌*◌, ◌<◌, ◌≤◌, min, true, ◌⊎◌, inl, inr, List, [], ◌∷◌, ◌++◌, length, get_or, take, drop, Option, None, Some, refl, sym, ap, subst, ◌∙◌, arith, rules, length-append}
use Rattle.std.specs.Prelude.{Contains, IsSome, is_some, sum_by, unwrap_or}
use Rattle.std.specs.Int.{div_ceil}
use Rattle.std.proofs.lemmas.Bool.{cases_lt, lt-ltb, le-ltb}
use Rattle.std.proofs.lemmas.List.{same_lists, places as list_places}
use Rattle.ssu_group.specs.declared.module_plan.ModulePlan.{ModulePlan}
use Rattle.ssu_group.specs.declared.places.Place.{Place}
use Rattle.ssu_group.specs.declared.group_plan.GroupPlan.{GroupPlan}
use Rattle.ssu_group.specs.Carried.{Fills, HaveLengths, carried_image, joined, missing_places, module_bytes}
use Rattle.ssu_group.specs.Place.{FillImage, place_at, place_in}
use Rattle.ssu_group.specs.Plan.{IsPlan, are_joined, block_count, size_of}
use Rattle.ssu_group.proofs.MapLaws.{all_marked}
use Rattle.ssu_group.proofs.PlaceLaws.{Begins, Inside, begin_joined, blocks_reach, block_begins, fill_image}
use Rattle.group_image.specs.Image.{bytes_of}
use Rattle.group_image.proofs.ImageLaws.{place_below}
use Rattle.flash_stage.specs.Outline.{module_text, outline_of}

-- ---- a module of a plan

-- a module lies inside the plan, and has its places there
pub record Lies (b at first : ℕ) (ms : List ModulePlan) (m : ModulePlan) : Type 0 where
  pub inside : Inside b at first (sum_by size_of ms) (sum_by block_count ms) m
  pub places : (k : ℕ) → k < m.blocks → place_at b ms (m.first + k) ≡ Some (place_in b m k)

abbrev some_place : Place → Option Place
some_place p = Some p

lies_here : (b at first : ℕ) (m : ModulePlan) (ms : List ModulePlan) → Begins b at first m ms → Lies b at first (m ∷ ms) m
unfolding place_at
lies_here b at first m ms s =
    let bytes = s.bytes in
    let blocks = s.blocks in
    let begins = s.begins in
    let before = s.before in
    record {
      inside = record { count = s.count; begins = omega arith; ends = omega arith; first_in = omega arith; last = omega arith };
      places = λ k below. rw (lt-ltb (m.first + k) (m.first + m.blocks) (omega arith)) (ap (λ (j : ℕ). some_place (place_in b m j)) (let number : (m.first + k) - m.first ≡ k = omega arith in number));
    }

lies_behind : (b at first : ℕ) (n : ModulePlan) (ms : List ModulePlan) (m : ModulePlan) → Begins b at first n ms → Lies b (at + n.size) (first + n.blocks) ms m → Lies b at first (n ∷ ms) m
unfolding place_at
lies_behind b at first n ms m s l =
    let bytes = s.bytes in
    let blocks = s.blocks in
    let before = s.before in
    let begins = l.inside.begins in
    let ends = l.inside.ends in
    let first_in = l.inside.first_in in
    let last = l.inside.last in
    record {
      inside = record { count = l.inside.count; begins = omega arith; ends = omega arith; first_in = omega arith; last = omega arith };
      places = λ k below. rw (le-ltb (m.first + k) (n.first + n.blocks) (omega arith)) (l.places k below);
    }

pub lies : (b at first : ℕ) (ms : List ModulePlan) (m : ModulePlan) → are_joined b at first ms ≡ true → Contains ms m → Lies b at first ms m
lies b at first [] m are c = absurd (let no : c.0 < 0 = c.1 in omega arith)
lies b at first (n ∷ ms) m are c =
    let s = begin_joined b at first n ms are in
    by_index s (λ others. lies b (at + n.size) (first + n.blocks) ms m s.others others) c.0 c.1 c.2
  where
    by_index : Begins b at first n ms → (Contains ms m → Lies b (at + n.size) (first + n.blocks) ms m) → (i : ℕ) → i < length (n ∷ ms) → get_or (n ∷ ms) i m ≡ m → Lies b at first (n ∷ ms) m
    by_index s more zero lt is = subst (λ (x : ModulePlan). Lies b at first (n ∷ ms) x) is (lies_here b at first n ms s)
    by_index s more (suc i) lt is = lies_behind b at first n ms m s (more (i, omega arith, is))

-- it ends inside the image
pub module_inside : (b : ℕ) (ms : List ModulePlan) (places total : ℕ) (m : ModulePlan) → IsPlan b ms places total → Contains ms m → m.at + m.size ≤ total
module_inside b ms places total m is among =
    let l = lies b 0 0 ms m is.joined among in
    let ends = l.inside.ends in
    let all_bytes = is.all_bytes in
    omega arith

-- and its places are below their number
pub module_below : (b : ℕ) (ms : List ModulePlan) (places total : ℕ) (m : ModulePlan) (k : ℕ) → IsPlan b ms places total → Contains ms m → k < m.blocks → m.first + k < places
module_below b ms places total m k is among below =
    let l = lies b 0 0 ms m is.joined among in
    let last = l.inside.last in
    let all_places = is.all_places in
    omega arith

-- ---- its bytes

pub take-add : (a n : ℕ) (xs : List ℕ) → take a xs ++ take n (drop a xs) ≡ take (a + n) xs
take-add a n xs = same_lists _ _ (search (rules, list_places)) (λ k d h. grind (arith, list_places))

pub take-drop-add : (a k n : ℕ) (xs : List ℕ) → take n (drop (a + k) xs) ≡ take n (drop k (drop a xs))
take-drop-add a k n xs = same_lists _ _ (search (rules, list_places)) (λ i d h. grind (arith, list_places))

pub take-drop-take : (a n total : ℕ) (xs : List ℕ) → a + n ≤ total → take n (drop a (take total xs)) ≡ take n (drop a xs)
take-drop-take a n total xs inside = same_lists _ _ (search (rules, list_places)) (λ i d h. grind (arith, list_places))

module _ (b : ℕ) (m : ModulePlan) (buffer : List ℕ) (text : ℕ → List ℕ) (some : 0 < b) (count : m.blocks ≡ div_ceil m.size b)
    (reads : (k : ℕ) → k < m.blocks → bytes_of buffer (Some (place_in b m k)) ≡ text (m.first + k)) where
  text_before : (c : ℕ) → c ≤ m.blocks → joined (λ (k : ℕ). text (m.first + k)) c ≡ take (min (c * b) m.size) (drop m.at buffer)
  unfolding joined
  text_before zero le = ap (λ (n : ℕ). take n (drop m.at buffer)) (let none : 0 ≡ min (0 * b) m.size = omega arith in none)
  text_before (suc c) le =
      let begins : c * b < m.size = block_begins b m.size c some (omega (arith, count)) in
      let full : min (c * b) m.size ≡ c * b = omega (arith, begins) in
      let next : (suc c) * b ≡ c * b + b = omega arith in
      let end : c * b + min b (m.size - c * b) ≡ min ((suc c) * b) m.size = omega (arith, begins, next) in
      let front = text_before c (omega arith) ∙ ap (λ (n : ℕ). take n (drop m.at buffer)) full in
      let own : take (min b (m.size - c * b)) (drop (c * b) (drop m.at buffer)) ≡ text (m.first + c) =
      sym (take-drop-add m.at (c * b) (min b (m.size - c * b)) buffer) ∙ reads c (omega arith) in
      ap (λ (xs : List ℕ). xs ++ text (m.first + c)) front
      ∙ ap (λ (xs : List ℕ). take (c * b) (drop m.at buffer) ++ xs) (sym own)
      ∙ take-add (c * b) (min b (m.size - c * b)) (drop m.at buffer)
      ∙ ap (λ (n : ℕ). take n (drop m.at buffer)) end

  -- the bytes of a module are those of its places
  pub text_of_module : module_text text m ≡ take m.size (drop m.at buffer)
  text_of_module =
      let reach : m.size ≤ m.blocks * b = subst (λ (c : ℕ). m.size ≤ c * b) (sym count) (blocks_reach b m.size some) in
      let all : min (m.blocks * b) m.size ≡ m.size = omega (arith, reach) in
      text_before m.blocks (omega arith) ∙ ap (λ (n : ℕ). take n (drop m.at buffer)) all

-- ---- texts of any places

-- the same texts join to the same
pub joined_same : (f g : ℕ → List ℕ) (n : ℕ) → ((k : ℕ) → k < n → f k ≡ g k) → joined f n ≡ joined g n
unfolding joined
joined_same f g zero same = refl
joined_same f g (suc n) same =
    ap (λ (xs : List ℕ). xs ++ f n) (joined_same f g n (λ k lt. same k (omega arith))) ∙ ap (λ (xs : List ℕ). joined g n ++ xs) (same n (omega arith))

cut_last : (xs ys : List ℕ) (at n : ℕ) → length xs ≡ at → length ys ≡ n → take n (drop at (xs ++ ys)) ≡ ys
cut_last xs ys at n long_x long_y = same_lists _ _ (search (rules, list_places)) (λ k d h. grind (arith, list_places))

cut_front : (xs ys : List ℕ) (at n : ℕ) → at + n ≤ length xs → take n (drop at (xs ++ ys)) ≡ take n (drop at xs)
cut_front xs ys at n inside = same_lists _ _ (search (rules, list_places)) (λ k d h. grind (arith, list_places))

value_of : (o : Option Place) → IsSome o → (p : Place) × (o ≡ Some p)
value_of None is = absurd cc
value_of (Some p) is = (p, refl)

-- texts have the lengths of the places
abbrev pub Measures : GroupPlan → (ℕ → List ℕ) → Type 0
Measures plan text = (n : ℕ) (p : Place) → place_at plan.block_size plan.modules.items n ≡ Some p → length (text n) ≡ p.len

module _ (plan : GroupPlan) (text : ℕ → List ℕ) (measures : Measures plan text) where
  filled : FillImage plan.block_size plan.modules.items plan.places plan.total
  filled = fill_image plan.block_size plan.modules.items plan.places plan.total plan.planned

  -- the texts before a place end where it begins
  joined_at : (n : ℕ) (p : Place) → place_at plan.block_size plan.modules.items n ≡ Some p → length (joined text n) ≡ p.at
  unfolding joined
  joined_at zero p e = sym (filled.begins p e)
  joined_at (suc n) p e =
      let below = place_below plan (suc n) p e in
      let before = value_of (place_at plan.block_size plan.modules.items n) (filled.there n (omega (arith, below))) in
      let number : suc n ≡ n + 1 = omega arith in
      let step : p.at ≡ before.0.at + before.0.len = filled.goes_on n before.0 p before.1 (subst (λ (i : ℕ). place_at plan.block_size plan.modules.items i ≡ Some p) number e) in
      let front = joined_at n before.0 before.1 in
      let own = measures n before.0 before.1 in
      omega (arith, length-append (joined text n) (text n), step, front, own)

  -- each text stands at its place
  reads_at : (c n : ℕ) (p : Place) → n < c → place_at plan.block_size plan.modules.items n ≡ Some p → (p.at + p.len ≤ length (joined text c)) × (take p.len (drop p.at (joined text c)) ≡ text n)
  unfolding joined
  reads_at zero n p lt e = absurd (omega arith)
  reads_at (suc c) n p lt e = by_place (λ before. reads_at c n p before e) (cases_lt n c)
    where
      by_place : (n < c → (p.at + p.len ≤ length (joined text c)) × (take p.len (drop p.at (joined text c)) ≡ text n)) → (n < c) ⊎ (c ≤ n) → (p.at + p.len ≤ length (joined text c ++ text c)) × (take p.len (drop p.at (joined text c ++ text c)) ≡ text n)
      by_place earlier (inl before) =
          let front = earlier before in
          (omega (arith, front.0, length-append (joined text c) (text c)), cut_front (joined text c) (text c) p.at p.len front.0 ∙ front.1)
      by_place earlier (inr behind) =
          let last : n ≡ c = omega arith in
          let here : place_at plan.block_size plan.modules.items c ≡ Some p = subst (λ (i : ℕ). place_at plan.block_size plan.modules.items i ≡ Some p) last e in
          let begins = joined_at c p here in
          let own = measures c p here in
          (omega (arith, length-append (joined text c) (text c), begins, own), cut_last (joined text c) (text c) p.at p.len begins own ∙ ap text (sym last))

  -- so the bytes of a module are the texts of its places
  pub module_of_texts : (m : ModulePlan) → Contains plan.modules.items m → module_bytes (joined text plan.places) m ≡ module_text text m
  module_of_texts m among =
      let b = plan.block_size in
      let l = lies b 0 0 plan.modules.items m plan.planned.joined among in
      let least = plan.planned.least in
      sym (text_of_module b m (joined text plan.places) text (omega arith) l.inside.count
      (λ k below. (reads_at plan.places (m.first + k) (place_in b m k) (module_below b plan.modules.items plan.places plan.total m k plan.planned among below) (l.places k below)).1))

-- the bytes of a module in the image that is carried whole
pub carried_module : (plan : GroupPlan) (fills : Fills) (m : ModulePlan) → HaveLengths plan fills → missing_places plan fills ≡ 0 → Contains plan.modules.items m
    → module_bytes (carried_image plan fills) m ≡ module_text (λ (n : ℕ). unwrap_or (fills n) []) m
carried_module plan fills m lengths whole among = module_of_texts plan (λ (n : ℕ). unwrap_or (fills n) []) (λ n p at. long n p at (fills n) refl) m among
  where
    long : (n : ℕ) (p : Place) → place_at plan.block_size plan.modules.items n ≡ Some p → (o : Option (List ℕ)) → fills n ≡ o → length (unwrap_or o []) ≡ p.len
    long n p at None none =
        let is : is_some (fills n) ≡ true = all_marked (λ (k : ℕ). is_some (fills k)) plan.places whole n (place_below plan n p at) in
        absurd cc
    long n p at (Some b) some = lengths n p b at some

-- plans of the same modules have one outline
pub one_outline : (p q : GroupPlan) → p.block_size ≡ q.block_size → p.modules.items ≡ q.modules.items → outline_of p ≡ outline_of q
one_outline p q block_size modules =
    let places : p.places ≡ q.places = p.planned.all_places ∙ (ap (sum_by block_count) modules ∙ sym q.planned.all_places) in
    let total : p.total ≡ q.total = p.planned.all_bytes ∙ (ap (sum_by size_of) modules ∙ sym q.planned.all_bytes) in
    (λ i. record { block_size = block_size i; modules = modules i; places = places i; total = total i })
