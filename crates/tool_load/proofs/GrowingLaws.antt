-- What a block that is laid into the image leaves of its bytes, and of the CRCs of its parts.
use Rattle.std.proofs.Common.{◌≡◌, ◌≢◌, ℕ, zero, suc, ◌+◌, ◌-◌, ◌<◌, ◌≤◌, Bool, true, false, ◌||◌, eqb, ltb, List, [], ◌∷◌, ◌++◌, length, take, drop, get_or, replicate, Option, Some, None, ◌⊎◌, inl, inr, refl, sym, ap, subst, ◌∙◌, arith, rules}
use Rattle.std.specs.Prelude.{All, IsSome}
use Rattle.std.proofs.lemmas.Bool.{eqb-true, eq-eqb, ltb-true, ltb-false}
use Rattle.std.proofs.lemmas.List.{same_lists, drop-drop, places as list_places}
use Rattle.std.proofs.lemmas.List.Elements.{All-nil, All-cons, All-head, All-tail, All-same, All-push}
use Rattle.ts_crc.specs.Crc.{start, after_bytes, crc_of}
use Rattle.ts_crc.proofs.CrcLaws.{crc_none, crc_is, crc_join}
use Rattle.ssu_group.specs.declared.places.Place.{Place}
use Rattle.ssu_group.specs.declared.module_plan.ModulePlan.{ModulePlan}
use Rattle.ssu_group.specs.declared.group_plan.GroupPlan.{GroupPlan}
use Rattle.ssu_group.specs.Place.{place_at, IsPlace}
use Rattle.ssu_group.specs.Carried.{module_bytes}
use Rattle.ssu_group.proofs.PlaceLaws.{fill_image}
use Rattle.ssu_group.proofs.MapLaws.{all_marked}
use Rattle.group_image.specs.Image.{Collected, is_there, missing_in, image_of, bytes_of, bytes_at, IsFor, IsEmpty}
use Rattle.group_image.proofs.ImageLaws.{place_below, places_apart, some_place}
use Rattle.tool_load.specs.declared.sums.Sum.{Sum}
use Rattle.tool_load.specs.Growing.{laid, Reaches, Fills, IsSum, IsCrcIn, IsLonger}

-- ---- bytes that are laid

-- at the end of what is there
pub laid_at_end : (buffer bytes : List ℕ) (at : ℕ) → at ≡ length buffer → buffer ++ bytes ≡ laid buffer at bytes
laid_at_end buffer bytes at e = same_lists _ _ (search (rules, list_places)) (λ k d h. grind (arith, list_places))

-- written over what is filled up
pub laid_written : (buffer bytes : List ℕ) (at : ℕ)
    → take at (buffer ++ replicate (at + length bytes - length buffer) 0) ++ bytes ++ drop (at + length bytes) (buffer ++ replicate (at + length bytes - length buffer) 0)
    ≡ laid buffer at bytes
laid_written buffer bytes at = same_lists _ _ (search (rules, list_places)) (λ k d h. grind (arith, list_places))

laid_reaches : (buffer bytes : List ℕ) (at : ℕ) → at + length bytes ≤ length (laid buffer at bytes)
laid_reaches buffer bytes at = search (rules, list_places)

pub laid_keeps : (buffer bytes : List ℕ) (at : ℕ) → length buffer ≤ length (laid buffer at bytes)
laid_keeps buffer bytes at = search (rules, list_places)

pub laid_within : (buffer bytes : List ℕ) (at most : ℕ) → length buffer ≤ most → at + length bytes ≤ most → length (laid buffer at bytes) ≤ most
laid_within buffer bytes at most h k = search (rules, list_places, h, k)

laid_own : (buffer bytes : List ℕ) (at : ℕ) → take (length bytes) (drop at (laid buffer at bytes)) ≡ bytes
laid_own buffer bytes at = same_lists _ _ (search (rules, list_places)) (λ k d h. grind (arith, list_places))

laid_before : (buffer bytes : List ℕ) (at a n : ℕ) → a + n ≤ length buffer → a + n ≤ at → take n (drop a (laid buffer at bytes)) ≡ take n (drop a buffer)
laid_before buffer bytes at a n inside before = same_lists _ _ (search (rules, list_places)) (λ k d h. grind (arith, list_places))

laid_behind : (buffer bytes : List ℕ) (at a n : ℕ) → a + n ≤ length buffer → at + length bytes ≤ a → take n (drop a (laid buffer at bytes)) ≡ take n (drop a buffer)
laid_behind buffer bytes at a n inside behind = same_lists _ _ (search (rules, list_places)) (λ k d h. grind (arith, list_places))

laid_other : (buffer bytes : List ℕ) (at a n : ℕ) → a + n ≤ length buffer → (at + length bytes ≤ a) ⊎ (a + n ≤ at) → take n (drop a (laid buffer at bytes)) ≡ take n (drop a buffer)
laid_other buffer bytes at a n inside apart = elim apart [
  | inl behind ↦ laid_behind buffer bytes at a n inside behind
  | inr before ↦ laid_before buffer bytes at a n inside before
]

take-add : (a n : ℕ) (xs : List ℕ) → take a xs ++ take n (drop a xs) ≡ take (a + n) xs
take-add a n xs = same_lists _ _ (search (rules, list_places)) (λ k d h. grind (arith, list_places))

-- ---- two places

lt_or_le : (a b : ℕ) → (a < b) ⊎ (b ≤ a)
lt_or_le a b = by_test (ltb a b) refl
  where
    by_test : (is : Bool) → ltb a b ≡ is → (a < b) ⊎ (b ≤ a)
    by_test true e = inl (ltb-true a b e)
    by_test false e = inr (ltb-false a b e)

apart_of : (plan : GroupPlan) (p q : Place) (number : ℕ) → IsPlace plan p → place_at plan.block_size plan.modules.items number ≡ Some q → number ≢ p.number
    → (p.at + p.len ≤ q.at) ⊎ (q.at + q.len ≤ p.at)
apart_of plan p q number e f other = elim (lt_or_le p.number number) [
  | inl below ↦
      let count : p.number + suc (number - suc p.number) ≡ number = omega arith in
      inl (places_apart plan (number - suc p.number) p.number p q e (subst (λ (i : ℕ). place_at plan.block_size plan.modules.items i ≡ Some q) (sym count) f))
  | inr past ↦
      let below : number < p.number = omega (arith, other) in
      let count : number + suc (p.number - suc number) ≡ p.number = omega arith in
      inr (places_apart plan (p.number - suc number) number q p f (subst (λ (i : ℕ). place_at plan.block_size plan.modules.items i ≡ Some p) (sym count) e))
]

-- ---- a block that fills a place

-- a place that is missing still was missing before, and is another one
still_missing : (plan : GroupPlan) (old new : Collected) (place : Place) (bytes : List ℕ) (number : ℕ) → Fills plan old place bytes new → is_there new number ≡ false
    → (is_there old number ≡ false) × (number ≢ place.number)
still_missing plan old new place bytes number fills none = by_test (eqb number place.number) refl (sym (fills.there number) ∙ none)
  where
    by_test : (same : Bool) → eqb number place.number ≡ same → same || is_there old number ≡ false → (is_there old number ≡ false) × (number ≢ place.number)
    by_test true e f = absurd cc
    by_test false e f = (f, λ same. let yes : eqb number place.number ≡ true = eq-eqb number place.number same in cc)

-- what is settled stays
kept_of : (plan : GroupPlan) (old new : Collected) (place : Place) (bytes : List ℕ) (a n : ℕ) → Fills plan old place bytes new → a + n ≤ length old.buffer
    → (place.at + place.len ≤ a) ⊎ (a + n ≤ place.at) → take n (drop a new.buffer) ≡ take n (drop a old.buffer)
kept_of plan old new place bytes a n fills inside apart =
    ap (λ (xs : List ℕ). take n (drop a xs)) fills.filled
    ∙ laid_other old.buffer bytes place.at a n inside (elim apart [ inl behind ↦ inl (omega (arith, behind, fills.long)) | inr before ↦ inr before ])

grown : (plan : GroupPlan) (old new : Collected) (place : Place) (bytes : List ℕ) → Fills plan old place bytes new → length old.buffer ≤ length new.buffer
grown plan old new place bytes fills = omega (arith, ap length fills.filled, laid_keeps old.buffer bytes place.at)

reached : (plan : GroupPlan) (old new : Collected) (place : Place) (bytes : List ℕ) → Fills plan old place bytes new → place.at + place.len ≤ length new.buffer
reached plan old new place bytes fills = omega (arith, ap length fills.filled, laid_reaches old.buffer bytes place.at, fills.long)

own_of : (plan : GroupPlan) (old new : Collected) (place : Place) (bytes : List ℕ) → Fills plan old place bytes new → take place.len (drop place.at new.buffer) ≡ bytes
own_of plan old new place bytes fills =
    ap (λ (n : ℕ). take n (drop place.at new.buffer)) (sym fills.long)
    ∙ ap (λ (xs : List ℕ). take (length bytes) (drop place.at xs)) fills.filled
    ∙ laid_own old.buffer bytes place.at

pub reaches_more : (plan : GroupPlan) (old new : Collected) (place : Place) (bytes : List ℕ) → Fills plan old place bytes new → Reaches plan old → Reaches plan new
reaches_more plan old new place bytes fills reaches = λ p is_place there. by_test p is_place (eqb p.number place.number) refl (sym (fills.there p.number) ∙ there)
  where
    by_test : (p : Place) → IsPlace plan p → (same : Bool) → eqb p.number place.number ≡ same → same || is_there old p.number ≡ true → p.at + p.len ≤ length new.buffer
    by_test p is_place true e f =
        let number : p.number ≡ place.number = eqb-true p.number place.number e in
        let is : Some p ≡ Some place = sym is_place ∙ ap (place_at plan.block_size plan.modules.items) number ∙ fills.is_place in
        let same : p ≡ place = cc in
        subst (λ (q : Place). q.at + q.len ≤ length new.buffer) (sym same) (reached plan old new place bytes fills)
    by_test p is_place false e f = let was = reaches p is_place f in omega (arith, was, grown plan old new place bytes fills)

-- the bytes at a place that was there
pub kept_at : (plan : GroupPlan) (old new : Collected) (place : Place) (bytes : List ℕ) → Fills plan old place bytes new → Reaches plan old
    → (number : ℕ) → is_there old number ≡ true → bytes_at plan new number ≡ bytes_at plan old number
unfolding bytes_at
kept_at plan old new place bytes fills reaches number there = by_place (place_at plan.block_size plan.modules.items number) refl
  where
    by_place : (o : Option Place) → place_at plan.block_size plan.modules.items number ≡ o → bytes_of new.buffer o ≡ bytes_of old.buffer o
    by_place None e = refl
    by_place (Some q) e =
        let own : q.number ≡ number = (fill_image plan.block_size plan.modules.items plan.places plan.total plan.planned).numbered number q e in
        let is_place : IsPlace plan q = ap (place_at plan.block_size plan.modules.items) own ∙ e in
        let inside = reaches q is_place (ap (is_there old) own ∙ there) in
        let other : number ≢ place.number = λ same. let no : is_there old number ≡ false = ap (is_there old) same ∙ fills.missing in cc in
        kept_of plan old new place bytes q.at q.len fills inside (apart_of plan place q number fills.is_place e other)

-- the bytes at the place itself
pub own_at : (plan : GroupPlan) (old new : Collected) (place : Place) (bytes : List ℕ) → Fills plan old place bytes new
    → (number : ℕ) → eqb number place.number ≡ true → bytes_at plan new number ≡ bytes
unfolding bytes_at
own_at plan old new place bytes fills number same =
    ap (λ (n : ℕ). bytes_of new.buffer (place_at plan.block_size plan.modules.items n)) (eqb-true number place.number same)
    ∙ ap (bytes_of new.buffer) fills.is_place
    ∙ own_of plan old new place bytes fills

-- ---- the CRCs of parts

pub sum_kept : (plan : GroupPlan) (old new : Collected) (place : Place) (bytes : List ℕ) (s : Sum) → Fills plan old place bytes new → IsSum plan old s → IsSum plan new s
sum_kept plan old new place bytes s fills is = record {
  ordered = is.ordered;
  inside = let bigger = grown plan old new place bytes fills in let was = is.inside in omega (arith, bigger, was);
  settled = λ p is_place none. is.settled p is_place (still_missing plan old new place bytes p.number fills none).0;
  own =
      let order = is.ordered in
      let was = is.inside in
      let apart : (place.at + place.len ≤ s.at) ⊎ (s.at + (s.end - s.at) ≤ place.at) = elim (lt_or_le s.at (place.at + place.len)) [
        | inl past ↦ let before = is.settled place fills.is_place fills.missing past in inr (omega (arith, order, before))
        | inr behind ↦ inl behind
      ] in
      is.own ∙ ap crc_of (sym (kept_of plan old new place bytes s.at (s.end - s.at) fills (omega (arith, order, was)) apart));
}

-- a part that begins with the block
pub sum_first : (plan : GroupPlan) (old new : Collected) (place : Place) (bytes : List ℕ) (none s : Sum) → Fills plan old place bytes new
    → none ≡ record { at = place.at; end = place.at; register = start } → IsLonger none place bytes s → IsSum plan new s
sum_first plan old new place bytes none s fills e longer =
    let at : s.at ≡ place.at = longer.at ∙ ap (λ (n : Sum). n.at) e in
    let end : s.end ≡ place.at + place.len = longer.end in
    record {
      ordered = omega (arith, at, end);
      inside = let r = reached plan old new place bytes fills in omega (arith, r, end);
      settled = λ p is_place missing past.
          let other = (still_missing plan old new place bytes p.number fills missing).1 in
          elim (apart_of plan place p p.number fills.is_place is_place other) [
            | inl behind ↦ omega (arith, behind, end)
            | inr before ↦ absurd (omega (arith, before, at, past))
          ];
      own =
          let size : s.end - s.at ≡ place.len = omega (arith, at, end) in
          let part : take (s.end - s.at) (drop s.at new.buffer) ≡ bytes =
          ap (λ (n : ℕ). take n (drop s.at new.buffer)) size ∙ ap (λ (a : ℕ). take place.len (drop a new.buffer)) at ∙ own_of plan old new place bytes fills in
          longer.register ∙ ap (λ (n : Sum). after_bytes n.register bytes) e ∙ sym (crc_is bytes) ∙ ap crc_of (sym part);
    }

-- a part that goes on with the block
pub sum_more : (plan : GroupPlan) (old new : Collected) (place : Place) (bytes : List ℕ) (part s : Sum) → Fills plan old place bytes new
    → IsSum plan old part → IsLonger part place bytes s → IsSum plan new s
sum_more plan old new place bytes part s fills is longer =
    let joins : part.end ≡ place.at = longer.joins in
    let at : s.at ≡ part.at = longer.at in
    let end : s.end ≡ place.at + place.len = longer.end in
    let order : part.at ≤ part.end = is.ordered in
    record {
      ordered = omega (arith, joins, at, end, order);
      inside = let r = reached plan old new place bytes fills in omega (arith, r, end);
      settled = λ p is_place missing past.
          let free = still_missing plan old new place bytes p.number fills missing in
          let behind = is.settled p is_place free.0 (omega (arith, past, at)) in
          elim (apart_of plan place p p.number fills.is_place is_place free.1) [
            | inl after ↦ omega (arith, after, end)
            | inr first ↦
                let some = (fill_image plan.block_size plan.modules.items plan.places plan.total plan.planned).not_empty p.number p is_place in
                absurd (omega (arith, first, behind, joins, some.0))
          ];
      own =
          let was = is.inside in
          let n = part.end - part.at in
          let all : s.end - s.at ≡ n + place.len = omega (arith, joins, at, end, order) in
          let front : take n (drop part.at new.buffer) ≡ take n (drop part.at old.buffer) =
          kept_of plan old new place bytes part.at n fills (omega (arith, order, was)) (inr (omega (arith, order, joins))) in
          let seam : part.at + n ≡ place.at = omega (arith, order, joins) in
          let back : take place.len (drop n (drop part.at new.buffer)) ≡ bytes =
          ap (take place.len) (drop-drop n part.at new.buffer ∙ ap (λ (k : ℕ). drop k new.buffer) seam) ∙ own_of plan old new place bytes fills in
          let whole : take (s.end - s.at) (drop s.at new.buffer) ≡ take n (drop part.at old.buffer) ++ bytes =
          ap (λ (k : ℕ). take k (drop s.at new.buffer)) all
          ∙ ap (λ (a : ℕ). take (n + place.len) (drop a new.buffer)) at
          ∙ sym (take-add n place.len (drop part.at new.buffer))
          ∙ ap (λ (xs : List ℕ). xs ++ take place.len (drop n (drop part.at new.buffer))) front
          ∙ ap (λ (xs : List ℕ). take n (drop part.at old.buffer) ++ xs) back in
          longer.register
          ∙ ap (λ (r : ℕ). after_bytes r bytes) is.own
          ∙ sym (crc_join (take n (drop part.at old.buffer)) bytes)
          ∙ ap crc_of (sym whole);
    }

-- ---- many sums

pub all_kept : (plan : GroupPlan) (old new : Collected) (place : Place) (bytes : List ℕ) (sums : List Sum) → Fills plan old place bytes new → All (IsSum plan old) sums → All (IsSum plan new) sums
all_kept plan old new place bytes sums fills all = λ k d below. sum_kept plan old new place bytes (get_or sums k d) fills (all k d below)

pub all_crcs : (plan : GroupPlan) (image : Collected) (sums : List Sum) → All (IsSum plan image) sums → All (IsCrcIn image.buffer) sums
all_crcs plan image sums all = λ k d below. (all k d below).own

-- a part that begins with the block, and the former one is kept where there is room
pub sums_begun : (plan : GroupPlan) (old new : Collected) (place : Place) (bytes : List ℕ) (now s : Sum) (done kept : List Sum) → Fills plan old place bytes new
    → (kept ≡ done) ⊎ (kept ≡ done ++ now ∷ []) → All (IsSum plan old) (now ∷ done) → IsSum plan new s → All (IsSum plan new) (s ∷ kept)
sums_begun plan old new place bytes now s done kept fills room all is =
    let both = all_kept plan old new place bytes (now ∷ done) fills all in
    let tail = All-tail (IsSum plan new) now done both in
    All-cons (IsSum plan new) s kept is (elim room [
      | inl same ↦ All-same (IsSum plan new) kept done same tail
      | inr more ↦ All-same (IsSum plan new) kept (done ++ now ∷ []) more (All-push (IsSum plan new) done now tail (All-head (IsSum plan new) now done both))
    ])

-- a part that goes on
pub sums_longer : (plan : GroupPlan) (old new : Collected) (place : Place) (bytes : List ℕ) (now s : Sum) (done : List Sum) → Fills plan old place bytes new
    → All (IsSum plan old) (now ∷ done) → IsLonger now place bytes s → All (IsSum plan new) (s ∷ done)
sums_longer plan old new place bytes now s done fills all longer =
    All-cons (IsSum plan new) s done (sum_more plan old new place bytes now s fills (All-head (IsSum plan old) now done all) longer)
    (all_kept plan old new place bytes done fills (All-tail (IsSum plan old) now done all))

pub sums_none : (plan : GroupPlan) (image : Collected) (none : Sum) → none ≡ record { at = 0; end = 0; register = start } → All (IsSum plan image) (none ∷ [])
sums_none plan image none e =
    let begins : none.at ≡ 0 = ap (λ (s : Sum). s.at) e in
    let ends : none.end ≡ 0 = ap (λ (s : Sum). s.end) e in
    let size : none.end - none.at ≡ 0 = omega (arith, ends) in
    All-cons (IsSum plan image) none [] (record {
      ordered = omega (arith, begins, ends);
      inside = omega (arith, ends);
      settled = λ p is_place missing past. omega (arith, ends);
      own = ap (λ (s : Sum). s.register) e ∙ sym crc_none ∙ ap (λ (n : ℕ). crc_of (take n (drop none.at image.buffer))) (sym size);
    }) (All-nil (IsSum plan image))

-- the CRC of the bytes of a module
pub crc_found : (buffer : List ℕ) (sum : Sum) (at size : ℕ) → IsCrcIn buffer sum → (sum.at ≡ at) × (sum.end ≡ at + size) → sum.register ≡ crc_of (take size (drop at buffer))
crc_found buffer sum at size is own =
    let long : sum.end - sum.at ≡ size = omega (arith, own.0, own.1) in
    is ∙ ap (λ (n : ℕ). crc_of (take n (drop sum.at buffer))) long ∙ ap (λ (a : ℕ). crc_of (take size (drop a buffer))) own.0

-- ---- no place, and all places

pub none_reached : (plan : GroupPlan) (image : Collected) → IsFor plan image → IsEmpty image → Reaches plan image
none_reached plan image is empty = λ p is_place there.
    let no : is_there image p.number ≡ false = empty p.number (let below = place_below plan p.number p is_place in omega (arith, below, is.places)) in
    absurd cc

some_of : (o : Option Place) → IsSome o → (p : Place) × (o ≡ Some p)
some_of None h = absurd cc
some_of (Some p) h = (p, refl)

pub all_reached : (plan : GroupPlan) (image : Collected) → IsFor plan image → Reaches plan image → missing_in image ≡ 0 → image.total ≤ length image.buffer
all_reached plan image is reaches none = by_count plan.places refl
  where
    by_count : (n : ℕ) → plan.places ≡ n → image.total ≤ length image.buffer
    by_count zero e = let some = some_place plan in absurd (omega (arith, some, e))
    by_count (suc n) e =
        let f = fill_image plan.block_size plan.modules.items plan.places plan.total plan.planned in
        let last = some_of (place_at plan.block_size plan.modules.items n) (f.there n (omega (arith, e))) in
        let end : last.0.at + last.0.len ≡ plan.total = f.ends n last.0 last.1 (omega (arith, e)) in
        let own : last.0.number ≡ n = f.numbered n last.0 last.1 in
        let is_place : IsPlace plan last.0 = ap (place_at plan.block_size plan.modules.items) own ∙ last.1 in
        let there : is_there image n ≡ true = all_marked (is_there image) image.map.places none n (omega (arith, e, is.places)) in
        let reach = reaches last.0 is_place (ap (is_there image) own ∙ there) in
        omega (arith, end, reach, is.total)

-- ---- the bytes of a module

pub module_in : (image : Collected) (m : ModulePlan) → m.at + m.size ≤ image.total → take m.size (drop m.at image.buffer) ≡ module_bytes (image_of image) m
module_in image m inside = part_of image.buffer m.at m.size image.total inside
  where
    part_of : (xs : List ℕ) (at size total : ℕ) → at + size ≤ total → take size (drop at xs) ≡ take size (drop at (take total xs))
    part_of xs at size total h = same_lists _ _ (search (rules, list_places)) (λ k d g. grind (arith, list_places))
