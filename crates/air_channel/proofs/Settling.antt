-- What is settled after some packets, whatever comes behind them, and what is not.
use Rattle.std.proofs.Common.{zero, suc, ◌≡◌, ℕ, ◌+◌, ◌-◌, ◌*◌, ◌<◌, ◌≤◌, Bool, true, false, ◌==◌, if◌then◌else◌, List, [], ◌∷◌, ◌++◌, length, get_or, take, drop, replicate, Option, Some, None, option_to_list, refl, sym, ap, ◌∙◌, arith, subst, add-one, length-append, append_assoc, append-nil, take-append-drop, take_all, length-take-le, ⊎_elim, true≢false}
use Rattle.std.proofs.lemmas.Bool.{cases_Bool}
use Rattle.std.proofs.lemmas.List.{drop_all}
use Rattle.air_channel.specs.Aired.{aired, copies, is_in, placed, written}
use Rattle.air_channel.specs.Passing.{changed, kept_at, written_at, written_last}
use Rattle.air_channel.specs.Scripts.{ScriptData, rises}
use Rattle.air_channel.proofs.Placing.{length-placed, none_before, placed_more, placed_swap, Swaps}

-- How many places are settled after so many packets: the last one is not where it changes places with the next packet.
abbrev pub settled_count : List ℕ → ℕ → ℕ
settled_count swaps zero = zero
settled_count swaps (suc n) = if is_in swaps n then n else suc n

-- what is written at the settled places, and at the other one
unfoldable pub settled : ScriptData → List (List ℕ) → List (List ℕ)
settled script ps = written script 0 (take (settled_count script.swaps (length ps)) (placed script ps))

unfoldable pub pending : ScriptData → List (List ℕ) → List (List ℕ)
pending script ps = written script (settled_count script.swaps (length ps)) (drop (settled_count script.swaps (length ps)) (placed script ps))

pub written_append : (script : ScriptData) (first : ℕ) (ps qs : List (List ℕ)) → written script first (ps ++ qs) ≡ written script first ps ++ written script (first + length ps) qs
written_append script first [] qs =
    let same : first ≡ first + 0 = omega arith in ap (λ (n : ℕ). written script n qs) same
written_append script first (p ∷ ps) qs =
    let same : (first + 1) + length ps ≡ first + suc (length ps) = omega arith in
    let here = replicate (copies script first) p in
    ap (λ (rest : List (List ℕ)). here ++ rest) (written_append script (first + 1) ps qs ∙ ap (λ (n : ℕ). written script (first + 1) ps ++ written script n qs) same)
    ∙ sym (append_assoc here (written script (first + 1) ps) (written script (first + suc (length ps)) qs))

written_one : (script : ScriptData) (n : ℕ) (p : List ℕ) → written script n (p ∷ []) ≡ replicate (copies script n) p
written_one script n p = append-nil (replicate (copies script n) p)

written_two : (script : ScriptData) (n : ℕ) (p q : List ℕ) → written script n (p ∷ q ∷ []) ≡ replicate (copies script n) p ++ replicate (copies script (n + 1)) q
written_two script n p q = ap (λ (rest : List (List ℕ)). replicate (copies script n) p ++ rest) (written_one script (n + 1) q)

settled_few : (swaps : List ℕ) (n : ℕ) → settled_count swaps n ≤ n
settled_few swaps zero = omega arith
settled_few swaps (suc n) =
    ⊎_elim (λ (e : is_in swaps n ≡ true). rw e (omega arith)) (λ (e : is_in swaps n ≡ false). rw e (omega arith)) (cases_Bool (is_in swaps n))

-- all that is sent on is what is settled and what is pending
pub aired_is : (script : ScriptData) (ps : List (List ℕ)) → aired script ps ≡ settled script ps ++ pending script ps
unfolding aired settled pending
aired_is script ps =
    let k = settled_count script.swaps (length ps) in
    let all = placed script ps in
    let within : k ≤ length all = omega (arith, settled_few script.swaps (length ps), length-placed script ps) in
    let at : 0 + length (take k all) ≡ k = omega (arith, length-take-le k all within) in
    ap (λ (qs : List (List ℕ)). written script 0 qs) (sym (take-append-drop k all))
    ∙ written_append script 0 (take k all) (drop k all)
    ∙ ap (λ (n : ℕ). written script 0 (take k all) ++ written script n (drop k all)) at

-- What is kept is the packet of the place that is not settled, if there is one.
pub record Keeps (script : ScriptData) (kept : Option (List ℕ)) (ps : List (List ℕ)) : Type 0 where
  pub rest : drop (settled_count script.swaps (length ps)) (placed script ps) ≡ option_to_list kept
  pub count : settled_count script.swaps (length ps) + length (option_to_list kept) ≡ length ps

nil_of_length : (xs : List (List ℕ)) → length xs ≡ 0 → xs ≡ []
nil_of_length [] none = refl
nil_of_length (x ∷ xs) none = absurd (omega (arith, none))

pub keeps_none : (script : ScriptData) → Keeps script None []
keeps_none script = record { rest = nil_of_length (placed script []) (length-placed script []); count = omega arith }

take_front : (xs ys : List (List ℕ)) (n : ℕ) → length xs ≡ n → take n (xs ++ ys) ≡ xs
take_front xs ys n long = ap (λ (m : ℕ). take m (xs ++ ys)) (sym long) ∙ front xs
  where
    front : (xs : List (List ℕ)) → take (length xs) (xs ++ ys) ≡ xs
    front [] = refl
    front (x ∷ xs) = ap (λ (rest : List (List ℕ)). x ∷ rest) (front xs)

drop_front : (xs ys : List (List ℕ)) (n : ℕ) → length xs ≡ n → drop n (xs ++ ys) ≡ ys
drop_front xs ys n long = ap (λ (m : ℕ). drop m (xs ++ ys)) (sym long) ∙ behind xs
  where
    behind : (xs : List (List ℕ)) → drop (length xs) (xs ++ ys) ≡ ys
    behind [] = refl
    behind (x ∷ xs) = behind xs

-- where all places are settled, the last packet does not change places with the next one
settled_all : (swaps : List ℕ) (m : ℕ) → settled_count swaps m ≡ m → (n : ℕ) → n + 1 ≡ m → is_in swaps n ≡ false
settled_all swaps zero all n last = absurd (omega (arith, last))
settled_all swaps (suc k) all n last =
    let same : n ≡ k = omega (arith, last) in
    ap (is_in swaps) same
    ∙ ⊎_elim (λ (e : is_in swaps k ≡ true). let less : settled_count swaps (suc k) ≡ k = rw e refl in absurd (omega (arith, less, all)))
    (λ (e : is_in swaps k ≡ false). e) (cases_Bool (is_in swaps k))

-- where the last one is not, it does
settled_front : (swaps : List ℕ) (m k : ℕ) → settled_count swaps m ≡ k → k + 1 ≡ m → is_in swaps k ≡ true
settled_front swaps zero k front last = absurd (omega (arith, last))
settled_front swaps (suc j) k front last =
    let same : k ≡ j = omega (arith, last) in
    ap (is_in swaps) same
    ∙ ⊎_elim (λ (e : is_in swaps j ≡ true). e)
    (λ (e : is_in swaps j ≡ false). let more : settled_count swaps (suc j) ≡ suc j = rw e refl in absurd (omega (arith, more, front, same))) (cases_Bool (is_in swaps j))

settled_at : (script : ScriptData) (ps : List (List ℕ)) (k : ℕ) → settled_count script.swaps (length ps) ≡ k → settled script ps ≡ written script 0 (take k (placed script ps))
unfolding settled
settled_at script ps k count = ap (λ (m : ℕ). written script 0 (take m (placed script ps))) count

one_more : (ps : List (List ℕ)) (p : List ℕ) → length (ps ++ p ∷ []) ≡ suc (length ps)
one_more ps p = length-append ps (p ∷ []) ∙ add-one (length ps)

-- what a packet does to what is settled and to what is kept
pub record Steps (script : ScriptData) (kept : Option (List ℕ)) (ps : List (List ℕ)) (p : List ℕ) : Type 0 where
  pub settles : settled script (ps ++ p ∷ []) ≡ settled script ps ++ written_at script (length ps) kept p
  pub keeps : Keeps script (kept_at script (length ps) kept p) (ps ++ p ∷ [])

-- nothing was kept, and the packet waits for the next one
step_waits : (script : ScriptData) (ps : List (List ℕ)) (p : List ℕ) → Keeps script None ps → is_in script.swaps (length ps) ≡ true → Steps script None ps p
step_waits script ps p keeps waits =
    let n = length ps in
    let now = changed script.changes n p in
    let all : settled_count script.swaps n ≡ n = omega (arith, keeps.count) in
    let count : settled_count script.swaps (length (ps ++ p ∷ [])) ≡ n = ap (settled_count script.swaps) (one_more ps p) ∙ rw waits refl in
    let more : placed script (ps ++ p ∷ []) ≡ placed script ps ++ now ∷ [] = placed_more script ps p (settled_all script.swaps n all) in
    let long : length (placed script ps) ≡ n = length-placed script ps in
    let before : settled script ps ≡ written script 0 (placed script ps) =
    settled_at script ps n all ∙ ap (written script 0) (take_all n (placed script ps) (omega (arith, long))) in
    let after : settled script (ps ++ p ∷ []) ≡ written script 0 (placed script ps) =
    settled_at script (ps ++ p ∷ []) n count
    ∙ ap (λ (qs : List (List ℕ)). written script 0 (take n qs)) more
    ∙ ap (written script 0) (take_front (placed script ps) (now ∷ []) n long) in
    let none : written_at script n None p ≡ [] = rw waits refl in
    let some : kept_at script n None p ≡ Some now = rw waits refl in
    let P : Option (List ℕ) → Type 0 = λ k. Keeps script k (ps ++ p ∷ []) in
    record {
      settles = after ∙ sym before ∙ sym (append-nil (settled script ps)) ∙ ap (λ (w : List (List ℕ)). settled script ps ++ w) (sym none);
      keeps = subst P (sym some) (record {
        rest =
            ap (λ (m : ℕ). drop m (placed script (ps ++ p ∷ []))) count
            ∙ ap (drop n) more
            ∙ drop_front (placed script ps) (now ∷ []) n long;
        count = omega (arith, count, one_more ps p);
      });
    }

-- nothing was kept, and the packet stays at its place
step_stays : (script : ScriptData) (ps : List (List ℕ)) (p : List ℕ) → Keeps script None ps → is_in script.swaps (length ps) ≡ false → Steps script None ps p
step_stays script ps p keeps stays =
    let n = length ps in
    let now = changed script.changes n p in
    let all : settled_count script.swaps n ≡ n = omega (arith, keeps.count) in
    let count : settled_count script.swaps (length (ps ++ p ∷ [])) ≡ suc n = ap (settled_count script.swaps) (one_more ps p) ∙ rw stays refl in
    let more : placed script (ps ++ p ∷ []) ≡ placed script ps ++ now ∷ [] = placed_more script ps p (settled_all script.swaps n all) in
    let long : length (placed script ps) ≡ n = length-placed script ps in
    let longer : length (placed script (ps ++ p ∷ [])) ≡ suc n = length-placed script (ps ++ p ∷ []) ∙ one_more ps p in
    let before : settled script ps ≡ written script 0 (placed script ps) =
    settled_at script ps n all ∙ ap (written script 0) (take_all n (placed script ps) (omega (arith, long))) in
    let place : 0 + length (placed script ps) ≡ n = omega (arith, long) in
    let after : settled script (ps ++ p ∷ []) ≡ written script 0 (placed script ps) ++ replicate (copies script n) now =
    settled_at script (ps ++ p ∷ []) (suc n) count
    ∙ ap (written script 0) (take_all (suc n) (placed script (ps ++ p ∷ [])) (omega (arith, longer)))
    ∙ ap (written script 0) more
    ∙ written_append script 0 (placed script ps) (now ∷ [])
    ∙ ap (λ (m : ℕ). written script 0 (placed script ps) ++ written script m (now ∷ [])) place
    ∙ ap (λ (w : List (List ℕ)). written script 0 (placed script ps) ++ w) (written_one script n now) in
    let one : written_at script n None p ≡ replicate (copies script n) now = rw stays refl in
    let none : kept_at script n None p ≡ None = rw stays refl in
    let P : Option (List ℕ) → Type 0 = λ k. Keeps script k (ps ++ p ∷ []) in
    record {
      settles =
          after
          ∙ ap (λ (w : List (List ℕ)). w ++ replicate (copies script n) now) (sym before)
          ∙ ap (λ (w : List (List ℕ)). settled script ps ++ w) (sym one);
      keeps = subst P (sym none) (record {
        rest =
            ap (λ (m : ℕ). drop m (placed script (ps ++ p ∷ []))) count
            ∙ drop_all (suc n) (placed script (ps ++ p ∷ [])) (omega (arith, longer));
        count = omega (arith, count, one_more ps p);
      });
    }

-- a packet was kept, and changes places with this one
step_swaps : (script : ScriptData) (q : List ℕ) (ps : List (List ℕ)) (p : List ℕ) → rises 2 0 script.swaps ≡ true → Keeps script (Some q) ps → Steps script (Some q) ps p
step_swaps script q ps p up keeps =
    let n = length ps in
    let k = settled_count script.swaps n in
    let now = changed script.changes n p in
    let last : n ≡ k + 1 = omega (arith, keeps.count) in
    let inside : is_in script.swaps k ≡ true = settled_front script.swaps n k refl (sym last) in
    let swaps : Swaps script ps p k = placed_swap script ps p k up last inside in
    let outside : is_in script.swaps n ≡ false =
    ⊎_elim (λ (e : is_in script.swaps n ≡ true). absurd (true≢false (sym inside ∙ none_before 0 script.swaps n up e k (sym last))))
    (λ (e : is_in script.swaps n ≡ false). e) (cases_Bool (is_in script.swaps n)) in
    let same_list : swaps.last ∷ [] ≡ q ∷ [] =
    sym (drop_front swaps.front (swaps.last ∷ []) k swaps.long) ∙ ap (drop k) (sym swaps.before) ∙ keeps.rest in
    let same : swaps.last ≡ q = ap (λ (xs : List (List ℕ)). get_or xs 0 []) same_list in
    let count : settled_count script.swaps (length (ps ++ p ∷ [])) ≡ suc n = ap (settled_count script.swaps) (one_more ps p) ∙ rw outside refl in
    let longer : length (placed script (ps ++ p ∷ [])) ≡ suc n = length-placed script (ps ++ p ∷ []) ∙ one_more ps p in
    let before : settled script ps ≡ written script 0 swaps.front =
    settled_at script ps k refl
    ∙ ap (λ (qs : List (List ℕ)). written script 0 (take k qs)) swaps.before
    ∙ ap (written script 0) (take_front swaps.front (swaps.last ∷ []) k swaps.long) in
    let place : 0 + length swaps.front ≡ n - 1 = omega (arith, swaps.long, last) in
    let next : (n - 1) + 1 ≡ n = omega (arith, last) in
    let after : settled script (ps ++ p ∷ []) ≡ written script 0 swaps.front ++ (replicate (copies script (n - 1)) now ++ replicate (copies script n) q) =
    settled_at script (ps ++ p ∷ []) (suc n) count
    ∙ ap (written script 0) (take_all (suc n) (placed script (ps ++ p ∷ [])) (omega (arith, longer)))
    ∙ ap (written script 0) swaps.after
    ∙ written_append script 0 swaps.front (now ∷ swaps.last ∷ [])
    ∙ ap (λ (m : ℕ). written script 0 swaps.front ++ written script m (now ∷ swaps.last ∷ [])) place
    ∙ ap (λ (w : List (List ℕ)). written script 0 swaps.front ++ w) (written_two script (n - 1) now swaps.last)
    ∙ ap (λ (m : ℕ). written script 0 swaps.front ++ (replicate (copies script (n - 1)) now ++ replicate (copies script m) swaps.last)) next
    ∙ ap (λ (x : List ℕ). written script 0 swaps.front ++ (replicate (copies script (n - 1)) now ++ replicate (copies script n) x)) same in
    record {
      settles = after ∙ ap (λ (w : List (List ℕ)). w ++ written_at script n (Some q) p) (sym before);
      keeps = record {
        rest =
            ap (λ (m : ℕ). drop m (placed script (ps ++ p ∷ []))) count
            ∙ drop_all (suc n) (placed script (ps ++ p ∷ [])) (omega (arith, longer));
        count = omega (arith, count, one_more ps p);
      };
    }

pub steps : (script : ScriptData) (kept : Option (List ℕ)) (ps : List (List ℕ)) (p : List ℕ) → rises 2 0 script.swaps ≡ true → Keeps script kept ps → Steps script kept ps p
steps script None ps p up keeps = ⊎_elim (step_waits script ps p keeps) (step_stays script ps p keeps) (cases_Bool (is_in script.swaps (length ps)))
steps script (Some q) ps p up keeps = step_swaps script q ps p up keeps

-- what is pending is what was kept, at its place
pub pending_is : (script : ScriptData) (kept : Option (List ℕ)) (ps : List (List ℕ)) → Keeps script kept ps → pending script ps ≡ written_last script (length ps) kept
unfolding pending
pending_is script None ps keeps = ap (written script (settled_count script.swaps (length ps))) keeps.rest
pending_is script (Some q) ps keeps =
    let k = settled_count script.swaps (length ps) in
    let place : k ≡ length ps - 1 = omega (arith, keeps.count) in
    ap (written script k) keeps.rest ∙ written_one script k q ∙ ap (λ (m : ℕ). replicate (copies script m) q) place
