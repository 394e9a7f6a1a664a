-- Numbers that rise, and the search for one of them.
use Rattle.std.proofs.Common.{zero, suc, ◌≡◌, ℕ, ◌+◌, ◌*◌, ◌<◌, ◌≤◌, Bool, true, false, ◌&&◌, ◌==◌, nat_le, List, [], ◌∷◌, map, length, get_or, drop, Ok, Err, is_ok, All, nat_cmp, refl, sym, ap, arith, ⊎_elim, leb-true, le-leb, eq-eqb, ne_eqb, le_trans}
use Rattle.std.specs.Prelude.{Result}
use Rattle.std.specs.List.{list_any}
use Rattle.std.specs.List.Sorted.{IsBinarySearchResult}
use Rattle.std.proofs.lemmas.Bool.{and_parts, cases_lt}
use Rattle.std.proofs.lemmas.List.{drop_more, drop_all, get_or_default}
use Rattle.std.proofs.lemmas.List.Folds.{list_any_at, list_any_none}
use Rattle.std.proofs.lemmas.List.Sorted.{searched}
use Rattle.air_channel.specs.Aired.{is_in}
use Rattle.air_channel.specs.Scripts.{byte_number, rises}
use Rattle.air_channel.specs.declared.change.Change.{Change}

-- no number is less than the least
pub rises_least : (gap least : ℕ) (ns : List ℕ) → rises gap least ns ≡ true → (k : ℕ) → k < length ns → least ≤ get_or ns k 0
rises_least gap least [] up k low = absurd (omega (arith, low))
rises_least gap least (n ∷ rest) up zero low =
    let (first, others) = and_parts (nat_le least n) (rises gap (n + gap) rest) up in leb-true least n first
rises_least gap least (n ∷ rest) up (suc k) low =
    let (first, others) = and_parts (nat_le least n) (rises gap (n + gap) rest) up in
    let below : least ≤ n = leb-true least n first in
    let above : n + gap ≤ get_or rest k 0 = rises_least gap (n + gap) rest others k (omega (arith, low)) in
    omega (arith, below, above)

-- no number is less than one before it
pub rises_ordered : (gap least : ℕ) (ns : List ℕ) → rises gap least ns ≡ true → (i j : ℕ) → i ≤ j → j < length ns → get_or ns i 0 ≤ get_or ns j 0
rises_ordered gap least [] up i j order low = absurd (omega (arith, low))
rises_ordered gap least (n ∷ rest) up zero zero order low = omega arith
rises_ordered gap least (n ∷ rest) up zero (suc j) order low =
    let (first, others) = and_parts (nat_le least n) (rises gap (n + gap) rest) up in
    let above : n + gap ≤ get_or rest j 0 = rises_least gap (n + gap) rest others j (omega (arith, low)) in
    omega (arith, above)
rises_ordered gap least (n ∷ rest) up (suc i) zero order low = absurd (omega (arith, order))
rises_ordered gap least (n ∷ rest) up (suc i) (suc j) order low =
    let (first, others) = and_parts (nat_le least n) (rises gap (n + gap) rest) up in
    rises_ordered gap (n + gap) rest others i j (omega (arith, order)) (omega (arith, low))

-- numbers that rise by more rise by less, and from less on
pub rises_less : (gap less least lower : ℕ) (ns : List ℕ) → less ≤ gap → lower ≤ least → rises gap least ns ≡ true → rises less lower ns ≡ true
rises_less gap less least lower [] small low up = refl
rises_less gap less least lower (n ∷ rest) small low up =
    let (first, others) = and_parts (nat_le least n) (rises gap (n + gap) rest) up in
    let below : least ≤ n = leb-true least n first in
    let here : nat_le lower n ≡ true = le-leb lower n (omega (arith, below, low)) in
    let later : rises less (n + less) rest ≡ true = rises_less gap less (n + gap) (n + less) rest small (omega (arith, small)) others in
    rw (here, later) refl

-- one more number
pub rises_step : (gap least : ℕ) (ns : List ℕ) (k n : ℕ) → k < length ns → n ≡ get_or ns k n → rises gap least (drop k ns) ≡ (nat_le least n && rises gap (n + gap) (drop (k + 1) ns))
rises_step gap least ns k n low same = rw (drop_more ns k n low, ← same) refl

-- after the last number
pub rises_end : (gap least : ℕ) (ns : List ℕ) (k : ℕ) → length ns ≤ k → rises gap least (drop k ns) ≡ true
rises_end gap least ns k high = rw (drop_all k ns high) refl

-- one more change
pub ordered_step : (least : ℕ) (cs : List Change) (k : ℕ) (c : Change) → k < length cs → c ≡ get_or cs k c
    → rises 1 least (map byte_number (drop k cs)) ≡ (nat_le least (byte_number c) && rises 1 (byte_number c + 1) (map byte_number (drop (k + 1) cs)))
ordered_step least cs k c low same = rw (drop_more cs k c low, ← same) refl

pub ordered_end : (least : ℕ) (cs : List Change) (k : ℕ) → length cs ≤ k → rises 1 least (map byte_number (drop k cs)) ≡ true
ordered_end least cs k high = rw (drop_all k cs high) refl

-- a search finds a number exactly where it is one of those
pub is_ok_searched : (ns : List ℕ) (x : ℕ) (r : Result ℕ ℕ) → IsBinarySearchResult (λ y. nat_cmp y x) ns r → rises 1 0 ns ≡ true → is_ok r ≡ is_in ns x
is_ok_searched ns x (Ok i) found up =
    let (low, at) = searched ns x (Ok i) found (rises_ordered 1 0 ns up) in
    let equal : (get_or ns i 0 == x) ≡ true = eq-eqb (get_or ns i 0) x at in
    sym (list_any_at (λ m. m == x) ns i 0 low equal)
is_ok_searched ns x (Err i) found up =
    let (high, below, above) = searched ns x (Err i) found (rises_ordered 1 0 ns up) in
    let other : (k d : ℕ) → k < length ns → (get_or ns k d == x) ≡ false = λ k d low.
    ne_eqb (get_or ns k d) x (λ same.
    let at : get_or ns k d ≡ get_or ns k 0 = get_or_default ns k d 0 low in
    ⊎_elim (λ (front : k < i). let less : get_or ns k 0 < x = below k front in omega (arith, less, at, same))
    (λ (behind : i ≤ k). let more : x < get_or ns k 0 = above k behind low in omega (arith, more, at, same))
    (cases_lt k i)) in
    sym (list_any_none (λ m. m == x) ns other)
