-- The first of the least numbers of a list.
use Rattle.std.proofs.Common.{◌≡◌, ℕ, ◌<◌, ◌≤◌, true, List, length, get_or, sym, arith, subst}
use Rattle.std.proofs.lemmas.Bool.{lt-leb, le-leb}
use Rattle.std.proofs.lemmas.List.{get_or_default}
use Rattle.std.proofs.lemmas.List.Folds.{list_all_at}
use Rattle.std.proofs.lemmas.List.Sums.{position_or_len_is, list_all-from_AllPass}
use Rattle.std.specs.Prelude.{nat_le}
use Rattle.head_mux.specs.Sent.{is_least, next_index}

is_least-at : (dues : List ℕ) (due : ℕ) → ((k : ℕ) → k < length dues → due ≤ get_or dues k 0) → is_least dues due ≡ true
is_least-at dues due least =
    list_all-from_AllPass (λ other. nat_le due other) dues
    (λ k d h. le-leb due (get_or dues k d) (let P : ℕ → Type 0 = λ n. due ≤ n in subst P (get_or_default dues k 0 d h) (least k h)))

pub is_next : (dues : List ℕ) (best : ℕ) → best < length dues → ((k : ℕ) → k < length dues → get_or dues best 0 ≤ get_or dues k 0)
    → ((k : ℕ) → k < best → get_or dues best 0 < get_or dues k 0) → best ≡ next_index dues
unfolding next_index
is_next dues best within least first =
    sym (position_or_len_is (is_least dues) dues best 0 (omega arith)
    (λ k h. list_all_at (λ other. nat_le (get_or dues k 0) other) dues best 0 within (lt-leb (get_or dues k 0) (get_or dues best 0) (first k h)))
    (λ h. is_least-at dues (get_or dues best 0) least))
