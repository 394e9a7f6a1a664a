-- A flash in memory that is halted refuses each change, and stays halted.
use Rattle.std.proofs.Common.{◌≡◌, ◌∙◌, sym, ⊎_elim, ℕ, ◌≤◌, arith}
use Rattle.std.specs.Prelude.{IsTrue, Option, Some, None, nat_lt}
use Rattle.std.proofs.lemmas.Bool.{cond-true, cond-false, false_from_ne_true, or_cases, or_left, or_right}
use Rattle.std.proofs.lemmas.Bool.Decides.{nat_tests}
use Rattle.flash_dev.specs.Planned.{Planned, counted, done_or_torn, ending_of, is_over, is_past, tear_at}
use Rattle.flash_dev.specs.declared.tear.Tear.{Tear}
use Rattle.flash_dev.specs.declared.tear.Ending.TheVariants.{Refused}

pub over_refused : (p : Planned) → IsTrue (is_over p) → ending_of p ≡ Refused
over_refused p is = cond-true (is_over p) Refused (done_or_torn (tear_at p.stop p.fails (counted p.changes))) is

is_made : (tear : Option Tear) → done_or_torn tear ≡ Refused → ⊥
is_made None is = grind arith
is_made (Some tear) is = grind arith

-- what is not halted makes each change, done or torn
pub not_refused : (p : Planned) → (IsTrue (is_over p) → ⊥) → ending_of p ≡ Refused → ⊥
not_refused p goes is =
    is_made (tear_at p.stop p.fails (counted p.changes))
    (sym (cond-false (is_over p) Refused (done_or_torn (tear_at p.stop p.fails (counted p.changes))) (false_from_ne_true (is_over p) goes)) ∙ is)

past_still : (stop : Option (ℕ × Tear)) (n m : ℕ) → n ≤ m → IsTrue (is_past stop n) → IsTrue (is_past stop m)
past_still None n m le is = is
past_still (Some stop) n m le is = grind (arith, nat_tests)

full_still : (room n m : ℕ) → n ≤ m → IsTrue (nat_lt room n) → IsTrue (nat_lt room m)
full_still room n m le is = grind (arith, nat_tests)

pub still_over : (p : Planned) (n : ℕ) → p.changes ≤ n → IsTrue (is_over p) → IsTrue (is_over (record p { changes = n }))
still_over p n le is =
    ⊎_elim
    (λ past. or_left _ _ (past_still p.stop p.changes n le past))
    (λ full. or_right _ _ (full_still p.room (counted p.changes) (counted n) (omega arith) full))
    (or_cases (is_past p.stop p.changes) (nat_lt p.room (counted p.changes)) is)
