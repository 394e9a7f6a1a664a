-- What stands, and what is left, where some bytes are programmed and then others, which lie before them.
use Rattle.std.proofs.Common.{◌≡◌, inl, inr, ℕ, ◌+◌, ◌<◌, ◌≤◌, List, length, get_or, ◌∙◌, arith}
use Rattle.flash_dev.specs.Changes.{Changes, Holds, IsBlank, IsProgrammed, IsTornProgram}
use Rattle.flash_layout.specs.Layout.{Geometry}
use Rattle.flash_bank.specs.Journal.{CutsPut, LeavesPut, Puts}
use Rattle.flash_bank.specs.Runs.{IsOutside}
use Rattle.flash_bank.specs.Sound.{KeepsBoth}
use Rattle.flash_bank.proofs.ClearLemmas.{change_outside}

module _ (at : ℕ) (bytes : List ℕ) (next : ℕ) (more x y : List ℕ) (apart : next + length more ≤ at) where
  -- both are done
  pub puts : (mid : List ℕ) → Changes at (length bytes) (IsProgrammed bytes) x mid → Changes next (length more) (IsProgrammed more) mid y
      → Puts at bytes next more x y
  puts mid done then_done = record {
    size = then_done.size ∙ done.size;
    same = λ k out other. change_outside next (length more) (IsProgrammed more) mid y then_done k other ∙ change_outside at (length bytes) (IsProgrammed bytes) x mid done k out;
    first = λ k lt. then_done.after (at + k) (omega arith) ∙ done.inside k lt;
    second = λ k lt. then_done.inside k lt;
  }

  -- one of them is on its way
  cut_size : CutsPut at bytes next more x y → length y ≡ length x
  cut_size (inl torn) = torn.size
  cut_size (inr both) = both.second.size ∙ both.first.size

  cut_same : CutsPut at bytes next more x y → (k : ℕ) → IsOutside at (length bytes) k → IsOutside next (length more) k → get_or y k 0 ≡ get_or x k 0
  cut_same (inl torn) k out other = change_outside at (length bytes) (IsTornProgram bytes) x y torn k out
  cut_same (inr both) k out other =
      change_outside next (length more) (IsTornProgram more) both.between y both.second k other
      ∙ change_outside at (length bytes) (IsProgrammed bytes) x both.between both.first k out

  cut_first : CutsPut at bytes next more x y → (k : ℕ) → k < length bytes → get_or bytes k 0 ≤ get_or y (at + k) 0
  cut_first (inl torn) k lt = (torn.inside k lt).0
  cut_first (inr both) k lt = let same = both.second.after (at + k) (omega arith) in let is = both.first.inside k lt in omega (arith, same, is)

  module _ (blank : IsBlank x next (length more)) where
    cut_second : ((k : ℕ) → get_or more k 0 ≤ 255) → CutsPut at bytes next more x y → (k : ℕ) → k < length more → get_or more k 0 ≤ get_or y (next + k) 0
    cut_second fit (inl torn) k lt = let same = torn.before (next + k) (omega arith) in let is = blank k lt in omega (arith, same, is, fit k)
    cut_second fit (inr both) k lt = (both.second.inside k lt).0

    -- where the others have their first pair, which is whole, the first ones stand
    cut_whole : 2 ≤ length more → get_or more 0 0 + get_or more 1 0 ≡ 255 → CutsPut at bytes next more x y → Holds y next more → Holds y at bytes
    cut_whole some pair (inl torn) holds =
        let one = holds 0 (omega arith) in
        let two = holds 1 (omega arith) in
        let was_one = torn.before (next + 0) (omega arith) in
        let was_two = torn.before (next + 1) (omega arith) in
        let blank_one = blank 0 (omega arith) in
        let blank_two = blank 1 (omega arith) in
        absurd (omega (arith, one, two, was_one, was_two, blank_one, blank_two, pair))
    cut_whole some pair (inr both) holds = λ k lt. both.second.after (at + k) (omega arith) ∙ both.first.inside k lt

    pub leaves_put : (g : Geometry) → KeepsBoth g x y → 2 ≤ length more → get_or more 0 0 + get_or more 1 0 ≡ 255 → ((k : ℕ) → get_or more k 0 ≤ 255)
        → CutsPut at bytes next more x y → LeavesPut g at bytes next more x y
    leaves_put g keeps some pair fit cuts = record {
      keeps = keeps;
      size = cut_size cuts;
      same = λ k out other. cut_same cuts k out other;
      first = λ k lt. cut_first cuts k lt;
      second = λ k lt. cut_second fit cuts k lt;
      whole = λ holds. cut_whole some pair cuts holds;
    }
