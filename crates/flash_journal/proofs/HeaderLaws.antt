-- A header that stands, and a message that is held.
use Rattle.std.specs.Prelude.{◌↔◌, IfOk, IsTrue, Result, Ok, Err}
use Rattle.std.proofs.Common.{◌≡◌, ℕ, ◌+◌, ◌≤◌, Bool, List, length, get_or, sym, ap, subst, ◌∙◌, arith}
use Rattle.flash_bank.specs.Bank.{current_of, geometry_of, spare_journal}
use Rattle.flash_bank.specs.declared.bank.Bank.{Bank}
use Rattle.flash_dev.specs.Changes.{Holds}
use Rattle.flash_kept.specs.Leaving.{HeaderStands}
use Rattle.flash_layout.specs.Journal.{header_written}
use Rattle.flash_layout.specs.Layout.{journal_len}
use Rattle.flash_layout.specs.Pairs.{paired}
use Rattle.flash_layout.proofs.PairsLemmas.{length-paired}
use Rattle.flash_layout.proofs.Places.{marks_before_slots, slots_before_end}
use Rattle.bank_kept.specs.Bank.{area_of_bank}

-- a journal has room for its header
pub header_room : (bank : Bank) → 8448 ≤ journal_len (geometry_of bank)
header_room bank =
    let marks = marks_before_slots (geometry_of bank) bank.limits in let ends = slots_before_end (geometry_of bank) bank.limits in omega (arith, marks, ends)

-- the header stands where its fixed part and its message do
pub both_stand : (bank : Bank) (c message fixed : List ℕ) → fixed ≡ header_written ((current_of bank).number + 1) (length message) → Holds c (spare_journal bank + 0) fixed
    → Holds c (spare_journal bank + 256) (paired message) → HeaderStands (area_of_bank bank) message c
both_stand bank c message fixed is first second = record {
  fixed = λ k lt.
      let size : length fixed ≡ 32 = ap (λ (l : List ℕ). length l) is in
      let here : spare_journal bank + 0 + k ≡ spare_journal bank + k = omega arith in
      subst (λ (p : ℕ). get_or c p 0 ≡ get_or (header_written ((current_of bank).number + 1) (length message)) k 0) here (first k (omega (arith, lt, size)) ∙ ap (λ (l : List ℕ). get_or l k 0) is);
  pairs = λ k lt. second k (omega (arith, lt, length-paired message));
}

pub fixed_stands : (bank : Bank) (c message fixed : List ℕ) → fixed ≡ header_written ((current_of bank).number + 1) (length message) → HeaderStands (area_of_bank bank) message c
    → Holds c (spare_journal bank + 0) fixed
fixed_stands bank c message fixed is stands k lt =
    let size : length fixed ≡ 32 = ap (λ (l : List ℕ). length l) is in
    let here : spare_journal bank + k ≡ spare_journal bank + 0 + k = omega arith in
    subst (λ (p : ℕ). get_or c p 0 ≡ get_or fixed k 0) here (stands.fixed k (omega (arith, lt, size)) ∙ ap (λ (l : List ℕ). get_or l k 0) (sym is))

pub text_stands : (bank : Bank) (c message : List ℕ) → HeaderStands (area_of_bank bank) message c → Holds c (spare_journal bank + 256) (paired message)
text_stands bank c message stands k lt = stands.pairs k (omega (arith, lt, length-paired message))

-- what was found of the message says it of the header
pub found_header : {E : Type 0} (bank : Bank) (c message fixed : List ℕ) (r : Result Bool E) → fixed ≡ header_written ((current_of bank).number + 1) (length message)
    → Holds c (spare_journal bank + 0) fixed → IfOk r (λ yes. IsTrue yes ↔ Holds c (spare_journal bank + 256) (paired message))
    → IfOk r (λ yes. IsTrue yes ↔ HeaderStands (area_of_bank bank) message c)
found_header bank c message fixed (Ok found_it) is first found = (λ t. both_stand bank c message fixed is first (found.0 t), λ stands. found.1 (text_stands bank c message stands))
found_header bank c message fixed (Err e) is first found = tt
