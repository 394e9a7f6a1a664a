-- What the calls of an open bank change of its spare area.
use Rattle.std.proofs.Common.{◌≡◌, inl, inr, ℕ, ◌+◌, ◌-◌, ◌<◌, ◌≤◌, List, length, get_or, refl, sym, ap, subst, ◌∙◌, arith}
use Rattle.flash_bank.specs.Bank.{Fits, LeavesCommitted, block_of, current_of, geometry_of, spare_journal, spare_record}
use Rattle.flash_bank.specs.Journal.{LeavesPut, LeavesResumed, Puts, slot_place}
use Rattle.flash_bank.specs.Runs.{IsOutside}
use Rattle.flash_bank.specs.declared.bank.Bank.{Bank}
use Rattle.flash_bank.specs.declared.record.Record.{Record}
use Rattle.flash_dev.specs.Changes.{Changes}
use Rattle.flash_kept.specs.Leaving.{ChangesHeader, ChangesSlot, HeaderStands, SameArea}
use Rattle.flash_layout.specs.Journal.{header_written}
use Rattle.flash_layout.specs.Layout.{area_place, record_place}
use Rattle.flash_layout.specs.Pairs.{paired}
use Rattle.flash_layout.specs.Slots.{slot_written}
use Rattle.flash_layout.proofs.PairsLemmas.{length-paired}
use Rattle.flash_layout.proofs.Places.{record_before_area}
use Rattle.ssu_group.specs.declared.places.Place.{Place}
use Rattle.bank_kept.specs.Bank.{area_of_bank}
use Rattle.bank_kept.specs.Contents.{HasSpareArea}
use Rattle.bank_kept.proofs.AreaLaws.{area_by}

-- a bank that fits contents has their area
pub bank_area : (bank : Bank) (c : List ℕ) → Fits bank c → (current_of bank).layout ≡ 2 → HasSpareArea (geometry_of bank) c (area_of_bank bank)
bank_area bank c fits two = record {
  block = block_of bank;
  current = fits.current;
  two = ap (λ (h : Record). h.layout) fits.head ∙ two;
  is = ap (area_by (geometry_of bank)) (sym fits.head);
}

-- ---- a slot

spelled_len : (at len : ℕ) → length (slot_written at len) ≡ 16
spelled_len at len = refl

slot_outside : (bank : Bank) (s n k : ℕ) → n ≤ 4096 → IsOutside (slot_place bank s) 4352 k → IsOutside (slot_place bank s + 256) n k × IsOutside (slot_place bank s) 16 k
slot_outside bank s n k few (inl before) = (inl (omega (arith, before)), inl before)
slot_outside bank s n k few (inr behind) = (inr (omega (arith, behind, few)), inr (omega (arith, behind)))

pub spared_slot : (bank : Bank) (s : ℕ) (p : Place) (bytes x y : List ℕ) → length bytes ≡ p.len → p.len ≤ 4066
    → LeavesPut (geometry_of bank) (slot_place bank s + 256) bytes (slot_place bank s) (slot_written p.at (length bytes)) x y → ChangesSlot (area_of_bank bank) s p bytes x y
spared_slot bank s p bytes x y long few leaves =
    let head : slot_written p.at (length bytes) ≡ slot_written p.at p.len = ap (slot_written p.at) long in
    record {
      size = leaves.size;
      same = λ k outside. let both = slot_outside bank s (length bytes) k (omega (arith, long, few)) outside in leaves.same k both.0 both.1;
      above = λ k lt. subst (λ (h : List ℕ). get_or h k 0 ≤ get_or y (slot_place bank s + k) 0) head (leaves.second k lt);
      all = λ stands. leaves.whole (λ k lt. stands k lt ∙ ap (λ (h : List ℕ). get_or h k 0) (sym head));
    }

pub spared_done : (bank : Bank) (s : ℕ) (p : Place) (bytes x y : List ℕ) → length bytes ≡ p.len → p.len ≤ 4066
    → Puts (slot_place bank s + 256) bytes (slot_place bank s) (slot_written p.at (length bytes)) x y → ChangesSlot (area_of_bank bank) s p bytes x y
spared_done bank s p bytes x y long few puts =
    let head : slot_written p.at (length bytes) ≡ slot_written p.at p.len = ap (slot_written p.at) long in
    record {
      size = puts.size;
      same = λ k outside. let both = slot_outside bank s (length bytes) k (omega (arith, long, few)) outside in puts.same k both.0 both.1;
      above = λ k lt. let stands = puts.second k lt in let same = ap (λ (h : List ℕ). get_or h k 0) head in omega (arith, stands, same);
      all = λ stands. puts.first;
    }

pub spared_head : (bank : Bank) (s : ℕ) (p : Place) (bytes x y : List ℕ) → length bytes ≡ p.len
    → Puts (slot_place bank s + 256) bytes (slot_place bank s) (slot_written p.at (length bytes)) x y → (k : ℕ) → k < 16 → get_or y (slot_place bank s + k) 0 ≡ get_or (slot_written p.at p.len) k 0
spared_head bank s p bytes x y long puts k lt = puts.second k lt ∙ ap (λ (n : ℕ). get_or (slot_written p.at n) k 0) long

-- ---- the header

header_outside : (bank : Bank) (n k : ℕ) → n ≤ 8168 → IsOutside (spare_journal bank) 8448 k → IsOutside (spare_journal bank + 256) n k × IsOutside (spare_journal bank) 32 k
header_outside bank n k few (inl before) = (inl (omega (arith, before)), inl before)
header_outside bank n k few (inr behind) = (inr (omega (arith, behind, few)), inr (omega (arith, behind)))

pub headed_place : (bank : Bank) (message x y : List ℕ) → length message ≤ 4084
    → LeavesPut (geometry_of bank) (spare_journal bank + 256) (paired message) (spare_journal bank) (header_written ((current_of bank).number + 1) (length message)) x y
    → ChangesHeader (area_of_bank bank) x y
headed_place bank message x y few leaves = record {
  size = leaves.size;
  same = λ k outside.
      let both = header_outside bank (length (paired message)) k (omega (arith, length-paired message, few)) outside in leaves.same k both.0 both.1;
}

pub headed_done : (bank : Bank) (message x y : List ℕ) → length message ≤ 4084
    → Puts (spare_journal bank + 256) (paired message) (spare_journal bank) (header_written ((current_of bank).number + 1) (length message)) x y
    → ChangesHeader (area_of_bank bank) x y × HeaderStands (area_of_bank bank) message y
headed_done bank message x y few puts = (
  record {
    size = puts.size;
    same = λ k outside.
        let both = header_outside bank (length (paired message)) k (omega (arith, length-paired message, few)) outside in puts.same k both.0 both.1;
  },
  record {
    fixed = λ k lt. puts.second k lt;
    pairs = λ k lt. puts.first k (omega (arith, length-paired message, lt));
  },
)

-- ---- the spare record block lies before the area

record_apart : (bank : Bank) (n : ℕ) (P : ℕ → ℕ → ℕ → Type 0) (x y : List ℕ) → n ≤ (geometry_of bank).block_len → Changes (spare_record bank) n P x y → SameArea (area_of_bank bank) x y
record_apart bank n P x y fits changes =
    let g = geometry_of bank in
    let before : record_place g (1 - block_of bank) + g.block_len ≤ area_place g (1 - (current_of bank).bank) = record_before_area g bank.limits (1 - block_of bank) (1 - (current_of bank).bank) (omega arith) in
    record {
      size = changes.size;
      bank = λ k lt. changes.after (area_place g (1 - (current_of bank).bank) + k) (omega (arith, before, fits));
      journal = λ k lt. changes.after ((area_of_bank bank).journal + k) (omega (arith, before, fits));
    }

pub resumed_area : (bank : Bank) (x y : List ℕ) → LeavesResumed bank x y → SameArea (area_of_bank bank) x y
resumed_area bank x y leaves = record_apart bank (geometry_of bank).block_len _ x y (omega arith) leaves.changes

pub committed_area : (bank : Bank) (new : Record) (x y : List ℕ) → LeavesCommitted bank new x y → SameArea (area_of_bank bank) x y
committed_area bank new x y leaves = let least = bank.limits.least_len in record_apart bank 64 _ x y (omega (arith, least)) leaves.changes
