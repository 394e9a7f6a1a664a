-- What is seen of a stage whose places stand in the spare bank.
use Rattle.std.specs.Prelude.{◌≡◌, ℕ, ◌+◌, ◌≤◌, Bool, true, false, List, [], Option, None, Some}
use Rattle.std.proofs.Common.{ap}
use Rattle.std.proofs.lemmas.Bool.{false≢true}
use Rattle.flash_dev.specs.Changes.{IsBlank}
use Rattle.flash_layout.specs.Layout.{journal_len}
use Rattle.flash_bank.specs.Bank.{current_of, geometry_of, is_begun, len_of, spare_bank, spare_journal}
use Rattle.flash_bank.specs.declared.bank.Bank.{Bank}
use Rattle.ssu_group.specs.Map.{marked}
use Rattle.ssu_group.specs.Place.{place_at}
use Rattle.ssu_group.specs.Plan.{IsPlan}
use Rattle.ssu_group.specs.declared.places.Place.{Place}
use Rattle.flash_layout.specs.Pairs.{part}
use Rattle.flash_stage.specs.Keeping.{IsKeptIn}
use Rattle.flash_stage.specs.Outline.{Outline, place_of}
use Rattle.flash_stage.specs.declared.bank_stage.BankStage.{BankStage}

-- the length of the bank that it was made for
abbrev pub most_in_bank : BankStage → ℕ
most_in_bank s = s.most

-- the plan of the group that it began
abbrev pub outline_in_bank : BankStage → Outline
outline_in_bank s = record { block_size = s.block_size; modules = s.modules.items; places = s.map.places; total = s.total }

-- Is the place of that number staged?
abbrev pub has_in_bank : BankStage → ℕ → Bool
has_in_bank s number = marked s.map number

-- the bytes of a place in a bank that begins there
abbrev pub bytes_from : ℕ → List ℕ → Option Place → List ℕ
bytes_from begin contents None = []
bytes_from begin contents (Some p) = part contents (begin + p.at) p.len

-- the bytes that stand for a place: its range of the spare bank
unfoldable pub bytes_in_bank : BankStage → Bank → List ℕ → ℕ → List ℕ
bytes_in_bank s bank contents number = bytes_from (spare_bank bank) contents (place_at s.block_size s.modules.items number)

-- It began a group that fits the bank, which was begun for it.
pub record IsBegun (s : BankStage) (bank : Bank) : Type 0 where
  pub planned : IsPlan s.block_size s.modules.items s.map.places s.total
  pub fits : s.total ≤ len_of bank
  pub begun : is_begun bank ≡ true

-- Each place that is not staged is blank in the spare bank, and in layout 2 so is the journal behind it.
pub record LeavesBlank (s : BankStage) (bank : Bank) (contents : List ℕ) : Type 0 where
  pub places : (number : ℕ) (p : Place) → place_at s.block_size s.modules.items number ≡ Some p → marked s.map number ≡ false
      → IsBlank contents (spare_bank bank + p.at) p.len
  pub journal : (current_of bank).layout ≡ 2 → IsBlank contents (spare_journal bank) (journal_len (geometry_of bank))

-- each place stands in its own range
pub stands_in_bank : true ≡ true → (s : BankStage) (bank : Bank) (contents : List ℕ) (number : ℕ) (p : Place)
    → (false ≡ true → IsKeptIn bank (outline_in_bank s).places → ⊥) → place_of (outline_in_bank s) number ≡ Some p
    → bytes_in_bank s bank contents number ≡ part contents (spare_bank bank + p.at) p.len
unfolding bytes_in_bank
stands_in_bank is s bank contents number p not_kept at = ap (bytes_from (spare_bank bank) contents) at

-- a stage in the bank keeps nothing of what was staged before it began
pub keeps_nothing : {A : Type 0} → false ≡ true → A
keeps_nothing is = absurd (false≢true is)
