-- Calls that only look, one after another.
use Rattle.std.proofs.Common.{◌≡◌, ℕ, ◌-◌, List, refl, ap, ◌∙◌}
use Rattle.flash_bank.specs.Bank.{current_of, geometry_of}
use Rattle.flash_bank.specs.Layout.{len_under}
use Rattle.flash_bank.specs.declared.bank.Bank.{Bank}
use Rattle.flash_bank.proofs.ReadsLemmas.{reads_joined, reads_none}
use Rattle.flash_journal.specs.Looks.{Looks}
use Rattle.flash_journal.specs.Side.{side_len, side_place}
use Rattle.flash_journal.specs.declared.side.Side.{Side}
use Rattle.flash_journal.specs.declared.side.Side.TheVariants.{InBank, InJournal}
use Rattle.flash_layout.specs.Layout.{Geometry, area_place, journal_len, journal_place}

module _ {F : Type 0} (tells : Type 0) (contents : F → List ℕ) (block_count block_len moment : F → ℕ) (left_since : F → ℕ → List ℕ → Type 0) where
  abbrev L : F → Bank → F → Bank → Type 0
  L old before new after = Looks tells contents block_count block_len moment left_since old before new after

  pub looks_none : (old : F) (bank : Bank) → ((c : List ℕ) → left_since old (moment old) c → c ≡ contents old) → L old bank old bank
  looks_none old bank only_now = record {
    reads = reads_none tells contents block_count block_len moment left_since old only_now;
    geometry = refl;
    current = refl;
    block = refl;
    begun = refl;
  }

  pub looks_joined : (old mid new : F) (a b c : Bank) → L old a mid b → L mid b new c → L old a new c
  looks_joined old mid new a b c first second = record {
    reads = reads_joined tells contents block_count block_len moment left_since old mid new first.reads second.reads;
    geometry = second.geometry ∙ first.geometry;
    current = second.current ∙ first.current;
    block = second.block ∙ first.block;
    begun = second.begun ∙ first.begun;
  }

-- a part of the same bank
pub side_place_same : (side : Side) (a b : Bank) → geometry_of b ≡ geometry_of a → current_of b ≡ current_of a → side_place side b ≡ side_place side a
side_place_same InBank a b geometry current = (λ i. area_place (geometry i) (1 - (current i).bank))
side_place_same InJournal a b geometry current = (λ i. journal_place (geometry i) (1 - (current i).bank))

pub side_len_same : (side : Side) (a b : Bank) → geometry_of b ≡ geometry_of a → current_of b ≡ current_of a → side_len side b ≡ side_len side a
side_len_same InBank a b geometry current = (λ i. len_under (geometry i) (current i))
side_len_same InJournal a b geometry current = ap (λ (g : Geometry). journal_len g) geometry
