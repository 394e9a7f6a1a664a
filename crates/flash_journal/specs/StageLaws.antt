-- Whether a group is kept, and where its places stand if it is not.
use Rattle.std.specs.Prelude.{◌≡◌, ◌==◌, ℕ, ◌+◌, Bool, true, false, List, Some, refl}
use Rattle.std.proofs.Common.{ap, ◌∙◌}
use Rattle.std.proofs.lemmas.Bool.{eqb-true, leb-true}
use Rattle.flash_bank.specs.Bank.{current_of, geometry_of, spare_bank}
use Rattle.flash_bank.specs.declared.bank.Bank.{Bank}
use Rattle.flash_kept.proofs.CountLaws.{and_left, and_right}
use Rattle.flash_layout.specs.Layout.{mark_count}
use Rattle.flash_layout.specs.Pairs.{part}
use Rattle.flash_stage.specs.Keeping.{IsKeptIn}
use Rattle.flash_stage.specs.Outline.{place_of}
use Rattle.ssu_group.specs.Place.{place_at}
use Rattle.ssu_group.specs.declared.places.Place.{Place}
use Rattle.flash_journal.specs.InJournal.{bytes_in_journal, outline_in_journal}
use Rattle.flash_journal.specs.Texts.{keeps_places, text_of}
use Rattle.flash_journal.specs.declared.journal_stage.JournalStage.{JournalStage}

-- the test says that it is
pub kept_from : (bank : Bank) (places : ℕ) → keeps_places bank places ≡ true → IsKeptIn bank places
kept_from bank places is = record {
  two = eqb-true (current_of bank).layout 2 (and_left _ _ is);
  few = leb-true places (mark_count (geometry_of bank)) (and_right ((current_of bank).layout == 2) _ is);
}

-- or that it is not
pub not_kept : (bank : Bank) (places : ℕ) → (IsKeptIn bank places → ⊥) → keeps_places bank places ≡ false
not_kept bank places never = by_test (keeps_places bank places) refl
  where
    by_test : (b : Bool) → keeps_places bank places ≡ b → keeps_places bank places ≡ false
    by_test true is = absurd (never (kept_from bank places is))
    by_test false is = is

-- each place of one that is not stands in its own range
pub stands_in_bank_else : true ≡ true → (s : JournalStage) (bank : Bank) (contents : List ℕ) (number : ℕ) (p : Place)
    → (true ≡ true → IsKeptIn bank (outline_in_journal s).places → ⊥) → place_of (outline_in_journal s) number ≡ Some p
    → bytes_in_journal s bank contents number ≡ part contents (spare_bank bank + p.at) p.len
unfolding bytes_in_journal
stands_in_bank_else is s bank contents number p never at =
    ap (λ (k : Bool). text_of k bank contents (place_at s.block_size s.modules.items number)) (not_kept bank s.map.places (never refl))
    ∙ ap (text_of false bank contents) at
