-- What is seen of a stage whose places stand in the spare bank, and in layout 2 are kept by the journal behind it.
use Rattle.std.specs.Prelude.{◌≡◌, ℕ, Bool, List, None, Some}
use Rattle.dsmcc_msg.specs.Control.{DiiFields, dii_message}
use Rattle.flash_bank.specs.Bank.{geometry_of, len_of}
use Rattle.flash_bank.specs.declared.bank.Bank.{Bank}
use Rattle.flash_stage.specs.InBank.{IsBegun, LeavesBlank}
use Rattle.flash_stage.specs.Keeping.{IsKeptIn, StagesJust, StagesNone}
use Rattle.flash_stage.specs.Outline.{Outline}
use Rattle.flash_stage.specs.declared.bank_stage.BankStage.{BankStage}
use Rattle.ssu_group.specs.Map.{marked}
use Rattle.ssu_group.specs.Place.{place_at}
use Rattle.ssu_group.specs.Plan.{laid_out}
use Rattle.ssu_group.specs.Refusal.{refusal}
use Rattle.flash_journal.specs.Texts.{keeps_places, text_of}
use Rattle.flash_journal.specs.declared.journal_stage.JournalStage.{JournalStage}

-- the length of the bank that it was made for
abbrev pub most_in_journal : JournalStage → ℕ
most_in_journal s = s.most

-- the plan of the group that it began, and the message of its DII
abbrev pub outline_in_journal : JournalStage → Outline
outline_in_journal s = record { block_size = s.block_size; modules = s.modules.items; places = s.map.places; total = s.total }

abbrev pub message_in_journal : JournalStage → List ℕ
message_in_journal s = s.message.items

-- Is the place of that number staged?
abbrev pub has_in_journal : JournalStage → ℕ → Bool
has_in_journal s number = marked s.map number

-- the same as a stage that keeps nothing
abbrev pub without_journal : JournalStage → BankStage
without_journal s = record {
  most = s.most;
  block_size = s.block_size;
  modules = s.modules;
  total = s.total;
  map = s.map;
  room = s.room;
  kept = s.modules_room;
}

-- The bytes that stand for a place: where the group is kept those of the bank or of a slot, else its range of the bank.
unfoldable pub bytes_in_journal : JournalStage → Bank → List ℕ → ℕ → List ℕ
bytes_in_journal s bank contents number =
    text_of (keeps_places bank s.map.places) bank contents (place_at s.block_size s.modules.items number)

-- It began a group that fits the bank, which was begun for it: that of the DII that its message spells.
pub record IsBegunFor (s : JournalStage) (bank : Bank) : Type 0 where
  pub begun : IsBegun (without_journal s) bank
  pub keeps : s.keeps ≡ keeps_places bank s.map.places
  pub dii : DiiFields
  pub reads : dii_message.of s.message.items ≡ Some dii
  pub usable : refusal dii (len_of bank) ≡ None
  pub block_size : s.block_size ≡ dii.block_size
  pub modules : s.modules.items ≡ laid_out dii.block_size 0 0 dii.modules

-- Where the group is kept, the flash has staged just the places of the stage; else nothing is staged there, and
-- each place that is not staged is blank.
pub record KeepsPlaces (s : JournalStage) (bank : Bank) (contents : List ℕ) : Type 0 where
  pub kept : IsKeptIn bank s.map.places
      → StagesJust (geometry_of bank) contents s.message.items s.map.places (has_in_journal s) (bytes_in_journal s bank contents)
  pub plain : (IsKeptIn bank s.map.places → ⊥) → LeavesBlank (without_journal s) bank contents
  pub none : (IsKeptIn bank s.map.places → ⊥) → StagesNone (geometry_of bank) contents
