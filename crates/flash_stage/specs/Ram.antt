-- What is seen of a stage in memory.
use Rattle.std.specs.Prelude.{◌≡◌, ℕ, ◌≤◌, Bool, false, true, List}
use Rattle.std.proofs.lemmas.Bool.{false≢true}
use Rattle.flash_bank.specs.Bank.{len_of}
use Rattle.flash_bank.specs.declared.bank.Bank.{Bank}
use Rattle.group_image.specs.Image.{bytes_of, is_there}
use Rattle.ssu_group.specs.Place.{place_at}
use Rattle.ssu_group.specs.Plan.{IsPlan}
use Rattle.flash_stage.specs.Outline.{Outline}
use Rattle.flash_stage.specs.declared.ram_stage.RamStage.{RamStage}

-- the length of the bank that it was made for
abbrev pub most_of : RamStage → ℕ
most_of s = s.most

-- the plan of the group that it began
abbrev pub outline_in : RamStage → Outline
outline_in s = record { block_size = s.block_size; modules = s.modules.items; places = s.image.map.places; total = s.image.total }

-- Is the place of that number staged?
abbrev pub has_in : RamStage → ℕ → Bool
has_in s number = is_there s.image number

-- the bytes that stand for a place: it looks at no flash
unfoldable pub bytes_in : RamStage → Bank → List ℕ → ℕ → List ℕ
bytes_in s bank contents number = bytes_of s.image.buffer (place_at s.block_size s.modules.items number)

-- It began a group that fits the bank.
pub record IsStarted (s : RamStage) (bank : Bank) : Type 0 where
  pub planned : IsPlan s.block_size s.modules.items s.image.map.places s.image.total
  pub fits : s.image.total ≤ len_of bank

-- what stands for a place is not in the bank
pub not_in_bank : {A : Type 0} → false ≡ true → A
not_in_bank is = absurd (false≢true is)
