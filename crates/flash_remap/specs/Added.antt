-- What may become of the map once it is prepared: entries are added to it, and nothing else.
use Rattle.std.specs.Prelude.{◌≡◌, ℕ, ◌<◌, false, List, ◌++◌}
use Rattle.std.specs.List.{All}
use Rattle.flash_remap.specs.Layout.{Geometry, slots_in}
use Rattle.flash_remap.specs.Map.{counting, is_blank, slot_bytes}
use Rattle.flash_remap.specs.declared.entry.Entry.{Entry}

-- From x to y the map was only added to: each slot that is not blank stays as it is, and behind the entries that counted stand none
-- but those for one logical block.
pub record AddsFor (g : Geometry) (block : ℕ) (x y : List ℕ) : Type 0 where
  pub used : (slot : ℕ) → slot < slots_in g → is_blank (slot_bytes g x slot) ≡ false → slot_bytes g y slot ≡ slot_bytes g x slot
  pub more : List Entry
  pub entries : counting g y ≡ counting g x ++ more
  pub for_block : All (λ e. e.block ≡ block) more
