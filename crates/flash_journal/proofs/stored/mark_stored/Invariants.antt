use Rattle.std.proofs.Common.{◌≡◌, ◌-◌, ◌<◌, ◌≤◌, ◌||◌, Some, false, ℕ}
use Rattle.bank_kept.specs.Bank.{area_of_bank}
use Rattle.flash_bank.specs.Bank.{IsLent}
use Rattle.flash_journal.specs.Looks.{Looks}
use Rattle.flash_kept.specs.Slots.{is_marked, is_slotted}
use Rattle.ssu_group.specs.Map.{marked}
use Rattle.ssu_group.specs.Place.{place_at}
use Rattle.ssu_group.specs.declared.places.Place.{Place}
use Rattle.flash_journal.proofs.stored.mark_stored.Given as goal

abbrev pub invariant-loop-number : goal.invariant-loop-number
invariant-loop-number g l = record {
  fits : l.number ≤ l.plan.places;
  lent : IsLent g.F.Flash.tells g.F.Flash.contents g.F.Flash.block_count g.F.Flash.block_len l.bank l.flash;
  most : l.map.most ≡ l.fn.map.most;
  places : l.map.places ≡ l.fn.map.places;
  later : (k : ℕ) → l.number ≤ k → k < l.map.places → marked l.map k ≡ false;
  so_far : g.F.Flash.tells → (n : ℕ) (p : Place) → n < l.number → place_at l.plan.block_size l.plan.modules.items n ≡ Some p
      → marked l.map n ≡ (is_marked (area_of_bank l.fn.bank) (g.F.Flash.contents l.fn.flash) n || is_slotted (area_of_bank l.fn.bank) (g.F.Flash.contents l.fn.flash) p);
  looks : Looks g.F.Flash.tells g.F.Flash.contents g.F.Flash.block_count g.F.Flash.block_len g.F.Flash.moment g.F.Flash.left_since l.fn.flash l.fn.bank l.flash l.bank;
  faults : g.F.Flash.faults l.fn.flash ≤ g.F.Flash.faults l.flash;
}

abbrev pub decreases-loop-number : goal.decreases-loop-number
decreases-loop-number g l = l.plan.places - l.number
