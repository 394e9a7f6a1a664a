use Rattle.std.proofs.Common.{◌≡◌, ◌-◌, ◌*◌, ◌≤◌, ◌++◌, min, ℕ, List, Some}
use Rattle.flash_bank.specs.Bank.{IsLent}
use Rattle.flash_journal.specs.Looks.{Looks}
use Rattle.flash_journal.specs.Texts.{text_of}
use Rattle.ssu_group.specs.Carried.{joined}
use Rattle.ssu_group.specs.Place.{place_in}
use Rattle.ts_crc.specs.Crc.{crc_of}
use Rattle.flash_journal.proofs.texts.push_module.Given as goal

abbrev pub invariant-loop-block : goal.invariant-loop-block
invariant-loop-block g l = record {
  fits : l.block ≤ l.module.blocks;
  done : l.done ≡ min l.module.size (l.block * l.block_size);
  lent : IsLent g.F.Flash.tells g.F.Flash.contents g.F.Flash.block_count g.F.Flash.block_len l.bank l.flash;
  so_far : g.F.Flash.tells → (before : List ℕ) → l.fn.register ≡ crc_of before
      → l.register ≡ crc_of (before ++ joined (λ k. text_of l.keeps l.fn.bank (g.F.Flash.contents l.fn.flash) (Some (place_in l.block_size l.module k))) l.block);
  looks : Looks g.F.Flash.tells g.F.Flash.contents g.F.Flash.block_count g.F.Flash.block_len g.F.Flash.moment g.F.Flash.left_since l.fn.flash l.fn.bank l.flash l.bank;
  faults : g.F.Flash.faults l.fn.flash ≤ g.F.Flash.faults l.flash;
}

abbrev pub decreases-loop-block : goal.decreases-loop-block
decreases-loop-block g l = l.module.blocks - l.block
