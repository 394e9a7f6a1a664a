-- What the calls of a bank leave of what its flash holds of a group: nothing more.
use Rattle.std.proofs.Common.{◌≡◌, inl, inr, ⊎_elim, ℕ, ◌+◌, ◌-◌, ◌≤◌, List, length, sym, ap, subst, ◌∙◌, arith}
use Rattle.bank_kept.specs.Contents.{HoldsGroup}
use Rattle.bank_kept.specs.Leaving.{HoldsNoMore}
use Rattle.bank_kept.proofs.AreaLaws.{area_by, area_order, is_area}
use Rattle.bank_kept.proofs.BankLaws.{committed_area}
use Rattle.bank_kept.proofs.CallLaws.{begun_holds, committed_none, erased_none, joined_holds, same_holds}
use Rattle.dsmcc_msg.specs.Control.{DiiFields}
use Rattle.flash_bank.specs.Bank.{Fits, LeavesBegun, LeavesCommitted, LeavesFilled, block_of, current_of, geometry_of, len_of, spare_bank, spare_journal}
use Rattle.flash_bank.specs.Record.{next_record}
use Rattle.flash_bank.specs.Sound.{Commits, Keeps, boot_of}
use Rattle.flash_bank.specs.declared.bank.Bank.{Bank}
use Rattle.flash_bank.specs.declared.record.Record.{Record}
use Rattle.flash_bank.proofs.BankLemmas.{still_blank_journal}
use Rattle.flash_bank.proofs.LeavingLemmas.{head_still}
use Rattle.flash_dev.specs.Changes.{Changes, IsBlank, IsTornProgram}
use Rattle.flash_kept.specs.Leaving.{SameArea}
use Rattle.flash_kept.specs.SpareArea.{SpareArea}
use Rattle.flash_layout.specs.Layout.{Geometry, journal_len, journal_place}
use Rattle.ssu_compat.specs.declared.rule.SwId.{SwId}

-- one call after another
pub joined_no_more : (g : Geometry) (x y z : List ℕ) → HoldsNoMore g x y → HoldsNoMore g y z → HoldsNoMore g x z
joined_no_more g x y z first second = joined_holds g x y z first second

-- no call
pub same_no_more : (g : Geometry) (x : List ℕ) → HoldsNoMore g x x
same_no_more g x message n b holds = holds

-- nothing at all is held in y
none_more : (g : Geometry) (x y : List ℕ) → ((message : List ℕ) (dii : DiiFields) → HoldsGroup g y message dii → ⊥) → HoldsNoMore g x y
none_more g x y none message n b holds = absurd (none message holds.held.dii (record { area = holds.area; spare = holds.spare; held = holds.held.under }))

-- within `begin`
pub begun_no_more : (bank : Bank) (x y : List ℕ) → Fits bank x → LeavesBegun (geometry_of bank) x y → HoldsNoMore (geometry_of bank) x y
begun_no_more bank x y fits leaves = begun_holds (geometry_of bank) x y (block_of bank) bank.limits fits.sound fits.current leaves

-- where boot takes what it took, and in layout 2 the spare journal is erased
pub erased_no_more : (bank : Bank) (w x y : List ℕ) → Fits bank x → Keeps (geometry_of bank) x y
    → ((current_of bank).layout ≡ 2 → IsBlank y (spare_journal bank) (journal_len (geometry_of bank))) → HoldsNoMore (geometry_of bank) w y
erased_no_more bank w x y fits keeps blank = none_more (geometry_of bank) w y (λ message dii holds.
    let g = geometry_of bank in
    let r = block_of bank in
    let current = keeps.current r fits.current in
    let head = head_still g x y r keeps fits.current ∙ fits.head in
    let is = is_area g y r holds.area current holds.spare in
    let order = area_order g y holds.area bank.limits holds.spare in
    let some : 2 ≤ journal_len g = omega (arith, order.ends, ap (λ (a : SpareArea). a.journal_len) is.is) in
    let erased = blank (ap (λ (h : Record). h.layout) (sym head) ∙ is.two) in
    erased_none g y r bank.limits current
    (subst (λ (h : Record). IsBlank y (journal_place g (1 - h.bank)) 2) (sym head) (λ k lt. erased k (omega (arith, lt, some)))) message dii holds)

-- `fill` into the bank before a journal that is erased
pub filled_no_more : (bank : Bank) (at : ℕ) (bytes w x y : List ℕ) → Fits bank x → at + length bytes ≤ len_of bank
    → ((current_of bank).layout ≡ 2 → IsBlank x (spare_journal bank) (journal_len (geometry_of bank))) → LeavesFilled bank at bytes x y → HoldsNoMore (geometry_of bank) w y
filled_no_more bank at bytes w x y fits inside blank leaves =
    erased_no_more bank w x y fits leaves.keeps.keeps (λ two. still_blank_journal bank two at (length bytes) (IsTornProgram bytes) x y inside leaves.changes (blank two))

-- within `commit`, and after it
module _ (bank : Bank) (len : ℕ) (software : SwId) (group : ℕ) (x y : List ℕ) (fits : Fits bank x) where
  abbrev g : Geometry
  g = geometry_of bank

  abbrev new : Record
  new = next_record (current_of bank) len software group

  kept : LeavesCommitted bank new x y → Keeps g x y → HoldsNoMore g x y
  kept leaves keeps = same_holds g x y (block_of bank) bank.limits fits.sound fits.current keeps
      (λ two. subst (λ (a : SpareArea). SameArea a x y) (ap (area_by g) (sym fits.head)) (committed_area bank new x y leaves))

  installed : Commits g (boot_of g x new) x y → HoldsNoMore g x y
  installed commits = none_more g x y (committed_none g (boot_of g x new) x y (block_of bank) bank.limits fits.current
      (ap (λ (h : Record). h.number + 1) (sym fits.head)) (ap (λ (h : Record). 1 - h.bank) (sym fits.head)) commits)

  pub committed_no_more : LeavesCommitted bank new x y → HoldsNoMore g x y
  committed_no_more leaves = ⊎_elim (kept leaves) installed leaves.boot
