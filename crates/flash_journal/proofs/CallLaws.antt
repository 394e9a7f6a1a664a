-- What `resume`, `commit` and `forget` leave of what is held and staged.
use Rattle.std.proofs.Common.{◌≡◌, ℕ, ◌+◌, ◌-◌, ◌<◌, ◌≤◌, List, get_or, refl, sym, ap, subst, ◌∙◌, arith}
use Rattle.std.specs.Prelude.{Err, Ok, OnOk, Result}
use Rattle.bank_kept.proofs.AreaLaws.{is_area, one_area}
use Rattle.bank_kept.proofs.BankLaws.{bank_area, committed_area, resumed_area}
use Rattle.bank_kept.proofs.CallLaws.{all_kept, forgotten_holds, same_holds}
use Rattle.bank_kept.specs.Bank.{area_of_bank}
use Rattle.bank_kept.specs.Contents.{HasSpareArea, spare_of}
use Rattle.bank_kept.specs.Leaving.{HoldsNoMore, KeepsStaged}
use Rattle.flash_bank.specs.Bank.{Fits, LeavesCommitted, block_of, current_of, geometry_of, spare_journal}
use Rattle.flash_bank.specs.Journal.{LeavesForgotten, LeavesResumed}
use Rattle.flash_bank.specs.Runs.{IsRaised}
use Rattle.flash_bank.specs.Sound.{Keeps}
use Rattle.flash_bank.specs.declared.bank.Bank.{Bank}
use Rattle.flash_bank.specs.declared.record.Record.{Record}
use Rattle.flash_dev.specs.Changes.{Changes, IsBlank, IsErased}
use Rattle.flash_kept.specs.Leaving.{SameArea}
use Rattle.flash_kept.specs.SpareArea.{SpareArea}
use Rattle.flash_layout.specs.Layout.{Geometry, journal_place}
use Rattle.flash_stage.specs.Keeping.{StagesNone}
use Rattle.flash_stage.specs.Leaving.{SameBank}
use Rattle.flash_journal.proofs.PlainLaws.{blank_stages_none}

module _ (bank : Bank) (x y : List ℕ) (fits : Fits bank x) where
  -- the one area is that of the bank
  same_area : SameArea (area_of_bank bank) x y → (area : SpareArea) → HasSpareArea (geometry_of bank) x area → SameArea area x y
  same_area same area has =
      let is = is_area (geometry_of bank) x (block_of bank) area fits.current has in
      let two : (current_of bank).layout ≡ 2 = ap (λ (h : Record). h.layout) (sym fits.head) ∙ is.two in
      subst (λ (a : SpareArea). SameArea a x y) (one_area (geometry_of bank) x (area_of_bank bank) area (bank_area bank x fits two) has) same

  pub committed_keeps_area : (new : Record) → LeavesCommitted bank new x y → Keeps (geometry_of bank) x y → KeepsStaged (geometry_of bank) 0 0 x y
  committed_keeps_area new leaves keeps = all_kept (geometry_of bank) x y bank.limits keeps (same_area (committed_area bank new x y leaves))

  pub resumed_keeps : LeavesResumed bank x y → KeepsStaged (geometry_of bank) 0 0 x y
  resumed_keeps leaves = all_kept (geometry_of bank) x y bank.limits leaves.keeps (same_area (resumed_area bank x y leaves))

  pub resumed_no_more : LeavesResumed bank x y → HoldsNoMore (geometry_of bank) x y
  resumed_no_more leaves =
      same_holds (geometry_of bank) x y (block_of bank) bank.limits fits.sound fits.current leaves.keeps
      (λ is. same_area (resumed_area bank x y leaves) (spare_of (geometry_of bank) x (block_of bank)) (record { block = block_of bank; current = fits.current; two = is; is = refl }))

  pub forgot_no_more : LeavesForgotten bank x y → HoldsNoMore (geometry_of bank) x y
  forgot_no_more leaves =
      forgotten_holds (geometry_of bank) x y (block_of bank) bank.limits fits.sound fits.current leaves.keeps.keeps
      (subst (λ (h : Record). Changes (journal_place (geometry_of bank) (1 - h.bank)) (geometry_of bank).block_len IsRaised x y) (sym fits.head) leaves.changes)

pub committed_keeps : (bank : Bank) (new : Record) (x y : List ℕ) → Fits bank x → LeavesCommitted bank new x y → Keeps (geometry_of bank) x y → KeepsStaged (geometry_of bank) 0 0 x y
committed_keeps bank new x y fits leaves keeps = committed_keeps_area bank x y fits new leaves keeps

-- the first bytes of an erased block
pub erased_two : (bank : Bank) (x y : List ℕ) → Changes (spare_journal bank) (geometry_of bank).block_len IsErased x y → IsBlank y (spare_journal bank) 2
erased_two bank x y changes k lt = let least = bank.limits.least_len in changes.inside k (omega (arith, lt, least))

pub forgot_none : {T E : Type 0} (old new : Bank) (x y : List ℕ) (r : Result T E) → SameBank old new → OnOk r (Changes (spare_journal old) (geometry_of old).block_len IsErased x y) → OnOk r (Fits new y)
    → OnOk r (StagesNone (geometry_of old) y)
forgot_none old new x y (Ok v) same changes fits =
    let place : spare_journal old ≡ spare_journal new = sym (λ i. journal_place (same.geometry i) (1 - (same.current i).bank)) in
    subst (λ (g : Geometry). StagesNone g y) same.geometry (blank_stages_none new y fits (λ two. subst (λ (p : ℕ). IsBlank y p 2) place (erased_two old x y changes)))
forgot_none old new x y (Err e) same changes fits = tt
