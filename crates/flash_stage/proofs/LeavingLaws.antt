-- How the calls of a stage go on from one to the next: what they leave of a flash.
use Rattle.std.proofs.Common.{◌≡◌, inl, inr, ⊎_elim, ℕ, ◌+◌, ◌-◌, ◌*◌, ◌≤◌, List, length, get_or, refl, ap, subst, ◌∙◌, arith}
use Rattle.std.specs.Prelude.{Err, IfOk, Ok, OnOk, Result}
use Rattle.flash_dev.specs.Changes.{Changes, IsBlank, IsProgrammed}
use Rattle.flash_bank.specs.Bank.{Fits, LeavesBegun, LeavesCommitted, LeavesFilled, block_of, current_of, geometry_of, len_of, spare_bank, spare_journal}
use Rattle.flash_layout.specs.Layout.{Geometry, area_len, area_place, journal_len}
use Rattle.flash_bank.specs.Layout.{len_under}
use Rattle.flash_bank.specs.Leaving.{Installs, KeepsBoot}
use Rattle.flash_bank.specs.Record.{next_record}
use Rattle.flash_bank.specs.Sound.{Commits, IsCurrent, boot_of, image_of}
use Rattle.flash_bank.specs.declared.bank.Bank.{Bank}
use Rattle.flash_bank.specs.declared.record.Record.{Record}
use Rattle.flash_bank.proofs.BankLemmas.{front_image, len_less}
use Rattle.flash_bank.proofs.LeavingLemmas.{committed_installs, committed_keeps_boot, filled_keeps_boot, keeps_boot_joined, keeps_then_installs}
use Rattle.flash_layout.proofs.PartLemmas.{part_held}
use Rattle.flash_layout.proofs.Places.{area_within}
use Rattle.ssu_compat.specs.declared.rule.SwId.{SwId}
use Rattle.flash_stage.specs.Leaving.{FinishLeaves, SameBank}

-- what follows from a fact at Ok
pub on_ok : {T E : Type 0} (P Q : Type 0) (r : Result T E) → (P → Q) → OnOk r P → OnOk r Q
on_ok P Q (Ok v) follows is = follows is
on_ok P Q (Err e) follows is = tt

-- a fact of its own, at Ok
pub always_ok : {T E : Type 0} (P : Type 0) (r : Result T E) → P → OnOk r P
always_ok P (Ok v) is = is
always_ok P (Err e) is = tt

-- what follows from a fact of the value at Ok
pub if_ok : {T E : Type 0} (P Q : T → Type 0) (r : Result T E) → ((v : T) → P v → Q v) → IfOk r P → IfOk r Q
if_ok P Q (Ok v) follows is = follows v is
if_ok P Q (Err e) follows is = tt

-- ---- the bank

pub bank_itself : (bank : Bank) → SameBank bank bank
bank_itself bank = record { geometry = refl; current = refl; block = refl }

pub banks_joined : (a b c : Bank) → SameBank a b → SameBank b c → SameBank a c
banks_joined a b c first second = record {
  geometry = second.geometry ∙ first.geometry;
  current = second.current ∙ first.current;
  block = second.block ∙ first.block;
}

-- its length and its spare bank too
pub len_same : (old new : Bank) → SameBank old new → len_of new ≡ len_of old
len_same old new same = (λ i. len_under (same.geometry i) (same.current i))

pub spare_bank_same : (old new : Bank) → SameBank old new → spare_bank new ≡ spare_bank old
spare_bank_same old new same = cc (same.geometry, same.current)

-- ---- `finish`

-- the calls before `finish`, and all that it may leave
pub finish_joined : (g : Geometry) (new : Record) (image x y z : List ℕ) (r : ℕ) → IsCurrent g x r → KeepsBoot g x y → FinishLeaves g new image y z → FinishLeaves g new image x z
finish_joined g new image x y z r current first =
    ⊎_elim (λ keeps. inl (keeps_boot_joined g x y z first keeps)) (λ installs. inr (keeps_then_installs g new image x y z r current first installs))

-- a record is committed or it is not
pub committed_leaves : (bank : Bank) (x : List ℕ) → Fits bank x → (new : Record) (image y : List ℕ) → image_of (geometry_of bank) x new ≡ image → LeavesCommitted bank new x y
    → FinishLeaves (geometry_of bank) new image x y
committed_leaves bank x fits new image y is leaves =
    ⊎_elim (λ keeps. inl (committed_keeps_boot bank x fits new y leaves keeps)) (λ commits. inr (committed_installs bank x fits new image y is leaves commits)) leaves.boot

-- ---- `finish` in three steps, of which each has the bank as the one before left it

-- the front of the erased bank
pub blank_front : (old new : Bank) (c : List ℕ) (n : ℕ) → SameBank old new → n ≤ len_of old → IsBlank c (spare_bank old) (len_of old) → IsBlank c (spare_bank new + 0) n
blank_front old new c n same inside blank k lt =
    let place : spare_bank old + k ≡ spare_bank new + 0 + k = omega (arith, spare_bank_same old new same) in
    subst (λ (p : ℕ). get_or c p 0 ≡ 255) place (blank k (omega arith))

next_same : (old new : Bank) (len : ℕ) (software : SwId) (group : ℕ) → SameBank old new → next_record (current_of new) len software group ≡ next_record (current_of old) len software group
next_same old new len software group same = ap (λ (r : Record). next_record r len software group) same.current

-- within `begin`
pub begin_left : (g : Geometry) (new : Record) (image x y : List ℕ) → LeavesBegun g x y → FinishLeaves g new image x y
begin_left g new image x y leaves = inl leaves.keeps

-- `begin` is past, and left the bank begun
pub record Began (bank begun : Bank) (image x mid : List ℕ) : Type 0 where
  pub fits : Fits bank x
  pub inside : length image ≤ len_of bank
  pub same : SameBank bank begun
  pub leaves : LeavesBegun (geometry_of bank) x mid
  pub begun_fits : Fits begun mid

module _ (bank begun : Bank) (image x mid : List ℕ) (past : Began bank begun image x mid) where
  inside_begun : 0 + length image ≤ len_of begun
  inside_begun = omega (arith, past.inside, len_same bank begun past.same)

  up_to_fill : (y : List ℕ) → LeavesFilled begun 0 image mid y → KeepsBoot (geometry_of bank) x y
  up_to_fill y leaves =
      keeps_boot_joined (geometry_of bank) x mid y past.leaves.keeps
      (subst (λ (g : Geometry). KeepsBoot g mid y) past.same.geometry (filled_keeps_boot begun mid past.begun_fits 0 image y inside_begun leaves))

  -- within `fill`
  pub fill_left : (new : Record) (y : List ℕ) → LeavesFilled begun 0 image mid y → FinishLeaves (geometry_of bank) new image x y
  fill_left new y leaves = inl (up_to_fill y leaves)

-- `fill` is past too, and left the bank filled
pub record Filled (bank begun filled : Bank) (image x mid full : List ℕ) : Type 0 where
  pub past : Began bank begun image x mid
  pub same : SameBank bank filled
  pub leaves : LeavesFilled begun 0 image mid full
  pub done : Changes (spare_bank begun + 0) (length image) (IsProgrammed image) mid full
  pub fits : Fits filled full
  pub journal : (current_of filled).layout ≡ 2 → IsBlank full (spare_journal filled) (journal_len (geometry_of filled))

module _ (bank begun filled : Bank) (image x mid full : List ℕ) (software : SwId) (group : ℕ) (is : Filled bank begun filled image x mid full) where
  -- the record as `commit` names it
  abbrev head : Record
  head = next_record (current_of filled) (length image) software group

  abbrev next : Record
  next = next_record (current_of bank) (length image) software group

  head_is : head ≡ next
  head_is = next_same bank filled (length image) software group is.same

  so_far : KeepsBoot (geometry_of bank) x full
  so_far = up_to_fill bank begun image x mid is.past full is.leaves

  -- the record's bank begins with the image
  image_is : image_of (geometry_of filled) full head ≡ image
  image_is =
      let g = geometry_of filled in
      let place : spare_bank begun + 0 ≡ spare_bank filled = omega (arith, spare_bank_same bank begun is.past.same, spare_bank_same bank filled is.same) in
      let within : area_place g (1 - (current_of filled).bank) + area_len g ≤ g.blocks * g.block_len = area_within g filled.limits (1 - (current_of filled).bank) (omega arith) in
      let short : length image ≤ len_of filled = omega (arith, is.past.inside, len_same bank filled is.same) in
      front_image filled full is.fits head refl refl short is.journal
      ∙ part_held full image (spare_bank filled) (length image) refl (omega (arith, within, short, len_less filled, is.fits.sound.size))
      (λ k lt. subst (λ (p : ℕ). get_or full (p + k) 0 ≡ get_or image k 0) place (is.done.inside k lt))

  -- within `commit`
  pub commit_left : (y : List ℕ) → LeavesCommitted filled head full y → FinishLeaves (geometry_of bank) next image x y
  commit_left y leaves =
      finish_joined (geometry_of bank) next image x full y (block_of bank) is.past.fits.current so_far
      (subst (λ (r : Record). FinishLeaves (geometry_of bank) r image full y) head_is
      (subst (λ (g : Geometry). FinishLeaves g head image full y) is.same.geometry (committed_leaves filled full is.fits head image y image_is leaves)))

  -- and at its end
  pub commit_installs : (y : List ℕ) → LeavesCommitted filled head full y → Commits (geometry_of filled) (boot_of (geometry_of filled) full head) full y
      → Installs (geometry_of bank) next image x y
  commit_installs y leaves commits =
      keeps_then_installs (geometry_of bank) next image x full y (block_of bank) is.past.fits.current so_far
      (subst (λ (r : Record). Installs (geometry_of bank) r image full y) head_is
      (subst (λ (g : Geometry). Installs g head image full y) is.same.geometry (committed_installs filled full is.fits head image y image_is leaves commits)))
