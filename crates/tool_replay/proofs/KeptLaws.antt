-- What a replay leaves of a flash, for the box that the shelf told, and that it is a step of a life.
use Rattle.std.proofs.Common.{◌≡◌, ◌⊎◌, ⊎_elim, inl, inr, ℕ, Bool, List, refl, subst, sym}
use Rattle.box_file.specs.declared.file.BoxFile.{BoxFile}
use Rattle.flash_layout.specs.Layout.{blocks_of}
use Rattle.flash_bank.specs.Seen.{FlashSeen, flash_seen}
use Rattle.flash_bank.specs.Sound.{Boot, IsSound}
use Rattle.flash_dev.specs.declared.device.Flash.{Ghosts as FlashGhosts}
use Rattle.flash_dev.proofs.Moments.{started, weaker}
use Rattle.flash_dev.specs.Moments.{LeavesOnly}
use Rattle.ssu_io.specs.Seen.{ShelfSeen, SourceSeen}
use Rattle.ssu_loader.specs.Lasting.{BreaksLasting, TakesLasting}
use Rattle.ssu_loader.specs.Life.{LeavesStep}
use Rattle.ssu_loader.specs.Replaying.{AsBox, AtAnyMoment, IsNotBegun, receiver_at}
use Rattle.flash_bank.specs.Leaving.{KeepsBoot}
use Rattle.ssu_loader.specs.Replays.{ReplayLeaves}
use Rattle.flash_bank.proofs.LeavingLemmas.{keeps_boot_same}
use Rattle.tool_box.specs.Boxes.{TellsBox}
use Rattle.tool_replay.specs.Answers.{BreaksForBox, InstallsForBox, LastsForBox, StepsForBox}

module _ {F : Type 0} (keeps : Bool) (f : FlashGhosts F) (shelf : ShelfSeen) (air : SourceSeen) (old new : F) (former : Boot) where
  abbrev Leaves : List ℕ → Type 0
  Leaves left = KeepsBoot (blocks_of f old) (f.contents old) left ⊎ InstallsForBox keeps shelf air (flash_seen f old new) former left

  -- what a replay leaves, it leaves for the box that the shelf told
  pub holds_for : (box_file : BoxFile) (left : List ℕ) → TellsBox shelf.held box_file
      → ReplayLeaves (receiver_at keeps box_file (flash_seen f old new) former) air.left air.left_after (blocks_of f old) (f.contents old) left → Leaves left
  holds_for box_file left told = ⊎_elim (λ kept. inl kept)
      (λ taken. inr (record { box_file = box_file; told = told; chosen = taken.0; installs = taken.1 }))

  pub leaves_for : (box_file : BoxFile) → TellsBox shelf.held box_file
      → AtAnyMoment (flash_seen f old new) (ReplayLeaves (receiver_at keeps box_file (flash_seen f old new) former) air.left air.left_after (blocks_of f old) (f.contents old))
      → AtAnyMoment (flash_seen f old new) Leaves
  leaves_for box_file told at = record {
    left = weaker f.moment f.left_since old new (ReplayLeaves (receiver_at keeps box_file (flash_seen f old new) former) air.left air.left_after (blocks_of f old) (f.contents old)) Leaves
        (λ c leaves. holds_for box_file c told leaves) at.left;
    held = holds_for box_file (f.contents new) told at.held;
  }

-- nothing was called
pub leaves_same : {F : Type 0} (keeps : Bool) (f : FlashGhosts F) (shelf : ShelfSeen) (air : SourceSeen) (flash : F) (former : Boot)
    → ((c : List ℕ) → f.left_since flash (f.moment flash) c → c ≡ f.contents flash) → IsSound (blocks_of f flash) (f.contents flash)
    → AtAnyMoment (flash_seen f flash flash) (Leaves keeps f shelf air flash flash former)
leaves_same keeps f shelf air flash former only_now sound =
    let same : Leaves keeps f shelf air flash flash former (f.contents flash) = inl (keeps_boot_same (blocks_of f flash) (f.contents flash) sound) in
    record {
      left = started f.moment f.left_since flash (Leaves keeps f shelf air flash flash former) (λ c now. subst (Leaves keeps f shelf air flash flash former) (sym (only_now c now)) same);
      held = same;
    }

-- ---- steps of a life

module _ {F : Type 0} (keeps : Bool) (f : FlashGhosts F) (shelf : ShelfSeen) (air : SourceSeen) (old new : F) (former : Boot) where
  abbrev Stepped : List ℕ → Type 0
  Stepped left = (left ≡ f.contents old) ⊎ StepsForBox keeps shelf air (flash_seen f old new) former left

  abbrev Steps : BoxFile → List ℕ → Type 0
  Steps box_file left = LeavesStep box_file keeps air.left air.left_after (blocks_of f old) former (f.contents old) left

  pub steps_for : (box_file : BoxFile) → TellsBox shelf.held box_file → Steps box_file (f.contents new)
      → LeavesOnly f.moment f.left_since old new (Steps box_file) → AtAnyMoment (flash_seen f old new) Stepped
  steps_for box_file told held left = record {
    left = weaker f.moment f.left_since old new (Steps box_file) Stepped (λ c step. inr (record { box_file = box_file; told = told; step = step })) left;
    held = inr (record { box_file = box_file; told = told; step = held });
  }

-- nothing was called
pub steps_same : {F : Type 0} (keeps : Bool) (f : FlashGhosts F) (shelf : ShelfSeen) (air : SourceSeen) (flash : F) (former : Boot)
    → ((c : List ℕ) → f.left_since flash (f.moment flash) c → c ≡ f.contents flash)
    → AtAnyMoment (flash_seen f flash flash) (Stepped keeps f shelf air flash flash former)
steps_same keeps f shelf air flash former only_now =
    record {
      left = started f.moment f.left_since flash (Stepped keeps f shelf air flash flash former) (λ c now. inl (only_now c now));
      held = inl refl;
    }

-- ---- what was staged

module _ {F : Type 0} (keeps : Bool) (f : FlashGhosts F) (shelf : ShelfSeen) (air : SourceSeen) (old new : F) (former : Boot) where
  abbrev Lasted : ℕ → List ℕ → Type 0
  Lasted n left = (left ≡ f.contents old) ⊎ LastsForBox n keeps shelf air (flash_seen f old new) former left

  abbrev Takes : BoxFile → ℕ → List ℕ → Type 0
  Takes box_file n left = TakesLasting n (receiver_at keeps box_file (flash_seen f old new) former) air.left air.left_after (blocks_of f old) (f.contents old) left

  pub lasts_now : (box_file : BoxFile) → TellsBox shelf.held box_file → (n : ℕ) (left : List ℕ) → Takes box_file n left → Lasted n left
  lasts_now box_file told n left takes = inr (record { box_file = box_file; told = told; takes = takes })

  pub lasts_for : (box_file : BoxFile) → TellsBox shelf.held box_file → AtAnyMoment (flash_seen f old new) (Takes box_file 1)
      → AtAnyMoment (flash_seen f old new) (Lasted 1)
  lasts_for box_file told at = record {
    left = weaker f.moment f.left_since old new (Takes box_file 1) (Lasted 1) (λ c takes. lasts_now box_file told 1 c takes) at.left;
    held = lasts_now box_file told 1 (f.contents new) at.held;
  }

-- nothing was called
pub lasts_same : {F : Type 0} (keeps : Bool) (f : FlashGhosts F) (shelf : ShelfSeen) (air : SourceSeen) (flash : F) (former : Boot)
    → ((c : List ℕ) → f.left_since flash (f.moment flash) c → c ≡ f.contents flash)
    → AtAnyMoment (flash_seen f flash flash) (Lasted keeps f shelf air flash flash former 1)
lasts_same keeps f shelf air flash former only_now =
    record {
      left = started f.moment f.left_since flash (Lasted keeps f shelf air flash flash former 1) (λ c now. inl (only_now c now));
      held = inl refl;
    }

-- where the flash failed at a packet
pub breaks_for : (keeps : Bool) (shelf : ShelfSeen) (air : SourceSeen) (flash : FlashSeen) (box_file : BoxFile) → TellsBox shelf.held box_file
    → IsNotBegun air flash ⊎ AsBox keeps box_file flash (λ me. BreaksLasting me air.left air.left_after flash.blocks flash.contents flash.contents_after)
    → IsNotBegun air flash ⊎ BreaksForBox keeps shelf air flash
breaks_for keeps shelf air flash box_file told =
    ⊎_elim (λ unbegun. inl unbegun) (λ breaks. inr (record { box_file = box_file; told = told; breaks = breaks }))
