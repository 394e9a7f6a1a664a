-- What follows for the flash as it was before it was opened.
use Rattle.std.proofs.Common.{◌≡◌, inl, ℕ, List, [], Option, sym, ap, subst, ◌∙◌}
use Rattle.box_file.specs.declared.file.BoxFile.{BoxFile}
use Rattle.flash_dev.specs.declared.device.Flash.{Ghosts as FlashGhosts}
use Rattle.flash_dev.specs.Moments.{LeavesOnly}
use Rattle.flash_dev.proofs.Moments.{joined}
use Rattle.flash_bank.specs.Bank.{current_of, geometry_of}
use Rattle.flash_layout.specs.Layout.{Geometry, blocks_of}
use Rattle.flash_bank.specs.Runs.{OnlyReads}
use Rattle.flash_bank.specs.Seen.{flash_seen}
use Rattle.flash_bank.specs.Sound.{Boot, BootOf, IsSound}
use Rattle.flash_bank.specs.declared.record.Record.{Record}
use Rattle.flash_bank.proofs.LeavingLemmas.{keeps_boot_same}
use Rattle.flash_stage.specs.declared.stage.Stage.{Ghosts as StageGhosts}
use Rattle.route_tables.specs.Values.{Receiver}
use Rattle.ssu_loader.specs.declared.loader.Loader.{Loader}
use Rattle.ssu_loader.specs.Loading.{Follows, bank_of, receiver_in}
use Rattle.ssu_loader.specs.Opening.{opening_of}
use Rattle.ssu_loader.specs.Replaying.{AsBox, receiver_at, receiver_under}
use Rattle.ssu_loader.specs.Replays.{ReplayLeaves}
use Rattle.ssu_loader.proofs.KeepingLaws.{head_is}
use Rattle.ssu_loader.proofs.LeftLaws.{left_read}

-- The loader was opened for this box with a flash that was only read.
module _ {S F : Type 0} (s : StageGhosts S) (f : FlashGhosts F) (file : BoxFile) (loader : Loader S) (old opened new : F)
    (follows : Follows s f (receiver_in s.KEEPS file loader (f.contents old)) [] loader opened) (is : geometry_of (bank_of loader) ≡ blocks_of f old)
    (reads : OnlyReads f.tells f.contents f.block_count f.block_len f.moment f.left_since old opened) where
  abbrev current : Record
  current = current_of (bank_of loader)

  -- boot takes the record of the bank
  head_of : f.tells → (before : Boot) → BootOf (blocks_of f old) (f.contents old) before → before.head ≡ current_of (bank_of loader)
  head_of tells before boot =
      let same : f.contents opened ≡ f.contents old = reads.same tells in
      let from : BootOf (geometry_of (bank_of loader)) (f.contents opened) before =
      subst (λ (c : List ℕ). BootOf (geometry_of (bank_of loader)) c before) (sym same) (subst (λ (g : Geometry). BootOf g (f.contents old) before) (sym is) boot) in
      head_is (bank_of loader) (f.contents opened) before (follows.collects.gathers.lent.fits tells) from

  -- the box is the one that was opened
  receiver_is : f.tells → (before : Boot) → BootOf (blocks_of f old) (f.contents old) before
      → receiver_in s.KEEPS file loader (f.contents old) ≡ receiver_at s.KEEPS file (flash_seen f old new) before
  receiver_is tells before boot =
      ap (λ (g : Geometry). receiver_under file g current (opening_of s.KEEPS g current (f.contents old))) is
      ∙ ap (λ (h : Record). receiver_under file (blocks_of f old) h (opening_of s.KEEPS (blocks_of f old) h (f.contents old))) (sym (head_of tells before boot))

  -- what holds of the box that was opened holds of the box with the flash as it was
  pub as_box : (Fact : Receiver → Type 0) → Fact (receiver_in s.KEEPS file loader (f.contents old)) → AsBox s.KEEPS file (flash_seen f old new) Fact
  as_box Fact holds = record {
    current = current;
    boots = head_of;
    fact = subst (λ (g : Geometry). Fact (receiver_under file g current (opening_of s.KEEPS g current (f.contents old)))) is holds;
  }

  -- and so does what holds of the open flash, where contents are told
  pub of_opened : f.tells → (P : Geometry → List ℕ → Type 0) → P (geometry_of (bank_of loader)) (f.contents opened) → P (blocks_of f old) (f.contents old)
  of_opened tells P holds = subst (P (blocks_of f old)) (reads.same tells) (subst (λ (g : Geometry). P g (f.contents opened)) is holds)

  pub of_former : f.tells → (before : Boot) → BootOf (blocks_of f old) (f.contents old) before → (P : Receiver → Geometry → List ℕ → Type 0)
      → ((me : Receiver) → Follows s f me [] loader opened → P me (geometry_of (bank_of loader)) (f.contents opened))
      → P (receiver_at s.KEEPS file (flash_seen f old new) before) (blocks_of f old) (f.contents old)
  of_former tells before boot P holds =
      of_opened tells (P (receiver_at s.KEEPS file (flash_seen f old new) before))
      (subst (λ (you : Receiver). P you (geometry_of (bank_of loader)) (f.contents opened)) (receiver_is tells before boot) (holds (receiver_in s.KEEPS file loader (f.contents old)) follows))

  pub left_opened : (left left_after : Option (List ℕ)) → f.tells → IsSound (blocks_of f old) (f.contents old) → (before : Boot) → BootOf (blocks_of f old) (f.contents old) before
      → ((me : Receiver) → Follows s f me [] loader opened
      → LeavesOnly f.moment f.left_since opened new (ReplayLeaves me left left_after (geometry_of (bank_of loader)) (f.contents opened)))
      → LeavesOnly f.moment f.left_since old new (ReplayLeaves (receiver_at s.KEEPS file (flash_seen f old new) before) left left_after (blocks_of f old) (f.contents old))
  left_opened left left_after tells sound before boot during =
      let P : List ℕ → Type 0 = ReplayLeaves (receiver_at s.KEEPS file (flash_seen f old new) before) left left_after (blocks_of f old) (f.contents old) in
      joined f.moment f.left_since old opened new P
      (left_read f old opened P tells reads (inl (keeps_boot_same (blocks_of f old) (f.contents old) sound)))
      (of_former tells before boot (λ you g x. LeavesOnly f.moment f.left_since opened new (ReplayLeaves you left left_after g x)) during)
