-- How what the calls of a bank leave goes on from one call to the next.
use Rattle.std.proofs.Common.{◌≡◌, inl, inr, ⊎_elim, ℕ, ◌+◌, ◌-◌, ◌*◌, ◌<◌, ◌≤◌, List, length, get_or, refl, sym, ap, subst, ◌∙◌, arith}
use Rattle.flash_dev.specs.Changes.{Changes}
use Rattle.flash_bank.specs.Bank.{Fits, LeavesCommitted, LeavesFilled, current_of, geometry_of, len_of, spare_bank, spare_journal, spare_record}
use Rattle.flash_layout.specs.Journal.{header_written}
use Rattle.flash_layout.specs.Layout.{Geometry, area_len, area_place, journal_len, mark_count}
use Rattle.flash_layout.specs.Pairs.{paired}
use Rattle.flash_layout.specs.Slots.{slot_written}
use Rattle.flash_layout.proofs.PairsLemmas.{length-paired}
use Rattle.flash_layout.proofs.Places.{area_is, first_before_slots, marks_before_slots, slots_before_end}
use Rattle.flash_bank.specs.Journal.{LeavesForgotten, LeavesMarked, LeavesPut, LeavesResumed, slot_place}
use Rattle.flash_bank.specs.Leaving.{Installs, KeepsBoot, SameOutsideSpare}
use Rattle.flash_bank.specs.Runs.{IsOutside}
use Rattle.flash_bank.specs.Sound.{Boot, BootOf, Commits, IsCurrent, IsSound, Keeps, PrevOf, boot_in, boot_of, image_of, record_in}
use Rattle.flash_bank.specs.declared.bank.Bank.{Bank}
use Rattle.flash_bank.specs.declared.record.Record.{Record}
use Rattle.flash_bank.proofs.BankLemmas.{len_less, outside_spare}
use Rattle.flash_bank.proofs.ClearLemmas.{change_outside}
use Rattle.flash_bank.proofs.SoundLemmas.{keeps_joined, keeps_same, one_boot}

module _ (g : Geometry) where
  -- the current record stands with its image
  pub booted : (x : List ℕ) (r : ℕ) → IsCurrent g x r → BootOf g x (boot_in g x r)
  booted x r current = record { block = r; current = current; is = refl }

  -- it is the same where boot takes the same, in the same block
  pub head_still : (x y : List ℕ) (r : ℕ) → Keeps g x y → IsCurrent g x r → record_in g y r ≡ record_in g x r
  head_still x y r keeps current =
      ap (λ (b : Boot). b.head) (one_boot g y (boot_in g y r) (boot_in g x r) (booted y r (keeps.current r current)) (keeps.boot (boot_in g x r) (booted x r current)))

  outside_same : (x : List ℕ) → SameOutsideSpare g x x
  outside_same x = record { size = refl; same = λ block k current out. refl }

  -- the spare parts stay where they are
  spare_record_still : (block k : ℕ) (x y : List ℕ) → record_in g y block ≡ record_in g x block
      → IsOutside (area_place g (1 - (record_in g x block).bank)) (area_len g) k → IsOutside (area_place g (1 - (record_in g y block).bank)) (area_len g) k
  spare_record_still block k x y head out = subst (λ (h : Record). IsOutside (area_place g (1 - h.bank)) (area_len g) k) (sym head) out

  outside_joined : (x y z : List ℕ) → Keeps g x y → SameOutsideSpare g x y → SameOutsideSpare g y z → SameOutsideSpare g x z
  outside_joined x y z keeps first second = record {
    size = second.size ∙ first.size;
    same = λ block k current out.
        second.same block k (keeps.current block current) (out.0, spare_record_still block k x y (head_still x y block keeps current) out.1) ∙ first.same block k current out;
  }

  -- nothing has changed
  pub keeps_boot_same : (x : List ℕ) → IsSound g x → KeepsBoot g x x
  keeps_boot_same x sound = record { keeps = keeps_same g x sound; outside = outside_same x }

  -- one call after another
  pub keeps_boot_joined : (x y z : List ℕ) → KeepsBoot g x y → KeepsBoot g y z → KeepsBoot g x z
  keeps_boot_joined x y z first second = record {
    keeps = keeps_joined g x y z first.keeps second.keeps;
    outside = outside_joined x y z first.keeps first.outside second.outside;
  }

  -- and then an image is installed
  pub keeps_then_installs : (new : Record) (image x y z : List ℕ) (r : ℕ) → IsCurrent g x r → KeepsBoot g x y → Installs g new image y z → Installs g new image x z
  keeps_then_installs new image x y z r current first second = record {
    commits = record {
      sound = second.commits.sound;
      boot = second.commits.boot;
      prev = λ b from. second.commits.prev b (first.keeps.boot b from);
      no_other = λ b from. was b from;
    };
    outside = outside_joined x y z first.keeps first.outside second.outside;
  }
    where
      was : (b : Boot) → PrevOf g z b → BootOf g x b
      was b from =
          let same : b ≡ boot_in g x r = one_boot g y b (boot_in g x r) (second.commits.no_other b from) (first.keeps.boot (boot_in g x r) (booted x r current)) in
          subst (BootOf g x) (sym same) (booted x r current)

-- ---- what the calls of a bank leave of contents that it fits

module _ (bank : Bank) (x : List ℕ) (fits : Fits bank x) where
  -- a change within the spare bank
  bank_outside : (at n : ℕ) (P : ℕ → ℕ → ℕ → Type 0) (y : List ℕ) → at + n ≤ len_of bank → Changes (spare_bank bank + at) n P x y → SameOutsideSpare (geometry_of bank) x y
  bank_outside at n P y inside changes = outside_spare bank x fits y changes.size
      (λ k record_out area_out. ⊎_elim (λ front. changes.before k (omega (arith, front))) (λ behind. changes.after k (omega (arith, behind, inside, len_less bank))) area_out)

  -- a change within the spare record block
  record_outside : (n : ℕ) (P : ℕ → ℕ → ℕ → Type 0) (y : List ℕ) → n ≤ (geometry_of bank).block_len → Changes (spare_record bank) n P x y → SameOutsideSpare (geometry_of bank) x y
  record_outside n P y inside changes = outside_spare bank x fits y changes.size
      (λ k record_out bank_out. ⊎_elim (λ front. changes.before k front) (λ behind. changes.after k (omega (arith, behind, inside))) record_out)

  pub filled_keeps_boot : (at : ℕ) (bytes y : List ℕ) → at + length bytes ≤ len_of bank → LeavesFilled bank at bytes x y → KeepsBoot (geometry_of bank) x y
  filled_keeps_boot at bytes y inside leaves = record { keeps = leaves.keeps.keeps; outside = bank_outside at (length bytes) _ y inside leaves.changes }

  pub committed_installs : (new : Record) (image y : List ℕ) → image_of (geometry_of bank) x new ≡ image → LeavesCommitted bank new x y
      → Commits (geometry_of bank) (boot_of (geometry_of bank) x new) x y → Installs (geometry_of bank) new image x y
  committed_installs new image y is leaves commits = record {
    commits = subst (λ (i : List ℕ). Commits (geometry_of bank) (record { head = new; image = i }) x y) is commits;
    outside = record_outside 64 _ y (omega (arith, bank.limits.least_len)) leaves.changes;
  }

  pub committed_keeps_boot : (new : Record) (y : List ℕ) → LeavesCommitted bank new x y → Keeps (geometry_of bank) x y → KeepsBoot (geometry_of bank) x y
  committed_keeps_boot new y leaves keeps = record { keeps = keeps; outside = record_outside 64 _ y (omega (arith, bank.limits.least_len)) leaves.changes }

  -- ---- the calls on the spare journal

  pub resumed_keeps_boot : (y : List ℕ) → LeavesResumed bank x y → KeepsBoot (geometry_of bank) x y
  resumed_keeps_boot y leaves = record { keeps = leaves.keeps; outside = record_outside (geometry_of bank).block_len _ y (omega arith) leaves.changes }

  module _ (two : (current_of bank).layout ≡ 2) where
    in_area : spare_journal bank + journal_len (geometry_of bank) ≤ spare_bank bank + area_len (geometry_of bank)
    in_area = omega (arith, area_is (geometry_of bank) bank.limits (bank.room two))

    -- where a place outside the spare journal is as before, so is one outside the spare parts
    journal_outside : (y : List ℕ) → length y ≡ length x
        → ((k : ℕ) → IsOutside (spare_journal bank) (journal_len (geometry_of bank)) k → get_or y k 0 ≡ get_or x k 0) → SameOutsideSpare (geometry_of bank) x y
    journal_outside y size same = outside_spare bank x fits y size
        (λ k record_out area_out. same k (⊎_elim (λ front. inl (omega (arith, front))) (λ behind. inr (omega (arith, behind, in_area))) area_out))

    -- a change within the spare journal
    within_outside : (at n : ℕ) (P : ℕ → ℕ → ℕ → Type 0) (y : List ℕ) → spare_journal bank ≤ at → at + n ≤ spare_journal bank + journal_len (geometry_of bank)
        → Changes at n P x y → SameOutsideSpare (geometry_of bank) x y
    within_outside at n P y from to changes = journal_outside y changes.size
        (λ k out. change_outside at n P x y changes k (⊎_elim (λ front. inl (omega (arith, front, from))) (λ behind. inr (omega (arith, behind, to))) out))

    pub marked_keeps_boot : (place : ℕ) (y : List ℕ) → place < mark_count (geometry_of bank) → LeavesMarked bank place x y → KeepsBoot (geometry_of bank) x y
    marked_keeps_boot place y lt leaves = record {
      keeps = leaves.keeps.keeps;
      outside = within_outside _ 2 _ y (omega arith)
          (omega (arith, lt, marks_before_slots (geometry_of bank) bank.limits, slots_before_end (geometry_of bank) bank.limits)) leaves.changes;
    }

    pub forgotten_keeps_boot : (y : List ℕ) → LeavesForgotten bank x y → KeepsBoot (geometry_of bank) x y
    forgotten_keeps_boot y leaves = record {
      keeps = leaves.keeps.keeps;
      outside = within_outside _ (geometry_of bank).block_len _ y (omega arith)
          (omega (arith, first_before_slots (geometry_of bank) bank.limits, slots_before_end (geometry_of bank) bank.limits)) leaves.changes;
    }

    -- some bytes and then others
    put_keeps_boot : (at : ℕ) (bytes : List ℕ) (next : ℕ) (more y : List ℕ) → spare_journal bank ≤ at → at + length bytes ≤ spare_journal bank + journal_len (geometry_of bank)
        → spare_journal bank ≤ next → next + length more ≤ spare_journal bank + journal_len (geometry_of bank)
        → LeavesPut (geometry_of bank) at bytes next more x y → KeepsBoot (geometry_of bank) x y
    put_keeps_boot at bytes next more y from to next_from next_to leaves = record {
      keeps = leaves.keeps.keeps;
      outside = journal_outside y leaves.size (λ k out. leaves.same k
          (⊎_elim (λ front. inl (omega (arith, front, from))) (λ behind. inr (omega (arith, behind, to))) out)
          (⊎_elim (λ front. inl (omega (arith, front, next_from))) (λ behind. inr (omega (arith, behind, next_to))) out));
    }

    pub headed_keeps_boot : (number : ℕ) (message y : List ℕ) → length message ≤ 4084
        → LeavesPut (geometry_of bank) (spare_journal bank + 256) (paired message) (spare_journal bank) (header_written number (length message)) x y
        → KeepsBoot (geometry_of bank) x y
    headed_keeps_boot number message y few leaves =
        put_keeps_boot _ (paired message) _ (header_written number (length message)) y (omega arith)
        (omega (arith, few, length-paired message, marks_before_slots (geometry_of bank) bank.limits, slots_before_end (geometry_of bank) bank.limits))
        (omega arith) (omega (arith, slots_before_end (geometry_of bank) bank.limits)) leaves

    pub slotted_keeps_boot : (slot at : ℕ) (bytes y : List ℕ) → slot < 16 → length bytes ≤ 4066
        → LeavesPut (geometry_of bank) (slot_place bank slot + 256) bytes (slot_place bank slot) (slot_written at (length bytes)) x y → KeepsBoot (geometry_of bank) x y
    slotted_keeps_boot slot at bytes y lt few leaves =
        put_keeps_boot _ bytes _ (slot_written at (length bytes)) y (omega arith) (omega (arith, lt, few, slots_before_end (geometry_of bank) bank.limits))
        (omega arith) (omega (arith, lt, slots_before_end (geometry_of bank) bank.limits)) leaves
