-- What the beginning of a group that is kept leaves, call by call.
use Rattle.std.proofs.Common.{◌≡◌, ℕ, suc, ◌+◌, ◌-◌, ◌*◌, ◌^◌, ◌<◌, ◌≤◌, Bool, true, false, List, [], ◌∷◌, length, get_or, Option, Some, None, refl, sym, ap, subst, ◌∙◌, arith}
use Rattle.std.proofs.lemmas.Bool.{leb-true}
use Rattle.bank_kept.proofs.AreaLaws.{area_after, area_order, one_area}
use Rattle.bank_kept.proofs.BankLaws.{bank_area, headed_done, headed_place}
use Rattle.bank_kept.proofs.CallLaws.{headed_free, headed_group, headed_lost, headed_none}
use Rattle.bank_kept.specs.Bank.{area_of_bank}
use Rattle.bank_kept.specs.Contents.{HasSpareArea, HoldsPlace, StagesGroup}
use Rattle.bank_kept.specs.Leaving.{HoldsNoMore}
use Rattle.dsmcc_msg.specs.Control.{DiiFields, dii_message}
use Rattle.flash_bank.proofs.BankLemmas.{blank_bank, blank_journal}
use Rattle.flash_bank.proofs.LeavingLemmas.{headed_keeps_boot, keeps_boot_joined}
use Rattle.flash_bank.specs.Bank.{Fits, LeavesBegun, current_of, geometry_of, len_of, spare_bank, spare_journal}
use Rattle.flash_bank.specs.Journal.{LeavesPut, Puts}
use Rattle.flash_bank.specs.Leaving.{KeepsBoot}
use Rattle.flash_bank.specs.Sound.{Keeps}
use Rattle.flash_bank.specs.declared.bank.Bank.{Bank}
use Rattle.flash_dev.specs.Changes.{IsBlank}
use Rattle.flash_kept.proofs.HeadLaws.{header_done}
use Rattle.flash_kept.specs.Held.{HasHeldMessage}
use Rattle.flash_kept.specs.Leaving.{ChangesHeader, HeaderStands, IsErasedArea}
use Rattle.flash_kept.specs.Lost.{lost_places}
use Rattle.flash_kept.specs.Places.{place_count}
use Rattle.flash_kept.specs.Slots.{free_slots}
use Rattle.flash_kept.specs.SpareArea.{IsInOrder, SpareArea}
use Rattle.flash_kept.specs.Staged.{HasStagedMessage}
use Rattle.flash_layout.proofs.PairsLemmas.{length-paired}
use Rattle.flash_layout.proofs.Places.{marks_before_slots, slots_before_end}
use Rattle.flash_layout.specs.Journal.{header_written}
use Rattle.flash_layout.specs.Layout.{Geometry, area_len, bank_len, journal_len, mark_count, short_len}
use Rattle.flash_layout.specs.Pairs.{paired}
use Rattle.flash_stage.proofs.KeptLaws.{begun_no_more}
use Rattle.flash_stage.specs.Keeping.{HasWholeMargin}
use Rattle.flash_stage.specs.Leaving.{SameBank}
use Rattle.ssu_group.specs.Refusal.{refusal}
use Rattle.flash_journal.proofs.MessageLaws.{message_some}
use Rattle.flash_journal.specs.Beginning.{LeavesCleared, SpellsKept, StagesNew}

-- ---- in layout 2

module _ (bank : Bank) (two : (current_of bank).layout ≡ 2) where
  pub len_two : len_of bank ≡ short_len (geometry_of bank)
  len_two = ap (bank_len (geometry_of bank)) two

  -- header and message lie in the journal
  pub header_blank : (c : List ℕ) → IsBlank c (spare_bank bank) (area_len (geometry_of bank)) → IsBlank c (spare_journal bank) 32
  header_blank c erased k lt =
      let marks = marks_before_slots (geometry_of bank) bank.limits in let ends = slots_before_end (geometry_of bank) bank.limits in
      blank_journal bank two c erased k (omega (arith, lt, marks, ends))

  pub message_blank : (c : List ℕ) (n : ℕ) → n ≤ 4084 → IsBlank c (spare_bank bank) (area_len (geometry_of bank)) → IsBlank c (spare_journal bank + 256) (2 * n)
  message_blank c n few erased k lt =
      let marks = marks_before_slots (geometry_of bank) bank.limits in let ends = slots_before_end (geometry_of bank) bank.limits in
      let spot : spare_journal bank + (256 + k) ≡ spare_journal bank + 256 + k = omega arith in
      subst (λ (p : ℕ). get_or c p 0 ≡ 255) spot (blank_journal bank two c erased (256 + k) (omega (arith, lt, few, marks, ends)))

-- an erased area of a bank that is as it was
pub erased_same : (old new : Bank) (c : List ℕ) → SameBank old new → IsBlank c (spare_bank old) (area_len (geometry_of old)) → IsBlank c (spare_bank new) (area_len (geometry_of new))
erased_same old new c same erased =
    let place : spare_bank old ≡ spare_bank new = cc (same.geometry, same.current) in
    let len : area_len (geometry_of new) ≡ area_len (geometry_of old) = ap area_len same.geometry in
    λ k lt. subst (λ (p : ℕ). get_or c (p + k) 0 ≡ 255) place (erased k (omega (arith, lt, len)))

-- ---- `begin`, and then `head`

pub began_cleared : (bank : Bank) (x y : List ℕ) → Fits bank x → LeavesBegun (geometry_of bank) x y → LeavesCleared (geometry_of bank) x y
began_cleared bank x y fits leaves = record { keeps = leaves.keeps; no_more = begun_no_more bank x y fits leaves }

module _ (bank begun : Bank) (text x mid : List ℕ) (same : SameBank bank begun) (fits : Fits bank x) (leaves : LeavesBegun (geometry_of bank) x mid) (begun_fits : Fits begun mid)
    (two : (current_of begun).layout ≡ 2) (erased : IsBlank mid (spare_bank begun) (area_len (geometry_of begun))) (few : length text ≤ 4084) where
  abbrev g : Geometry
  g = geometry_of begun

  abbrev area : SpareArea
  area = area_of_bank begun

  has : HasSpareArea g mid area
  has = bank_area begun mid begun_fits two

  erased_area : IsErasedArea area mid
  erased_area = record {
    bank = λ k lt. blank_bank begun mid erased k (omega (arith, lt, len_two begun two));
    journal = blank_journal begun two mid erased;
  }

  -- within `head`
  pub head_cleared : (y : List ℕ) → LeavesPut (geometry_of begun) (spare_journal begun + 256) (paired text) (spare_journal begun) (header_written ((current_of begun).number + 1) (length text)) mid y
      → LeavesCleared (geometry_of bank) x y
  head_cleared y headed = record {
    keeps = keeps_boot_joined (geometry_of bank) x mid y leaves.keeps
        (subst (λ (q : Geometry). KeepsBoot q mid y) same.geometry (headed_keeps_boot begun mid begun_fits two ((current_of begun).number + 1) text y few headed));
    no_more = λ m n b holds. absurd (headed_none g area mid y begun.limits begun_fits.sound has headed.keeps.keeps erased_area (headed_place begun text mid y few headed) m n b
        (subst (λ (q : Geometry). HoldsPlace q y m n b) (sym same.geometry) holds));
  }

  module _ (y : List ℕ) (keeps : Keeps g mid y) (puts : Puts (spare_journal begun + 256) (paired text) (spare_journal begun) (header_written ((current_of begun).number + 1) (length text)) mid y)
      (next : (current_of begun).number < 4294967295) (bytes : (i : ℕ) → i < length text → get_or text i 0 ≤ 255) (dii : DiiFields) (reads : dii_message.of text ≡ Some dii)
      (usable : refusal dii (len_of begun) ≡ None) (places : place_count dii ≤ mark_count (geometry_of begun)) where
    changes : ChangesHeader area mid y
    changes = (headed_done begun text mid y few puts).0

    held : HasHeldMessage area y text dii
    held = header_done area text y (omega (arith, next)) (message_some text dii reads) few bytes (headed_done begun text mid y few puts).1 dii (area_order g mid area begun.limits has) reads
        (subst (λ (n : ℕ). refusal dii n ≡ None) (len_two begun two) usable) places

    whole : HasWholeMargin g y
    whole other m d spare staged =
        let one : other ≡ area = one_area g y other area spare (area_after g mid y area keeps has) in
        let own : HasStagedMessage area y m d = subst (λ (a : SpareArea). HasStagedMessage a y m d) one staged in (
          ap (λ (a : SpareArea). lost_places a d y) one ∙ headed_lost g area mid y m d begun.limits begun_fits.sound has erased_area changes own.held,
          ap (λ (a : SpareArea). free_slots a y) one ∙ headed_free g area mid y begun.limits begun_fits.sound has erased_area changes,
        )

    stages : StagesNew g text y
    stages = record {
      dii = dii;
      group = headed_group g area mid y text dii begun.limits begun_fits.sound has keeps erased_area changes held;
      none = headed_none g area mid y begun.limits begun_fits.sound has keeps erased_area changes;
      margin = whole;
    }

    pub headed_stages : StagesNew (geometry_of bank) text y
    headed_stages = subst (λ (q : Geometry). StagesNew q text y) same.geometry stages
