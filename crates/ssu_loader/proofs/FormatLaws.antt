-- What `format` leaves is what a life begins with.
use Rattle.std.proofs.Common.{◌≡◌, ℕ, ◌-◌, List, ap, ◌∙◌, arith}
use Rattle.bank_kept.proofs.AreaLaws.{is_area}
use Rattle.bank_kept.proofs.CallLaws.{erased_none}
use Rattle.flash_bank.specs.Format.{Formats}
use Rattle.flash_bank.specs.Sound.{Boot, record_in}
use Rattle.flash_bank.specs.declared.record.Record.{Record}
use Rattle.flash_dev.specs.Changes.{IsBlank}
use Rattle.flash_layout.proofs.Places.{slots_before_end}
use Rattle.flash_layout.specs.Layout.{Geometry, IsInLimits, journal_place}
use Rattle.ssu_loader.specs.Life.{IsBeginning}

pub formatted_begins : (g : Geometry) (head : Record) (image x y : List ℕ) → IsInLimits g → Formats g head image x y → IsBeginning g y
formatted_begins g head image x y limits formats = record {
  sound = formats.sound;
  first = formats.no_prev;
  holds_none = λ message dii holds.
      let r = formats.boot.block in
      let own : head ≡ record_in g y r = ap (λ (b : Boot). b.head) formats.boot.is in
      let is = is_area g y r holds.area formats.boot.current holds.spare in
      let two : head.layout ≡ 2 = ap (λ (h : Record). h.layout) own ∙ is.two in
      let room = slots_before_end g limits in
      let blank : IsBlank y (journal_place g (1 - (record_in g y r).bank)) 2 =
      λ k lt. formats.erased_journals two (1 - (record_in g y r).bank) (omega arith) k (omega (arith, lt, room)) in
      erased_none g y r limits formats.boot.current blank message dii holds;
}
