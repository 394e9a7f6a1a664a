-- The area that the current record does not name, before a call and after it.
use Rattle.std.proofs.Common.{◌≡◌, ℕ, ◌+◌, ◌-◌, ◌≤◌, List, length, refl, sym, ap, subst, ◌∙◌, arith}
use Rattle.dsmcc_msg.specs.Control.{DiiFields}
use Rattle.flash_bank.specs.Sound.{IsCurrent, IsSound, Keeps, number_in, record_in}
use Rattle.flash_bank.specs.declared.record.Record.{Record}
use Rattle.flash_bank.proofs.LeavingLemmas.{head_still}
use Rattle.flash_bank.proofs.SoundLemmas.{one_current, two_room}
use Rattle.flash_kept.specs.Held.{HasHeldMessage}
use Rattle.flash_kept.specs.SpareArea.{IsInOrder, SpareArea, spare_area}
use Rattle.flash_kept.proofs.HeaderLaws.{held_one}
use Rattle.flash_kept.proofs.PlaceLaws.{in_order}
use Rattle.flash_layout.specs.Layout.{Geometry, IsInLimits}
use Rattle.flash_layout.proofs.Places.{area_is, area_within}
use Rattle.bank_kept.specs.Contents.{HasSpareArea, HoldsGroup, spare_of}

-- the area of a record
abbrev pub area_by : Geometry → Record → SpareArea
area_by g head = spare_area g (1 - head.bank) head.number

-- the area in the block that holds the current record
pub area_of : (g : Geometry) (c : List ℕ) (r : ℕ) → IsCurrent g c r → (record_in g c r).layout ≡ 2 → HasSpareArea g c (spare_of g c r)
area_of g c r current two = record { block = r; current = current; two = two; is = refl }

-- which is the one
pub record IsArea (g : Geometry) (c : List ℕ) (r : ℕ) (area : SpareArea) : Type 0 where
  pub two : (record_in g c r).layout ≡ 2
  pub is : area ≡ spare_of g c r

pub is_area : (g : Geometry) (c : List ℕ) (r : ℕ) (area : SpareArea) → IsCurrent g c r → HasSpareArea g c area → IsArea g c r area
is_area g c r area current has =
    let same = one_current g c has.block r has.current current in
    record {
      two = ap (λ (k : ℕ). (record_in g c k).layout) (sym same) ∙ has.two;
      is = has.is ∙ ap (λ (k : ℕ). spare_of g c k) same;
    }

pub one_area : (g : Geometry) (c : List ℕ) (first second : SpareArea) → HasSpareArea g c first → HasSpareArea g c second → first ≡ second
one_area g c first second a b = (is_area g c b.block first b.current a).is ∙ sym b.is

-- while boot takes what it took the area stays
pub area_before : (g : Geometry) (x y : List ℕ) (r : ℕ) (area : SpareArea) → Keeps g x y → IsCurrent g x r → HasSpareArea g y area → IsArea g x r area
area_before g x y r area keeps current has =
    let now = is_area g y r area (keeps.current r current) has in
    let head = head_still g x y r keeps current in
    record {
      two = ap (λ (h : Record). h.layout) (sym head) ∙ now.two;
      is = now.is ∙ ap (area_by g) head;
    }

pub area_after : (g : Geometry) (x y : List ℕ) (area : SpareArea) → Keeps g x y → HasSpareArea g x area → HasSpareArea g y area
area_after g x y area keeps has =
    let head = head_still g x y has.block keeps has.current in
    record {
      block = has.block;
      current = keeps.current has.block has.current;
      two = ap (λ (h : Record). h.layout) head ∙ has.two;
      is = has.is ∙ ap (area_by g) (sym head);
    }

-- ---- it is in order, and within the contents

pub area_order : (g : Geometry) (c : List ℕ) (area : SpareArea) → IsInLimits g → HasSpareArea g c area → IsInOrder area
area_order g c area limits has =
    subst IsInOrder (sym has.is) (in_order g (1 - (record_in g c has.block).bank) (number_in g c has.block) limits (two_room g c has.block (has.current.valid, has.two)) (omega arith))

pub area_fits : (g : Geometry) (c : List ℕ) (area : SpareArea) → IsInLimits g → IsSound g c → HasSpareArea g c area → area.journal + area.journal_len ≤ length c
area_fits g c area limits sound has =
    let room = two_room g c has.block (has.current.valid, has.two) in
    let all = area_is g limits room in
    let within = area_within g limits (1 - (record_in g c has.block).bank) (omega arith) in
    let size = sound.size in
    subst (λ (a : SpareArea). a.journal + a.journal_len ≤ length c) (sym has.is) (omega (arith, all, within, size))

-- ---- one group

pub one_group : (g : Geometry) (c first second : List ℕ) (a b : DiiFields) → HoldsGroup g c first a → HoldsGroup g c second b → (first ≡ second) × (a ≡ b)
one_group g c first second a b one two =
    let same = one_area g c one.area two.area one.spare two.spare in
    held_one two.area c first second a b (subst (λ (t : SpareArea). HasHeldMessage t c first a) same one.held) two.held
