-- What the calls of a bank leave of what is held and staged.
use Rattle.std.proofs.Common.{◌≡◌, inl, inr, ⊎_elim, ℕ, ◌+◌, ◌-◌, ◌%◌, ◌<◌, ◌≤◌, List, length, get_or, sym, ap, subst, ◌∙◌, arith}
use Rattle.dsmcc_msg.specs.Control.{DiiFields}
use Rattle.flash_bank.specs.Bank.{LeavesBegun}
use Rattle.flash_bank.specs.Layout.{HoldsRecord}
use Rattle.flash_bank.specs.Runs.{IsRaised}
use Rattle.flash_bank.specs.Sound.{Boot, Commits, IsCurrent, IsSound, Keeps, boot_in, number_in, record_in}
use Rattle.flash_bank.specs.Spare.{FirstCut}
use Rattle.flash_bank.specs.declared.record.Record.{Record}
use Rattle.flash_bank.proofs.LeavingLemmas.{booted}
use Rattle.flash_bank.proofs.SoundLemmas.{one_current}
use Rattle.flash_bank.proofs.StayLemmas.{bank_below}
use Rattle.flash_dev.specs.Changes.{Changes, IsBlank}
use Rattle.flash_kept.specs.Held.{HasHeldMessage, IsHeld}
use Rattle.flash_kept.specs.Leaving.{ChangesHeader, ClearsFirst, IsErasedArea, MarginFalls, RaisesFirst, SameArea}
use Rattle.flash_kept.specs.Lost.{lost_places}
use Rattle.flash_kept.specs.Offering.{LeavesOffered, Offers}
use Rattle.flash_kept.specs.Slots.{free_slots}
use Rattle.flash_kept.specs.SpareArea.{SpareArea, journal_in, spare_area}
use Rattle.flash_kept.specs.Staged.{HasStagedMessage, IsStaged}
use Rattle.flash_kept.proofs.AreaLaws.{area_free, area_held_before, area_lost, area_staged, area_stages}
use Rattle.flash_kept.proofs.BackLaws.{cleared_none, clears_holds}
use Rattle.flash_kept.proofs.HeadLaws.{head_free, head_holds, head_lost, head_stages}
use Rattle.flash_kept.proofs.HeaderLaws.{held_one}
use Rattle.flash_kept.proofs.PlaceLaws.{held_lie}
use Rattle.flash_layout.specs.Journal.{IsSettled}
use Rattle.flash_layout.specs.Layout.{Geometry, IsInLimits, area_place, journal_place}
use Rattle.flash_layout.proofs.Places.{first_before_slots}
use Rattle.bank_kept.specs.Contents.{HasSpareArea, HoldsGroup, HoldsPlace, StagesGroup, StagesPlace, spare_of}
use Rattle.bank_kept.specs.Leaving.{HoldsNoMore, HoldsNoMoreBut, KeepsStaged}
use Rattle.bank_kept.proofs.AreaLaws.{area_after, area_before, area_fits, area_of, area_order, is_area, one_area}

-- ---- what is held

-- what is held in the area was held in it
lifted : (g : Geometry) (x y : List ℕ) (r : ℕ) → IsCurrent g x r → Keeps g x y
    → ((record_in g x r).layout ≡ 2 → (message : List ℕ) (n : ℕ) (b : List ℕ) → IsHeld (spare_of g x r) y message n b → IsHeld (spare_of g x r) x message n b) → HoldsNoMore g x y
lifted g x y r current keeps back message n b holds =
    let was = area_before g x y r holds.area keeps current holds.spare in
    record {
      area = spare_of g x r;
      spare = area_of g x r current was.two;
      held = back was.two message n b (subst (λ (a : SpareArea). IsHeld a y message n b) was.is holds.held);
    }

-- only the first block of the journal is raised, or it is erased
cut_first : (g : Geometry) (k number : ℕ) (x y : List ℕ) → length y ≡ length x → FirstCut g k x y → ClearsFirst (spare_area g k number) g.block_len x y
cut_first g k number x y size (inr blank) = inl blank
cut_first g k number x y size (inl only) = inr (record {
  size = size;
  bank = only.bank;
  above = only.first;
  rest = λ i past within.
      let here : journal_place g k + g.block_len + (i - g.block_len) ≡ journal_place g k + i = omega (arith, past) in
      subst (λ (p : ℕ). get_or y p 0 ≡ get_or x p 0) here (only.rest (i - g.block_len) (omega (arith, past, within)));
})

first_even : (g : Geometry) → IsInLimits g → g.block_len % 2 ≡ 0
first_even g limits = let page = limits.page in omega (arith, page)

-- where the block is raised or erased, nothing new is held
cut_holds : (g : Geometry) (x y : List ℕ) (r : ℕ) → IsInLimits g → IsSound g x → IsCurrent g x r → Keeps g x y
    → ((record_in g x r).layout ≡ 2 → ClearsFirst (spare_of g x r) g.block_len x y) → HoldsNoMore g x y
cut_holds g x y r limits sound current keeps cut = lifted g x y r current keeps (λ two message n b held.
    let area = area_of g x r current two in
    let least = limits.least_len in
    let settled : IsSettled (spare_of g x r).marks (spare_of g x r).slots (journal_in (spare_of g x r) x) =
    (sound.journals r current.is_block (current.valid, two)).settled (1 - (record_in g x r).bank) (omega arith) in
    clears_holds (spare_of g x r) g.block_len x y (area_order g x (spare_of g x r) limits area) (omega (arith, least)) (first_before_slots g limits) (first_even g limits) settled
    (area_fits g x (spare_of g x r) limits sound area) (cut two) message n b held)

pub begun_holds : (g : Geometry) (x y : List ℕ) (r : ℕ) → IsInLimits g → IsSound g x → IsCurrent g x r → LeavesBegun g x y → HoldsNoMore g x y
begun_holds g x y r limits sound current leaves =
    cut_holds g x y r limits sound current leaves.keeps.keeps (λ two. cut_first g (1 - (record_in g x r).bank) (number_in g x r) x y leaves.keeps.outside.size (leaves.first r current two))

pub forgotten_holds : (g : Geometry) (x y : List ℕ) (r : ℕ) → IsInLimits g → IsSound g x → IsCurrent g x r → Keeps g x y
    → Changes (journal_place g (1 - (record_in g x r).bank)) g.block_len IsRaised x y → HoldsNoMore g x y
forgotten_holds g x y r limits sound current keeps changes = cut_holds g x y r limits sound current keeps (λ two. inr (raised two))
  where
    raised : (record_in g x r).layout ≡ 2 → RaisesFirst (spare_of g x r) g.block_len x y
    raised two = record {
      size = changes.size;
      bank = λ k lt. changes.before (area_place g (1 - (record_in g x r).bank) + k) (omega (arith, lt));
      above = λ k lt. changes.inside k lt;
      rest = λ k past within. changes.after (journal_place g (1 - (record_in g x r).bank) + k) (omega (arith, past));
    }

pub same_holds : (g : Geometry) (x y : List ℕ) (r : ℕ) → IsInLimits g → IsSound g x → IsCurrent g x r → Keeps g x y
    → ((record_in g x r).layout ≡ 2 → SameArea (spare_of g x r) x y) → HoldsNoMore g x y
same_holds g x y r limits sound current keeps same = lifted g x y r current keeps (λ two message n b held.
    area_held_before (spare_of g x r) x y (area_order g x (spare_of g x r) limits (area_of g x r current two)) (same two) message n b held)

pub joined_holds : (g : Geometry) (x y z : List ℕ) → HoldsNoMore g x y → HoldsNoMore g y z → HoldsNoMore g x z
joined_holds g x y z first second message n b holds = first message n b (second message n b holds)

-- ---- where nothing is held

pub erased_none : (g : Geometry) (c : List ℕ) (r : ℕ) → IsInLimits g → IsCurrent g c r → IsBlank c (journal_place g (1 - (record_in g c r).bank)) 2
    → (message : List ℕ) (dii : DiiFields) → HoldsGroup g c message dii → ⊥
erased_none g c r limits current blank message dii holds =
    let is = is_area g c r holds.area current holds.spare in
    cleared_none (spare_of g c r) 2 c (area_order g c (spare_of g c r) limits (area_of g c r current is.two)) (omega arith) blank message dii
    (subst (λ (a : SpareArea). HasHeldMessage a c message dii) is.is holds.held)

pub committed_none : (g : Geometry) (new : Boot) (x y : List ℕ) (r : ℕ) → IsInLimits g → IsCurrent g x r → new.head.number ≡ number_in g x r + 1
    → new.head.bank ≡ 1 - (record_in g x r).bank → Commits g new x y → (message : List ℕ) (dii : DiiFields) → HoldsGroup g y message dii → ⊥
committed_none g new x y r limits current next bank commits message dii holds =
    let boot = commits.boot in
    let prev = commits.prev (boot_in g x r) (booted g x r current) in
    let s = boot.block in
    let is = is_area g y s holds.area boot.current holds.spare in
    let held = subst (λ (a : SpareArea). HasHeldMessage a y message dii) is.is holds.held in
    let head : record_in g y s ≡ new.head = ap (λ (b : Boot). b.head) (sym boot.is) in
    let block : prev.block ≡ s = one_current g y prev.block s prev.current boot.current in
    let former : record_in g x r ≡ record_in g y (1 - s) = ap (λ (b : Boot). b.head) prev.is ∙ ap (λ (k : ℕ). record_in g y (1 - k)) block in
    let number = ap (λ (h : Record). h.number) head in
    let bank_is = ap (λ (h : Record). h.bank) head in
    let former_number = ap (λ (h : Record). h.number) former in
    let former_bank = ap (λ (h : Record). h.bank) former in
    let fits = commits.sound.journals s boot.current.is_block (boot.current.valid, is.two) in
    let valid = subst (λ (k : ℕ). HoldsRecord g y (1 - k)) block prev.valid in
    let below : (record_in g y (1 - s)).bank < 2 = bank_below g y (1 - s) (omega arith) valid in
    let own : (record_in g y (1 - s)).bank ≡ 1 - (record_in g y s).bank = omega (arith, bank, bank_is, former_bank, below) in
    let le = fits.named (1 - (record_in g y s).bank) (1 - s) (omega arith) (omega arith) held.header valid own in
    let at = held.next in
    omega (arith, le, at, next, number, former_number)

-- ---- a new header

pub headed_none : (g : Geometry) (area : SpareArea) (x y : List ℕ) → IsInLimits g → IsSound g x → HasSpareArea g x area → Keeps g x y → IsErasedArea area x → ChangesHeader area x y
    → (message : List ℕ) (n : ℕ) (b : List ℕ) → HoldsPlace g y message n b → ⊥
headed_none g area x y limits sound has keeps erased changes message n b holds =
    let was = area_before g x y has.block holds.area keeps has.current holds.spare in
    let same : holds.area ≡ area = was.is ∙ sym has.is in
    head_holds area x y (area_order g x area limits has) (area_fits g x area limits sound has) erased changes message n b (subst (λ (t : SpareArea). IsHeld t y message n b) same holds.held)

pub headed_group : (g : Geometry) (area : SpareArea) (x y message : List ℕ) (dii : DiiFields) → IsInLimits g → IsSound g x → HasSpareArea g x area → Keeps g x y → IsErasedArea area x
    → ChangesHeader area x y → HasHeldMessage area y message dii → StagesGroup g y message dii
headed_group g area x y message dii limits sound has keeps erased changes held = record {
  area = area;
  spare = area_after g x y area keeps has;
  staged = head_stages area x y (area_order g x area limits has) (area_fits g x area limits sound has) erased changes dii message held;
}

pub headed_lost : (g : Geometry) (area : SpareArea) (x y message : List ℕ) (dii : DiiFields) → IsInLimits g → IsSound g x → HasSpareArea g x area → IsErasedArea area x
    → ChangesHeader area x y → HasHeldMessage area y message dii → lost_places area dii y ≡ 0
headed_lost g area x y message dii limits sound has erased changes held =
    head_lost area x y (area_order g x area limits has) (area_fits g x area limits sound has) erased changes dii message held

pub headed_free : (g : Geometry) (area : SpareArea) (x y : List ℕ) → IsInLimits g → IsSound g x → HasSpareArea g x area → IsErasedArea area x → ChangesHeader area x y → free_slots area y ≡ 16
headed_free g area x y limits sound has erased changes = head_free area x y (area_order g x area limits has) (area_fits g x area limits sound has) erased changes

-- ---- what is staged

pub group_kept : (g : Geometry) (x y : List ℕ) → IsInLimits g → Keeps g x y → ((area : SpareArea) → HasSpareArea g x area → SameArea area x y)
    → (message : List ℕ) (dii : DiiFields) → StagesGroup g x message dii → StagesGroup g y message dii
group_kept g x y limits keeps same message dii stages = record {
  area = stages.area;
  spare = area_after g x y stages.area keeps stages.spare;
  staged = area_stages stages.area x y (area_order g x stages.area limits stages.spare) (same stages.area stages.spare) message dii stages.staged;
}

pub all_kept : (g : Geometry) (x y : List ℕ) → IsInLimits g → Keeps g x y → ((area : SpareArea) → HasSpareArea g x area → SameArea area x y) → KeepsStaged g 0 0 x y
all_kept g x y limits keeps same = record {
  margin = λ area message dii has staged.
      let order = area_order g x area limits has in
      let free = area_free area x y order (same area has) in
      let lost = area_lost area x y order (same area has) dii (held_lie area x message dii order staged.held) in
      omega (arith, free, lost);
  group = λ area message dii has staged enough. group_kept g x y limits keeps same message dii (record { area = area; spare = has; staged = staged });
  places = λ area message dii has staged enough number b place. record {
    area = place.area;
    spare = area_after g x y place.area keeps place.spare;
    staged = area_staged place.area x y (area_order g x place.area limits place.spare) (same place.area place.spare) message number b place.staged;
  };
}

pub offered_holds : (g : Geometry) (area : SpareArea) (dii : DiiFields) (message : List ℕ) (a : ℕ) (bytes x y : List ℕ) → HasSpareArea g x area → Keeps g x y
    → LeavesOffered area dii message a bytes x y → HoldsNoMoreBut g message a bytes x y
offered_holds g area dii message a bytes x y has keeps leaves other n b holds =
    let was = area_before g x y has.block holds.area keeps has.current holds.spare in
    let same : holds.area ≡ area = was.is ∙ sym has.is in
    ⊎_elim (λ held. inl (record { area = area; spare = has; held = held })) (λ new. inr new)
    (leaves.held other n b (subst (λ (t : SpareArea). IsHeld t y other n b) same holds.held))

-- of what an offer leaves, torn or done
kept_by : (g : Geometry) (area : SpareArea) (dii : DiiFields) (message : List ℕ) (x y : List ℕ) (fall least : ℕ) → HasSpareArea g x area → Keeps g x y → StagesGroup g x message dii
    → MarginFalls area dii fall x y
    → (lost_places area dii x + least ≤ free_slots area x → HasStagedMessage area y message dii) → (lost_places area dii x + least ≤ free_slots area x → (n : ℕ) (b : List ℕ) → IsStaged area x message n b → IsStaged area y message n b) → KeepsStaged g fall least x y
kept_by g area dii message x y fall least has keeps stages margin stays staged = record {
  margin = λ other text group spare now.
      let same = one_area g x other area spare has in
      let one = own other text group spare now in
      subst (λ (t : SpareArea). MarginFalls t group fall x y) (sym same) (subst (λ (d : DiiFields). MarginFalls area d fall x y) (sym one.1) margin);
  group = λ other text group spare now enough.
      let one = own other text group spare now in
      record {
        area = area;
        spare = area_after g x y area keeps has;
        staged = subst (λ (m : List ℕ). HasStagedMessage area y m group) (sym one.0)
            (subst (λ (d : DiiFields). HasStagedMessage area y message d) (sym one.1) (stays (enough_here other text group spare now enough)));
      };
  places = λ other text group spare now enough number b place.
      let one = own other text group spare now in
      let there = one_area g x place.area area place.spare has in
      let was : IsStaged area x message number b = subst (λ (m : List ℕ). IsStaged area x m number b) one.0 (subst (λ (t : SpareArea). IsStaged t x text number b) there place.staged) in
      record {
        area = area;
        spare = area_after g x y area keeps has;
        staged = subst (λ (m : List ℕ). IsStaged area y m number b) (sym one.0) (staged (enough_here other text group spare now enough) number b was);
      };
}
  where
    -- the group that is staged
    own : (other : SpareArea) (text : List ℕ) (group : DiiFields) → HasSpareArea g x other → HasStagedMessage other x text group → (text ≡ message) × (group ≡ dii)
    own other text group spare now =
        let same = one_area g x other area spare has in
        let there = one_area g x stages.area area stages.spare has in
        held_one area x text message group dii (subst (λ (t : SpareArea). HasHeldMessage t x text group) same now.held) (subst (λ (t : SpareArea). HasHeldMessage t x message dii) there stages.staged.held)

    -- its margin
    enough_here : (other : SpareArea) (text : List ℕ) (group : DiiFields) → HasSpareArea g x other → HasStagedMessage other x text group
        → lost_places other group x + least ≤ free_slots other x → lost_places area dii x + least ≤ free_slots area x
    enough_here other text group spare now enough =
        let same = one_area g x other area spare has in
        let one = own other text group spare now in
        subst (λ (d : DiiFields). lost_places area d x + least ≤ free_slots area x) one.1 (subst (λ (t : SpareArea). lost_places t group x + least ≤ free_slots t x) same enough)

pub offered_kept : (g : Geometry) (area : SpareArea) (dii : DiiFields) (message : List ℕ) (a : ℕ) (bytes x y : List ℕ) → HasSpareArea g x area → Keeps g x y → StagesGroup g x message dii
    → LeavesOffered area dii message a bytes x y → KeepsStaged g 1 1 x y
offered_kept g area dii message a bytes x y has keeps stages leaves = kept_by g area dii message x y 1 1 has keeps stages leaves.margin leaves.message_staged leaves.staged

pub done_place : (g : Geometry) (area : SpareArea) (dii : DiiFields) (message : List ℕ) (a : ℕ) (bytes x y : List ℕ) → HasSpareArea g x area → Keeps g x y
    → Offers area dii message a bytes x y → StagesPlace g y message a bytes
done_place g area dii message a bytes x y has keeps offers = record { area = area; spare = area_after g x y area keeps has; staged = offers.added }

pub done_kept : (g : Geometry) (area : SpareArea) (dii : DiiFields) (message : List ℕ) (a : ℕ) (bytes x y : List ℕ) → HasSpareArea g x area → Keeps g x y → StagesGroup g x message dii
    → Offers area dii message a bytes x y → KeepsStaged g 0 0 x y
done_kept g area dii message a bytes x y has keeps stages offers = kept_by g area dii message x y 0 0 has keeps stages offers.margin (λ enough. offers.message_staged) (λ enough. offers.staged)

-- ---- calls one after another

pub kept_joined : (g : Geometry) (fall least : ℕ) (x y z : List ℕ) → Keeps g x y → KeepsStaged g 0 0 x y → KeepsStaged g fall least y z → KeepsStaged g fall least x z
kept_joined g fall least x y z keeps first second = record {
  margin = λ area message dii has staged.
      let was = first.margin area message dii has staged in
      let is = second.margin area message dii (area_after g x y area keeps has) (between area message dii has staged) in
      omega (arith, was, is);
  group = λ area message dii has staged enough.
      let was = first.margin area message dii has staged in
      second.group area message dii (area_after g x y area keeps has) (between area message dii has staged) (omega (arith, was, enough));
  places = λ area message dii has staged enough number b place.
      let was = first.margin area message dii has staged in
      let fits = staged.enough in
      second.places area message dii (area_after g x y area keeps has) (between area message dii has staged) (omega (arith, was, enough)) number b
      (first.places area message dii has staged (omega (arith, fits)) number b place);
}
  where
    -- the message is staged in y
    between : (area : SpareArea) (message : List ℕ) (dii : DiiFields) → HasSpareArea g x area → HasStagedMessage area x message dii → HasStagedMessage area y message dii
    between area message dii has staged =
        let fits = staged.enough in
        let there = first.group area message dii has staged (omega (arith, fits)) in
        subst (λ (t : SpareArea). HasStagedMessage t y message dii) (one_area g y there.area area there.spare (area_after g x y area keeps has)) there.staged

-- what keeps all keeps so much
pub kept_weaker : (g : Geometry) (fall least : ℕ) (x y : List ℕ) → KeepsStaged g 0 0 x y → KeepsStaged g fall least x y
kept_weaker g fall least x y keeps = record {
  margin = λ area message dii has staged. let was = keeps.margin area message dii has staged in omega (arith, was);
  group = λ area message dii has staged enough. keeps.group area message dii has staged (omega (arith, enough));
  places = λ area message dii has staged enough. keeps.places area message dii has staged (omega (arith, enough));
}
