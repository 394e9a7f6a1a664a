-- The places of a group that stand in the spare bank, and what its erase has ended.
use Rattle.std.proofs.Common.{◌≡◌, ℕ, ◌+◌, ◌-◌, List, [], Option, Some, None, true, false, refl, sym, ap, subst, ◌∙◌, arith}
use Rattle.std.specs.Prelude.{is_some, unwrap_or}
use Rattle.flash_dev.specs.declared.device.Flash.{Ghosts as FlashGhosts}
use Rattle.flash_bank.specs.Bank.{block_of, current_of, geometry_of, spare_bank}
use Rattle.flash_layout.specs.Layout.{Geometry, area_place, blocks_of}
use Rattle.flash_layout.specs.Pairs.{part}
use Rattle.flash_bank.specs.Sound.{record_in}
use Rattle.flash_bank.specs.declared.bank.Bank.{Bank}
use Rattle.flash_bank.specs.declared.record.Record.{Record}
use Rattle.flash_bank.proofs.BankLemmas.{begun_gone}
use Rattle.flash_bank.proofs.SoundLemmas.{one_current}
use Rattle.bank_kept.specs.Contents.{StagesPlace}
use Rattle.dsmcc_msg.specs.Control.{DiiFields, dii_message}
use Rattle.flash_stage.specs.Keeping.{IsKeptIn, IsPlanOfMessage}
use Rattle.flash_stage.specs.Outline.{Outline, outline_of, place_of}
use Rattle.flash_stage.specs.declared.stage.Stage.{Ghosts as StageGhosts}
use Rattle.ts_section.specs.Events.{Heard}
use Rattle.group_image.proofs.ImageLaws.{place_below}
use Rattle.ssu_group.specs.Refusal.{refusal}
use Rattle.ssu_group.specs.declared.places.Place.{Place}
use Rattle.route_tables.specs.Values.{Receiver}
use Rattle.ssu_route.specs.declared.choice.Choice.{Choice}
use Rattle.ssu_route.specs.Offers.{dii_of}
use Rattle.ssu_route.specs.Windows.{window}
use Rattle.ssu_loader.specs.declared.collector.Collector.{Collector}
use Rattle.ssu_loader.specs.Collecting.{Collects, StopsBefore}
use Rattle.ssu_loader.specs.Decisions.{IsStanding}
use Rattle.ssu_loader.specs.Opening.{fills_at, is_within, places_in}
use Rattle.ssu_loader.specs.Remaining.{IsLastKept, StagesBefore, StagesLast, StagesStanding}
use Rattle.ssu_loader.specs.Storing.{EndsPrev, StandsInSpare, Stores, StoresBefore}
use Rattle.ssu_loader.proofs.FreshLaws.{same_geometry}
use Rattle.ssu_loader.proofs.ChoiceLaws.{chosen_read, dii_read}
use Rattle.ssu_loader.proofs.KeptLaws.{not_kept_fills}
use Rattle.ssu_loader.proofs.LastLaws.{has_standing, last_stands}
use Rattle.ssu_loader.proofs.RemainingLaws.{dii_places, within_is}
use Rattle.ssu_loader.proofs.StartingLaws.{planned_place}

-- the law of a stage whose places stand in the bank, but those of a group that is kept
abbrev pub InBank : {S : Type 0} → StageGhosts S → Type 0
InBank {S} s = s.IN_BANK ≡ true → (stage : S) (bank : Bank) (held : List ℕ) (number : ℕ) (p : Place)
    → (s.KEEPS ≡ true → IsKeptIn bank (s.plan_of stage).places → ⊥) → place_of (s.plan_of stage) number ≡ Some p
    → s.bytes_at stage bank held number ≡ part held (spare_bank bank + p.at) p.len

-- ---- what is staged

-- Of the last choice it is just the places that the choice has; so of one that stands.
pub stages_standing : (me : Receiver) (heard : List Heard) (g : Geometry) (c : List ℕ) → StagesLast me heard g c → StagesStanding g c me heard
stages_standing me heard g c last choice message standing now within =
    let is = standing.chosen in
    let own : message ≡ choice.message.items = same_message message choice.message.items (sym now ∙ is.message) in
    let read : dii_of message ≡ Some is.dii = chosen_read me heard message is.dii now is.read in
    let kept : IsLastKept me heard message = record {
      last = last_stands me heard message now;
      within = ap (is_within me.opening.most) (sym (dii_places message is.dii choice.plan read is.plan)) ∙ within;
    } in
    let group = last.group message kept in
    let held = group.1.staged.held in
    let of_message : IsPlanOfMessage group.1.area.bank_len message choice.plan = record {
      dii = is.dii;
      reads = dii_read message is.dii read;
      usable = subst (λ (d : DiiFields). refusal d group.1.area.bank_len ≡ None) (one_dii message group.0 is.dii held.reads (dii_read message is.dii read)) held.usable;
      lays = is.plan;
    } in
    let has = has_standing me heard choice.plan message now in
    record {
      dii = group.0;
      group = group.1;
      each = λ n below some.
          let b = value_of (fills_at me heard choice.plan n) some in
          subst (StagesPlace g c message n) (sym (ap (λ (o : Option (List ℕ)). unwrap_or o []) b.1))
          ((last.places message is.dii choice.plan kept read is.plan n b.0 below).0 ((λ i. has i n) ∙ b.1));
      no_other = λ n b staged.
          let place = planned_place message group.1.area.bank_len choice.plan of_message g c n b staged in
          let below = place_below choice.plan n place.0 place.1 in
          ap is_some (sym (λ i. has i n) ∙ (last.places message is.dii choice.plan kept read is.plan n b below).1 staged);
    }
  where
    same_message : (a b : List ℕ) → Some a ≡ Some b → a ≡ b
    same_message a b e = cc

    one_dii : (m : List ℕ) (a b : DiiFields) → dii_message.of m ≡ Some a → dii_message.of m ≡ Some b → a ≡ b
    one_dii m a b first second = cc

    value_of : (o : Option (List ℕ)) → is_some o ≡ true → (b : List ℕ) × (o ≡ Some b)
    value_of None some = absurd cc
    value_of (Some b) some = (b, refl)

module _ {S F : Type 0} (s : StageGhosts S) (f : FlashGhosts F) (law : InBank s) (in_bank : s.IN_BANK ≡ true) (tells : f.tells) (me : Receiver) where
  places_of : (heard : List Heard) (c : Collector S) (flash : F) → Collects s f me heard c flash → (choice : Choice) → IsStanding me heard choice
      → is_within me.opening.most choice.plan.places ≡ false → StandsInSpare (geometry_of c.bank) (f.contents flash) choice.plan (window me heard)
  places_of heard c flash col choice standing few block number place bytes current below at fills =
      let g = geometry_of c.bank in
      let held = f.contents flash in
      let fits = col.gathers.lent.fits tells in
      let is = standing.chosen in
      let same : block ≡ block_of c.bank = one_current g held block (block_of c.bank) current fits.current in
      let head : record_in g held block ≡ current_of c.bank = ap (record_in g held) same ∙ fits.head in
      let planned : s.plan_of c.stage ≡ outline_of choice.plan = col.gathers.hears.planned choice is in
      let own : place_of (s.plan_of c.stage) number ≡ Some place = ap (λ (o : Outline). place_of o number) planned ∙ at in
      let read = chosen_read me heard choice.message.items is.dii is.message is.read in
      let other : is_within me.opening.most (places_in (dii_of choice.message.items)) ≡ false =
      ap (is_within me.opening.most) (sym (dii_places choice.message.items is.dii choice.plan read is.plan)) ∙ few in
      let alone = not_kept_fills me choice.message.items other heard choice.plan number is.message in
      let not : s.KEEPS ≡ true → IsKeptIn c.bank (s.plan_of c.stage).places → ⊥ = λ keeps kept.
      let yes : is_within me.opening.most choice.plan.places ≡ true =
      ap (λ (o : Option ℕ). is_within o choice.plan.places) (col.gathers.most keeps)
      ∙ within_is c.bank choice.plan.places (subst (IsKeptIn c.bank) (ap (λ (o : Outline). o.places) planned) kept) in
      absurd cc in
      let spare : area_place g (1 - (record_in g held block).bank) ≡ spare_bank c.bank = ap (λ (r : Record). area_place g (1 - r.bank)) head in
      ap (λ (n : ℕ). part held (n + place.at) place.len) spare
      ∙ (sym (law in_bank c.stage c.bank held number place not own)
      ∙ (col.gathers.told tells choice is).texts number bytes below (alone ∙ fills))

  gone_of : (heard : List Heard) (c : Collector S) (flash : F) → Collects s f me heard c flash → EndsPrev (geometry_of c.bank) (f.contents flash) me heard
  gone_of heard c flash col some =
      begun_gone c.bank (f.contents flash) (col.gathers.lent.fits tells) (col.gathers.begun in_bank (let count = col.gathers.hears.counted in omega (arith, count, some)))

  pub stores_of : (heard : List Heard) (c : Collector S) (flash : F) → Collects s f me heard c flash → Stores (geometry_of c.bank) (f.contents flash) me heard
  stores_of heard c flash col = record { places = places_of heard c flash col; gone = gone_of heard c flash col }

  -- by the blocks of the flash
  pub stores_in : (heard : List Heard) (c : Collector S) (flash : F) → Collects s f me heard c flash → Stores (blocks_of f flash) (f.contents flash) me heard
  stores_in heard c flash col =
      subst (λ (g : Geometry). Stores g (f.contents flash) me heard)
      (same_geometry (geometry_of c.bank) (blocks_of f flash) (sym col.gathers.lent.blocks) (sym col.gathers.lent.block_size)) (stores_of heard c flash col)

  pub stores_before : (heard : List Heard) (flash : F) → StopsBefore s f me heard flash → StoresBefore (blocks_of f flash) (f.contents flash) me heard
  stores_before heard flash stops = record {
    later = stops.later;
    item = stops.item;
    earlier = stops.earlier;
    parts = stops.parts;
    too_many = stops.too_many;
    stored = stores_in stops.earlier stops.collector flash stops.collects;
  }

module _ {S F : Type 0} (s : StageGhosts S) (f : FlashGhosts F) (keeps : s.KEEPS ≡ true) (tells : f.tells) (me : Receiver) (heard : List Heard) (c : Collector S) (flash : F)
    (col : Collects s f me heard c flash) where
  pub staged_of : StagesStanding (geometry_of c.bank) (f.contents flash) me heard
  staged_of = stages_standing me heard (geometry_of c.bank) (f.contents flash) (col.gathers.staged keeps tells)

  -- by the blocks of the flash
  pub staged_in : StagesStanding (blocks_of f flash) (f.contents flash) me heard
  staged_in =
      subst (λ (g : Geometry). StagesStanding g (f.contents flash) me heard)
      (same_geometry (geometry_of c.bank) (blocks_of f flash) (sym col.gathers.lent.blocks) (sym col.gathers.lent.block_size)) staged_of

  pub last_in : StagesLast me heard (blocks_of f flash) (f.contents flash)
  last_in =
      subst (λ (g : Geometry). StagesLast me heard g (f.contents flash))
      (same_geometry (geometry_of c.bank) (blocks_of f flash) (sym col.gathers.lent.blocks) (sym col.gathers.lent.block_size)) (col.gathers.staged keeps tells)

pub staged_before : {S F : Type 0} (s : StageGhosts S) (f : FlashGhosts F) → s.KEEPS ≡ true → f.tells → (me : Receiver) (heard : List Heard) (flash : F) → StopsBefore s f me heard flash
    → StagesBefore me heard (blocks_of f flash) (f.contents flash)
staged_before s f keeps tells me heard flash stops = record {
  later = stops.later;
  item = stops.item;
  earlier = stops.earlier;
  parts = stops.parts;
  too_many = stops.too_many;
  staged = last_in s f keeps tells me stops.earlier stops.collector flash stops.collects;
}
