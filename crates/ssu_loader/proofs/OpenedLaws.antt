-- What is found at the opening is what the flash has staged, for a stage that keeps its places.
use Rattle.std.proofs.Common.{◌≡◌, ℕ, ◌-◌, Bool, true, false, ◌&&◌, List, Option, Some, refl, sym, ap, subst, ◌∙◌, arith}
use Rattle.std.specs.Prelude.{◌==◌}
use Rattle.std.proofs.lemmas.Bool.{eq-eqb, eqb-true, le-leb}
use Rattle.bank_kept.specs.Contents.{HasSpareArea, StagesGroup, StagesPlace}
use Rattle.bank_kept.proofs.AreaLaws.{area_of, area_order, is_area}
use Rattle.dsmcc_msg.specs.Control.{DiiFields}
use Rattle.flash_bank.specs.Sound.{Boot, BootOf, record_in}
use Rattle.flash_bank.specs.declared.record.Record.{Record}
use Rattle.flash_kept.specs.SpareArea.{IsInOrder, SpareArea, spare_area}
use Rattle.flash_kept.specs.Staged.{HasStagedMessage, IsStaged}
use Rattle.flash_kept.specs.Told.{staged_bytes, staged_message}
use Rattle.flash_kept.proofs.ToldLaws.{bytes_told, message_told, staged_gives, staged_told}
use Rattle.flash_layout.specs.Layout.{Geometry, IsInLimits}
use Rattle.route_tables.specs.Values.{Opening}
use Rattle.ssu_group.proofs.LayoutLaws.{laid_blocks}
use Rattle.ssu_route.specs.Offers.{dii_of}
use Rattle.ssu_loader.specs.Opening.{is_within, opening_by, opening_in, opening_of, places_in}

-- the spare area, where this record is the current one
abbrev area_beside : Geometry → Record → SpareArea
area_beside g current = spare_area g (1 - current.bank) current.number

and_both : (a b : Bool) → (a && b) ≡ true → (a ≡ true) × (b ≡ true)
and_both true b e = (refl, e)
and_both false b e = absurd cc

module _ (g : Geometry) (x : List ℕ) (b : Boot) (limits : IsInLimits g) (boots : BootOf g x b) where
  head_is : b.head ≡ record_in g x boots.block
  head_is = ap (λ (t : Boot). t.head) boots.is

  -- the current record has layout 2
  spare_is : b.head.layout ≡ 2 → HasSpareArea g x (area_beside g b.head)
  spare_is two =
      subst (λ (h : Record). HasSpareArea g x (area_beside g h)) (sym head_is)
      (area_of g x boots.block boots.current (ap (λ (h : Record). h.layout) (sym head_is) ∙ two))

  order_is : b.head.layout ≡ 2 → IsInOrder (area_beside g b.head)
  order_is two = area_order g x (area_beside g b.head) limits (spare_is two)

  -- something is found only by a stage that keeps its places, in layout 2
  found_by : (t : Bool) (message : List ℕ) → (opening_by t (area_beside g b.head) x).message ≡ Some message → t ≡ true
  found_by true message e = refl
  found_by false message e = absurd cc

  record Finds (keeps : Bool) (message : List ℕ) : Type 0 where
    pub keeping : keeps ≡ true
    pub two : b.head.layout ≡ 2
    pub opening : opening_of keeps g b.head x ≡ opening_in (area_beside g b.head) x
    pub message_is : staged_message (area_beside g b.head) x ≡ Some message

  finds : (keeps : Bool) (message : List ℕ) → (opening_of keeps g b.head x).message ≡ Some message → Finds keeps message
  finds keeps message e =
      let test : (keeps && b.head.layout == 2) ≡ true = found_by (keeps && b.head.layout == 2) message e in
      let both = and_both keeps (b.head.layout == 2) test in
      let opening : opening_of keeps g b.head x ≡ opening_in (area_beside g b.head) x = ap (λ (t : Bool). opening_by t (area_beside g b.head) x) test in
      record {
        keeping = both.0;
        two = eqb-true b.head.layout 2 both.1;
        opening = opening;
        message_is = sym (ap (λ (o : Opening). o.message) opening) ∙ e;
      }

  pub opened_group : (keeps : Bool) (message : List ℕ) → (opening_of keeps g b.head x).message ≡ Some message → (keeps ≡ true) × ((dii : DiiFields) × StagesGroup g x message dii)
  opened_group keeps message e =
      let f = finds keeps message e in
      let told = message_told (area_beside g b.head) x message (order_is f.two) f.message_is in
      (f.keeping, (told.0, record { area = area_beside g b.head; spare = spare_is f.two; staged = told.1 }))

  pub opened_place : (keeps : Bool) (message : List ℕ) → (opening_of keeps g b.head x).message ≡ Some message → (n : ℕ) (bytes : List ℕ)
      → (opening_of keeps g b.head x).staged n ≡ Some bytes → StagesPlace g x message n bytes
  opened_place keeps message e n bytes has =
      let f = finds keeps message e in
      let bytes_is : staged_bytes (area_beside g b.head) x n ≡ Some bytes = sym (ap (λ (o : Opening). o.staged n) f.opening) ∙ has in
      record { area = area_beside g b.head; spare = spare_is f.two; staged = bytes_told (area_beside g b.head) x message n bytes (order_is f.two) f.message_is bytes_is }

  -- ---- and what is staged is found

  two_of : (area : SpareArea) → HasSpareArea g x area → b.head.layout ≡ 2
  two_of area has = ap (λ (h : Record). h.layout) head_is ∙ (is_area g x boots.block area boots.current has).two

  area_is : (area : SpareArea) → HasSpareArea g x area → area ≡ area_beside g b.head
  area_is area has = (is_area g x boots.block area boots.current has).is ∙ ap (area_beside g) (sym head_is)

  finds_all : b.head.layout ≡ 2 → opening_of true g b.head x ≡ opening_in (area_beside g b.head) x
  finds_all two = ap (λ (t : Bool). opening_by t (area_beside g b.head) x) (eq-eqb b.head.layout 2 two)

  pub group_opened : (message : List ℕ) (dii : DiiFields) → StagesGroup g x message dii → (opening_of true g b.head x).message ≡ Some message
  group_opened message dii stages =
      let two = two_of stages.area stages.spare in
      let staged = subst (λ (a : SpareArea). HasStagedMessage a x message dii) (area_is stages.area stages.spare) stages.staged in
      ap (λ (o : Opening). o.message) (finds_all two) ∙ (staged_told (area_beside g b.head) x (order_is two) message dii staged).1

  pub place_opened : (message : List ℕ) (n : ℕ) (bytes : List ℕ) → StagesPlace g x message n bytes → (opening_of true g b.head x).staged n ≡ Some bytes
  place_opened message n bytes stages =
      let two = two_of stages.area stages.spare in
      let staged = subst (λ (a : SpareArea). IsStaged a x message n bytes) (area_is stages.area stages.spare) stages.staged in
      ap (λ (o : Opening). o.staged n) (finds_all two) ∙ staged_gives (area_beside g b.head) x (order_is two) message n bytes staged

  -- and its group is one that is kept
  pub most_opened : (message : List ℕ) (dii : DiiFields) → StagesGroup g x message dii → is_within (opening_of true g b.head x).most (places_in (dii_of message)) ≡ true
  unfolding dii_of
  most_opened message dii stages =
      let two = two_of stages.area stages.spare in
      let staged = subst (λ (a : SpareArea). HasStagedMessage a x message dii) (area_is stages.area stages.spare) stages.staged in
      let few = staged.held.few in
      ap (λ (o : Opening). is_within o.most (places_in (dii_of message))) (finds_all two)
      ∙ ap (λ (o : Option DiiFields). is_within (Some (area_beside g b.head).marks) (places_in o)) staged.held.reads
      ∙ le-leb (places_in (Some dii)) (area_beside g b.head).marks
      (let count = laid_blocks dii.block_size 0 0 dii.modules in omega (arith, count, few))
