-- What a flash has staged while sections are heard.
use Rattle.std.proofs.Common.{◌≡◌, ◌⊎◌, ◌↔◌, inl, inr, ℕ, ◌<◌, ◌≤◌, Bool, true, false, eqb, List, [], ◌∷◌, Option, Some, None, refl, sym, ap, subst, ◌∙◌, arith}
use Rattle.std.specs.Prelude.{if◌then◌else◌, is_some, sum_by, unwrap_or}
use Rattle.std.proofs.lemmas.Bool.{eq-eqb, eqb-true, le-leb, leb-true}
use Rattle.bank_kept.specs.Bank.{area_of_bank}
use Rattle.bank_kept.specs.Contents.{HasSpareArea, HoldsGroup, StagesGroup, StagesPlace}
use Rattle.bank_kept.proofs.AreaLaws.{area_order, is_area, one_area, one_group}
use Rattle.bank_kept.proofs.BankLaws.{bank_area}
use Rattle.dsmcc_msg.specs.Control.{DiiFields, dii_message}
use Rattle.flash_dev.specs.declared.device.Flash.{Ghosts as FlashGhosts}
use Rattle.flash_bank.specs.Bank.{Fits, block_of, current_of, geometry_of}
use Rattle.flash_bank.specs.declared.bank.Bank.{Bank}
use Rattle.flash_bank.specs.declared.record.Record.{Record}
use Rattle.flash_kept.specs.Places.{place_count}
use Rattle.flash_kept.specs.SpareArea.{IsInOrder, SpareArea}
use Rattle.flash_kept.specs.Staged.{HasStagedMessage, IsStaged}
use Rattle.flash_kept.specs.Told.{staged_bytes, staged_message}
use Rattle.flash_kept.proofs.ToldLaws.{bytes_told, message_told, one_text, staged_gives, staged_told}
use Rattle.flash_layout.specs.Layout.{Geometry, IsInLimits, mark_count}
use Rattle.flash_stage.specs.Keeping.{IsKeptIn, IsPlanOfMessage, StagesNone}
use Rattle.flash_stage.specs.declared.stage.Stage.{Ghosts as StageGhosts}
use Rattle.ts_section.specs.Events.{Heard}
use Rattle.route_tables.specs.Values.{Opening, Receiver, nothing_open}
use Rattle.ssu_group.specs.Lays.{IsPlanOf}
use Rattle.ssu_group.specs.Plan.{block_count}
use Rattle.ssu_group.specs.declared.group_plan.GroupPlan.{GroupPlan}
use Rattle.ssu_group.specs.declared.module_plan.ModulePlan.{ModulePlan}
use Rattle.ssu_group.proofs.LayoutLaws.{laid_blocks}
use Rattle.ssu_group.proofs.SamePlans.{same_plan}
use Rattle.ssu_route.specs.declared.change.Change.TheVariants.{Same, Chosen}
use Rattle.ssu_route.specs.Choosing.{level_7}
use Rattle.ssu_route.specs.Offers.{dii_of, same_message}
use Rattle.ssu_route.specs.Windows.{change_at, change_of}
use Rattle.ssu_route.proofs.Choices.{beginnings-none, level_7-none}
use Rattle.ssu_route.proofs.Same.{message_sound}
use Rattle.ssu_route.proofs.TakingLaws.{message_same}
use Rattle.ssu_loader.specs.Opening.{KeepsNothing, fills_at, has_at, is_within, kept, last_message, most_kept, opening_by, opening_in, opening_of, places_in}
use Rattle.ssu_loader.specs.Remaining.{IsLastKept, StagesLast}
use Rattle.ssu_loader.specs.Staging.{IsStagedGroup, StagesFills}
use Rattle.ssu_loader.specs.Starting.{KeepsAtStart}
use Rattle.ssu_loader.proofs.FirstLaws.{before_first, begins_again, begins_anew}
use Rattle.ssu_loader.proofs.KeptLaws.{begins_empty}
use Rattle.ssu_loader.proofs.LastLaws.{has_ended, has_standing, last_stands}
use Rattle.ssu_loader.proofs.PlanLaws.{same_fills}

-- ---- one group, and one text for each place

some_same : {A : Type 0} (a b : A) → Some a ≡ Some b → a ≡ b
some_same a b e = cc

group_one : (g : Geometry) (c first second : List ℕ) (a b : DiiFields) → StagesGroup g c first a → StagesGroup g c second b → first ≡ second
group_one g c first second a b one two =
    let held : HoldsGroup g c first a = record { area = one.area; spare = one.spare; held = one.staged.held } in
    let other : HoldsGroup g c second b = record { area = two.area; spare = two.spare; held = two.staged.held } in
    (one_group g c first second a b held other).0

text_one : (g : Geometry) (c message : List ℕ) (n : ℕ) (a b : List ℕ) → IsInLimits g → StagesPlace g c message n a → StagesPlace g c message n b → a ≡ b
text_one g c message n a b limits one two =
    let same = one_area g c two.area one.area two.spare one.spare in
    one_text one.area c message n a b (area_order g c one.area limits one.spare) one.staged
    (subst (λ (area : SpareArea). IsStaged area c message n b) same two.staged)

-- ---- a group that is kept

most_by : (b : Bool) (marks n : ℕ) → is_within (if b then Some marks else None) n ≡ true → (b ≡ true) × (n ≤ marks)
most_by true marks n e = (refl, leb-true n marks e)
most_by false marks n e = absurd cc

pub kept_is : (bank : Bank) (n : ℕ) → is_within (most_kept (geometry_of bank) (current_of bank)) n ≡ true → IsKeptIn bank n
kept_is bank n e =
    let both = most_by (eqb (current_of bank).layout 2) (mark_count (geometry_of bank)) n e in
    record { two = eqb-true (current_of bank).layout 2 both.0; few = both.1 }

pub within_is : (bank : Bank) (n : ℕ) → IsKeptIn bank n → is_within (most_kept (geometry_of bank) (current_of bank)) n ≡ true
within_is bank n kept =
    let two : eqb (current_of bank).layout 2 ≡ true = eq-eqb (current_of bank).layout 2 kept.two in
    ap (λ (b : Bool). is_within (if b then Some (mark_count (geometry_of bank)) else None) n) two ∙ le-leb n (mark_count (geometry_of bank)) kept.few

pub dii_places : (message : List ℕ) (dii : DiiFields) (plan : GroupPlan) → dii_of message ≡ Some dii → IsPlanOf dii plan → plan.places ≡ places_in (dii_of message)
dii_places message dii plan read lays =
    plan.planned.all_places ∙ ap (λ (ms : List ModulePlan). sum_by block_count ms) lays.modules ∙ laid_blocks dii.block_size 0 0 dii.modules ∙ ap places_in (sym read)

read_of : (message : List ℕ) (bank_len : ℕ) (plan : GroupPlan) (of_message : IsPlanOfMessage bank_len message plan) → dii_of message ≡ Some of_message.dii
unfolding dii_of
read_of message bank_len plan of_message = of_message.reads

-- ---- where nothing changes of it

pub stages_stay : (me : Receiver) (item : Heard) (heard : List Heard) (g : Geometry) (c : List ℕ) → last_message me (item ∷ heard) ≡ last_message me heard
    → ((plan : GroupPlan) (n : ℕ) → has_at me (item ∷ heard) plan n ≡ has_at me heard plan n) → StagesLast me heard g c → StagesLast me (item ∷ heard) g c
stages_stay me item heard g c last has was = record {
  own = λ message dii is. let k = was.own message dii is in record { last = last ∙ k.last; within = k.within };
  group = λ message k. was.group message (before message k);
  places = λ message dii plan k read lays n b below.
      let both = was.places message dii plan (before message k) read lays n b below in
      (λ e. both.0 (sym (has plan n) ∙ e), λ is. has plan n ∙ both.1 is);
}
  where
    before : (message : List ℕ) → IsLastKept me (item ∷ heard) message → IsLastKept me heard message
    before message k = record { last = sym last ∙ k.last; within = k.within }

-- ---- where a choice stands

value_of : {A : Type 0} (o : Option A) → is_some o ≡ true → (a : A) × (o ≡ Some a)
value_of None some = absurd cc
value_of (Some a) some = (a, refl)

module _ (me : Receiver) (heard : List Heard) (bank : Bank) (c : List ℕ) (plan : GroupPlan) (message : List ℕ) (bank_len : ℕ) (now : level_7 me heard ≡ Some message)
    (of_message : IsPlanOfMessage bank_len message plan) (most : me.opening.most ≡ most_kept (geometry_of bank) (current_of bank)) where
  abbrev g : Geometry
  g = geometry_of bank

  count : plan.places ≡ places_in (dii_of message)
  count = dii_places message of_message.dii plan (read_of message bank_len plan of_message) of_message.lays

  own_last : last_message me heard ≡ Some message
  own_last = last_stands me heard message now

  own_message : (m : List ℕ) → IsLastKept me heard m → m ≡ message
  own_message m k = some_same m message (sym k.last ∙ own_last)

  kept_now : IsLastKept me heard message → IsKeptIn bank plan.places
  kept_now k =
      kept_is bank plan.places
      (ap (λ (o : Option ℕ). is_within o plan.places) (sym most) ∙ ap (is_within me.opening.most) count ∙ k.within)

  last_now : IsKeptIn bank plan.places → IsLastKept me heard message
  last_now kept = record {
    last = own_last;
    within = ap (is_within me.opening.most) (sym count) ∙ ap (λ (o : Option ℕ). is_within o plan.places) most ∙ within_is bank plan.places kept;
  }

  module _ (just : IsKeptIn bank plan.places → StagesFills g c message plan (fills_at me heard plan)) (none : (IsKeptIn bank plan.places → ⊥) → StagesNone g c) where
    is_kept : (m : List ℕ) (dii : DiiFields) → StagesGroup g c m dii → IsKeptIn bank plan.places
    is_kept m dii is = by_test (is_within (most_kept g (current_of bank)) plan.places) refl
      where
        by_test : (b : Bool) → is_within (most_kept g (current_of bank)) plan.places ≡ b → IsKeptIn bank plan.places
        by_test true e = kept_is bank plan.places e
        by_test false e = absurd (none (λ kept. let yes = within_is bank plan.places kept in cc) m dii is)

    own_group : (m : List ℕ) (dii : DiiFields) → StagesGroup g c m dii → IsLastKept me heard m
    own_group m dii is =
        let kept = is_kept m dii is in
        let j = just kept in
        let same : message ≡ m = group_one g c message m j.dii dii j.group is in
        subst (IsLastKept me heard) same (last_now kept)

    own_places : (m : List ℕ) (dii : DiiFields) (other : GroupPlan) → IsLastKept me heard m → dii_of m ≡ Some dii → IsPlanOf dii other → (n : ℕ) (b : List ℕ) → n < other.places
        → (has_at me heard other n ≡ Some b) ↔ StagesPlace g c m n b
    own_places m dii other k read lays n b below =
        let is : m ≡ message = own_message m k in
        let one : dii ≡ of_message.dii = some_same dii of_message.dii (sym read ∙ ap dii_of is ∙ read_of message bank_len plan of_message) in
        let same = same_plan of_message.dii other plan (subst (λ (d : DiiFields). IsPlanOf d other) one lays) of_message.lays in
        let fills : has_at me heard other n ≡ fills_at me heard plan n = (λ i. has_standing me heard other message now i n) ∙ same_fills me heard other plan n same in
        let inside : n < plan.places = subst (λ (q : ℕ). n < q) same.places below in
        let j = just (kept_now (subst (IsLastKept me heard) is k)) in
        let at : (o : List ℕ) → fills_at me heard plan n ≡ Some o → StagesPlace g c message n o = λ o e.
        subst (StagesPlace g c message n) (ap (λ (p : Option (List ℕ)). unwrap_or p []) e) (j.each n inside (ap is_some e)) in (
          λ e. subst (λ (x : List ℕ). StagesPlace g c x n b) (sym is) (at b (sym fills ∙ e)),
          λ staged.
              let mine = subst (λ (x : List ℕ). StagesPlace g c x n b) is staged in
              let has = value_of (fills_at me heard plan n) (j.no_other n b mine) in
              fills ∙ has.1 ∙ ap (λ (x : List ℕ). Some x) (text_one g c message n has.0 b bank.limits (at has.0 has.1) mine),
        )

    pub stages_now : StagesLast me heard g c
    stages_now = record {
      own = own_group;
      group = λ m k.
          let is : m ≡ message = own_message m k in
          let j = just (kept_now (subst (IsLastKept me heard) is k)) in
          subst (IsStagedGroup g c) (sym is) (j.dii, j.group);
      places = own_places;
    }

-- ---- where a choice begins

module _ {S F : Type 0} (s : StageGhosts S) (f : FlashGhosts F) (me : Receiver) (item : Heard) (heard : List Heard) (bank : Bank) (flash : F) (plan : GroupPlan) (message : List ℕ)
    (bank_len : ℕ) (chosen : change_at me item heard ≡ Chosen) (now : level_7 me (item ∷ heard) ≡ Some message) (of_message : IsPlanOfMessage bank_len message plan) where
  pub is_last : IsLastKept me heard message ⊎ (IsLastKept me heard message → ⊥)
  is_last = by_same (same_message (last_message me heard) (Some message)) refl
    where
      by_within : last_message me heard ≡ Some message → (b : Bool) → is_within me.opening.most (places_in (dii_of message)) ≡ b
          → IsLastKept me heard message ⊎ (IsLastKept me heard message → ⊥)
      by_within last true e = inl (record { last = last; within = e })
      by_within last false e = inr (λ k. let yes = k.within in cc)

      by_same : (b : Bool) → same_message (last_message me heard) (Some message) ≡ b → IsLastKept me heard message ⊎ (IsLastKept me heard message → ⊥)
      by_same true e = by_within (message_sound (last_message me heard) (Some message) e) (is_within me.opening.most (places_in (dii_of message))) refl
      by_same false e =
          inr (λ k.
          let yes : same_message (last_message me heard) (Some message) ≡ true =
          ap (λ (o : Option (List ℕ)). same_message o (Some message)) k.last ∙ message_same (Some message) in cc)

  -- the choice before had another message, or had ended
  none_stood : IsLastKept me heard message → level_7 me heard ≡ None
  unfolding change_at change_of
  none_stood k = by_level (level_7 me heard) refl
    where
      by_level : (o : Option (List ℕ)) → level_7 me heard ≡ o → level_7 me heard ≡ None
      by_level None e = e
      by_level (Some m) e =
          let last : level_7 me heard ≡ Some message = e ∙ sym (last_stands me heard m e) ∙ k.last in
          let same : same_message (level_7 me heard) (level_7 me (item ∷ heard)) ≡ true =
          ap (λ (o : Option (List ℕ)). same_message o (level_7 me (item ∷ heard))) (last ∙ sym now) ∙ message_same (level_7 me (item ∷ heard)) in
          let stays : change_at me item heard ≡ Same = rw same refl in
          let both : Same ≡ Chosen = sym stays ∙ chosen in
          absurd cc

  pub starts_as : (s.KEEPS ≡ false → KeepsNothing me) → (s.KEEPS ≡ true → f.tells → StagesLast me heard (geometry_of bank) (f.contents flash))
      → KeepsAtStart s f message plan (fills_at me (item ∷ heard) plan) bank flash
  starts_as opens staged = record {
    nothing = λ no n below. (λ i. begins_empty me (opens no) item heard plan chosen i n);
    staged = λ keeps tells n b below. by_last (staged keeps tells) n b below is_last;
  }
    where
      by_last : StagesLast me heard (geometry_of bank) (f.contents flash) → (n : ℕ) (b : List ℕ) → n < plan.places → IsLastKept me heard message ⊎ (IsLastKept me heard message → ⊥)
          → (fills_at me (item ∷ heard) plan n ≡ Some b) ↔ StagesPlace (geometry_of bank) (f.contents flash) message n b
      by_last last n b below (inl k) =
          let again = begins_again me item heard message now plan chosen k.last k.within in
          let ended = has_ended me heard plan (none_stood k) in
          let fills : fills_at me (item ∷ heard) plan n ≡ has_at me heard plan n = (λ i. again i n) ∙ sym (λ i. ended i n) in
          let both = last.places message of_message.dii plan k (read_of message bank_len plan of_message) of_message.lays n b below in
          (λ e. both.0 (sym fills ∙ e), λ is. fills ∙ both.1 is)
      by_last last n b below (inr other) =
          let anew = begins_anew me item heard message now plan chosen (λ was within. other (record { last = was; within = within })) in
          let none : fills_at me (item ∷ heard) plan n ≡ None = (λ i. anew i n) in (
            λ e. absurd cc,
            λ is.
                let group : StagesGroup (geometry_of bank) (f.contents flash) message is.staged.dii = record { area = is.area; spare = is.spare; staged = is.staged.staged } in
                absurd (other (last.own message is.staged.dii group)),
          )

-- ---- at the opening

module _ (me : Receiver) (bank : Bank) (c : List ℕ) (fits : Fits bank c) where
  last_is : last_message me [] ≡ me.opening.message
  unfolding last_message
  last_is = refl

  has_is : (plan : GroupPlan) (n : ℕ) → has_at me [] plan n ≡ me.opening.staged n
  has_is plan n =
      (λ i. has_ended me [] plan (level_7-none me) i n) ∙ (λ i. (before_first me [] plan (beginnings-none me)).1 i n)

  module _ (two : (current_of bank).layout ≡ 2) (opens : me.opening ≡ opening_in (area_of_bank bank) c) where
    spare : HasSpareArea (geometry_of bank) c (area_of_bank bank)
    spare = bank_area bank c fits two

    order : IsInOrder (area_of_bank bank)
    order = area_order (geometry_of bank) c (area_of_bank bank) bank.limits spare

    message_is : last_message me [] ≡ staged_message (area_of_bank bank) c
    message_is = last_is ∙ ap (λ (o : Opening). o.message) opens

    text_is : (plan : GroupPlan) (n : ℕ) → has_at me [] plan n ≡ staged_bytes (area_of_bank bank) c n
    text_is plan n = has_is plan n ∙ ap (λ (o : Opening). o.staged n) opens

    few_is : (message : List ℕ) (dii : DiiFields) → dii_message.of message ≡ Some dii → place_count dii ≤ (area_of_bank bank).marks
        → is_within me.opening.most (places_in (dii_of message)) ≡ true
    unfolding dii_of
    few_is message dii reads few =
        ap (λ (o : Opening). is_within o.most (places_in (dii_of message))) opens
        ∙ ap (λ (o : Option DiiFields). is_within (Some (area_of_bank bank).marks) (places_in o)) reads
        ∙ le-leb (places_in (Some dii)) (area_of_bank bank).marks
        (let count = laid_blocks dii.block_size 0 0 dii.modules in omega (arith, count, few))

    own_at : (message : List ℕ) (dii : DiiFields) → StagesGroup (geometry_of bank) c message dii → IsLastKept me [] message
    own_at message dii is =
        let same = one_area (geometry_of bank) c is.area (area_of_bank bank) is.spare spare in
        let staged = subst (λ (a : SpareArea). HasStagedMessage a c message dii) same is.staged in
        record {
          last = message_is ∙ (staged_told (area_of_bank bank) c order message dii staged).1;
          within = few_is message dii staged.held.reads staged.held.few;
        }

    stages_area : StagesLast me [] (geometry_of bank) c
    stages_area = record {
      own = own_at;
      group = λ message k.
          let told = message_told (area_of_bank bank) c message order (sym message_is ∙ k.last) in
          (told.0, record { area = area_of_bank bank; spare = spare; staged = told.1 });
      places = λ message dii plan k read lays n b below. (
        λ e. record {
          area = area_of_bank bank;
          spare = spare;
          staged = bytes_told (area_of_bank bank) c message n b order (sym message_is ∙ k.last) (sym (text_is plan n) ∙ e);
        },
        λ is.
            let same = one_area (geometry_of bank) c is.area (area_of_bank bank) is.spare spare in
            text_is plan n ∙ staged_gives (area_of_bank bank) c order message n b (subst (λ (a : SpareArea). IsStaged a c message n b) same is.staged),
      );
    }

  module _ (other : (current_of bank).layout ≡ 2 → ⊥) (opens : me.opening ≡ nothing_open) where
    none_last : (message : List ℕ) → IsLastKept me [] message → ⊥
    none_last message k = let both : None ≡ Some message = sym (ap (λ (o : Opening). o.message) opens) ∙ sym last_is ∙ k.last in cc

    stages_nothing : StagesLast me [] (geometry_of bank) c
    stages_nothing = record {
      own = λ message dii is.
          let own = is_area (geometry_of bank) c (block_of bank) is.area fits.current is.spare in
          absurd (other (ap (λ (h : Record). h.layout) (sym fits.head) ∙ own.two));
      group = λ message k. absurd (none_last message k);
      places = λ message dii plan k read lays n b below. absurd (none_last message k);
    }

  pub opening_stages : me.opening ≡ opening_of true (geometry_of bank) (current_of bank) c → StagesLast me [] (geometry_of bank) c
  opening_stages opens = by_layout (eqb (current_of bank).layout 2) refl opens
    where
      by_layout : (b : Bool) → eqb (current_of bank).layout 2 ≡ b → me.opening ≡ opening_by (eqb (current_of bank).layout 2) (area_of_bank bank) c
          → StagesLast me [] (geometry_of bank) c
      by_layout true e is = stages_area (eqb-true (current_of bank).layout 2 e) (is ∙ ap (λ (b : Bool). opening_by b (area_of_bank bank) c) e)
      by_layout false e is =
          stages_nothing (λ two. let yes = eq-eqb (current_of bank).layout 2 two in cc) (is ∙ ap (λ (b : Bool). opening_by b (area_of_bank bank) c) e)
