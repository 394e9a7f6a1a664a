-- The margin of what is staged, from one call to the next.
use Rattle.std.proofs.Common.{◌≡◌, inl, inr, ⊎_elim, ℕ, ◌<◌, ◌≤◌, true, List, ◌∷◌, Option, Some, None, sym, subst, ◌∙◌, arith}
use Rattle.std.specs.Prelude.{IfNone}
use Rattle.bank_kept.specs.Contents.{HasSpareArea, HoldsGroup}
use Rattle.bank_kept.specs.Leaving.{KeepsStaged}
use Rattle.bank_kept.proofs.AreaLaws.{area_after, one_area, one_group}
use Rattle.bank_kept.proofs.CallLaws.{kept_joined}
use Rattle.dsmcc_msg.specs.Control.{DiiFields}
use Rattle.flash_bank.specs.Bank.{geometry_of}
use Rattle.flash_bank.specs.Sound.{Keeps}
use Rattle.flash_dev.specs.declared.device.Flash.{Ghosts as FlashGhosts}
use Rattle.flash_kept.specs.Lost.{lost_places}
use Rattle.flash_kept.specs.Slots.{free_slots, is_free}
use Rattle.flash_kept.specs.SpareArea.{SpareArea}
use Rattle.flash_kept.proofs.CountLaws.{count_most}
use Rattle.flash_layout.specs.Layout.{Geometry}
use Rattle.flash_stage.specs.Keeping.{HasWholeMargin}
use Rattle.flash_stage.specs.declared.stage.Stage.{Ghosts as StageGhosts}
use Rattle.ts_section.specs.Events.{Heard}
use Rattle.route_tables.specs.Values.{Receiver}
use Rattle.ssu_answer.specs.declared.verdict.Verdict.{Verdict}
use Rattle.ssu_route.specs.declared.change.Change.TheVariants as change
use Rattle.ssu_route.specs.declared.choice.Choice.{Choice}
use Rattle.ssu_route.specs.Route.{HasUsableDii}
use Rattle.ssu_route.specs.Windows.{IsChoice}
use Rattle.ssu_loader.specs.declared.collector.Collector.{Collector}
use Rattle.ssu_loader.specs.Collecting.{IsAhead}
use Rattle.ssu_loader.specs.Lasting.{KeepsMargin}
use Rattle.ssu_loader.specs.Remaining.{IsLastKept, StagesLast}
use Rattle.ssu_loader.specs.Staging.{IsStagedGroup}
use Rattle.ssu_loader.proofs.LastLaws.{last_same, last_stands}
use Rattle.ssu_loader.proofs.LastingLaws.{staged_or_not}
use Rattle.ssu_loader.proofs.StagedLaws.{staged_same}

-- where nothing was changed
pub margin_same : (g : Geometry) (x : List ℕ) → KeepsMargin g x x
margin_same g x message staged = inl (staged, staged_same g x)

most_free : (area : SpareArea) (c : List ℕ) → free_slots area c ≤ 16
unfolding free_slots
most_free area c = count_most (is_free area c) 16

-- a whole margin does not fall where nothing of it is lost
whole_stays : (g : Geometry) (x y message : List ℕ) → IsStagedGroup g x message → Keeps g x y → HasWholeMargin g x → KeepsStaged g 0 0 x y → HasWholeMargin g y
whole_stays g x y message group keeps whole kept area other dii spare staged =
    let was = group.1 in
    let still : HasSpareArea g y was.area = area_after g x y was.area keeps was.spare in
    let same : was.area ≡ area = one_area g y was.area area still spare in
    let enough = was.staged.enough in
    let there = kept.group was.area message group.0 was.spare was.staged (omega (arith, enough)) in
    let first : HoldsGroup g y message group.0 = record { area = there.area; spare = there.spare; held = there.staged.held } in
    let second : HoldsGroup g y other dii = record { area = area; spare = spare; held = staged.held } in
    let one : group.0 ≡ dii = (one_group g y message other group.0 dii first second).1 in
    let fall = kept.margin was.area message group.0 was.spare was.staged in
    let before = whole was.area message group.0 was.spare was.staged in
    let most = most_free was.area y in
    let none : lost_places was.area group.0 y ≡ 0 = omega (arith, fall, before.0, before.1, most) in
    let all : free_slots was.area y ≡ 16 = omega (arith, fall, before.0, before.1, most) in (
      subst (λ (d : DiiFields). lost_places area d y ≡ 0) one (subst (λ (a : SpareArea). lost_places a group.0 y ≡ 0) same none),
      subst (λ (a : SpareArea). free_slots a y ≡ 16) same all,
    )

-- a call after others, each of which answered Ok
pub margin_joined : (g : Geometry) (x y z : List ℕ) → Keeps g x y → Keeps g y z → KeepsMargin g x y → KeepsMargin g y z → KeepsMargin g x z
margin_joined g x y z before after first second message staged =
    ⊎_elim
    (λ both. ⊎_elim (λ was. inl (was.0, kept_joined g 0 0 x y z before was.1 both.1)) (λ whole. inr (whole_stays g y z message both.0 after whole both.1)) (first message both.0))
    (λ whole. inr whole) (second message staged)

some_same : (a b : List ℕ) → Some a ≡ Some b → a ≡ b
some_same a b e = cc

-- ---- a section at which a choice begins

pub begun_margin : {S F : Type 0} (s : StageGhosts S) (f : FlashGhosts F) (me : Receiver) (item : Heard) (heard : List Heard) (c : Collector S) (flash : F) (choice : Choice)
    (ahead : IsAhead s f me item heard change.Chosen c flash) (is : IsChoice me (item ∷ heard) choice) (usable : HasUsableDii me (item ∷ heard) choice) (below : c.choices < 16)
    (keeps : s.KEEPS ≡ true) (tells : f.tells) → (y : List ℕ) (answer : Option Verdict) → IfNone answer (StagesLast me (item ∷ heard) (geometry_of c.bank) y)
    → (IsStagedGroup (geometry_of c.bank) (f.contents flash) choice.message.items → IfNone answer (KeepsStaged (geometry_of c.bank) 0 0 (f.contents flash) y))
    → ((IsStagedGroup (geometry_of c.bank) (f.contents flash) choice.message.items → ⊥) → IfNone answer (HasWholeMargin (geometry_of c.bank) y))
    → IfNone answer (KeepsMargin (geometry_of c.bank) (f.contents flash) y)
begun_margin s f me item heard c flash choice ahead is usable below keeps tells y (Some v) stages resumed fresh = tt
begun_margin s f me item heard c flash choice ahead is usable below keeps tells y None stages resumed fresh = λ message staged.
    let last = (stages.own message staged.0 staged.1).last in
    let own : choice.message.items ≡ message = some_same choice.message.items message (sym (last_stands me (item ∷ heard) choice.message.items is.message) ∙ last) in
    ⊎_elim (λ group. inl (subst (IsStagedGroup (geometry_of c.bank) (f.contents flash)) own group, resumed group)) (λ none. inr (fresh none))
    (staged_or_not s f me item heard c flash choice ahead is usable below keeps tells)

-- ---- a block of the choice that stands

pub taken_margin : {S F : Type 0} (s : StageGhosts S) (f : FlashGhosts F) (me : Receiver) (item : Heard) (heard : List Heard) (c : Collector S) (flash : F)
    (ahead : IsAhead s f me item heard change.Same c flash) (keeps : s.KEEPS ≡ true) (tells : f.tells) → (y : List ℕ) (answer : Option Verdict)
    → IfNone answer (StagesLast me (item ∷ heard) (geometry_of c.bank) y) → IfNone answer (KeepsStaged (geometry_of c.bank) 0 0 (f.contents flash) y)
    → IfNone answer (KeepsMargin (geometry_of c.bank) (f.contents flash) y)
taken_margin s f me item heard c flash ahead keeps tells y (Some v) stages kept = tt
taken_margin s f me item heard c flash ahead keeps tells y None stages kept = λ message staged.
    let now = stages.own message staged.0 staged.1 in
    let was : IsLastKept me heard message = record { last = sym (last_same me item heard ahead.changes) ∙ now.last; within = now.within } in
    inl ((ahead.gathers.staged keeps tells).group message was, kept)
