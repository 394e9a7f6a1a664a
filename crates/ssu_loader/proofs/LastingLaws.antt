-- What is staged stays staged while sections are heard.
use Rattle.std.proofs.Common.{◌≡◌, ◌⊎◌, inl, inr, ⊎_elim, ℕ, ◌+◌, ◌<◌, true, List, [], ◌∷◌, ◌++◌, Option, Some, None, refl, sym, ap, subst, ◌∙◌, arith, append_assoc}
use Rattle.std.specs.Prelude.{IfNone, IfSome, IsSome, IsTrue}
use Rattle.bank_kept.specs.Leaving.{HoldsNoMore, KeepsStaged}
use Rattle.bank_kept.proofs.CallLaws.{kept_joined, kept_weaker}
use Rattle.flash_bank.specs.Bank.{Fits, current_of, geometry_of}
use Rattle.flash_bank.specs.Record.{next_record}
use Rattle.flash_bank.specs.Sound.{Boot, Keeps}
use Rattle.flash_bank.specs.declared.bank.Bank.{Bank}
use Rattle.flash_bank.specs.declared.record.Record.{Record}
use Rattle.flash_bank.proofs.SoundLemmas.{one_boot}
use Rattle.flash_dev.specs.declared.device.Flash.{Ghosts as FlashGhosts}
use Rattle.flash_dev.specs.Moments.{LeavesOnly}
use Rattle.flash_dev.proofs.Moments.{weaker}
use Rattle.flash_layout.specs.Layout.{Geometry}
use Rattle.flash_stage.specs.declared.stage.Stage.{Ghosts as StageGhosts}
use Rattle.ssu_io.specs.Bytes.{Takes}
use Rattle.ts_section.specs.Events.{Heard}
use Rattle.route_tables.specs.Values.{Receiver}
use Rattle.ssu_answer.specs.declared.verdict.Verdict.{Verdict}
use Rattle.ssu_answer.specs.declared.verdict.Verdict.TheVariants.{Installed, Nothing, Incomplete, BadModule, Unsettled}
use Rattle.ssu_group.specs.Carried.{Fills, with_section}
use Rattle.ssu_route.specs.declared.change.Change.TheVariants as change
use Rattle.ssu_route.specs.declared.choice.Choice.{Choice}
use Rattle.ssu_route.specs.Choosing.{level_7}
use Rattle.ssu_route.specs.Route.{HasUsableDii}
use Rattle.ssu_route.specs.Windows.{IsChoice, change_at, is_one_too_many, window}
use Rattle.ssu_loader.specs.declared.collector.Collector.{Collector}
use Rattle.ssu_loader.specs.Collecting.{IsAhead}
use Rattle.ssu_loader.specs.Decisions.{IsOpen, IsStanding, Wrong}
use Rattle.ssu_loader.specs.Lasting.{BeginsOther, BootsOther, FindsWrong, Lasts, TakesLasting}
use Rattle.ssu_loader.specs.Opening.{fills_at}
use Rattle.ssu_loader.specs.Remaining.{StagesLast}
use Rattle.ssu_loader.specs.Replays.{heard_in}
use Rattle.ssu_loader.specs.Settling.{InstallsWhole, Settles}
use Rattle.ssu_loader.specs.Staging.{IsStagedGroup, IsWrongGroup, StagingLeaves}
use Rattle.ssu_loader.proofs.CollectingLaws.{begun_message, begun_now, fewer, fills_more, stands_now}
use Rattle.ssu_loader.proofs.DecisionLaws.{few_begin, reached_now, reaches_more}
use Rattle.ssu_loader.proofs.KeepingLaws.{head_is}
use Rattle.ssu_loader.proofs.RemainingLaws.{is_last}
use Rattle.ssu_loader.proofs.StagedLaws.{staged_same}

-- ---- one call, and one after another

-- where nothing was changed
pub lasts_same : (n : ℕ) (g : Geometry) (me : Receiver) (all heard : List Heard) (x : List ℕ) → Lasts n g me all heard x x
lasts_same n g me all heard x message staged = inl (kept_weaker g n n x x (staged_same g x))

pub lasts_weaker : (n : ℕ) (g : Geometry) (me : Receiver) (all heard : List Heard) (x y : List ℕ) → Lasts 0 g me all heard x y → Lasts n g me all heard x y
lasts_weaker n g me all heard x y lasts message staged = ⊎_elim (λ kept. inl (kept_weaker g n n x y kept)) (λ ends. inr ends) (lasts message staged)

pub same_lasting : (n : ℕ) (me : Receiver) (left left_after : Option (List ℕ)) (g : Geometry) (x taken : List ℕ) → Takes left left_after taken → TakesLasting n me left left_after g x x
same_lasting n me left left_after g x taken takes = record { taken = taken; takes = takes; lasts = lasts_same n g me (heard_in me taken) [] x }

module _ (me : Receiver) (message : List ℕ) (all : List Heard) where
  begins_more : (newer heard : List Heard) → BeginsOther me message all heard → BeginsOther me message (newer ++ all) heard
  begins_more newer heard is = record {
    newer = newer ++ is.newer;
    item = is.item;
    since = is.since;
    parts = ap (λ (items : List Heard). newer ++ items) is.parts ∙ sym (append_assoc newer is.newer (is.item ∷ (is.since ++ heard)));
    chosen = is.chosen;
    begins = is.begins;
    other = is.other;
  }

  begins_since : (between mid heard : List Heard) → mid ≡ between ++ heard → BeginsOther me message all mid → BeginsOther me message all heard
  begins_since between mid heard parts is =
      let joins : is.since ++ mid ≡ (is.since ++ between) ++ heard = ap (λ (items : List Heard). is.since ++ items) parts ∙ sym (append_assoc is.since between heard) in
      record {
        newer = is.newer;
        item = is.item;
        since = is.since ++ between;
        parts = is.parts ∙ ap (λ (items : List Heard). is.newer ++ is.item ∷ items) joins;
        chosen = subst (λ (items : List Heard). change_at me is.item items ≡ change.Chosen) joins is.chosen;
        begins = subst (λ (items : List Heard). IsTrue (is_one_too_many me (is.item ∷ items)) → ⊥) joins is.begins;
        other = subst (λ (items : List Heard). level_7 me (is.item ∷ items) ≡ Some message → ⊥) joins is.other;
      }

wrong_more : (me : Receiver) (newer heard : List Heard) → FindsWrong me heard → FindsWrong me (newer ++ heard)
wrong_more me newer heard is = record {
  id = is.id;
  want = is.want;
  found = is.found;
  reached = reaches_more me newer heard (Wrong is.id is.want is.found) is.reached;
}

-- where more is heard
pub lasts_more : (n : ℕ) (g : Geometry) (me : Receiver) (newer all heard : List Heard) (x y : List ℕ) → Lasts n g me all heard x y → Lasts n g me (newer ++ all) heard x y
lasts_more n g me newer all heard x y lasts message staged =
    ⊎_elim (λ kept. inl kept)
    (λ ends. inr (⊎_elim (λ other. inl (begins_more me message all newer heard other))
    (λ ends. inr (⊎_elim (λ wrong. inl (wrong_more me newer all wrong)) (λ boots. inr boots) ends)) ends))
    (lasts message staged)

-- a call after others, at whose return boot takes what it took
pub lasts_joined : (n : ℕ) (g : Geometry) (me : Receiver) (newer between mid heard : List Heard) (x y z : List ℕ) → mid ≡ between ++ heard → Keeps g x y
    → Lasts 0 g me mid heard x y → Lasts n g me (newer ++ mid) mid y z → Lasts n g me (newer ++ mid) heard x z
lasts_joined n g me newer between mid heard x y z parts keeps first second message staged =
    ⊎_elim going (λ ends. inr (ended ends)) (first message staged)
  where
    Ended : Type 0
    Ended = BeginsOther me message (newer ++ mid) heard ⊎ (FindsWrong me (newer ++ mid) ⊎ BootsOther g x z)

    ended : BeginsOther me message mid heard ⊎ (FindsWrong me mid ⊎ BootsOther g x y) → Ended
    ended =
        ⊎_elim (λ other. inl (begins_more me message mid newer heard other))
        (λ ends. inr (⊎_elim (λ wrong. inl (wrong_more me newer mid wrong)) (λ boots. inr (λ b was now. absurd (boots b was (keeps.boot b was)))) ends))

    ended_now : BeginsOther me message (newer ++ mid) mid ⊎ (FindsWrong me (newer ++ mid) ⊎ BootsOther g y z) → Ended
    ended_now =
        ⊎_elim (λ other. inl (begins_since me message (newer ++ mid) between mid heard parts other))
        (λ ends. inr (⊎_elim (λ wrong. inl wrong) (λ boots. inr (λ b was now. boots b (keeps.boot b was) now)) ends))

    going : KeepsStaged g 0 0 x y → KeepsStaged g n n x z ⊎ Ended
    going kept =
        let group = staged.1 in
        let enough = group.staged.enough in
        let still = kept.group group.area message staged.0 group.spare group.staged (omega (arith, enough)) in
        ⊎_elim (λ then. inl (kept_joined g n n x y z keeps kept then)) (λ ends. inr (ended_now ends)) (second message (staged.0, still))

-- ---- one section

-- a group was installed
whole_other : (choice : Choice) (fills : Fills) (bank : Bank) (x y : List ℕ) → Fits bank x → InstallsWhole choice fills bank x y → BootsOther (geometry_of bank) x y
whole_other choice fills bank x y fits whole b was now =
    let new : Boot = record { head = next_record (current_of bank) choice.plan.total choice.software choice.group; image = whole.image } in
    let same : b ≡ new = one_boot (geometry_of bank) y b new now whole.installs.commits.boot in
    let head : b.head ≡ current_of bank = head_is bank x b fits was in
    let numbers : (current_of bank).number ≡ (current_of bank).number + 1 = sym (ap (λ (r : Record). r.number) head) ∙ ap (λ (t : Boot). t.head.number) same in
    absurd (omega (arith, numbers))

module _ (me : Receiver) (item : Heard) (heard : List Heard) (choice : Choice) (bank : Bank) (x : List ℕ) (fits : Fits bank x) (undecided : IsOpen me heard)
    (standing : IsStanding me (item ∷ heard) choice) where
  abbrev g : Geometry
  g = geometry_of bank

  abbrev fills : Fills
  fills = fills_at me (item ∷ heard) choice.plan

  abbrev Stays : ℕ → List ℕ → Type 0
  Stays n y = Lasts n (geometry_of bank) me (item ∷ heard) heard x y

  wrong_found : IsWrongGroup choice.plan (fills_at me (item ∷ heard) choice.plan) → FindsWrong me (item ∷ heard)
  wrong_found is = record {
    id = is.id;
    want = is.want;
    found = is.found;
    reached = reached_now me item heard (Wrong is.id is.want is.found) undecided (record { choice = choice; standing = standing; wrong = is.wrong });
  }

  -- what may be left
  pub staging_lasts : (n : ℕ) (y : List ℕ) → StagingLeaves n choice (fills_at me (item ∷ heard) choice.plan) bank x y → Lasts n (geometry_of bank) me (item ∷ heard) heard x y
  staging_lasts n y leaves message staged =
      ⊎_elim (λ kept. inl kept)
      (λ ends. inr (inr (⊎_elim (λ wrong. inl (wrong_found wrong)) (λ whole. inr (whole_other choice fills bank x y fits whole)) ends))) leaves

  settled_lasts : (y : List ℕ) (v : Verdict) → Settles choice (fills_at me (item ∷ heard) choice.plan) bank x y v → Lasts 0 (geometry_of bank) me (item ∷ heard) heard x y
  settled_lasts y (Installed chosen) settles message staged = inr (inr (inr (whole_other choice fills bank x y fits settles.1)))
  settled_lasts y (BadModule id want found) settles message staged =
      inr (inr (inl (wrong_found (record { id = id; want = want; found = found; wrong = settles.0 }))))
  settled_lasts y (Nothing level) settles message staged = absurd settles
  settled_lasts y (Incomplete chosen count) settles message staged = absurd settles
  settled_lasts y Unsettled settles message staged = absurd settles

  -- with the answer
  pub answer_lasts : (y : List ℕ) (answer : Option Verdict) → IfNone answer (KeepsStaged (geometry_of bank) 0 0 x y)
      → IfSome answer (Settles choice (fills_at me (item ∷ heard) choice.plan) bank x y) → Lasts 0 (geometry_of bank) me (item ∷ heard) heard x y
  answer_lasts y None kept settles message staged = inl kept
  answer_lasts y (Some v) kept settles message staged = settled_lasts y v settles message staged

-- a choice begins with another message than is staged
other_lasts : (n : ℕ) (g : Geometry) (me : Receiver) (item : Heard) (heard : List Heard) (own x y : List ℕ) → change_at me item heard ≡ change.Chosen
    → (IsTrue (is_one_too_many me (item ∷ heard)) → ⊥) → level_7 me (item ∷ heard) ≡ Some own → (IsStagedGroup g x own → ⊥) → Lasts n g me (item ∷ heard) heard x y
other_lasts n g me item heard own x y chosen begins is none message staged =
    inr (inl (record {
      newer = [];
      item = item;
      since = [];
      parts = refl;
      chosen = chosen;
      begins = begins;
      other = λ e. let both : Some message ≡ Some own = sym e ∙ is in let same : message ≡ own = cc in none (subst (IsStagedGroup g x) same staged);
    }))

-- ---- a section at which a choice begins

module _ {S F : Type 0} (s : StageGhosts S) (f : FlashGhosts F) (me : Receiver) (item : Heard) (heard : List Heard) (c : Collector S) (flash : F) (choice : Choice)
    (ahead : IsAhead s f me item heard change.Chosen c flash) (is : IsChoice me (item ∷ heard) choice) (usable : HasUsableDii me (item ∷ heard) choice) (below : c.choices < 16)
    (keeps : s.KEEPS ≡ true) (tells : f.tells) where
  abbrev blocks : Geometry
  blocks = geometry_of c.bank

  abbrev x : List ℕ
  x = f.contents flash

  last : StagesLast me heard (geometry_of c.bank) (f.contents flash)
  last = ahead.gathers.staged keeps tells

  pub staged_or_not : IsStagedGroup (geometry_of c.bank) (f.contents flash) choice.message.items ⊎ (IsStagedGroup (geometry_of c.bank) (f.contents flash) choice.message.items → ⊥)
  staged_or_not =
      ⊎_elim (λ kept. inl (last.group choice.message.items kept)) (λ other. inr (λ group. other (last.own choice.message.items group.0 group.1)))
      (is_last s f me item heard c.bank flash choice.plan choice.message.items me.bank_len ahead.changes is.message
      (begun_message s f me item heard c flash choice ahead is usable below))

  standing : IsStanding me (item ∷ heard) choice
  standing = begun_now s f me item heard c flash choice ahead is usable below

  undecided : IsOpen me heard
  undecided = (ahead.gathers.knows (inr tells)).undecided

  anew : (n : ℕ) (y : List ℕ) → (IsStagedGroup (geometry_of c.bank) (f.contents flash) choice.message.items → ⊥) → Lasts n (geometry_of c.bank) me (item ∷ heard) heard (f.contents flash) y
  anew n y none =
      let not = few_begin me item heard (fewer s f me item heard c flash choice ahead is usable below) in
      let few : IsTrue (is_one_too_many me (item ∷ heard)) → ⊥ = λ many. absurd cc in
      other_lasts n blocks me item heard choice.message.items x y ahead.changes few is.message none

  pub begun_lasts : (y : List ℕ) (answer : Option Verdict)
      → (IsStagedGroup (geometry_of c.bank) (f.contents flash) choice.message.items → IfNone answer (KeepsStaged (geometry_of c.bank) 0 0 (f.contents flash) y))
      → IfSome answer (Settles choice (fills_at me (item ∷ heard) choice.plan) c.bank (f.contents flash) y) → Lasts 0 (geometry_of c.bank) me (item ∷ heard) heard (f.contents flash) y
  begun_lasts y answer resumed settles =
      ⊎_elim (λ group. answer_lasts me item heard choice c.bank x (ahead.gathers.lent.fits tells) undecided standing y answer (resumed group) settles) (λ none. anew 0 y none) staged_or_not

  leaves_lasts : (y : List ℕ) → StagingLeaves 0 choice (fills_at me (item ∷ heard) choice.plan) c.bank (f.contents flash) y
      → Lasts 1 (geometry_of c.bank) me (item ∷ heard) heard (f.contents flash) y
  leaves_lasts y leaves =
      lasts_weaker 1 blocks me (item ∷ heard) heard x y (staging_lasts me item heard choice c.bank x (ahead.gathers.lent.fits tells) undecided standing 0 y leaves)

  pub begun_lasts_held : (y : List ℕ)
      → (IsStagedGroup (geometry_of c.bank) (f.contents flash) choice.message.items → StagingLeaves 0 choice (fills_at me (item ∷ heard) choice.plan) c.bank (f.contents flash) y)
      → Lasts 1 (geometry_of c.bank) me (item ∷ heard) heard (f.contents flash) y
  begun_lasts_held y held = ⊎_elim (λ group. leaves_lasts y (held group)) (λ none. anew 1 y none) staged_or_not

  pub begun_lasts_left : (new : F) → LeavesOnly f.moment f.left_since flash new (HoldsNoMore (geometry_of c.bank) (f.contents flash))
      → (IsStagedGroup (geometry_of c.bank) (f.contents flash) choice.message.items
      → LeavesOnly f.moment f.left_since flash new (StagingLeaves 0 choice (fills_at me (item ∷ heard) choice.plan) c.bank (f.contents flash)))
      → LeavesOnly f.moment f.left_since flash new (Lasts 1 (geometry_of c.bank) me (item ∷ heard) heard (f.contents flash))
  begun_lasts_left new any left =
      let P : List ℕ → Type 0 = Lasts 1 blocks me (item ∷ heard) heard x in
      ⊎_elim
      (λ group. weaker f.moment f.left_since flash new (StagingLeaves 0 choice (fills_at me (item ∷ heard) choice.plan) c.bank x) P leaves_lasts (left group))
      (λ none. weaker f.moment f.left_since flash new (HoldsNoMore blocks x) P (λ y other. anew 1 y none) any)
      staged_or_not

-- ---- a block of the choice that stands

module _ {S F : Type 0} (s : StageGhosts S) (f : FlashGhosts F) (me : Receiver) (item : Heard) (heard : List Heard) (c : Collector S) (flash : F) (choice : Choice)
    (ahead : IsAhead s f me item heard change.Same c flash) (is : IsChoice me (item ∷ heard) choice) (usable : HasUsableDii me (item ∷ heard) choice) (some : IsSome (level_7 me (item ∷ heard)))
    (joins : window me (item ∷ heard) ≡ item.section ∷ window me heard) (tells : f.tells) where
  fills_now : fills_at me (item ∷ heard) choice.plan ≡ with_section choice.plan item.section (fills_at me heard choice.plan)
  fills_now = fills_more s f me item heard c flash choice ahead is usable some joins

  stood : IsStanding me (item ∷ heard) choice
  stood = stands_now s f me item heard c flash choice ahead is usable some

  open_before : IsOpen me heard
  open_before = (ahead.gathers.knows (inr tells)).undecided

  pub taken_lasts : (y : List ℕ) (answer : Option Verdict) → IfNone answer (KeepsStaged (geometry_of c.bank) 0 0 (f.contents flash) y)
      → IfSome answer (Settles choice (with_section choice.plan item.section (fills_at me heard choice.plan)) c.bank (f.contents flash) y)
      → Lasts 0 (geometry_of c.bank) me (item ∷ heard) heard (f.contents flash) y
  taken_lasts y answer kept settles =
      answer_lasts me item heard choice c.bank (f.contents flash) (ahead.gathers.lent.fits tells) open_before stood y answer kept
      (subst (λ (w : Fills). IfSome answer (Settles choice w c.bank (f.contents flash) y)) (sym fills_now) settles)

  pub taken_lasts_left : (y : List ℕ) → StagingLeaves 1 choice (with_section choice.plan item.section (fills_at me heard choice.plan)) c.bank (f.contents flash) y
      → Lasts 1 (geometry_of c.bank) me (item ∷ heard) heard (f.contents flash) y
  taken_lasts_left y leaves =
      staging_lasts me item heard choice c.bank (f.contents flash) (ahead.gathers.lent.fits tells) open_before stood 1 y
      (subst (λ (w : Fills). StagingLeaves 1 choice w c.bank (f.contents flash) y) (sym fills_now) leaves)
