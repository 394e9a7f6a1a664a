-- What the collector stands for, with one section more.
use Rattle.std.proofs.Common.{◌≡◌, inl, inr, ⊎_elim, ℕ, ◌+◌, ◌<◌, ◌≤◌, List, [], ◌∷◌, Option, Some, None, true, refl, sym, ap, subst, ◌∙◌, arith}
use Rattle.std.specs.Prelude.{IsSome, IfNone, IfSome, is_some}
use Rattle.flash_dev.specs.declared.device.Flash.{Ghosts as FlashGhosts}
use Rattle.flash_bank.specs.Bank.{current_of, geometry_of, is_begun}
use Rattle.flash_bank.specs.Leaving.{Installs, KeepsBoot}
use Rattle.flash_bank.specs.Record.{next_record}
use Rattle.flash_bank.specs.declared.bank.Bank.{Bank}
use Rattle.flash_bank.specs.declared.record.Record.{Record}
use Rattle.flash_stage.specs.declared.stage.Stage.{Ghosts as StageGhosts}
use Rattle.flash_stage.specs.Keeping.{IsPlanOfMessage}
use Rattle.flash_stage.specs.Leaving.{SameBank}
use Rattle.flash_stage.specs.Outline.{outline_of}
use Rattle.flash_stage.proofs.LeavingLaws.{bank_itself, len_same}
use Rattle.flash_stage.proofs.TextLaws.{one_outline}
use Rattle.ts_section.specs.Events.{Heard}
use Rattle.ssu_answer.specs.declared.chosen.Chosen.{Chosen}
use Rattle.ssu_compat.specs.declared.rule.SwId.{SwId}
use Rattle.ssu_group.specs.declared.group_plan.GroupPlan.{GroupPlan}
use Rattle.ssu_group.specs.Carried.{Fills, filling, missing_places, with_section}
use Rattle.ssu_group.specs.Place.{place_at}
use Rattle.ssu_loader.specs.Opening.{fills_at, most_kept}
use Rattle.ssu_loader.proofs.PlanLaws.{same_fills}
use Rattle.route_tables.specs.Values.{Receiver}
use Rattle.ssu_route.specs.declared.change.Change.TheVariants as change
use Rattle.ssu_route.specs.declared.change.Change.{Change}
use Rattle.ssu_route.specs.declared.choice.Choice.{Choice}
use Rattle.ssu_route.specs.declared.route.Route.{Route}
use Rattle.ssu_route.specs.Choosing.{level_7}
use Rattle.ssu_route.specs.Route.{HasUsableDii, Stands}
use Rattle.ssu_route.specs.Windows.{IsChoice, beginnings, change_at, is_one_too_many, window}
use Rattle.ssu_route.proofs.Choices.{chosen_some, none_begins, one_more_begins, same_stays, window_empty}
use Rattle.ssu_loader.specs.declared.collector.Collector.{Collector}
use Rattle.ssu_answer.specs.declared.verdict.Verdict.{Verdict}
use Rattle.ssu_answer.specs.declared.verdict.Verdict.TheVariants.{Installed, Nothing, Incomplete, BadModule, Unsettled}
use Rattle.ssu_loader.specs.Collecting.{Collects, Gathers, HasFilled, HoldsFilling, IncludesFilled, IsAhead, Works}
use Rattle.ssu_loader.specs.Decisions.{IsOpen, IsStanding, Reaches, TooMany, Whole, Wrong, chosen_of}
use Rattle.ssu_loader.specs.Leaving.{Ends, GoesOn, SectionsLeave}
use Rattle.ssu_loader.specs.Settling.{Settles, SettlingLeaves}
use Rattle.ssu_loader.specs.Starting.{KeepsAtStart, KnowsKept}
use Rattle.ssu_loader.specs.Verdicts.{IsFilled, IsOn, IsSeen, IsTooMany, IsUndecided, IsUnfilled}
use Rattle.ssu_loader.proofs.ChoiceLaws.{choice_back, choice_stands, no_choice, plan_of_message}
use Rattle.ssu_loader.proofs.DecisionLaws.{few_begin, missing_decides, none_decides, not_too_many, one_choice, open_more, reached_now, sixteen_begin, some_missing}
use Rattle.ssu_loader.proofs.KeptLaws.{fills_joins, fills_passes}
use Rattle.ssu_loader.proofs.LastLaws.{has_still, last_still}
use Rattle.ssu_loader.proofs.RemainingLaws.{stages_now, stages_stay, starts_as}
use Rattle.ssu_loader.proofs.StagedLaws.{StagesNoOther, StagesWhatItHas, stages_none, stages_of}
use Rattle.ssu_loader.proofs.UnfilledLaws.{begins_lacking, includes_for, includes_none, lacks_place, no_place, unfilled_lacks, unfilled_more, window_more}
use Rattle.ssu_group.proofs.SamePlans.{IsSamePlan}

-- ---- a decision

-- the group of the choice is settled with the newest section
pub settled_ends : (me : Receiver) (item : Heard) (heard : List Heard) (choice : Choice) (bank : Bank) (x y : List ℕ) (v : Verdict) → IsOpen me heard → IsStanding me (item ∷ heard) choice
    → Settles choice (fills_at me (item ∷ heard) choice.plan) bank x y v → Ends me (item ∷ heard) bank x y v
settled_ends me item heard choice bank x y (Installed chosen) undecided is settles =
    let installs = settles.1 in
    record {
      image = installs.image;
      reached = reached_now me item heard (Whole chosen installs.image) undecided (record { choice = choice; standing = is; is = settles.0; whole = installs.whole });
      installs = subst (λ (c : Chosen). Installs (geometry_of bank) (next_record (current_of bank) c.bytes c.software c.group) installs.image x y) (sym settles.0) installs.installs;
    }
settled_ends me item heard choice bank x y (BadModule id want found) undecided is settles =
    (reached_now me item heard (Wrong id want found) undecided (record { choice = choice; standing = is; wrong = settles.0 }), settles.1)
settled_ends me item heard choice bank x y (Nothing level) undecided is settles = absurd settles
settled_ends me item heard choice bank x y (Incomplete chosen count) undecided is settles = absurd settles
settled_ends me item heard choice bank x y Unsettled undecided is settles = absurd settles

pub settling_leaves : (me : Receiver) (item : Heard) (heard : List Heard) (choice : Choice) (bank : Bank) (x y : List ℕ) → IsOpen me heard → IsStanding me (item ∷ heard) choice
    → SettlingLeaves choice (fills_at me (item ∷ heard) choice.plan) bank x y → SectionsLeave me (item ∷ heard) bank x y
settling_leaves me item heard choice bank x y undecided is =
    ⊎_elim (λ keeps. inl keeps) (λ installs. inr (chosen_of choice, settled_ends me item heard choice bank x y (Installed (chosen_of choice)) undecided is (refl, installs)))

-- the law of a stage in the bank: it asks for a bank that was begun
abbrev pub Begins : {S : Type 0} → StageGhosts S → Type 0
Begins {S} s = s.IN_BANK ≡ true → (stage : S) (bank : Bank) → s.ready stage bank → is_begun bank ≡ true

module _ {S F : Type 0} (s : StageGhosts S) (f : FlashGhosts F) where
  -- ---- the same plan

  same_outline : (a b : GroupPlan) → IsSamePlan a b → outline_of a ≡ outline_of b
  same_outline a b same = one_outline a b same.block_size same.modules

  works_for : (a b : GroupPlan) (stage : S) (bank : Bank) (flash : F) → IsSamePlan a b → Works s f a stage bank flash → Works s f b stage bank flash
  works_for a b stage bank flash same works = record {
    lent = works.lent;
    ready = works.ready;
    agrees = works.agrees;
    planned = works.planned ∙ same_outline a b same;
    next_fits = works.next_fits;
  }

  filled_for : (me : Receiver) (heard : List Heard) (a b : GroupPlan) (stage : S) → IsSamePlan a b → HasFilled s a (fills_at me heard a) stage → HasFilled s b (fills_at me heard b) stage
  filled_for me heard a b stage same filled n below =
      filled n (subst (λ (k : ℕ). n < k) (sym same.places) below) ∙ ap is_some (same_fills me heard a b n same)

  same_at : (a b : GroupPlan) (n : ℕ) → IsSamePlan a b → place_at a.block_size a.modules.items n ≡ place_at b.block_size b.modules.items n
  same_at a b n same = (λ i. place_at (same.block_size i) (same.modules i) n)

  holds_for : (me : Receiver) (heard : List Heard) (a b : GroupPlan) (stage : S) (bank : Bank) (contents : List ℕ) → IsSamePlan a b
      → HoldsFilling s a (fills_at me heard a) stage bank contents → HoldsFilling s b (fills_at me heard b) stage bank contents
  holds_for me heard a b stage bank contents same holds = record {
    lengths = λ n p bytes at e. holds.lengths n p bytes (same_at a b n same ∙ at) (same_fills me heard a b n same ∙ e);
    texts = λ n bytes below e. holds.texts n bytes (subst (λ (k : ℕ). n < k) (sym same.places) below) (same_fills me heard a b n same ∙ e);
  }

  -- ---- one section more

  pub undecided_of : (me : Receiver) (heard : List Heard) (c : Collector S) (flash : F) → Gathers s f me heard c flash → IsUndecided (KnowsKept s f) me heard
  undecided_of me heard c flash g = record { unfilled = g.hears.unfilled; exact = λ known. (g.knows known).undecided }

  -- no choice stands
  pub none_collects : (me : Receiver) (item : Heard) (heard : List Heard) (c : Collector S) (flash : F) → Stands me (item ∷ heard) c.route
      → (change_at me item heard ≡ change.Chosen → ⊥) → level_7 me (item ∷ heard) ≡ None → Gathers s f me heard c flash → Collects s f me (item ∷ heard) c flash
  none_collects me item heard c flash stands other none g = record {
    stands = stands;
    gathers = record {
      opens = g.opens;
      most = g.most;
      len = g.len;
      runs = g.runs;
      lent = g.lent;
      made_for = g.made_for;
      next_fits = g.next_fits;
      hears = record {
        unfilled = unfilled_more me item heard g.hears.unfilled (not_too_many me item heard other) (no_place me (item ∷ heard) none);
        counted = g.hears.counted ∙ sym (none_begins me item heard other);
        few = g.hears.few;
        planned = λ choice is. absurd (no_choice me (item ∷ heard) choice none is);
        includes = λ choice is. absurd (no_choice me (item ∷ heard) choice none is);
      };
      knows = λ known. record {
        undecided = open_more me item heard (g.knows known).undecided (none_decides me (item ∷ heard) none (not_too_many me item heard other));
        filled = λ choice is. absurd (no_choice me (item ∷ heard) choice none is);
      };
      works = λ choice is. absurd (no_choice me (item ∷ heard) choice none is);
      message = λ keeps message e. let both : None ≡ Some message = sym none ∙ e in absurd cc;
      told = λ tells choice is. absurd (no_choice me (item ∷ heard) choice none is);
      staged = λ keeps tells.
          stages_stay me item heard (geometry_of c.bank) (f.contents flash) (last_still me item heard other) (λ plan n. has_still me item heard plan n other none) (g.staged keeps tells);
      begun = g.begun;
    };
  }

  most_still : (old new : Bank) → SameBank old new → most_kept (geometry_of old) (current_of old) ≡ most_kept (geometry_of new) (current_of new)
  most_still old new same = sym (λ i. most_kept (same.geometry i) (same.current i))

  -- a choice stands, and the stage has gone on with it
  pub choice_collects : Begins s → StagesWhatItHas s → StagesNoOther s → (me : Receiver) (item : Heard) (heard : List Heard) (old new : Collector S) (flash flash' : F) (choice : Choice) → Stands me (item ∷ heard) new.route
      → IsChoice me (item ∷ heard) choice → IsPlanOfMessage me.bank_len choice.message.items choice.plan → Gathers s f me heard old flash → SameBank old.bank new.bank → s.most new.stage ≡ s.most old.stage
      → new.choices ≡ beginnings me (item ∷ heard) → new.choices ≤ 16 → Works s f choice.plan new.stage new.bank flash' → (s.KEEPS ≡ true → s.message_of new.stage ≡ choice.message.items)
      → IsUnfilled me (item ∷ heard) → IncludesFilled s choice.plan (filling choice.plan (window me (item ∷ heard))) new.stage
      → (KnowsKept s f → IsOpen me (item ∷ heard) × HasFilled s choice.plan (fills_at me (item ∷ heard) choice.plan) new.stage)
      → (f.tells → HoldsFilling s choice.plan (fills_at me (item ∷ heard) choice.plan) new.stage new.bank (f.contents flash')) → Collects s f me (item ∷ heard) new flash'
  choice_collects law just no_other me item heard old new flash flash' choice stands is of_message g bank most counted few works message unfilled includes known holds = record {
    stands = stands;
    gathers = record {
      opens = g.opens;
      most = most_now;
      len = g.len ∙ sym (len_same old.bank new.bank bank);
      runs = g.runs ∙ ap (λ (r : Record). r.software) (sym bank.current);
      lent = works.lent;
      made_for = most ∙ g.made_for ∙ sym (len_same old.bank new.bank bank);
      next_fits = works.next_fits;
      hears = record {
        unfilled = unfilled;
        counted = counted;
        few = few;
        planned = λ other own. works.planned ∙ same_outline choice.plan other.plan (one_choice me (item ∷ heard) choice other is own).plan;
        includes = λ other own. includes_for s choice.plan other.plan (window me (item ∷ heard)) new.stage (one_choice me (item ∷ heard) choice other is own).plan includes;
      };
      knows = λ kept. record {
        undecided = (known kept).0;
        filled = λ other own. filled_for me (item ∷ heard) choice.plan other.plan new.stage (one_choice me (item ∷ heard) choice other is own).plan (known kept).1;
      };
      works = λ other own. works_for choice.plan other.plan new.stage new.bank flash' (one_choice me (item ∷ heard) choice other is own).plan works;
      message = λ keeps own e. message keeps ∙ same_message choice.message.items own (sym is.message ∙ e);
      told = λ tells other own. holds_for me (item ∷ heard) choice.plan other.plan new.stage new.bank (f.contents flash') (one_choice me (item ∷ heard) choice other is own).plan (holds tells);
      staged = λ keeps tells.
          stages_now me (item ∷ heard) new.bank (f.contents flash') choice.plan choice.message.items me.bank_len is.message of_message (most_now keeps)
          (stages_of s f choice.plan new.stage new.bank flash' works tells keeps just (fills_at me (item ∷ heard) choice.plan) choice.message.items me.bank_len of_message (message keeps)
          (known (inr tells)).1 (holds tells))
          (stages_none s f choice.plan new.stage new.bank flash' works tells keeps no_other);
      begun = λ staged some. law staged new.stage new.bank works.ready;
    };
  }
    where
      most_now : s.KEEPS ≡ true → me.opening.most ≡ most_kept (geometry_of new.bank) (current_of new.bank)
      most_now keeps = g.most keeps ∙ most_still old.bank new.bank bank

      same_message : (a b : List ℕ) → Some a ≡ Some b → a ≡ b
      same_message a b e = cc

-- ---- a section that changes nothing

module _ {S F : Type 0} (s : StageGhosts S) (f : FlashGhosts F) (me : Receiver) (item : Heard) (heard : List Heard) (c : Collector S) (flash : F) (choice : Choice)
    (ahead : IsAhead s f me item heard change.Same c flash) (is : IsChoice me (item ∷ heard) choice) (usable : HasUsableDii me (item ∷ heard) choice) (some : IsSome (level_7 me (item ∷ heard))) where
  abbrev known : Type 0
  known = KnowsKept s f

  pub was : IsChoice me heard choice
  was = choice_back me item heard choice ahead.changes some is

  not_chosen : change_at me item heard ≡ change.Chosen → ⊥
  not_chosen chosen = let both : change.Same ≡ change.Chosen = sym ahead.changes ∙ chosen in absurd cc

  count : c.choices ≡ beginnings me (item ∷ heard)
  count = ahead.gathers.hears.counted ∙ sym (none_begins me item heard not_chosen)

  pub few : beginnings me (item ∷ heard) ≤ 16
  few = let all = count in let most = ahead.gathers.hears.few in omega (arith, all, most)

  pub stands_now : IsStanding me (item ∷ heard) choice
  stands_now = choice_stands me (item ∷ heard) choice few some is

  some_before : IsSome (level_7 me heard)
  some_before = subst IsSome (same_stays me item heard ahead.changes) some

  few_before : beginnings me heard ≤ 16
  few_before = let all = ahead.gathers.hears.counted in let most = ahead.gathers.hears.few in omega (arith, all, most)

  stood : IsStanding me heard choice
  stood = choice_stands me heard choice few_before some_before was

  of_message : IsPlanOfMessage me.bank_len choice.message.items choice.plan
  of_message = plan_of_message me (item ∷ heard) choice usable is.message

  pub message_was : s.KEEPS ≡ true → s.message_of c.stage ≡ choice.message.items
  message_was keeps = ahead.gathers.message keeps choice.message.items was.message

  undecided : IsUndecided known me heard
  undecided = undecided_of s f me heard c flash ahead.gathers

  pub taken_filled : known → HasFilled s choice.plan (fills_at me heard choice.plan) c.stage
  taken_filled kept = (ahead.gathers.knows kept).filled choice was

  pub taken_includes : IncludesFilled s choice.plan (filling choice.plan (window me heard)) c.stage
  taken_includes = ahead.gathers.hears.includes choice was

  -- it is no block of the choice
  pub passed_collects : Begins s → StagesWhatItHas s → StagesNoOther s → window me (item ∷ heard) ≡ window me heard → Collects s f me (item ∷ heard) c flash
  passed_collects law just no_other passes =
      choice_collects s f law just no_other me item heard c c flash flash choice ahead.stands is of_message ahead.gathers (bank_itself c.bank) refl count ahead.gathers.hears.few (ahead.gathers.works choice was)
      message_was
      (unfilled_more me item heard ahead.gathers.hears.unfilled (not_too_many me item heard not_chosen)
      (lacks_place me (item ∷ heard) choice is
      (subst (λ (w : List (List ℕ)). 1 ≤ missing_places choice.plan (filling choice.plan w)) (sym passes) (unfilled_lacks me heard ahead.gathers.hears.unfilled choice stood))))
      (subst (λ (w : List (List ℕ)). IncludesFilled s choice.plan (filling choice.plan w) c.stage) (sym passes) taken_includes)
      (λ kept. (
        open_more me item heard (ahead.gathers.knows kept).undecided
            (missing_decides me (item ∷ heard) choice is
            (subst (λ (w : Fills). 1 ≤ missing_places choice.plan w) (sym same) (some_missing me heard choice (ahead.gathers.knows kept).undecided stood))
            (not_too_many me item heard not_chosen)),
        subst (λ (w : Fills). HasFilled s choice.plan w c.stage) (sym same) (taken_filled kept),
      ))
      (λ tells. subst (λ (w : Fills). HoldsFilling s choice.plan w c.stage c.bank (f.contents flash)) (sym same) (ahead.gathers.told tells choice was))
    where
      same : fills_at me (item ∷ heard) choice.plan ≡ fills_at me heard choice.plan
      same = fills_passes me item heard choice.plan ahead.changes passes

  module _ (joins : window me (item ∷ heard) ≡ item.section ∷ window me heard) where
    pub fills_more : fills_at me (item ∷ heard) choice.plan ≡ with_section choice.plan item.section (fills_at me heard choice.plan)
    fills_more = fills_joins me item heard choice.plan ahead.changes joins

    filled_more : filling choice.plan (window me (item ∷ heard)) ≡ with_section choice.plan item.section (filling choice.plan (window me heard))
    filled_more = ap (filling choice.plan) joins ∙ window_more choice.plan item.section (window me heard)

    -- by the window alone, and with what was kept, a place is missing still
    abbrev WithWindow : S → Type 0
    WithWindow stage' =
        IncludesFilled s choice.plan (with_section choice.plan item.section (filling choice.plan (window me heard))) stage'
        × (1 ≤ missing_places choice.plan (with_section choice.plan item.section (filling choice.plan (window me heard))))

    abbrev WithKept : S → Type 0
    WithKept stage' =
        HasFilled s choice.plan (with_section choice.plan item.section (fills_at me heard choice.plan)) stage'
        × (1 ≤ missing_places choice.plan (with_section choice.plan item.section (fills_at me heard choice.plan)))

    unfilled_now : (stage' : S) → WithWindow stage' → IsUnfilled me (item ∷ heard)
    unfilled_now stage' includes =
        unfilled_more me item heard ahead.gathers.hears.unfilled (not_too_many me item heard not_chosen)
        (lacks_place me (item ∷ heard) choice is (subst (λ (w : Fills). 1 ≤ missing_places choice.plan w) (sym filled_more) includes.1))

    open_now : (stage' : S) → known → WithKept stage' → IsOpen me (item ∷ heard)
    open_now stage' kept filled =
        open_more me item heard (ahead.gathers.knows kept).undecided
        (missing_decides me (item ∷ heard) choice is (subst (λ (w : Fills). 1 ≤ missing_places choice.plan w) (sym fills_more) filled.1) (not_too_many me item heard not_chosen))

    -- it was taken, and a place is missing still
    pub taken_collects : Begins s → StagesWhatItHas s → StagesNoOther s → (stage' : S) (bank' : Bank) (flash' : F) → Works s f choice.plan stage' bank' flash' → SameBank c.bank bank' → s.most stage' ≡ s.most c.stage
        → s.message_of stage' ≡ s.message_of c.stage → WithWindow stage' → (known → WithKept stage')
        → (f.tells → HoldsFilling s choice.plan (with_section choice.plan item.section (fills_at me heard choice.plan)) stage' bank' (f.contents flash'))
        → Collects s f me (item ∷ heard) (record { bank = bank'; stage = stage'; route = c.route; choices = c.choices }) flash'
    taken_collects law just no_other stage' bank' flash' works bank most message includes filled holds =
        choice_collects s f law just no_other me item heard c (record { bank = bank'; stage = stage'; route = c.route; choices = c.choices }) flash flash' choice ahead.stands is of_message ahead.gathers bank most count
        ahead.gathers.hears.few works (λ keeps. message ∙ message_was keeps) (unfilled_now stage' includes)
        (subst (λ (w : Fills). IncludesFilled s choice.plan w stage') (sym filled_more) includes.0)
        (λ kept. (open_now stage' kept (filled kept), subst (λ (w : Fills). HasFilled s choice.plan w stage') (sym fills_more) (filled kept).0))
        (λ tells. subst (λ (w : Fills). HoldsFilling s choice.plan w stage' bank' (f.contents flash')) (sym fills_more) (holds tells))

    -- all places are filled by the newest section
    filled_now : (known → missing_places choice.plan (with_section choice.plan item.section (fills_at me heard choice.plan)) ≡ 0) → IsFilled known me (item ∷ heard) choice
    filled_now filled = record {
      later = [];
      item = item;
      earlier = heard;
      parts = refl;
      undecided = undecided;
      standing = stands_now;
      filled = λ kept. ap (missing_places choice.plan) fills_more ∙ filled kept;
    }

    -- what is seen of it
    pub taken_seen : (stage' : S) (answer : Option Verdict) → IfNone answer (WithWindow stage') → (known → IfNone answer (WithKept stage')) → IfSome answer (IsOn choice)
        → (known → IfSome answer (λ verdict. missing_places choice.plan (with_section choice.plan item.section (fills_at me heard choice.plan)) ≡ 0)) → IsSeen known me (item ∷ heard) answer
    taken_seen stage' None includes filled on whole = record { unfilled = unfilled_now stage' includes; exact = λ kept. open_now stage' kept (filled kept) }
    taken_seen stage' (Some (Installed chosen)) includes filled on whole = (choice, (filled_now whole, on))
    taken_seen stage' (Some (BadModule id want found)) includes filled on whole = (choice, (filled_now whole, on))
    taken_seen stage' (Some (Nothing level)) includes filled on whole = absurd on
    taken_seen stage' (Some (Incomplete chosen n)) includes filled on whole = absurd on
    taken_seen stage' (Some Unsettled) includes filled on whole = absurd on

    module _ (tells : f.tells) where
      pub taken_holds : HoldsFilling s choice.plan (fills_at me heard choice.plan) c.stage c.bank (f.contents flash)
      taken_holds = ahead.gathers.told tells choice was

      -- what is answered
      pub taken_goes_on : (x z : List ℕ) (answer : Option Verdict) → IfNone answer (KeepsBoot (geometry_of c.bank) x z)
          → IfSome answer (Settles choice (with_section choice.plan item.section (fills_at me heard choice.plan)) c.bank x z) → GoesOn me (item ∷ heard) c.bank x z answer
      taken_goes_on x z None leaves settles = leaves
      taken_goes_on x z (Some v) leaves settles =
          settled_ends me item heard choice c.bank x z v (ahead.gathers.knows (inr tells)).undecided stands_now
          (subst (λ (w : Fills). Settles choice w c.bank x z v) (sym fills_more) settles)

      pub taken_leaves : (x z : List ℕ) → SettlingLeaves choice (with_section choice.plan item.section (fills_at me heard choice.plan)) c.bank x z → SectionsLeave me (item ∷ heard) c.bank x z
      taken_leaves x z leaves =
          settling_leaves me item heard choice c.bank x z (ahead.gathers.knows (inr tells)).undecided stands_now
          (subst (λ (w : Fills). SettlingLeaves choice w c.bank x z) (sym fills_more) leaves)

-- ---- a section at which a choice begins

-- it would be one too many
module _ {S F : Type 0} (s : StageGhosts S) (f : FlashGhosts F) (me : Receiver) (item : Heard) (heard : List Heard) (c : Collector S) (flash : F)
    (ahead : IsAhead s f me item heard change.Chosen c flash) (sixteen : c.choices ≡ 16) where
  pub many_now : is_one_too_many me (item ∷ heard) ≡ true
  many_now = sixteen_begin me item heard ahead.changes (sym ahead.gathers.hears.counted ∙ sixteen)

  pub many_reached : KnowsKept s f → Reaches me (item ∷ heard) TooMany
  many_reached kept = reached_now me item heard TooMany (ahead.gathers.knows kept).undecided many_now

  pub many_seen : IsTooMany (KnowsKept s f) me (item ∷ heard)
  many_seen = record {
    later = [];
    item = item;
    earlier = heard;
    parts = refl;
    undecided = undecided_of s f me heard c flash ahead.gathers;
    too_many = many_now;
    reached = many_reached;
  }

module _ {S F : Type 0} (s : StageGhosts S) (f : FlashGhosts F) (me : Receiver) (item : Heard) (heard : List Heard) (c : Collector S) (flash : F) (choice : Choice)
    (ahead : IsAhead s f me item heard change.Chosen c flash) (is : IsChoice me (item ∷ heard) choice) (usable : HasUsableDii me (item ∷ heard) choice) (below : c.choices < 16) where
  pub fewer : beginnings me heard < 16
  fewer = let all = ahead.gathers.hears.counted in omega (arith, all, below)

  counted_now : c.choices + 1 ≡ beginnings me (item ∷ heard)
  counted_now = let all = ahead.gathers.hears.counted in let more = one_more_begins me item heard ahead.changes in omega (arith, all, more)

  pub begun_now : IsStanding me (item ∷ heard) choice
  begun_now =
      choice_stands me (item ∷ heard) choice (let all = counted_now in omega (arith, all, below)) (chosen_some me item heard ahead.changes) is

  pub begun_message : IsPlanOfMessage me.bank_len choice.message.items choice.plan
  begun_message = plan_of_message me (item ∷ heard) choice usable is.message

  -- what the stage keeps is what the choice keeps
  pub begun_starts : KeepsAtStart s f choice.message.items choice.plan (fills_at me (item ∷ heard) choice.plan) c.bank flash
  begun_starts =
      starts_as s f me item heard c.bank flash choice.plan choice.message.items me.bank_len ahead.changes is.message begun_message ahead.gathers.opens ahead.gathers.staged

  empty_window : window me (item ∷ heard) ≡ []
  empty_window = window_empty me item heard (λ same. let both : change.Chosen ≡ change.Same = sym ahead.changes ∙ same in absurd cc)

  begun_unfilled : IsUnfilled me (item ∷ heard)
  begun_unfilled =
      unfilled_more me item heard ahead.gathers.hears.unfilled (few_begin me item heard fewer) (begins_lacking me (item ∷ heard) choice is empty_window)

  -- with what was kept a place is missing
  abbrev pub BegunWith : S → Type 0
  BegunWith stage' = HasFilled s choice.plan (fills_at me (item ∷ heard) choice.plan) stage' × (1 ≤ missing_places choice.plan (fills_at me (item ∷ heard) choice.plan))

  begun_open : (stage' : S) → KnowsKept s f → BegunWith stage' → IsOpen me (item ∷ heard)
  begun_open stage' kept filled =
      open_more me item heard (ahead.gathers.knows kept).undecided (missing_decides me (item ∷ heard) choice is filled.1 (few_begin me item heard fewer))

  pub begun_collects : Begins s → StagesWhatItHas s → StagesNoOther s → (stage' : S) (bank' : Bank) (flash' : F) → Works s f choice.plan stage' bank' flash' → SameBank c.bank bank' → s.most stage' ≡ s.most c.stage
      → (s.KEEPS ≡ true → s.message_of stage' ≡ choice.message.items) → (KnowsKept s f → BegunWith stage')
      → (f.tells → HoldsFilling s choice.plan (fills_at me (item ∷ heard) choice.plan) stage' bank' (f.contents flash'))
      → Collects s f me (item ∷ heard) (record { bank = bank'; stage = stage'; route = c.route; choices = c.choices + 1 }) flash'
  begun_collects law just no_other stage' bank' flash' works bank most message filled holds =
      choice_collects s f law just no_other me item heard c (record { bank = bank'; stage = stage'; route = c.route; choices = c.choices + 1 }) flash flash' choice ahead.stands is begun_message ahead.gathers bank most
      counted_now (omega (arith, below)) works message begun_unfilled
      (subst (λ (w : List (List ℕ)). IncludesFilled s choice.plan (filling choice.plan w) stage') (sym empty_window) (includes_none s choice.plan stage'))
      (λ kept. (begun_open stage' kept (filled kept), (filled kept).0)) holds

  begun_filled : (KnowsKept s f → missing_places choice.plan (fills_at me (item ∷ heard) choice.plan) ≡ 0) → IsFilled (KnowsKept s f) me (item ∷ heard) choice
  begun_filled filled = record {
    later = [];
    item = item;
    earlier = heard;
    parts = refl;
    undecided = undecided_of s f me heard c flash ahead.gathers;
    standing = begun_now;
    filled = filled;
  }

  -- what is seen of it
  pub begun_seen : (stage' : S) (answer : Option Verdict) → (KnowsKept s f → IfNone answer (BegunWith stage')) → IfSome answer (IsOn choice)
      → (KnowsKept s f → IfSome answer (λ verdict. missing_places choice.plan (fills_at me (item ∷ heard) choice.plan) ≡ 0)) → IsSeen (KnowsKept s f) me (item ∷ heard) answer
  begun_seen stage' None filled on whole = record { unfilled = begun_unfilled; exact = λ kept. begun_open stage' kept (filled kept) }
  begun_seen stage' (Some (Installed chosen)) filled on whole = (choice, (begun_filled whole, on))
  begun_seen stage' (Some (BadModule id want found)) filled on whole = (choice, (begun_filled whole, on))
  begun_seen stage' (Some (Nothing level)) filled on whole = absurd on
  begun_seen stage' (Some (Incomplete chosen n)) filled on whole = absurd on
  begun_seen stage' (Some Unsettled) filled on whole = absurd on

  module _ (tells : f.tells) where
    pub begun_goes_on : (x z : List ℕ) (answer : Option Verdict) → IfNone answer (KeepsBoot (geometry_of c.bank) x z)
        → IfSome answer (Settles choice (fills_at me (item ∷ heard) choice.plan) c.bank x z) → GoesOn me (item ∷ heard) c.bank x z answer
    begun_goes_on x z None leaves settles = leaves
    begun_goes_on x z (Some v) leaves settles = settled_ends me item heard choice c.bank x z v (ahead.gathers.knows (inr tells)).undecided begun_now settles

    pub begun_leaves : (x z : List ℕ) → SettlingLeaves choice (fills_at me (item ∷ heard) choice.plan) c.bank x z → SectionsLeave me (item ∷ heard) c.bank x z
    begun_leaves x z leaves = settling_leaves me item heard choice c.bank x z (ahead.gathers.knows (inr tells)).undecided begun_now leaves

-- ---- the route goes ahead

module _ {S F : Type 0} (s : StageGhosts S) (f : FlashGhosts F) (me : Receiver) (heard : List Heard) where
  abbrev pub with_route : Collector S → Route → Collector S
  with_route c route = record { bank = c.bank; stage = c.stage; route = route; choices = c.choices }

  pub gathers_with : (c : Collector S) (route : Route) (flash : F) → Gathers s f me heard c flash → Gathers s f me heard (with_route c route) flash
  gathers_with c route flash g = record {
    opens = g.opens;
    most = g.most;
    len = g.len;
    runs = g.runs;
    lent = g.lent;
    made_for = g.made_for;
    next_fits = g.next_fits;
    hears = record { unfilled = g.hears.unfilled; counted = g.hears.counted; few = g.hears.few; planned = g.hears.planned; includes = g.hears.includes };
    knows = λ known. let k = g.knows known in record { undecided = k.undecided; filled = k.filled };
    works = g.works;
    message = g.message;
    told = g.told;
    staged = g.staged;
    begun = g.begun;
  }

  pub goes_ahead : (item : Heard) (c : Collector S) (route : Route) (flash : F) (software : SwId) (what answered : Change) → Collects s f me heard c flash → software ≡ (current_of c.bank).software
      → ((me : Receiver) (heard : List Heard) → Stands me heard c.route → me.running ≡ software → Stands me (item ∷ heard) route)
      → ((me : Receiver) (heard : List Heard) → Stands me heard c.route → me.running ≡ software → answered ≡ change_at me item heard)
      → answered ≡ what → IsAhead s f me item heard what (with_route c route) flash
  goes_ahead item c route flash software what answered collects is stands changes answer =
      let runs : me.running ≡ software = collects.gathers.runs ∙ sym is in
      record {
        stands = stands me heard collects.stands runs;
        changes = sym (changes me heard collects.stands runs) ∙ answer;
        gathers = gathers_with c route flash collects.gathers;
      }
