-- The sections of one packet, one after the other.
use Rattle.std.proofs.Common.{◌≡◌, inl, inr, ⊎_elim, ℕ, zero, suc, ◌+◌, ◌≤◌, List, [], ◌∷◌, ◌++◌, map, reverse, take, drop, length, Option, Some, None, true, refl, sym, ap, subst, ◌∙◌, arith, append_assoc}
use Rattle.std.proofs.lemmas.List.{map-append, reverse-append, take-append-drop}
use Rattle.std.specs.List.{slice_get}
use Rattle.std.specs.Prelude.{IsTrue}
use Rattle.flash_dev.specs.declared.device.Flash.{Ghosts as FlashGhosts}
use Rattle.flash_dev.specs.Moments.{LeavesOnly}
use Rattle.flash_dev.proofs.Moments.{joined, weaker}
use Rattle.flash_stage.specs.declared.stage.Stage.{Ghosts as StageGhosts}
use Rattle.flash_bank.specs.Bank.{Fits, IsLent, current_of, geometry_of}
use Rattle.flash_layout.specs.Layout.{Geometry}
use Rattle.flash_bank.specs.Leaving.{Installs, KeepsBoot}
use Rattle.flash_bank.specs.Record.{next_record}
use Rattle.flash_bank.proofs.LeavingLemmas.{keeps_boot_joined, keeps_boot_same}
use Rattle.flash_bank.specs.declared.bank.Bank.{Bank}
use Rattle.flash_bank.specs.declared.record.Record.{Record}
use Rattle.flash_stage.specs.Leaving.{SameBank}
use Rattle.flash_stage.proofs.LeavingLaws.{bank_itself, banks_joined}
use Rattle.ts_section.specs.Events.{Heard}
use Rattle.ssu_answer.specs.declared.chosen.Chosen.{Chosen}
use Rattle.route_tables.specs.Next.{heard_on}
use Rattle.route_tables.specs.Values.{Receiver}
use Rattle.ssu_route.specs.Queries.{after_all}
use Rattle.ssu_answer.specs.declared.verdict.Verdict.{Verdict}
use Rattle.ssu_answer.specs.declared.verdict.Verdict.TheVariants.{Installed, Nothing, Incomplete, BadModule, Unsettled}
use Rattle.ssu_route.proofs.Following.{after_one_more}
use Rattle.ssu_route.specs.declared.choice.Choice.{Choice}
use Rattle.ssu_loader.specs.declared.collector.Collector.{Collector}
use Rattle.ssu_loader.specs.Collecting.{BeginsTooMany, Collects, IsUsable, StopsBefore}
use Rattle.ssu_loader.specs.Decisions.{IsOpen, TooMany, Whole, Wrong}
use Rattle.ssu_loader.specs.Leaving.{Ends, GoesOn, IfBadModule, IfUnsettled, InstallsChosen, SectionsLeave}
use Rattle.ssu_loader.specs.Lasting.{KeepsMargin, Lasts}
use Rattle.ssu_loader.specs.Starting.{KnowsKept}
use Rattle.ssu_loader.proofs.KeepingLaws.{installs_joined, installs_moved, leaves_moved}
use Rattle.ssu_loader.specs.Life.{HoldsHeard}
use Rattle.ssu_loader.proofs.HoldingLaws.{holds_itself}
use Rattle.ssu_loader.proofs.LastingLaws.{lasts_joined, lasts_more, lasts_same}
use Rattle.ssu_loader.proofs.LeftLaws.{left_now}
use Rattle.ssu_loader.proofs.MarginLaws.{margin_joined, margin_same}
use Rattle.ssu_loader.proofs.StepLaws.{holds_joined, holds_more}
use Rattle.ssu_route.specs.Windows.{beginnings, change_at, is_one_too_many}
use Rattle.ssu_loader.specs.Verdicts.{IsFilled, IsSeen, IsTooMany, IsUnfilled}
use Rattle.ssu_loader.proofs.ChoiceLaws.{began_before, begun_more}
use Rattle.ssu_loader.proofs.DecisionLaws.{reaches_more}
use Rattle.ssu_loader.proofs.UnfilledLaws.{many_last, unfilled_few, unfilled_front}

-- ---- more sections come

pub chosen_more : (me : Receiver) (later heard : List Heard) (bank : Bank) (x y : List ℕ) (chosen : Chosen) → InstallsChosen me heard bank x y chosen → InstallsChosen me (later ++ heard) bank x y chosen
chosen_more me later heard bank x y chosen is = record {
  image = is.image;
  reached = reaches_more me later heard (Whole chosen is.image) is.reached;
  installs = is.installs;
}

pub leaves_more : (me : Receiver) (later heard : List Heard) (bank : Bank) (x y : List ℕ) → SectionsLeave me heard bank x y → SectionsLeave me (later ++ heard) bank x y
leaves_more me later heard bank x y = ⊎_elim (λ keeps. inl keeps) (λ is. inr (is.0, chosen_more me later heard bank x y is.0 is.1))

pub ends_more : (me : Receiver) (later heard : List Heard) (bank : Bank) (x y : List ℕ) (v : Verdict) → Ends me heard bank x y v → Ends me (later ++ heard) bank x y v
ends_more me later heard bank x y (Installed chosen) is = chosen_more me later heard bank x y chosen is
ends_more me later heard bank x y (BadModule id want found) is = (reaches_more me later heard (Wrong id want found) is.0, is.1)
ends_more me later heard bank x y Unsettled is = (reaches_more me later heard TooMany is.0, is.1)
ends_more me later heard bank x y (Nothing level) is = absurd is.0
ends_more me later heard bank x y (Incomplete chosen count) is = absurd is.0

-- ---- from an earlier moment on

pub chosen_from : (me : Receiver) (heard : List Heard) (old new : Bank) (x y z : List ℕ) (chosen : Chosen) → Fits old x → SameBank old new → KeepsBoot (geometry_of old) x y → InstallsChosen me heard new y z chosen
    → InstallsChosen me heard old x z chosen
chosen_from me heard old new x y z chosen fits same leaves is = record {
  image = is.image;
  reached = is.reached;
  installs = installs_joined old (next_record (current_of old) chosen.bytes chosen.software chosen.group) is.image x y z fits leaves
      (installs_moved old new (next_record (current_of old) chosen.bytes chosen.software chosen.group) is.image y z same
      (subst (λ (r : Record). Installs (geometry_of new) (next_record r chosen.bytes chosen.software chosen.group) is.image y z)
      same.current is.installs));
}

pub leaves_from : (me : Receiver) (heard : List Heard) (old new : Bank) (x y z : List ℕ) → Fits old x → SameBank old new → KeepsBoot (geometry_of old) x y → SectionsLeave me heard new y z → SectionsLeave me heard old x z
leaves_from me heard old new x y z fits same leaves =
    ⊎_elim (λ keeps. inl (keeps_boot_joined (geometry_of old) x y z leaves (leaves_moved old new y z same keeps))) (λ is. inr (is.0, chosen_from me heard old new x y z is.0 fits same leaves is.1))

pub ends_from : (me : Receiver) (heard : List Heard) (old new : Bank) (x y z : List ℕ) (v : Verdict) → Fits old x → SameBank old new → KeepsBoot (geometry_of old) x y → Ends me heard new y z v → Ends me heard old x z v
ends_from me heard old new x y z (Installed chosen) fits same leaves is = chosen_from me heard old new x y z chosen fits same leaves is
ends_from me heard old new x y z (BadModule id want found) fits same leaves is = (is.0, keeps_boot_joined (geometry_of old) x y z leaves (leaves_moved old new y z same is.1))
ends_from me heard old new x y z Unsettled fits same leaves is = (is.0, keeps_boot_joined (geometry_of old) x y z leaves (leaves_moved old new y z same is.1))
ends_from me heard old new x y z (Nothing level) fits same leaves is = absurd is.0
ends_from me heard old new x y z (Incomplete chosen count) fits same leaves is = absurd is.0

-- ---- the sections of a packet

-- those so far, and the others
pub after_rest : (pid : ℕ) (sections : List (List ℕ)) (k : ℕ) (before : List Heard)
    → after_all pid sections before ≡ reverse (map (heard_on pid) (drop k sections)) ++ after_all pid (take k sections) before
after_rest pid sections k before =
    ap (λ (xs : List (List ℕ)). reverse (map (heard_on pid) xs) ++ before) (sym (take-append-drop k sections))
    ∙ ap (λ (xs : List Heard). reverse xs ++ before) (map-append (heard_on pid) (take k sections) (drop k sections))
    ∙ ap (λ (xs : List Heard). xs ++ before) (reverse-append (map (heard_on pid) (take k sections)) (map (heard_on pid) (drop k sections)))
    ∙ append_assoc (reverse (map (heard_on pid) (drop k sections))) (reverse (map (heard_on pid) (take k sections))) before

-- Where the first of them would begin a choice too many, that is decided by it.
first_decides : (me : Receiver) (pid n : ℕ) (each : List (List ℕ)) (heard : List Heard) → 1 ≤ n → BeginsTooMany me pid each heard → IsUnfilled me (after_all pid (take n each) heard) → ⊥
first_decides me pid n [] heard some many unfilled = many
first_decides me pid zero (first ∷ others) heard some many unfilled = absurd (omega (arith, some))
first_decides me pid (suc n) (first ∷ others) heard some many unfilled =
    unfilled_few me (heard_on pid first) heard
    (unfilled_front me (reverse (map (heard_on pid) (take n others))) (heard_on pid first ∷ heard)
    (subst (λ (items : List Heard). IsUnfilled me items) (after_rest pid (first ∷ take n others) 1 heard) unfilled)) many

-- And then it is the next section, where nothing is decided by those so far.
first_is_next : (me : Receiver) (pid k : ℕ) (each : List (List ℕ)) (section : List ℕ) (heard : List Heard) → slice_get each k ≡ Some section → BeginsTooMany me pid each heard
    → IsUnfilled me (after_all pid (take k each) heard) → IsTrue (is_one_too_many me (heard_on pid section ∷ after_all pid (take k each) heard))
first_is_next me pid k [] section heard at many so_far = absurd many
first_is_next me pid zero (first ∷ others) section heard at many so_far =
    let same : first ≡ section = cc in
    subst (λ (s : List ℕ). IsTrue (is_one_too_many me (heard_on pid s ∷ heard))) same many
first_is_next me pid (suc k) (first ∷ others) section heard at many so_far =
    absurd (first_decides me pid (suc k) (first ∷ others) heard (omega arith) many so_far)

module _ (known : Type 0) (me : Receiver) (later heard : List Heard) where
  parts_more : (newer : List Heard) (item : Heard) (earlier : List Heard) → heard ≡ newer ++ item ∷ earlier → later ++ heard ≡ (later ++ newer) ++ item ∷ earlier
  parts_more newer item earlier parts = ap (λ (items : List Heard). later ++ items) parts ∙ sym (append_assoc later newer (item ∷ earlier))

  filled_more : (choice : Choice) → IsFilled known me heard choice → IsFilled known me (later ++ heard) choice
  filled_more choice is = record {
    later = later ++ is.later;
    item = is.item;
    earlier = is.earlier;
    parts = parts_more is.later is.item is.earlier is.parts;
    undecided = is.undecided;
    standing = is.standing;
    filled = is.filled;
  }

  many_more : IsTooMany known me heard → IsTooMany known me (later ++ heard)
  many_more is = record {
    later = later ++ is.later;
    item = is.item;
    earlier = is.earlier;
    parts = parts_more is.later is.item is.earlier is.parts;
    undecided = is.undecided;
    too_many = is.too_many;
    reached = λ kept. reaches_more me later heard TooMany (is.reached kept);
  }

  pub seen_more : (v : Verdict) → IsSeen known me heard (Some v) → IsSeen known me (later ++ heard) (Some v)
  seen_more (Installed chosen) seen = (seen.0, (filled_more seen.0 seen.1.0, seen.1.1))
  seen_more (BadModule id want found) seen = (seen.0, (filled_more seen.0 seen.1.0, seen.1.1))
  seen_more Unsettled seen = many_more seen
  seen_more (Nothing level) seen = absurd seen
  seen_more (Incomplete chosen count) seen = absurd seen

-- where nothing is decided, nothing is installed
pub leaves_open : (me : Receiver) (heard : List Heard) (bank : Bank) (x y : List ℕ) → IsOpen me heard → SectionsLeave me heard bank x y → KeepsBoot (geometry_of bank) x y
leaves_open me heard bank x y undecided = ⊎_elim (λ keeps. keeps) (λ is. absurd (undecided (Whole is.0 is.1.image) is.1.reached))

pub goes_on_none : (me : Receiver) (heard : List Heard) (bank : Bank) (x y : List ℕ) (answer : Option Verdict) → answer ≡ None → GoesOn me heard bank x y answer → KeepsBoot (geometry_of bank) x y
goes_on_none me heard bank x y None is goes = goes
goes_on_none me heard bank x y (Some v) is goes = absurd cc

pub goes_on_some : (me : Receiver) (heard : List Heard) (bank : Bank) (x y : List ℕ) (answer : Option Verdict) (v : Verdict) → answer ≡ Some v → GoesOn me heard bank x y answer → Ends me heard bank x y v
goes_on_some me heard bank x y None v is goes = absurd cc
goes_on_some me heard bank x y (Some w) v is goes = let same : w ≡ v = cc in subst (λ (u : Verdict). Ends me heard bank x y u) same goes

module _ {S F : Type 0} (s : StageGhosts S) (f : FlashGhosts F) where
  -- So many sections were heard, and nothing was decided.
  pub record HeardSoFar (pid : ℕ) (each : List (List ℕ)) (k : ℕ) (old : Collector S) (before : F) (new : Collector S) (now : F) : Type 0 where
    pub collects : (me : Receiver) (heard : List Heard) → Collects s f me heard old before → Collects s f me (after_all pid (take k each) heard) new now
    pub untouched : (me : Receiver) (heard : List Heard) → Collects s f me heard old before → beginnings me (after_all pid (take k each) heard) ≡ 0 → now ≡ before
    pub alone : (me : Receiver) (heard : List Heard) → Collects s f me heard old before → BeginsTooMany me pid each heard → now ≡ before
    pub bank : SameBank old.bank new.bank
    pub lent : IsLent f.tells f.contents f.block_count f.block_len new.bank now
    pub leaves : f.tells → KeepsBoot (geometry_of old.bank) (f.contents before) (f.contents now)
    pub left : f.tells → LeavesOnly f.moment f.left_since before now (KeepsBoot (geometry_of old.bank) (f.contents before))
    pub holds : f.tells → (me : Receiver) (heard : List Heard) → Collects s f me heard old before
        → HoldsHeard (geometry_of old.bank) me (after_all pid (take k each) heard) (f.contents before) (f.contents now)
    pub holds_left : f.tells → (me : Receiver) (heard : List Heard) → Collects s f me heard old before
        → LeavesOnly f.moment f.left_since before now (HoldsHeard (geometry_of old.bank) me (after_all pid (take k each) heard) (f.contents before))
    pub lasts : s.KEEPS ≡ true → f.tells → (me : Receiver) (heard : List Heard) → Collects s f me heard old before
        → Lasts 0 (geometry_of old.bank) me (after_all pid (take k each) heard) heard (f.contents before) (f.contents now)
    pub lasts_left : s.KEEPS ≡ true → f.tells → (me : Receiver) (heard : List Heard) → Collects s f me heard old before
        → LeavesOnly f.moment f.left_since before now (Lasts 1 (geometry_of old.bank) me (after_all pid (take k each) heard) heard (f.contents before))
    pub margin : s.KEEPS ≡ true → f.tells → (me : Receiver) (heard : List Heard) → Collects s f me heard old before
        → KeepsMargin (geometry_of old.bank) (f.contents before) (f.contents now)
    pub blocks : f.block_count now ≡ f.block_count before
    pub block_size : f.block_len now ≡ f.block_len before
    pub later : f.faults before ≤ f.faults now

  pub heard_none : ((flash : F) (c : List ℕ) → f.left_since flash (f.moment flash) c → c ≡ f.contents flash) → (pid : ℕ) (each : List (List ℕ)) (c : Collector S) (flash : F)
      → IsUsable s f c flash → HeardSoFar pid each 0 c flash c flash
  heard_none only pid each c flash usable = record {
    collects = λ me heard col. col;
    untouched = λ me heard col none. refl;
    alone = λ me heard col many. refl;
    bank = bank_itself c.bank;
    lent = usable.collects.gathers.lent;
    leaves = λ tells. keeps_boot_same (geometry_of c.bank) (f.contents flash) (usable.collects.gathers.lent.fits tells).sound;
    left = λ tells. left_now f only flash (KeepsBoot (geometry_of c.bank) (f.contents flash)) (keeps_boot_same (geometry_of c.bank) (f.contents flash) (usable.collects.gathers.lent.fits tells).sound);
    holds = λ tells me heard col. holds_itself (geometry_of c.bank) me (after_all pid (take 0 each) heard) (f.contents flash);
    holds_left = λ tells me heard col.
        left_now f only flash (HoldsHeard (geometry_of c.bank) me (after_all pid (take 0 each) heard) (f.contents flash)) (holds_itself (geometry_of c.bank) me (after_all pid (take 0 each) heard) (f.contents flash));
    lasts = λ keeps tells me heard col. lasts_same 0 (geometry_of c.bank) me (after_all pid (take 0 each) heard) heard (f.contents flash);
    lasts_left = λ keeps tells me heard col.
        left_now f only flash (Lasts 1 (geometry_of c.bank) me (after_all pid (take 0 each) heard) heard (f.contents flash))
        (lasts_same 1 (geometry_of c.bank) me (after_all pid (take 0 each) heard) heard (f.contents flash));
    margin = λ keeps tells me heard col. margin_same (geometry_of c.bank) (f.contents flash);
    blocks = refl;
    block_size = refl;
    later = omega arith;
  }

  module _ (pid : ℕ) (each : List (List ℕ)) (k : ℕ) (old : Collector S) (before : F) (mid : Collector S) (between : F) (new : Collector S) (now : F) (section : List ℕ)
      (sofar : HeardSoFar pid each k old before mid between) (usable : IsUsable s f old before) (at : slice_get each k ≡ Some section) where
    abbrev earlier : List Heard → List Heard
    earlier heard = after_all pid (take k each) heard

    abbrev next : List Heard → List Heard
    next heard = heard_on pid section ∷ earlier heard

    -- of places no more is held with the next section than was, but those that were heard
    holds_next : f.tells → (me : Receiver) (heard : List Heard) → Collects s f me heard old before → (y : List ℕ) → HoldsHeard (geometry_of mid.bank) me (next heard) (f.contents between) y
        → HoldsHeard (geometry_of old.bank) me (next heard) (f.contents before) y
    holds_next tells me heard col y call =
        holds_joined (geometry_of old.bank) me (next heard) (f.contents before) (f.contents between) y
        (holds_more (geometry_of old.bank) me (heard_on pid section ∷ []) (earlier heard) (f.contents before) (f.contents between) (sofar.holds tells me heard col))
        (subst (λ (g : Geometry). HoldsHeard g me (next heard) (f.contents between) y) sofar.bank.geometry call)

    holds_next_left : f.tells → (me : Receiver) (heard : List Heard) → Collects s f me heard old before
        → LeavesOnly f.moment f.left_since between now (HoldsHeard (geometry_of mid.bank) me (next heard) (f.contents between))
        → LeavesOnly f.moment f.left_since before now (HoldsHeard (geometry_of old.bank) me (next heard) (f.contents before))
    holds_next_left tells me heard col call =
        joined f.moment f.left_since before between now (HoldsHeard (geometry_of old.bank) me (next heard) (f.contents before))
        (weaker f.moment f.left_since before between (HoldsHeard (geometry_of old.bank) me (earlier heard) (f.contents before)) (HoldsHeard (geometry_of old.bank) me (next heard) (f.contents before))
        (λ y is. holds_more (geometry_of old.bank) me (heard_on pid section ∷ []) (earlier heard) (f.contents before) y is) (sofar.holds_left tells me heard col))
        (weaker f.moment f.left_since between now (HoldsHeard (geometry_of mid.bank) me (next heard) (f.contents between)) (HoldsHeard (geometry_of old.bank) me (next heard) (f.contents before))
        (holds_next tells me heard col) call)

    -- what was staged stays staged
    lasts_next : (n : ℕ) → s.KEEPS ≡ true → f.tells → (me : Receiver) (heard : List Heard) → Collects s f me heard old before → (y : List ℕ)
        → Lasts n (geometry_of mid.bank) me (next heard) (earlier heard) (f.contents between) y → Lasts n (geometry_of old.bank) me (next heard) heard (f.contents before) y
    lasts_next n keeps tells me heard col y call =
        lasts_joined n (geometry_of old.bank) me (heard_on pid section ∷ []) (reverse (map (heard_on pid) (take k each))) (earlier heard) heard (f.contents before) (f.contents between) y refl
        (sofar.leaves tells).keeps (sofar.lasts keeps tells me heard col)
        (subst (λ (g : Geometry). Lasts n g me (next heard) (earlier heard) (f.contents between) y) sofar.bank.geometry call)

    lasts_next_left : s.KEEPS ≡ true → f.tells → (me : Receiver) (heard : List Heard) → Collects s f me heard old before
        → LeavesOnly f.moment f.left_since between now (Lasts 1 (geometry_of mid.bank) me (next heard) (earlier heard) (f.contents between))
        → LeavesOnly f.moment f.left_since before now (Lasts 1 (geometry_of old.bank) me (next heard) heard (f.contents before))
    lasts_next_left keeps tells me heard col call =
        let Now : List ℕ → Type 0 = Lasts 1 (geometry_of old.bank) me (next heard) heard (f.contents before) in
        joined f.moment f.left_since before between now Now
        (weaker f.moment f.left_since before between (Lasts 1 (geometry_of old.bank) me (earlier heard) heard (f.contents before)) Now
        (λ y is. lasts_more 1 (geometry_of old.bank) me (heard_on pid section ∷ []) (earlier heard) heard (f.contents before) y is) (sofar.lasts_left keeps tells me heard col))
        (weaker f.moment f.left_since between now (Lasts 1 (geometry_of mid.bank) me (next heard) (earlier heard) (f.contents between)) Now
        (lasts_next 1 keeps tells me heard col) call)

    -- the next section was heard, and nothing is decided
    pub heard_more : ((me : Receiver) (heard : List Heard) → Collects s f me heard mid between → Collects s f me (heard_on pid section ∷ heard) new now)
        → (f.tells → (me : Receiver) (heard : List Heard) → Collects s f me heard mid between → KeepsBoot (geometry_of mid.bank) (f.contents between) (f.contents now))
        → (f.tells → (me : Receiver) (heard : List Heard) → Collects s f me heard mid between
        → LeavesOnly f.moment f.left_since between now (SectionsLeave me (heard_on pid section ∷ heard) mid.bank (f.contents between)))
        → ((me : Receiver) (heard : List Heard) → Collects s f me heard mid between → beginnings me (heard_on pid section ∷ heard) ≡ 0 → now ≡ between)
        → (f.tells → (me : Receiver) (heard : List Heard) → Collects s f me heard mid between → HoldsHeard (geometry_of mid.bank) me (heard_on pid section ∷ heard) (f.contents between) (f.contents now))
        → (f.tells → (me : Receiver) (heard : List Heard) → Collects s f me heard mid between
        → LeavesOnly f.moment f.left_since between now (HoldsHeard (geometry_of mid.bank) me (heard_on pid section ∷ heard) (f.contents between)))
        → (s.KEEPS ≡ true → f.tells → (me : Receiver) (heard : List Heard) → Collects s f me heard mid between
        → Lasts 0 (geometry_of mid.bank) me (heard_on pid section ∷ heard) heard (f.contents between) (f.contents now))
        → (s.KEEPS ≡ true → f.tells → (me : Receiver) (heard : List Heard) → Collects s f me heard mid between
        → LeavesOnly f.moment f.left_since between now (Lasts 1 (geometry_of mid.bank) me (heard_on pid section ∷ heard) heard (f.contents between)))
        → (s.KEEPS ≡ true → f.tells → (me : Receiver) (heard : List Heard) → Collects s f me heard mid between → KeepsMargin (geometry_of mid.bank) (f.contents between) (f.contents now))
        → SameBank mid.bank new.bank → IsLent f.tells f.contents f.block_count f.block_len new.bank now → f.block_count now ≡ f.block_count between → f.block_len now ≡ f.block_len between → f.faults between ≤ f.faults now
        → HeardSoFar pid each (k + 1) old before new now
    heard_more collects leaves left untouched holds holds_left lasts lasts_left margin bank lent blocks block_size later = record {
      collects = λ me heard col. subst (λ (items : List Heard). Collects s f me items new now) (sym (after_one_more pid each k section heard at)) (collects me (earlier heard) (sofar.collects me heard col));
      untouched = λ me heard col none.
          let items = earlier heard in
          let last : beginnings me (heard_on pid section ∷ items) ≡ 0 = ap (beginnings me) (sym (after_one_more pid each k section heard at)) ∙ none in
          let fewer = began_before me (heard_on pid section) items (change_at me (heard_on pid section) items) refl in
          untouched me items (sofar.collects me heard col) last ∙ sofar.untouched me heard col (omega (arith, fewer, last));
      alone = λ me heard col many.
          let after = collects me (earlier heard) (sofar.collects me heard col) in
          absurd (first_decides me pid (k + 1) each heard (omega arith) many
          (subst (λ (items : List Heard). IsUnfilled me items) (sym (after_one_more pid each k section heard at)) after.gathers.hears.unfilled));
      bank = banks_joined old.bank mid.bank new.bank sofar.bank bank;
      lent = lent;
      leaves = λ tells.
          keeps_boot_joined (geometry_of old.bank) (f.contents before) (f.contents between) (f.contents now) (sofar.leaves tells)
          (leaves_moved old.bank mid.bank (f.contents between) (f.contents now) sofar.bank
          (leaves tells usable.me (earlier usable.heard) (sofar.collects usable.me usable.heard usable.collects)));
      left = λ tells.
          let me = usable.me in
          let col = sofar.collects me usable.heard usable.collects in
          let after = collects me (earlier usable.heard) col in
          joined f.moment f.left_since before between now (KeepsBoot (geometry_of old.bank) (f.contents before)) (sofar.left tells)
          (weaker f.moment f.left_since between now (SectionsLeave me (heard_on pid section ∷ earlier usable.heard) mid.bank (f.contents between)) (KeepsBoot (geometry_of old.bank) (f.contents before))
          (λ y is. keeps_boot_joined (geometry_of old.bank) (f.contents before) (f.contents between) y (sofar.leaves tells)
          (leaves_moved old.bank mid.bank (f.contents between) y sofar.bank
          (leaves_open me (heard_on pid section ∷ earlier usable.heard) mid.bank (f.contents between) y (after.gathers.knows (inr tells)).undecided is)))
          (left tells me (earlier usable.heard) col));
      holds = λ tells me heard col.
          subst (λ (items : List Heard). HoldsHeard (geometry_of old.bank) me items (f.contents before) (f.contents now)) (sym (after_one_more pid each k section heard at))
          (holds_next tells me heard col (f.contents now) (holds tells me (earlier heard) (sofar.collects me heard col)));
      holds_left = λ tells me heard col.
          subst (λ (items : List Heard). LeavesOnly f.moment f.left_since before now (HoldsHeard (geometry_of old.bank) me items (f.contents before))) (sym (after_one_more pid each k section heard at))
          (holds_next_left tells me heard col (holds_left tells me (earlier heard) (sofar.collects me heard col)));
      lasts = λ keeps tells me heard col.
          subst (λ (items : List Heard). Lasts 0 (geometry_of old.bank) me items heard (f.contents before) (f.contents now)) (sym (after_one_more pid each k section heard at))
          (lasts_next 0 keeps tells me heard col (f.contents now) (lasts keeps tells me (earlier heard) (sofar.collects me heard col)));
      lasts_left = λ keeps tells me heard col.
          subst (λ (items : List Heard). LeavesOnly f.moment f.left_since before now (Lasts 1 (geometry_of old.bank) me items heard (f.contents before))) (sym (after_one_more pid each k section heard at))
          (lasts_next_left keeps tells me heard col (lasts_left keeps tells me (earlier heard) (sofar.collects me heard col)));
      margin = λ keeps tells me heard col.
          let so_far = sofar.collects me heard col in
          let same = sofar.bank.geometry in
          margin_joined (geometry_of old.bank) (f.contents before) (f.contents between) (f.contents now) (sofar.leaves tells).keeps
          (leaves_moved old.bank mid.bank (f.contents between) (f.contents now) sofar.bank (leaves tells me (earlier heard) so_far)).keeps (sofar.margin keeps tells me heard col)
          (subst (λ (g : Geometry). KeepsMargin g (f.contents between) (f.contents now)) same (margin keeps tells me (earlier heard) so_far));
      blocks = blocks ∙ sofar.blocks;
      block_size = block_size ∙ sofar.block_size;
      later = let a = sofar.later in omega (arith, a, later);
    }

    -- the sections of the packet that come after the next one
    abbrev rest : List Heard
    rest = reverse (map (heard_on pid) (drop (k + 1) each))

    all_is : (heard : List Heard) → after_all pid each heard ≡ rest ++ (heard_on pid section ∷ earlier heard)
    all_is heard = after_rest pid each (k + 1) heard ∙ ap (λ (items : List Heard). rest ++ items) (after_one_more pid each k section heard at)

    -- what is held with the next section, whether or not it decides
    pub heard_holds : f.tells → (me : Receiver) (heard : List Heard) → Collects s f me heard old before → (y : List ℕ) → HoldsHeard (geometry_of mid.bank) me (next heard) (f.contents between) y
        → HoldsHeard (geometry_of old.bank) me (after_all pid each heard) (f.contents before) y
    heard_holds tells me heard col y call =
        subst (λ (items : List Heard). HoldsHeard (geometry_of old.bank) me items (f.contents before) y) (sym (all_is heard))
        (holds_more (geometry_of old.bank) me rest (next heard) (f.contents before) y (holds_next tells me heard col y call))

    pub heard_holds_left : f.tells → (me : Receiver) (heard : List Heard) → Collects s f me heard old before
        → LeavesOnly f.moment f.left_since between now (HoldsHeard (geometry_of mid.bank) me (next heard) (f.contents between))
        → LeavesOnly f.moment f.left_since before now (HoldsHeard (geometry_of old.bank) me (after_all pid each heard) (f.contents before))
    heard_holds_left tells me heard col call =
        weaker f.moment f.left_since before now (HoldsHeard (geometry_of old.bank) me (next heard) (f.contents before)) (HoldsHeard (geometry_of old.bank) me (after_all pid each heard) (f.contents before))
        (λ y is. subst (λ (items : List Heard). HoldsHeard (geometry_of old.bank) me items (f.contents before) y) (sym (all_is heard)) (holds_more (geometry_of old.bank) me rest (next heard) (f.contents before) y is))
        (holds_next_left tells me heard col call)

    -- what stays staged with the next section, whether or not it decides
    pub heard_lasts : (n : ℕ) → s.KEEPS ≡ true → f.tells → (me : Receiver) (heard : List Heard) → Collects s f me heard old before → (y : List ℕ)
        → Lasts n (geometry_of mid.bank) me (next heard) (earlier heard) (f.contents between) y → Lasts n (geometry_of old.bank) me (after_all pid each heard) heard (f.contents before) y
    heard_lasts n keeps tells me heard col y call =
        subst (λ (items : List Heard). Lasts n (geometry_of old.bank) me items heard (f.contents before) y) (sym (all_is heard))
        (lasts_more n (geometry_of old.bank) me rest (next heard) heard (f.contents before) y (lasts_next n keeps tells me heard col y call))

    pub heard_lasts_left : s.KEEPS ≡ true → f.tells → (me : Receiver) (heard : List Heard) → Collects s f me heard old before
        → LeavesOnly f.moment f.left_since between now (Lasts 1 (geometry_of mid.bank) me (next heard) (earlier heard) (f.contents between))
        → LeavesOnly f.moment f.left_since before now (Lasts 1 (geometry_of old.bank) me (after_all pid each heard) heard (f.contents before))
    heard_lasts_left keeps tells me heard col call =
        weaker f.moment f.left_since before now (Lasts 1 (geometry_of old.bank) me (next heard) heard (f.contents before)) (Lasts 1 (geometry_of old.bank) me (after_all pid each heard) heard (f.contents before))
        (λ y is. subst (λ (items : List Heard). Lasts 1 (geometry_of old.bank) me items heard (f.contents before) y) (sym (all_is heard)) (lasts_more 1 (geometry_of old.bank) me rest (next heard) heard (f.contents before) y is))
        (lasts_next_left keeps tells me heard col call)

    -- before any choice began, the flash is not called
    pub heard_untouched : ((me : Receiver) (heard : List Heard) → Collects s f me heard mid between → beginnings me (heard_on pid section ∷ heard) ≡ 0 → now ≡ between)
        → (me : Receiver) (heard : List Heard) → Collects s f me heard old before → beginnings me (after_all pid each heard) ≡ 0 → now ≡ before
    heard_untouched untouched me heard col none =
        let items = earlier heard in
        let all : beginnings me (rest ++ (heard_on pid section ∷ items)) ≡ 0 = ap (beginnings me) (sym (all_is heard)) ∙ none in
        let fewer = begun_more me rest (heard_on pid section ∷ items) in
        let last : beginnings me (heard_on pid section ∷ items) ≡ 0 = omega (arith, fewer, all) in
        let before_it = began_before me (heard_on pid section) items (change_at me (heard_on pid section) items) refl in
        untouched me items (sofar.collects me heard col) last ∙ sofar.untouched me heard col (omega (arith, before_it, last))

    -- where the first section would begin a choice too many
    pub heard_alone : ((me : Receiver) (heard : List Heard) → Collects s f me heard mid between → IsTrue (is_one_too_many me (heard_on pid section ∷ heard)) → now ≡ between)
        → (me : Receiver) (heard : List Heard) → Collects s f me heard old before → BeginsTooMany me pid each heard → now ≡ before
    heard_alone same me heard col many =
        let so_far = sofar.collects me heard col in
        same me (earlier heard) so_far (first_is_next me pid k each section heard at many so_far.gathers.hears.unfilled)
        ∙ sofar.alone me heard col many

    -- what is seen at the next section
    pub heard_seen : (me : Receiver) (heard : List Heard) (answer : Option Verdict) (v : Verdict) → answer ≡ Some v → IsSeen (KnowsKept s f) me (heard_on pid section ∷ earlier heard) answer
        → IsSeen (KnowsKept s f) me (after_all pid each heard) (Some v)
    heard_seen me heard answer v is seen =
        subst (λ (items : List Heard). IsSeen (KnowsKept s f) me items (Some v)) (sym (all_is heard))
        (seen_more (KnowsKept s f) me rest (heard_on pid section ∷ earlier heard) v (subst (λ (o : Option Verdict). IsSeen (KnowsKept s f) me (heard_on pid section ∷ earlier heard) o) is seen))

    -- where the next section brings one choice too many, the flash is as it was
    pub heard_stops : (me : Receiver) (heard : List Heard) → Collects s f me heard old before → (v : Verdict) → IsSeen (KnowsKept s f) me (heard_on pid section ∷ earlier heard) (Some v)
        → (IsTrue (is_one_too_many me (heard_on pid section ∷ earlier heard)) → now ≡ between) → IfUnsettled (Some v) (StopsBefore s f me (after_all pid each heard) now)
    heard_stops me heard col (Installed chosen) seen same = tt
    heard_stops me heard col (Nothing level) seen same = tt
    heard_stops me heard col (Incomplete chosen count) seen same = tt
    heard_stops me heard col (BadModule id want found) seen same = tt
    heard_stops me heard col Unsettled seen same =
        let before_it = sofar.collects me heard col in
        let many = many_last me (heard_on pid section) (earlier heard) before_it.gathers.hears.unfilled seen.later seen.item seen.earlier seen.parts seen.too_many in
        record {
          later = rest;
          item = heard_on pid section;
          earlier = earlier heard;
          parts = all_is heard;
          too_many = many;
          collector = mid;
          collects = subst (λ (flash : F). Collects s f me (earlier heard) mid flash) (sym (same many)) before_it;
        }

    -- what holds where a module is wrong with the next section
    pub heard_wrong : (P : Geometry → Type 0) (answer : Option Verdict) (v : Verdict) → answer ≡ Some v → IfBadModule answer (P (geometry_of mid.bank)) → IfBadModule (Some v) (P (geometry_of old.bank))
    heard_wrong P answer v is wrong =
        subst (λ (g : Geometry). IfBadModule (Some v) (P g)) sofar.bank.geometry (subst (λ (o : Option Verdict). IfBadModule o (P (geometry_of mid.bank))) is wrong)

    module _ (tells : f.tells) (me : Receiver) (heard : List Heard) where
      -- a decision at the next section
      pub heard_ends : (y : List ℕ) (v : Verdict) → Ends me (heard_on pid section ∷ earlier heard) mid.bank (f.contents between) y v → Ends me (after_all pid each heard) old.bank (f.contents before) y v
      heard_ends y v ends =
          subst (λ (items : List Heard). Ends me items old.bank (f.contents before) y v) (sym (all_is heard))
          (ends_more me rest (heard_on pid section ∷ earlier heard) old.bank (f.contents before) y v
          (ends_from me (heard_on pid section ∷ earlier heard) old.bank mid.bank (f.contents before) (f.contents between) y v (usable.collects.gathers.lent.fits tells) sofar.bank (sofar.leaves tells) ends))

      -- what may be left meanwhile
      pub heard_leaves : (y : List ℕ) → SectionsLeave me (heard_on pid section ∷ earlier heard) mid.bank (f.contents between) y → SectionsLeave me (after_all pid each heard) old.bank (f.contents before) y
      heard_leaves y is =
          subst (λ (items : List Heard). SectionsLeave me items old.bank (f.contents before) y) (sym (all_is heard))
          (leaves_more me rest (heard_on pid section ∷ earlier heard) old.bank (f.contents before) y
          (leaves_from me (heard_on pid section ∷ earlier heard) old.bank mid.bank (f.contents before) (f.contents between) y (usable.collects.gathers.lent.fits tells) sofar.bank (sofar.leaves tells) is))

      pub heard_left : LeavesOnly f.moment f.left_since between now (SectionsLeave me (heard_on pid section ∷ earlier heard) mid.bank (f.contents between))
          → LeavesOnly f.moment f.left_since before now (SectionsLeave me (after_all pid each heard) old.bank (f.contents before))
      heard_left left =
          joined f.moment f.left_since before between now (SectionsLeave me (after_all pid each heard) old.bank (f.contents before))
          (weaker f.moment f.left_since before between (KeepsBoot (geometry_of old.bank) (f.contents before)) (SectionsLeave me (after_all pid each heard) old.bank (f.contents before)) (λ y is. inl is) (sofar.left tells))
          (weaker f.moment f.left_since between now (SectionsLeave me (heard_on pid section ∷ earlier heard) mid.bank (f.contents between)) (SectionsLeave me (after_all pid each heard) old.bank (f.contents before))
          heard_leaves left)

-- ---- all of them

pub take_whole : (xs : List (List ℕ)) (k : ℕ) → length xs ≤ k → take k xs ≡ xs
take_whole [] zero past = refl
take_whole [] (suc k) past = refl
take_whole (x ∷ xs) zero past = absurd (omega (arith, past))
take_whole (x ∷ xs) (suc k) past = ap (λ (ys : List (List ℕ)). x ∷ ys) (take_whole xs k (omega (arith, past)))
