-- What boot takes after a life, and what the flash holds then.
use Rattle.std.proofs.Common.{◌≡◌, ◌⊎◌, inl, inr, ⊎_elim, ℕ, true, List, [], ◌∷◌, ◌++◌, Option, Some, None, refl, sym, ap, subst}
use Rattle.std.specs.Prelude.{IsSome, is_some, unwrap_or}
use Rattle.bank_kept.specs.Contents.{HoldsPlace, StagesPlace}
use Rattle.flash_bank.specs.Sound.{Boot, BootOf}
use Rattle.flash_layout.specs.Layout.{Geometry, IsInLimits}
use Rattle.ts_section.specs.Events.{Heard}
use Rattle.route_tables.specs.Values.{Receiver}
use Rattle.ssu_group.specs.Carried.{Fills}
use Rattle.ssu_group.proofs.MapLaws.{all_marked}
use Rattle.ssu_route.specs.Windows.{standing}
use Rattle.ssu_loader.specs.Decisions.{Decides, Decision, IsWhole, Reaches, Whole}
use Rattle.ssu_loader.specs.Life.{ComesOfLife, HeardInLife, HeardUnder, InstallsOver, IsHeardImage, IsLife, IsStep, Replay, WasStaged, box_of, heard_of}
use Rattle.ssu_loader.specs.Opening.{fills_at}
use Rattle.ssu_loader.proofs.AdmittedLaws.{admitted_group}
use Rattle.ssu_loader.proofs.OpenedLaws.{opened_place}
use Rattle.ssu_loader.proofs.OriginLaws.{comes_of, heard_later}

-- where a decision came first
record DecidedAt (me : Receiver) (heard : List Heard) (d : Decision) : Type 0 where
  pub later : List Heard
  pub front : List Heard
  pub parts : heard ≡ later ++ front
  pub decides : Decides me front d

decided_at : (me : Receiver) (heard : List Heard) (d : Decision) → Reaches me heard d → DecidedAt me heard d
unfolding Reaches
decided_at me [] d reached = absurd reached
decided_at me (item ∷ heard) d (inl before) =
    let rest = decided_at me heard d before in
    record { later = item ∷ rest.later; front = rest.front; parts = ap (λ (xs : List Heard). item ∷ xs) rest.parts; decides = rest.decides }
decided_at me (item ∷ heard) d (inr now) = record { later = []; front = item ∷ heard; parts = refl; decides = now.1 }

value_of : {A : Type 0} (o : Option A) → IsSome o → (a : A) × (o ≡ Some a)
value_of None some = absurd cc
value_of (Some a) some = (a, refl)

some_is : {A : Type 0} (o : Option A) → is_some o ≡ true → IsSome o
some_is None e = absurd cc
some_is (Some a) e = refl

module _ (g : Geometry) (x : List ℕ) where
  -- What is held after a life was heard in it.
  pub held_after : (replays : List Replay) (y : List ℕ) → IsLife g x replays y → (message : List ℕ) (n : ℕ) (b : List ℕ) → HoldsPlace g y message n b → HeardInLife g replays message n b
  unfolding IsLife HeardInLife
  held_after [] y life message n b holds =
      let first = subst (λ (c : List ℕ). HoldsPlace g c message n b) life.0 holds in
      life.1.holds_none message first.held.dii (record { area = first.area; spare = first.spare; held = first.held.under })
  held_after (r ∷ earlier) y life message n b holds =
      ⊎_elim (λ was. inr (held_after earlier r.before life.1 message n b was)) (λ now. inl now) (life.0.steps.held message n b holds)

  -- what a replay installs
  module _ (limits : IsInLimits g) (r : Replay) (earlier : List Replay) (y : List ℕ) (step : IsStep g r y) (life : IsLife g x earlier r.before) where
    from_origin : (front later : List Heard) → heard_of g r ≡ later ++ front → (message : List ℕ) (n : ℕ) (b : List ℕ)
        → WasStaged (box_of g r) message n b ⊎ HeardUnder (box_of g r) front message n b → HeardInLife g (r ∷ earlier) message n b
    unfolding HeardInLife
    from_origin front later parts message n b (inl was) =
        let staged : StagesPlace g r.before message n b = opened_place g r.before r.former limits step.boots r.keeps message was.own n b was.has in
        inr (held_after earlier r.before life message n b (record { area = staged.area; spare = staged.spare; held = staged.staged.held }))
    from_origin front later parts message n b (inr h) =
        inl (subst (λ (xs : List Heard). HeardUnder (box_of g r) xs message n b) (sym parts) (heard_later (box_of g r) later front message n b h))

    heard_image : (b : Boot) → InstallsOver (box_of g r) (heard_of g r) r.former b → IsHeardImage g (r ∷ earlier) r b
    heard_image b now =
        let me = box_of g r in
        let at = decided_at me (heard_of g r) (Whole now.chosen b.image) now.reached in
        let whole : IsWhole me at.front now.chosen b.image = at.decides in
        let choice = whole.choice in
        let some = value_of (standing me at.front) whole.standing.stands in
        let fills : Fills = fills_at me at.front choice.plan in
        record {
          installs = now;
          later = at.later;
          front = at.front;
          parts = at.parts;
          choice = choice;
          choice_stands = whole.standing;
          own = whole.is;
          admitted = admitted_group me at.front choice.group whole.standing.chosen.group;
          message = some.0;
          stands = some.1;
          text = λ n. unwrap_or (fills n) [];
          joins = whole.whole.joins;
          heard = λ n below.
              let one = value_of (fills n) (some_is (fills n) (all_marked (λ k. is_some (fills k)) choice.plan.places whole.whole.filled n below)) in
              let is : one.0 ≡ unwrap_or (fills n) [] = sym (ap (λ (o : Option (List ℕ)). unwrap_or o []) one.1) in
              subst (λ (bytes : List ℕ). HeardInLife g (r ∷ earlier) some.0 n bytes) is
              (from_origin at.front at.later at.parts some.0 n one.0 (comes_of me at.front choice some.0 n one.0 whole.standing some.1 one.1));
          right = whole.whole.right;
        }

  pub boots_after : (y : List ℕ) (replays : List Replay) (b : Boot) → IsInLimits g → IsLife g x replays y → BootOf g y b → BootOf g x b ⊎ ComesOfLife g replays b
  unfolding IsLife ComesOfLife
  boots_after y [] b limits life boots = inl (subst (λ (c : List ℕ). BootOf g c b) life.0 boots)
  boots_after y (r ∷ earlier) b limits life boots =
      ⊎_elim
      (λ same. ⊎_elim (λ first. inl first) (λ before. inr (inr before))
      (boots_after r.before earlier b limits life.1 (subst (λ (t : Boot). BootOf g r.before t) (sym same) life.0.boots)))
      (λ now. inr (inl (heard_image limits r earlier y life.0 life.1 b now)))
      (life.0.steps.boot b boots)
