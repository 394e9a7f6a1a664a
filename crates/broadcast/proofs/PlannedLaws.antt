-- What is decided of sections that are all of a plan.
use Rattle.std.proofs.Common.{◌≡◌, inl, inr, ℕ, Bool, true, false, List, [], ◌∷◌, ◌++◌, Option, None, refl, sym, ap, subst, ◌∙◌}
use Rattle.std.specs.Prelude.{Contains}
use Rattle.std.specs.List.{All}
use Rattle.std.specs.Option.{option_or}
use Rattle.std.proofs.lemmas.List.Elements.{All-append, All-contains_itself, All-nil, All-weaker}
use Rattle.broadcast.specs.Packets.{Broadcast, IsUnspoilt, aired_packets, heard_over}
use Rattle.broadcast_laws.specs.OneOf.{IsGroupForBox}
use Rattle.broadcast_laws.specs.Planned.{IsOfPlan, IsSent}
use Rattle.broadcast_laws.specs.Undeceived.{IsRightIn}
use Rattle.broadcast_laws.proofs.ForBoxLaws.{is_for_box_over}
use Rattle.broadcast_laws.proofs.HeardLaws.{heard_right, right_later}
use Rattle.broadcast_laws.proofs.Lists.{there}
use Rattle.broadcast_laws.proofs.ReceivedLaws.{window_heard}
use Rattle.route_tables.specs.Values.{Receiver}
use Rattle.ssu_answer.specs.declared.chosen.Chosen.{Chosen}
use Rattle.ssu_group.specs.Carried.{CarriesWhole, Fills, filling, nothing_kept}
use Rattle.ssu_group.specs.declared.group_plan.GroupPlan.{GroupPlan}
use Rattle.ssu_loader.proofs.KeptLaws.{filling_joined}
use Rattle.ssu_loader.specs.Decisions.{IsWhole, Reaches, Whole}
use Rattle.ssu_loader.specs.Opening.{by_change, earlier_windows, fills_at, keeps_at, staged_still}
use Rattle.ssu_route.specs.Windows.{change_at, window}
use Rattle.ssu_route.specs.declared.change.Change.{Change}
use Rattle.ssu_route.specs.declared.change.Change.TheVariants as change
use Rattle.ts_section.specs.Events.{Heard}

-- The group is carried whole where some of the sections, the newest left out, were heard.
record IsWholeBefore (me : Receiver) (heard : List Heard) (chosen : Chosen) (image : List ℕ) : Type 0 where
  pub earlier : List Heard
  pub own : (item : Heard) → Contains earlier item → Contains heard item
  pub whole : IsWhole me earlier chosen image

whole_before : (me : Receiver) (heard : List Heard) (chosen : Chosen) (image : List ℕ) → Reaches me heard (Whole chosen image) → IsWholeBefore me heard chosen image
unfolding Reaches
whole_before me [] chosen image reached = absurd reached
whole_before me (item ∷ earlier) chosen image reached = elim reached [
  | inl before ↦ let w = whole_before me earlier chosen image before in record { earlier = w.earlier; own = λ x c. there item earlier x (w.own x c); whole = w.whole }
  | inr now ↦ record { earlier = item ∷ earlier; own = λ x c. c; whole = now.1 }
]

-- Nothing of a group was staged in the flash at the opening.
abbrev pub OpensEmpty : Receiver → Type 0
OpensEmpty me = (n : ℕ) → me.opening.staged n ≡ None

-- ---- then what a choice has was heard

none_step : (c : Change) (b : Bool) (before : Fills) (n : ℕ) → before n ≡ None → by_change c b before before nothing_kept n ≡ None
none_step change.Same b before n none = none
none_step change.Lost b before n none = none
none_step change.Chosen true before n none = none
none_step change.Chosen false before n none = refl

none_still : (me : Receiver) → OpensEmpty me → (heard : List Heard) (n : ℕ) → staged_still me heard n ≡ None
unfolding staged_still
none_still me opens [] n = opens n
none_still me opens (item ∷ heard) n = none_step (change_at me item heard) (keeps_at me item heard) (staged_still me heard) n (none_still me opens heard n)

-- it was heard in its window, or in those before it with the same message
fills_heard : (me : Receiver) → OpensEmpty me → (heard : List Heard) (plan : GroupPlan) → fills_at me heard plan ≡ filling plan (window me heard ++ earlier_windows me heard)
fills_heard me opens heard plan = (λ i. λ n. at_place n i)
  where
    at_place : (n : ℕ) → fills_at me heard plan n ≡ filling plan (window me heard ++ earlier_windows me heard) n
    at_place n =
        ap (λ (o : Option (List ℕ)). option_or (option_or o (filling plan (earlier_windows me heard) n)) (filling plan (window me heard) n)) (none_still me opens heard n)
        ∙ sym (filling_joined plan (window me heard) (earlier_windows me heard) n)

windows_step : (P : List ℕ → Type 0) (c : Change) (b : Bool) (now before : List (List ℕ)) → All P now → All P before → All P (by_change c b before (now ++ before) [])
windows_step P change.Same b now before n e = e
windows_step P change.Lost b now before n e = All-append P now before n e
windows_step P change.Chosen true now before n e = e
windows_step P change.Chosen false now before n e = All-nil P

window_known : (P : List ℕ → Type 0) (me : Receiver) (heard : List Heard) → ((item : Heard) → Contains heard item → P item.section) → All P (window me heard)
window_known P me heard known =
    All-weaker (Contains (window me heard)) P (λ section c. let h = window_heard me heard section c in subst P h.is (known h.item h.heard_so))
    (window me heard) (All-contains_itself (window me heard))

earlier_known : (P : List ℕ → Type 0) (me : Receiver) (heard : List Heard) → ((item : Heard) → Contains heard item → P item.section) → All P (earlier_windows me heard)
unfolding earlier_windows
earlier_known P me [] known = All-nil P
earlier_known P me (item ∷ heard) known =
    let before : (x : Heard) → Contains heard x → P x.section = λ x c. known x (there item heard x c) in
    windows_step P (change_at me item heard) (keeps_at me item heard) (window me heard) (earlier_windows me heard) (window_known P me heard before) (earlier_known P me heard before)

-- ---- a group that is carried whole

pub planned_group : (b : Broadcast) (me : Receiver) (front back : List (List ℕ)) (chosen : Chosen) (image : List ℕ) → IsSent b.plan b.images → aired_packets b ≡ front ++ back
    → OpensEmpty me → Reaches me (heard_over me front) (Whole chosen image) → IsUnspoilt b → IsGroupForBox b.plan b.images me chosen.group chosen.software image
planned_group b me front back chosen image sent parts opens reached unspoilt =
    let w = whole_before me (heard_over me front) chosen image reached in
    let choice = w.whole.choice in
    let of_plan : (item : Heard) → Contains w.earlier item → IsOfPlan b.plan b.images item.section =
    λ item c table. unspoilt item.section
    (subst (λ (ps : List (List ℕ)). IsRightIn ps item.section) (sym parts) (right_later front back item.section (heard_right me front item (w.own item c)))) table in
    let known = IsOfPlan b.plan b.images in
    let sections = window me w.earlier ++ earlier_windows me w.earlier in
    let all : All known sections = All-append known (window me w.earlier) (earlier_windows me w.earlier) (window_known known me w.earlier of_plan) (earlier_known known me w.earlier of_plan) in
    let carried = subst (λ (fills : Fills). CarriesWhole choice.plan fills image) (fills_heard me opens w.earlier choice.plan) w.whole.whole in
    let group = is_for_box_over b.plan b.images sent me w.earlier of_plan sections all choice image w.whole.standing.chosen carried in
    subst (λ (c : Chosen). IsGroupForBox b.plan b.images me c.group c.software image) (sym w.whole.is) group
