-- Two plans of one DII join to the same image.
use Rattle.std.proofs.Common.{◌≡◌, ℕ, List, [], Option, ap, ◌∙◌}
use Rattle.std.specs.Prelude.{unwrap_or}
use Rattle.std.specs.Option.{option_or}
use Rattle.ts_section.specs.Events.{Heard}
use Rattle.route_tables.specs.Values.{Receiver}
use Rattle.ssu_group.specs.declared.group_plan.GroupPlan.{GroupPlan}
use Rattle.ssu_group.specs.Carried.{carried_image, joined, missing_places}
use Rattle.ssu_group.proofs.SamePlans.{IsSamePlan, same_filling, same_missing}
use Rattle.flash_stage.proofs.TextLaws.{joined_same}
use Rattle.ssu_route.specs.Windows.{window}
use Rattle.ssu_loader.specs.Opening.{earlier_windows, fills_at, staged_still}

pub same_fills : (me : Receiver) (heard : List Heard) (a b : GroupPlan) (n : ℕ) → IsSamePlan a b → fills_at me heard a n ≡ fills_at me heard b n
same_fills me heard a b n s =
    let before = same_filling a b (earlier_windows me heard) n s in
    let now = same_filling a b (window me heard) n s in
    (λ i. option_or (option_or (staged_still me heard n) (before i)) (now i))

pub same_image : (me : Receiver) (heard : List Heard) (a b : GroupPlan) → IsSamePlan a b → carried_image a (fills_at me heard a) ≡ carried_image b (fills_at me heard b)
same_image me heard a b s =
    joined_same (λ (n : ℕ). unwrap_or (fills_at me heard a n) []) (λ (n : ℕ). unwrap_or (fills_at me heard b n) []) a.places
    (λ n below. ap (λ (o : Option (List ℕ)). unwrap_or o []) (same_fills me heard a b n s))
    ∙ ap (λ (n : ℕ). joined (λ (k : ℕ). unwrap_or (fills_at me heard b k) []) n) s.places

pub same_count : (me : Receiver) (heard : List Heard) (a b : GroupPlan) → IsSamePlan a b → missing_places a (fills_at me heard a) ≡ missing_places b (fills_at me heard b)
same_count me heard a b s = same_missing a b (fills_at me heard a) (fills_at me heard b) s (λ n. same_fills me heard a b n s)
