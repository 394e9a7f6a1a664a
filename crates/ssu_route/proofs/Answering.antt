-- What a route answers where it stands for what was heard.
use Rattle.std.proofs.Common.{◌≡◌, ℕ, List, [], length, Option, Some, None, refl, ap, ◌∙◌, sym, true, false}
use Rattle.std.specs.Prelude.{is_some, sum_by}
use Rattle.std.specs.Option.{option_map, option_and_then}
use Rattle.std.proofs.lemmas.List.{length-map}
use Rattle.route_part.specs.Part.{since}
use Rattle.ts_section.specs.Events.{Heard}
use Rattle.dsmcc_msg.specs.Control.{DiiFields}
use Rattle.ssu_group.specs.Refusal.{total_of}
use Rattle.ssu_group.specs.Plan.{size_of}
use Rattle.ssu_group.specs.Lays.{IsPlanOf}
use Rattle.ssu_group.specs.declared.group_plan.GroupPlan.{GroupPlan}
use Rattle.ssu_group.proofs.LayoutLaws.{laid_bytes, length-laid_out}
use Rattle.route_tables.specs.Values.{Receiver, CarouselFound}
use Rattle.route_tables.specs.Levels.{level_5}
use Rattle.ssu_route.specs.declared.choice.Choice.{Choice}
use Rattle.ssu_route.specs.declared.kept.Kept.{Kept}
use Rattle.ssu_route.specs.Offers.{Offer, dii_of, same_offers}
use Rattle.ssu_route.specs.Choosing.{level_6, level_7}
use Rattle.ssu_route.specs.Windows.{IsChoice, chosen_dii, offered_by}
use Rattle.ssu_route.specs.Queries.{count_and_total}
use Rattle.ssu_route.specs.Kept.{first_usable, groups_by, groups_found, message_if, offers_of, usable_after}
use Rattle.ssu_route.specs.Route.{KeptStands, HasUsableDii}
use Rattle.ssu_route.proofs.Accepting.{seen_offers}
use Rattle.ssu_route.proofs.LevelSteps.{no_carousel, wanted_is}

-- the groups that were found are those of level 6
offers_by_carousel : (bank_len : ℕ) (c : Option CarouselFound) (os : List Offer) (part : List Heard) → (c ≡ None → os ≡ []) → offers_of (groups_by bank_len c os part) ≡ os
offers_by_carousel bank_len None os part none = sym (none refl)
offers_by_carousel bank_len (Some c) os part none = seen_offers (usable_after bank_len c.pid part) os

pub offers_found : (me : Receiver) (heard : List Heard) → offers_of (groups_found me heard) ≡ level_6 me heard
unfolding groups_found
offers_found me heard =
    offers_by_carousel me.bank_len (level_5 me heard) (level_6 me heard) (since same_offers (level_6 me) heard) (no_carousel me heard)

pub groups_count : (me : Receiver) (heard : List Heard) (kept : Kept) → KeptStands me heard kept → length kept.groups.items ≡ length (level_6 me heard)
groups_count me heard kept stands =
    sym (length-map kept.groups.items _) ∙ ap (λ fs. length (offers_of fs)) stands.groups ∙ ap length (offers_found me heard)

-- the DII that was chosen
chosen_at : (me : Receiver) (heard : List Heard) (kept : Kept) (choice : Choice) → KeptStands me heard kept → kept.choice ≡ Some choice →
    chosen_dii me heard ≡ dii_of choice.message.items
unfolding chosen_dii
chosen_at me heard kept choice stands e =
    ap (option_and_then dii_of) (sym stands.message ∙ ap message_if e)

pub is_choice : (me : Receiver) (heard : List Heard) (kept : Kept) (choice : Choice) → KeptStands me heard kept → kept.choice ≡ Some choice → IsChoice me heard choice
is_choice me heard kept choice stands e =
    let p = stands.planned choice e in
    record {
      dii = p.dii;
      read = chosen_at me heard kept choice stands e ∙ p.read;
      group = wanted_is me heard ∙ ap first_usable (sym stands.groups) ∙ p.first;
      software = p.software ∙ ap (λ fs. offered_by choice.group (offers_of fs)) stands.groups ∙ ap (offered_by choice.group) (offers_found me heard);
      plan = p.plan;
      message = sym stands.message ∙ ap message_if e;
    }

pub has_usable : (me : Receiver) (heard : List Heard) (kept : Kept) (choice : Choice) → KeptStands me heard kept → kept.choice ≡ Some choice → HasUsableDii me heard choice
has_usable me heard kept choice stands e =
    let p = stands.planned choice e in
    record {
      dii = p.dii;
      read = chosen_at me heard kept choice stands e ∙ p.read;
      usable = p.usable;
      own = p.own;
      plan = p.plan;
    }

-- and its numbers
plan_counts : (dii : DiiFields) (plan : GroupPlan) → IsPlanOf dii plan → length plan.modules.items ≡ length dii.modules
plan_counts dii plan p = ap length p.modules ∙ length-laid_out dii.block_size 0 0 dii.modules

plan_total : (dii : DiiFields) (plan : GroupPlan) → IsPlanOf dii plan → plan.total ≡ total_of dii.modules
plan_total dii plan p = plan.planned.all_bytes ∙ ap (sum_by size_of) p.modules ∙ laid_bytes dii.block_size 0 0 dii.modules

abbrev pair_of : ℕ → ℕ → Option (ℕ × ℕ)
pair_of count total = Some (count, total)

pub modules_some : (me : Receiver) (heard : List Heard) (kept : Kept) (choice : Choice) (count : ℕ) → KeptStands me heard kept → kept.choice ≡ Some choice →
    count ≡ length choice.plan.modules.items → pair_of count choice.plan.total ≡ option_map count_and_total (chosen_dii me heard)
modules_some me heard kept choice count stands e is =
    let p = stands.planned choice e in
    ap (λ n. pair_of n choice.plan.total) (is ∙ plan_counts p.dii choice.plan p.plan)
    ∙ ap (pair_of (length p.dii.modules)) (plan_total p.dii choice.plan p.plan)
    ∙ sym (ap (option_map count_and_total) (chosen_at me heard kept choice stands e ∙ p.read))

pub modules_none : (me : Receiver) (heard : List Heard) (kept : Kept) → KeptStands me heard kept → kept.choice ≡ None → None ≡ option_map count_and_total (chosen_dii me heard)
unfolding chosen_dii
modules_none me heard kept stands e =
    let none : level_7 me heard ≡ None = sym stands.message ∙ ap message_if e in
    rw none refl

pub stands_some : (me : Receiver) (heard : List Heard) (kept : Kept) (choice : Choice) → KeptStands me heard kept → kept.choice ≡ Some choice → true ≡ is_some (level_7 me heard)
stands_some me heard kept choice stands e =
    sym (ap is_some (sym stands.message ∙ ap message_if e))

pub stands_none : (me : Receiver) (heard : List Heard) (kept : Kept) → KeptStands me heard kept → kept.choice ≡ None → false ≡ is_some (level_7 me heard)
stands_none me heard kept stands e =
    sym (ap is_some (sym stands.message ∙ ap message_if e))
