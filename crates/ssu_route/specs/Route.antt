-- What a section does to a route, and what the route stands for.
use Rattle.std.specs.Prelude.{◌≡◌, ℕ, List, Some, None, ◌∷◌, Option, unwrap_or, Bool, true, false, not, map}
use Rattle.ts_section.specs.Events.{Heard}
use Rattle.dsmcc_msg.specs.Control.{DiiFields, dii_message, dsi}
use Rattle.ssu_group.specs.Refusal.{refusal}
use Rattle.ssu_group.specs.Lays.{IsPlanOf}
use Rattle.route_tables.specs.Values.{Receiver}
use Rattle.route_tables.specs.Standing.{TablesStand, IsUnmoved}
use Rattle.ssu_route.specs.declared.route.Route.{Route}
use Rattle.ssu_route.specs.declared.choice.Choice.{Choice}
use Rattle.ssu_route.specs.Offers.{dii_of, Offer, same_group}
use Rattle.ssu_route.specs.Choosing.{wanted, level_7, level_6}
use Rattle.ssu_route.specs.Windows.{chosen_dii, change_at, IsChoice, change_of, offered_by}
use Rattle.std.specs.Option.{option_map}
use Rattle.ssu_compat.specs.declared.rule.SwId.{SwId}
use Rattle.ssu_route.specs.declared.change.Change.{Change}
use Rattle.ssu_route.specs.declared.accept.Terms.{Terms}
use Rattle.ssu_route.specs.declared.kept.Kept.{Kept}
use Rattle.ssu_route.specs.Kept.{accepted_in, groups_found, IsPlanned, afresh, first_usable, marked, message_if, next_held, offers_of}
use Rattle.ssu_route.specs.Queries.{carousel_pid, listened, missing, report}
use Rattle.std.specs.Str.{bytes_eq}
use Rattle.ssu_group.specs.declared.group_plan.GroupPlan.{GroupPlan}
use Rattle.ssu_route.specs.declared.change.Change.TheVariants.{Same, Chosen, Lost}
use Rattle.ssu_route.specs.declared.found.Found.{Found}

-- ---- what a section of the carousel does to what is kept

-- the message of the choice that is kept
abbrev pub held : Kept → Option (List ℕ)
held kept = message_if kept.choice

abbrev pub held_by : List ℕ → Option Choice → Bool
held_by message None = false
held_by message (Some choice) = bytes_eq choice.message.items message

-- Is it the message of the choice that is kept?
abbrev pub is_held : List ℕ → Kept → Bool
is_held message kept = held_by message kept.choice

abbrev pub lapses : List Found → Option Choice → Bool
lapses groups None = false
lapses groups (Some choice) = not (same_group (first_usable groups) (Some choice.group))

-- Is the choice of a group that is not the first that stands?
abbrev pub is_lapsed : Kept → Bool
is_lapsed kept = lapses kept.groups.items kept.choice

abbrev pub WherePlanned : ℕ → Kept → Type 0
WherePlanned bank_len kept =
    (choice : Choice) → kept.choice ≡ Some choice → IsPlanned bank_len kept.groups.items choice

-- The groups stay, and a DII is heard or none.
pub record Takes (bank_len : ℕ) (d : Option DiiFields) (old new : Kept) (answer : Change) : Type 0 where
  pub groups : new.groups.items ≡ marked bank_len d old.groups.items
  pub message : held new ≡ next_held d (first_usable new.groups.items) (first_usable old.groups.items) (held old)
  pub planned : WherePlanned bank_len new
  pub change : answer ≡ change_of (held old) (held new)

-- A choice that has lapsed ends, and any other stays.
pub record EndsLapsed (old new : Kept) (answer : Change) : Type 0 where
  pub groups : new.groups.items ≡ old.groups.items
  pub stays : is_lapsed old ≡ false → (new ≡ old) × (answer ≡ Same)
  pub ends : is_lapsed old ≡ true → (new.choice ≡ None) × (answer ≡ Lost)

-- the choice of this plan, for the group of the DII, with its message
abbrev pub choice_of : DiiFields → GroupPlan → List Found → Choice
choice_of d plan groups = record {
  group = d.transaction;
  software = offered_by d.transaction (offers_of groups);
  plan = plan;
  message = record { items = d.message };
}

-- The group of the DII is chosen.
pub record Chooses (d : DiiFields) (plan : GroupPlan) (old new : Kept) (answer : Change) : Type 0 where
  pub groups : new.groups.items ≡ old.groups.items
  pub choice : new.choice ≡ Some (choice_of d plan old.groups.items)
  pub change : answer ≡ Chosen

-- is it the first that stands?
abbrev pub is_first : ℕ → List Found → Bool
is_first group groups = same_group (first_usable groups) (Some group)

-- Other groups take the place of those that were found.
pub record Restarts (offers : List Offer) (old new : Kept) (answer : Change) : Type 0 where
  pub groups : new.groups.items ≡ map afresh offers
  pub choice : new.choice ≡ None
  pub change : answer ≡ change_of (held old) None

-- ---- what is kept, and a route, stand for what was heard

-- what is kept of the box
pub record AreTermsOf (me : Receiver) (terms : Terms) : Type 0 where
  pub oui : terms.id.oui ≡ me.file.id.oui
  pub model : terms.id.model ≡ me.file.id.model
  pub version : terms.id.version ≡ me.file.id.version
  pub rule : terms.rule ≡ me.file.rule
  pub bank_len : terms.bank_len ≡ me.bank_len

-- What is kept of levels 6 and 7 stands for the sections that this box heard, the newest first.
pub record KeptStands (me : Receiver) (heard : List Heard) (kept : Kept) : Type 0 where
  pub groups : kept.groups.items ≡ groups_found me heard
  pub message : held kept ≡ level_7 me heard
  pub planned : WherePlanned me.bank_len kept

-- This section was heard after these.
pub record KeptHears (me : Receiver) (item : Heard) (earlier : List Heard) (new : Kept) (answer : Change) : Type 0 where
  pub stands : KeptStands me (item ∷ earlier) new
  pub change : answer ≡ change_at me item earlier

-- the groups after a section of the carousel
abbrev pub offers_after : Terms → SwId → Option ℕ → List ℕ → List Offer → List Offer
offers_after terms running wanted section offers =
    unwrap_or (option_map (accepted_in terms running wanted) (dsi.of section)) offers

-- The route stands for the sections that this box heard, the newest first.
pub record Stands (me : Receiver) (heard : List Heard) (route : Route) : Type 0 where
  pub tables : TablesStand me heard route.tables
  pub terms : AreTermsOf me route.terms
  pub kept : KeptStands me heard route.kept

-- The plan of the choice is that of the DII that was chosen, which can be used for the bank and is of the choice's group.
pub record HasUsableDii (me : Receiver) (heard : List Heard) (choice : Choice) : Type 0 where
  pub dii : DiiFields
  pub read : chosen_dii me heard ≡ Some dii
  pub usable : refusal dii me.bank_len ≡ None
  pub own : dii.transaction ≡ choice.group
  pub plan : IsPlanOf dii choice.plan

-- The message of the choice spells a DII that can be used for a bank of this length, and the plan is that of the DII.
pub record IsPlanOfOwnMessage (bank_len : ℕ) (choice : Choice) : Type 0 where
  pub dii : DiiFields
  pub reads : dii_message.of choice.message.items ≡ Some dii
  pub usable : refusal dii bank_len ≡ None
  pub lays : IsPlanOf dii choice.plan

-- The message is of a DII of the wanted group, which can be used for the bank.
pub record IsOwnMessage (me : Receiver) (heard : List Heard) (message : List ℕ) : Type 0 where
  pub dii : DiiFields
  pub read : dii_of message ≡ Some dii
  pub own : wanted me heard ≡ Some dii.transaction
  pub usable : refusal dii me.bank_len ≡ None

-- ---- sections that change nothing, whatever their bytes are

-- A section leaves every level as it was, and all that can be asked of them.
pub record Stays (me : Receiver) (item : Heard) (earlier : List Heard) : Type 0 where
  pub tables : IsUnmoved me item earlier
  pub groups : level_6 me (item ∷ earlier) ≡ level_6 me earlier
  pub modules : level_7 me (item ∷ earlier) ≡ level_7 me earlier
  pub wanted : wanted me (item ∷ earlier) ≡ wanted me earlier
  pub choice : (choice : Choice) → IsChoice me earlier choice → IsChoice me (item ∷ earlier) choice
  pub listened : listened me (item ∷ earlier) ≡ listened me earlier
  pub carousel : carousel_pid me (item ∷ earlier) ≡ carousel_pid me earlier
  pub missing : missing me (item ∷ earlier) ≡ missing me earlier
  pub report : report me (item ∷ earlier) ≡ report me earlier
