-- Of places no more is held than was, but those that were heard.
use Rattle.std.proofs.Common.{◌≡◌, inl, inr, ⊎_elim, ℕ, List, ◌∷◌, refl, sym, subst, ◌∙◌, arith}
use Rattle.std.specs.Prelude.{Contains, IsSome}
use Rattle.flash_bank.specs.Bank.{geometry_of}
use Rattle.bank_kept.specs.Leaving.{HoldsNoMore}
use Rattle.flash_dev.specs.declared.device.Flash.{Ghosts as FlashGhosts}
use Rattle.flash_layout.specs.Layout.{Geometry}
use Rattle.flash_stage.specs.declared.stage.Stage.{Ghosts as StageGhosts}
use Rattle.ts_section.specs.Events.{Heard}
use Rattle.route_tables.specs.Values.{Receiver}
use Rattle.ssu_route.specs.declared.change.Change.TheVariants as change
use Rattle.ssu_route.specs.declared.choice.Choice.{Choice}
use Rattle.ssu_route.specs.Choosing.{level_7}
use Rattle.ssu_route.specs.Route.{HasUsableDii}
use Rattle.ssu_route.specs.Windows.{IsChoice, window}
use Rattle.ssu_loader.specs.declared.collector.Collector.{Collector}
use Rattle.ssu_loader.specs.Collecting.{IsAhead}
use Rattle.ssu_loader.specs.Life.{HoldsHeard}
use Rattle.ssu_loader.specs.Staging.{HoldsWithSection}
use Rattle.ssu_loader.proofs.CollectingLaws.{few, message_was, stands_now}
use Rattle.ssu_loader.proofs.DecisionLaws.{standing_is}
use Rattle.ssu_loader.proofs.StepLaws.{holds_section}

-- where nothing was called
pub holds_itself : (g : Geometry) (me : Receiver) (heard : List Heard) (x : List ℕ) → HoldsHeard g me heard x x
holds_itself g me heard x message n bytes holds = inl holds

pub holds_no_more : (g : Geometry) (me : Receiver) (heard : List Heard) (x y : List ℕ) → HoldsNoMore g x y → HoldsHeard g me heard x y
holds_no_more g me heard x y call message n bytes holds = inl (call message n bytes holds)

contains_first : (section : List ℕ) (sections : List (List ℕ)) → Contains (section ∷ sections) section
contains_first section sections = (0, omega arith, refl)

-- a block of the choice was taken
pub holds_taken : {S F : Type 0} (s : StageGhosts S) (f : FlashGhosts F) (me : Receiver) (item : Heard) (heard : List Heard) (c : Collector S) (flash : F) (choice : Choice)
    (ahead : IsAhead s f me item heard change.Same c flash) (is : IsChoice me (item ∷ heard) choice) (usable : HasUsableDii me (item ∷ heard) choice) (some : IsSome (level_7 me (item ∷ heard)))
    → window me (item ∷ heard) ≡ item.section ∷ window me heard → (x y : List ℕ)
    → HoldsWithSection s.KEEPS (geometry_of c.bank) (s.message_of c.stage) choice.plan item.section x y → HoldsHeard (geometry_of c.bank) me (item ∷ heard) x y
holds_taken s f me item heard c flash choice ahead is usable some joins x y call =
    holds_section (geometry_of c.bank) me (item ∷ heard) choice choice.message.items item.section x y
    (stands_now s f me item heard c flash choice ahead is usable some)
    (standing_is me (item ∷ heard) (few s f me item heard c flash choice ahead is usable some) ∙ is.message)
    (subst (λ (sections : List (List ℕ)). Contains sections item.section) (sym joins) (contains_first item.section (window me heard)))
    (λ other n bytes holds.
    ⊎_elim (λ was. inl was) (λ new. inr (new.1 ∙ message_was s f me item heard c flash choice ahead is usable some new.0, new.2)) (call other n bytes holds))
