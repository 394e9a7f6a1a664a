-- What a call leaves is a step of a life.
use Rattle.std.proofs.Common.{◌≡◌, ◌⊎◌, inl, inr, ⊎_elim, ℕ, List, [], ◌++◌, Some, refl, sym, subst}
use Rattle.std.specs.Prelude.{Contains}
use Rattle.bank_kept.specs.Contents.{HoldsPlace}
use Rattle.bank_kept.specs.Leaving.{HoldsNoMore}
use Rattle.flash_bank.specs.Leaving.{Installs, KeepsBoot}
use Rattle.flash_bank.specs.Sound.{Boot, BootOf}
use Rattle.flash_bank.proofs.SoundLemmas.{one_boot}
use Rattle.flash_layout.specs.Layout.{Geometry}
use Rattle.ts_section.specs.Events.{Heard}
use Rattle.route_tables.specs.Values.{Receiver}
use Rattle.ssu_answer.specs.declared.chosen.Chosen.{Chosen}
use Rattle.ssu_group.specs.Carried.{brings}
use Rattle.ssu_route.specs.Windows.{standing, window}
use Rattle.ssu_route.specs.declared.choice.Choice.{Choice}
use Rattle.ssu_loader.specs.Decisions.{IsStanding, Reaches, Whole}
use Rattle.ssu_loader.specs.Life.{HeardUnder, HoldsHeard, InstallsOver, StepsTo}
use Rattle.ssu_loader.specs.Replays.{record_after}
use Rattle.ssu_loader.proofs.DecisionLaws.{reaches_more}
use Rattle.ssu_loader.proofs.OriginLaws.{choice_reads, heard_later, stands_few}

-- ---- what is held

pub holds_still : (g : Geometry) (me : Receiver) (heard : List Heard) (x y z : List ℕ) → HoldsHeard g me heard x y → HoldsNoMore g y z → HoldsHeard g me heard x z
holds_still g me heard x y z since call message n bytes holds = since message n bytes (call message n bytes holds)

pub holds_joined : (g : Geometry) (me : Receiver) (heard : List Heard) (x y z : List ℕ) → HoldsHeard g me heard x y → HoldsHeard g me heard y z → HoldsHeard g me heard x z
holds_joined g me heard x y z first second message n bytes holds = ⊎_elim (λ was. first message n bytes was) (λ now. inr now) (second message n bytes holds)

pub holds_more : (g : Geometry) (me : Receiver) (later heard : List Heard) (x y : List ℕ) → HoldsHeard g me heard x y → HoldsHeard g me (later ++ heard) x y
holds_more g me later heard x y since message n bytes holds =
    ⊎_elim (λ was. inl was) (λ now. inr (heard_later me later heard message n bytes now)) (since message n bytes holds)

-- a block of the window of the choice that stands
block_heard : (me : Receiver) (heard : List Heard) (choice : Choice) (message section : List ℕ) → IsStanding me heard choice → standing me heard ≡ Some message
    → Contains (window me heard) section → (n : ℕ) (bytes : List ℕ) → brings choice.plan n section ≡ Some bytes → HeardUnder me heard message n bytes
block_heard me heard choice message section stands is own n bytes fills =
    let few = stands_few me heard message is in
    record {
      later = [];
      front = heard;
      parts = refl;
      stands = is;
      dii = stands.chosen.dii;
      reads = choice_reads me heard choice message stands few.1;
      plan = choice.plan;
      lays = stands.chosen.plan;
      section = section;
      own = own;
      fills = fills;
    }

pub holds_section : (g : Geometry) (me : Receiver) (heard : List Heard) (choice : Choice) (message section x y : List ℕ) → IsStanding me heard choice
    → standing me heard ≡ Some message → Contains (window me heard) section
    → ((other : List ℕ) (n : ℕ) (bytes : List ℕ) → HoldsPlace g y other n bytes
    → HoldsPlace g x other n bytes ⊎ ((other ≡ message) × (brings choice.plan n section ≡ Some bytes)))
    → HoldsHeard g me heard x y
holds_section g me heard choice message section x y stands is own call other n bytes holds =
    ⊎_elim (λ was. inl was)
    (λ new. inr (subst (λ (m : List ℕ). HeardUnder me heard m n bytes) (sym new.0) (block_heard me heard choice message section stands is own n bytes new.1)))
    (call other n bytes holds)

-- ---- steps

pub steps_keep : (g : Geometry) (me : Receiver) (heard : List Heard) (former : Boot) (x y : List ℕ) → BootOf g x former → KeepsBoot g x y → HoldsHeard g me heard x y
    → StepsTo g me heard former x y
steps_keep g me heard former x y boots keeps held = record {
  sound = keeps.keeps.sound;
  boot = λ b from. inl (one_boot g y b former from (keeps.keeps.boot former boots));
  held = held;
}

pub steps_install : (g : Geometry) (me : Receiver) (heard : List Heard) (former : Boot) (chosen : Chosen) (image x y : List ℕ) → Reaches me heard (Whole chosen image)
    → Installs g (record_after former.head chosen) image x y → HoldsHeard g me heard x y → StepsTo g me heard former x y
steps_install g me heard former chosen image x y reached installs held = record {
  sound = installs.commits.sound;
  boot = λ b from.
      let new : Boot = record { head = record_after former.head chosen; image = image } in
      let same : b ≡ new = one_boot g y b new from installs.commits.boot in
      inr (subst (λ (t : Boot). InstallsOver me heard former t) (sym same) (record { chosen = chosen; reached = reached; head = refl }));
  held = held;
}

pub steps_after : (g : Geometry) (me : Receiver) (heard : List Heard) (former : Boot) (x y z : List ℕ) → HoldsHeard g me heard x y → StepsTo g me heard former y z
    → StepsTo g me heard former x z
steps_after g me heard former x y z since step = record { sound = step.sound; boot = step.boot; held = holds_joined g me heard x y z since step.held }

pub steps_more : (g : Geometry) (me : Receiver) (later heard : List Heard) (former : Boot) (x y : List ℕ) → StepsTo g me heard former x y → StepsTo g me (later ++ heard) former x y
steps_more g me later heard former x y step = record {
  sound = step.sound;
  boot = λ b from.
      ⊎_elim (λ same. inl same)
      (λ now. inr (record { chosen = now.chosen; reached = reaches_more me later heard (Whole now.chosen b.image) now.reached; head = now.head }))
      (step.boot b from);
  held = holds_more g me later heard x y step.held;
}
