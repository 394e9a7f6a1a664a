-- A life of a flash: replays one after the other, each of which the power may have cut off at any moment, and what the flash held between
-- them. Lists of packets, sections and replays have the newest first.
use Rattle.std.specs.Prelude.{◌≡◌, ◌⊎◌, ℕ, ◌<◌, Bool, true, Contains, List, [], ◌∷◌, ◌++◌, reverse, Option, Some, None}
use Rattle.bank_kept.specs.Contents.{HoldsGroup, HoldsPlace}
use Rattle.box_file.specs.declared.file.BoxFile.{BoxFile}
use Rattle.dsmcc_msg.specs.Control.{DiiFields, DsiFields, GroupFields, dsi}
use Rattle.flash_bank.specs.Sound.{Boot, BootOf, IsSound}
use Rattle.flash_layout.specs.Layout.{Geometry}
use Rattle.ts_section.specs.Events.{Heard}
use Rattle.route_tables.specs.Levels.{level_5}
use Rattle.route_tables.specs.Values.{CarouselFound, Receiver}
use Rattle.ssu_answer.specs.declared.chosen.Chosen.{Chosen}
use Rattle.ssu_compat.specs.Match.{admits, offered}
use Rattle.ssu_io.specs.Bytes.{Takes}
use Rattle.ssu_group.specs.Carried.{brings, joined, wrong_module}
use Rattle.ssu_group.specs.Lays.{IsPlanOf}
use Rattle.ssu_group.specs.declared.group_plan.GroupPlan.{GroupPlan}
use Rattle.ssu_route.specs.Offers.{dii_of, matches_box}
use Rattle.ssu_route.specs.Queries.{heard_by}
use Rattle.ssu_route.specs.Windows.{standing, window}
use Rattle.ssu_route.specs.declared.choice.Choice.{Choice}
use Rattle.ts_input.specs.Packets.{packets}
use Rattle.ssu_loader.specs.Decisions.{IsStanding, Reaches, Whole, chosen_of}
use Rattle.ssu_loader.specs.Opening.{opening_of}
use Rattle.ssu_loader.specs.Replaying.{receiver_under}
use Rattle.ssu_loader.specs.Replays.{record_after}
use Rattle.ssu_loader.specs.Storing.{HasNoPrev}

-- ---- what was heard

-- In the window of a choice with this message a DDB was heard that fills the place numbered n of its plan with these bytes.
pub record HeardUnder (me : Receiver) (heard : List Heard) (message : List ℕ) (n : ℕ) (bytes : List ℕ) : Type 0 where
  pub later : List Heard
  pub front : List Heard
  pub parts : heard ≡ later ++ front
  pub stands : standing me front ≡ Some message
  pub dii : DiiFields
  pub reads : dii_of message ≡ Some dii
  pub plan : GroupPlan
  pub lays : IsPlanOf dii plan
  pub section : List ℕ
  pub own : Contains (window me front) section
  pub fills : brings plan n section ≡ Some bytes

-- The flash had the place numbered n at the opening with these bytes, under this message.
pub record WasStaged (me : Receiver) (message : List ℕ) (n : ℕ) (bytes : List ℕ) : Type 0 where
  pub own : me.opening.message ≡ Some message
  pub has : me.opening.staged n ≡ Some bytes

-- Each place that y holds under a message x holds under it with the same bytes, or these were heard under it.
abbrev pub HoldsHeard : Geometry → Receiver → List Heard → List ℕ → List ℕ → Type 0
HoldsHeard g me heard x y = (message : List ℕ) (n : ℕ) (bytes : List ℕ) → HoldsPlace g y message n bytes
    → HoldsPlace g x message n bytes ⊎ HeardUnder me heard message n bytes

-- ---- one replay

-- What boot takes is the image of a group that these sections carry whole, the first that is decided, under the record that follows.
pub record InstallsOver (me : Receiver) (heard : List Heard) (former new : Boot) : Type 0 where
  pub chosen : Chosen
  pub reached : Reaches me heard (Whole chosen new.image)
  pub head : new.head ≡ record_after former.head chosen

-- y may be left of x, of which boot takes this, where a box hears these sections: it is sound, boot takes of it what it took, or what is
-- installed by them, and of places it holds those of x, and those that were heard.
pub record StepsTo (g : Geometry) (me : Receiver) (heard : List Heard) (former : Boot) (x y : List ℕ) : Type 0 where
  pub sound : IsSound g y
  pub boot : (b : Boot) → BootOf g y b → (b ≡ former) ⊎ InstallsOver me heard former b
  pub held : HoldsHeard g me heard x y

-- A replay: the file of the box, whether its stage keeps the places that the flash has staged, the packets that were taken, what the flash
-- held before, and what boot took of that.
pub record Replay : Type 0 where
  pub box_file : BoxFile
  pub keeps : Bool
  pub packets : List (List ℕ)
  pub before : List ℕ
  pub former : Boot

-- the box of the replay, and the sections that it heard
abbrev pub box_of : Geometry → Replay → Receiver
box_of g r = receiver_under r.box_file g r.former.head (opening_of r.keeps g r.former.head r.before)

abbrev pub heard_of : Geometry → Replay → List Heard
heard_of g r = heard_by (box_of g r) r.packets

-- y may be left of what the flash held before the replay.
pub record IsStep (g : Geometry) (r : Replay) (y : List ℕ) : Type 0 where
  pub boots : BootOf g r.before r.former
  pub steps : StepsTo g (box_of g r) (heard_of g r) r.former r.before y

-- y may be left of x by a replay of the packets of the bytes that were taken.
pub record LeavesStep (box_file : BoxFile) (keeps : Bool) (left left_after : Option (List ℕ)) (g : Geometry) (former : Boot) (x y : List ℕ)
    : Type 0 where
  pub taken : List ℕ
  pub takes : Takes left left_after taken
  pub step : IsStep g (record { box_file = box_file; keeps = keeps; packets = reverse (packets taken); before = x; former = former }) y

-- ---- a life

-- Contents with which a life begins: they are sound, boot took nothing before their image, and no group is held.
pub record IsBeginning (g : Geometry) (x : List ℕ) : Type 0 where
  pub sound : IsSound g x
  pub first : HasNoPrev g x
  pub holds_none : (message : List ℕ) (dii : DiiFields) → HoldsGroup g x message dii → ⊥

-- A life begins with x, and after these replays the flash holds y.
unfoldable pub IsLife : Geometry → List ℕ → List Replay → List ℕ → Type 0
IsLife g x [] y = (y ≡ x) × IsBeginning g x
IsLife g x (r ∷ earlier) y = IsStep g r y × IsLife g x earlier r.before

-- ---- what boot takes after a life

-- In one of these replays a DDB was heard that fills the place with these bytes, in the window of a choice with this message.
unfoldable pub HeardInLife : Geometry → List Replay → List ℕ → ℕ → List ℕ → Type 0
HeardInLife g [] message n bytes = ⊥
HeardInLife g (r ∷ earlier) message n bytes = HeardUnder (box_of g r) (heard_of g r) message n bytes ⊎ HeardInLife g earlier message n bytes

-- A DSI of the carousel lists the group of this id with a descriptor that matches the box, and with software that its rule admits over the
-- one that runs.
pub record IsAdmitted (me : Receiver) (heard : List Heard) (id : ℕ) : Type 0 where
  pub carousel : CarouselFound
  pub found : level_5 me heard ≡ Some carousel
  pub item : Heard
  pub own : Contains heard item
  pub on_it : item.pid ≡ carousel.pid
  pub fields : DsiFields
  pub reads : dsi.of item.section ≡ Some fields
  pub group : GroupFields
  pub listed : Contains fields.groups group
  pub own_id : group.id ≡ id
  pub matching : matches_box me group ≡ true
  pub admitted : admits me.file.rule me.running (offered me.file.id.oui group.compat) ≡ true

-- This replay, the newest of these, installed the image over what boot took before it. It is that of the group of a choice that stood under one
-- message; the group matches the box and was admitted in this replay, each block of it was heard under that message in one of these replays, and
-- the CRC of each module is right.
pub record IsHeardImage (g : Geometry) (replays : List Replay) (r : Replay) (b : Boot) : Type 0 where
  pub installs : InstallsOver (box_of g r) (heard_of g r) r.former b
  pub later : List Heard
  pub front : List Heard
  pub parts : heard_of g r ≡ later ++ front
  pub choice : Choice
  pub choice_stands : IsStanding (box_of g r) front choice
  pub own : installs.chosen ≡ chosen_of choice
  pub admitted : IsAdmitted (box_of g r) front choice.group
  pub message : List ℕ
  pub stands : standing (box_of g r) front ≡ Some message
  pub text : ℕ → List ℕ
  pub joins : b.image ≡ joined text choice.plan.places
  pub heard : (n : ℕ) → n < choice.plan.places → HeardInLife g replays message n (text n)
  pub right : wrong_module choice.plan.modules.items b.image ≡ None

-- One of these replays installed such an image, and boot takes it.
unfoldable pub ComesOfLife : Geometry → List Replay → Boot → Type 0
ComesOfLife g [] b = ⊥
ComesOfLife g (r ∷ earlier) b = IsHeardImage g (r ∷ earlier) r b ⊎ ComesOfLife g earlier b
