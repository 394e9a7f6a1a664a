-- A group that a box collected from audited sections. Lists of sections have the newest first.
use Rattle.std.specs.Prelude.{◌≡◌, ℕ, Contains, List, ◌∷◌, ◌++◌, Option, Some}
use Rattle.dsmcc_msg.specs.Control.{DiiFields, DsiFields, GroupFields, dii as dii_format, dsi as dsi_format}
use Rattle.flash_bank.specs.Leaving.{Installs}
use Rattle.flash_layout.specs.Layout.{Geometry}
use Rattle.flash_bank.specs.Sound.{Boot, BootOf}
use Rattle.route_tables.specs.Values.{Receiver}
use Rattle.ssu_answer.specs.declared.chosen.Chosen.{Chosen}
use Rattle.ssu_audit.specs.Calls.{Call, carousel}
use Rattle.ssu_audit.specs.OneImage.{HasOneImage}
use Rattle.ssu_group.specs.Carried.{CarriesWhole, filling}
use Rattle.ssu_group.specs.Lays.{IsPlanOf}
use Rattle.ssu_io.specs.Bytes.{Takes}
use Rattle.ssu_loader.specs.Decisions.{IsStanding, Reaches, Whole, chosen_of}
use Rattle.ssu_loader.specs.Replays.{heard_in, record_after}
use Rattle.ssu_route.specs.Queries.{carousel_pid}
use Rattle.ssu_route.specs.Windows.{window}
use Rattle.ssu_route.specs.declared.choice.Choice.{Choice}
use Rattle.ts_section.specs.Events.{Heard}

-- At one of these sections the window of the choice that stands carries its group whole, as this image. The plan is that of this
-- DII, and the carousel is on this PID.
pub record IsCollected (me : Receiver) (heard : List Heard) (chosen : Chosen) (image : List ℕ) (pid : ℕ) (dii : DiiFields) : Type 0 where
  pub later : List Heard
  pub item : Heard
  pub earlier : List Heard
  pub parts : heard ≡ later ++ item ∷ earlier
  pub choice : Choice
  pub standing : IsStanding me (item ∷ earlier) choice
  pub is : chosen ≡ chosen_of choice
  pub whole : CarriesWhole choice.plan (filling choice.plan (window me (item ∷ earlier))) image
  pub plan : IsPlanOf dii choice.plan
  pub on : carousel_pid me (item ∷ earlier) ≡ Some pid

-- What was heard on this PID is among the sections of the carousel that were audited.
abbrev pub AreAudited : List Call → ℕ → List Heard → Type 0
AreAudited calls pid heard = (item : Heard) → Contains heard item → item.pid ≡ pid → Contains (carousel calls) item.section

-- So it is of what the box hears in the packets of the bytes that were taken.
abbrev pub AreAuditedPackets : List Call → ℕ → Receiver → Option (List ℕ) → Option (List ℕ) → Type 0
AreAuditedPackets calls pid me left left_after =
    (taken : List ℕ) → Takes left left_after taken → AreAudited calls pid (heard_in me taken)

-- The DII was audited, and so was a DSI that lists its group.
pub record IsListed (calls : List Call) (dii : DiiFields) : Type 0 where
  pub section : List ℕ
  pub there : Contains (carousel calls) section
  pub read : dii_format.of section ≡ Some dii
  pub dsi_section : List ℕ
  pub dsi_there : Contains (carousel calls) dsi_section
  pub d : DsiFields
  pub dsi_read : dsi_format.of dsi_section ≡ Some d
  pub group : GroupFields
  pub among : Contains d.groups group
  pub own : group.id ≡ dii.transaction

-- x became y: the group was installed, and boot takes this image of it. Where it was collected on this PID under a DII that was
-- audited with a DSI that lists its group, this is the one image of the group.
pub record InstallsAudited (calls : List Call) (me : Receiver) (left left_after : Option (List ℕ)) (g : Geometry) (x y : List ℕ)
    (chosen : Chosen) (pid : ℕ) : Type 0 where
  pub taken : List ℕ
  pub takes : Takes left left_after taken
  pub image : List ℕ
  pub reaches : Reaches me (heard_in me taken) (Whole chosen image)
  pub installs : (former : Boot) → BootOf g x former → Installs g (record_after former.head chosen) image x y
  pub one : (dii : DiiFields) → IsCollected me (heard_in me taken) chosen image pid dii → IsListed calls dii
      → HasOneImage (carousel calls) dii image
