-- Of which sections the value of a level is made. Lists of sections have the newest first.
use Rattle.std.specs.Prelude.{◌≡◌, ℕ, Contains, List, Some}
use Rattle.dsmcc_msg.specs.Control.{DiiFields, DsiFields, dii, dsi}
use Rattle.route_tables.specs.Levels.{level_5}
use Rattle.route_tables.specs.Values.{CarouselFound, Receiver}
use Rattle.ssu_route.specs.Choosing.{level_6}
use Rattle.ssu_route.specs.Offers.{offers_in}
use Rattle.ts_section.specs.Events.{Heard}

-- One of these sections was heard on the PID of the carousel, and this holds of it.
pub record IsHeardOn (me : Receiver) (heard : List Heard) (Is : CarouselFound → List ℕ → Type 0) : Type 0 where
  pub carousel : CarouselFound
  pub found : level_5 me heard ≡ Some carousel
  pub item : Heard
  pub heard_so : Contains heard item
  pub on_it : item.pid ≡ carousel.pid
  pub is : Is carousel item.section

-- The section is the DII of this message.
pub record IsDiiOf (message section : List ℕ) : Type 0 where
  pub fields : DiiFields
  pub read : dii.of section ≡ Some fields
  pub own : fields.message ≡ message

-- The section is the DSI that lists the groups of level 6.
pub record IsDsiOf (me : Receiver) (heard : List Heard) (carousel : CarouselFound) (section : List ℕ) : Type 0 where
  pub fields : DsiFields
  pub read : dsi.of section ≡ Some fields
  pub offers : level_6 me heard ≡ offers_in me carousel fields
