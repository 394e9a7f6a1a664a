-- What the tables that were heard are kept as, and what they stand for.
use Rattle.std.specs.Prelude.{◌≡◌, ℕ, Bool, false, List, map, Option, Some, None, ◌≢◌, ◌∷◌}
use Rattle.std.specs.Option.{option_map}
use Rattle.ts_section.specs.Events.{Heard}
use Rattle.si_desc.specs.declared.linkages.ServiceRef.{ServiceRef}
use Rattle.ssu_unt.specs.Views.{entry_view}
use Rattle.route_tables.specs.declared.carousel.Carousel.{Carousel}
use Rattle.route_tables.specs.declared.linkage.Service.{Service}
use Rattle.route_tables.specs.declared.program.Program.{Program}
use Rattle.route_tables.specs.declared.component.Tagged.{Tagged}
use Rattle.route_tables.specs.declared.component.Component.{Component}
use Rattle.route_tables.specs.declared.notice.Notice.{Notice}
use Rattle.route_tables.specs.declared.tables.Tables.{Tables}
use Rattle.route_tables.specs.Values.{Receiver, ProgramFound, TaggedStream, ComponentFound, NoticeFound, CarouselFound}
use Rattle.route_tables.specs.Levels.{has_notice, level_1, level_2, level_3, notice, time_now, level_5, level_4}
use Rattle.si_table.specs.Pids.{pat_pid, nit_pid, bat_pid, time_pid}
use Rattle.si_table.specs.Tables.{pat, pmt, net}
use Rattle.si_table.specs.Times.{tdt, tot}
use Rattle.ssu_unt.specs.Table.{unt}

-- ---- what is kept, as values

abbrev pub service_view : Service → ServiceRef
service_view s = record { ts = s.ts; network = s.network; service = s.service }

abbrev pub program_view : Program → ProgramFound
program_view p = record { service = service_view p.service; pid = p.pid }

abbrev pub tagged_view : Tagged → TaggedStream
tagged_view t = record { tag = t.tag; pid = t.pid }

abbrev pub component_view : Component → ComponentFound
component_view c = record { pid = c.pid; update_type = c.update_type; tagged = map tagged_view c.tagged.items }

abbrev pub notice_view : Notice → NoticeFound
notice_view n = record { number = n.number; entries = map entry_view n.entries.items }

abbrev pub carousel_view : Carousel → CarouselFound
carousel_view c = record { pid = c.pid; subgroup = c.subgroup }

-- ---- what it stands for

-- What is kept stands for the sections that this box heard, the newest first.
pub record TablesStand (me : Receiver) (heard : List Heard) (tables : Tables) : Type 0 where
  pub id : tables.id ≡ me.file.id
  pub manual : tables.manual ≡ me.file.manual
  pub service : tables.service ≡ me.file.service
  pub services : map service_view tables.services.items ≡ level_1 me heard
  pub program : option_map program_view tables.program ≡ level_2 me heard
  pub component : option_map component_view tables.component ≡ level_3 me heard
  pub notice : option_map notice_view tables.notice ≡ notice me heard
  pub time : tables.time ≡ time_now heard
  pub carousel : option_map carousel_view tables.carousel ≡ level_5 me heard

-- ---- what is asked of the levels

-- For update type 1 there is no notice that could be missing.
abbrev pub needs_notice : Option ComponentFound → Bool
needs_notice None = false
needs_notice (Some c) = has_notice c

-- ---- sections that change nothing, whatever their bytes are

-- The bytes are of none of the formats.
pub record IsSilent (section : List ℕ) : Type 0 where
  pub pat : pat.of section ≡ None
  pub net : net.of section ≡ None
  pub pmt : pmt.of section ≡ None
  pub unt : unt.of section ≡ None
  pub tdt : tdt.of section ≡ None
  pub tot : tot.of section ≡ None

-- The PID is none on which a table is looked for.
pub record IsElsewhere (me : Receiver) (heard : List Heard) (pid : ℕ) : Type 0 where
  pub pat : pid ≢ pat_pid
  pub nit : pid ≢ nit_pid
  pub bat : pid ≢ bat_pid
  pub time : pid ≢ time_pid
  pub program : option_map (λ p. p.pid) (level_2 me heard) ≢ Some pid
  pub component : option_map (λ c. c.pid) (level_3 me heard) ≢ Some pid

-- A section leaves each level as it was.
pub record IsUnmoved (me : Receiver) (item : Heard) (earlier : List Heard) : Type 0 where
  pub services : level_1 me (item ∷ earlier) ≡ level_1 me earlier
  pub program : level_2 me (item ∷ earlier) ≡ level_2 me earlier
  pub component : level_3 me (item ∷ earlier) ≡ level_3 me earlier
  pub notice : notice me (item ∷ earlier) ≡ notice me earlier
  pub entries : level_4 me (item ∷ earlier) ≡ level_4 me earlier
  pub time : time_now (item ∷ earlier) ≡ time_now earlier
  pub carousel : level_5 me (item ∷ earlier) ≡ level_5 me earlier
