-- The first five of the seven levels of the way to an update: ETSI TS 102 006, 6 to 9. Each is a function of the sections
-- heard, the newest first. Levels 2, 3 and 4 look only at what was heard since the value directly below changed.
use Rattle.std.specs.Prelude.{ℕ, ◌-◌, ◌%◌, Bool, false, ◌&&◌, ◌||◌, not, ◌==◌, nat_le, nat_lt, List, [], ◌∷◌, ◌++◌}
use Rattle.std.specs.Prelude.{length, take, Option, Some, None, unwrap_or, if◌then◌else◌}
use Rattle.std.specs.List.{filter, find, list_any}
use Rattle.std.specs.Option.{option_map, option_and_then}
use Rattle.route_part.specs.Part.{since}
use Rattle.route_part.specs.Said.{last_said, fixed_said}
use Rattle.ts_section.specs.Events.{Heard}
use Rattle.si_desc.specs.declared.linkages.ServiceRef.{ServiceRef}
use Rattle.ssu_time.specs.declared.windows.Window.{Window}
use Rattle.ssu_unt.specs.Targeting.{TargetFields}
use Rattle.route_tables.specs.Values.{Receiver, ProgramFound, TaggedStream, ComponentFound, NoticeFound, CarouselFound}
use Rattle.route_tables.specs.Values.{same_service, same_services, same_program, same_component}
use Rattle.route_tables.specs.Said.{first_some, services_said, program_said, service_said, component_said, number_said}
use Rattle.route_tables.specs.Said.{entries_said, time_said, body_if, is_update_for, linked_service, type_of}
use Rattle.si_desc.specs.Descriptors.{DescFields}
use Rattle.si_desc.specs.Linkage.{linkage}
use Rattle.si_desc.specs.SsuInfo.{InfoFields, update_infos}

-- ---- Level 1, the linkage

-- the services that the sections name, in the order in which they were heard
unfoldable pub all_services : ℕ → List Heard → List ServiceRef
all_services oui [] = []
all_services oui (item ∷ earlier) = all_services oui earlier ++ services_said oui item

-- each service once, where it stands first
unfoldable pub each_once : List ServiceRef → List ServiceRef
each_once [] = []
each_once (s ∷ later) = s ∷ filter (λ t. not (same_service s t)) (each_once later)

abbrev pub services_of : Option ServiceRef → ℕ → List Heard → List ServiceRef
services_of (Some service) oui heard = service ∷ []
services_of None oui heard = take 16 (each_once (all_services oui heard))

-- The services to which linkages for the OUI of the box lead, each once, in order of first hearing, the first sixteen.
-- With a configured service it is that one alone, from the start.
unfoldable pub level_1 : Receiver → List Heard → List ServiceRef
level_1 me heard = services_of me.file.service me.file.id.oui heard

-- ---- Level 2, the program

abbrev pub program_found : ServiceRef × ℕ → ProgramFound
program_found x = record { service = x.0; pid = x.1 }

-- Since level 1 last changed, the first PAT that lists a service of level 1 fixes the service. With it stands the PID of
-- its PMT in the last PAT that lists it.
unfoldable pub level_2 : Receiver → List Heard → Option ProgramFound
level_2 me heard =
    option_map program_found (fixed_said (service_said (level_1 me heard)) program_said (since same_services (level_1 me) heard))

-- ---- Level 3, the component

abbrev pub component_by : Receiver → Option ProgramFound → List Heard → Option ComponentFound
component_by me None part = None
component_by me (Some program) part = unwrap_or (last_said (component_said me.file.id.oui program) part) None

-- Since level 2 last changed, the last PMT of the program decides.
unfoldable pub level_3 : Receiver → List Heard → Option ComponentFound
level_3 me heard = component_by me (level_2 me heard) (since same_program (level_2 me) heard)

-- ---- Level 4, the notice, for update type 2 only

abbrev pub has_notice : ComponentFound → Bool
has_notice c = c.update_type == 2

abbrev pub notice_found : ℕ × List TargetFields → NoticeFound
notice_found x = record { number = x.0; entries = x.1 }

abbrev pub notice_by : Receiver → Option ComponentFound → List Heard → Option NoticeFound
notice_by me None part = None
notice_by me (Some c) part =
    if has_notice c then option_map notice_found (fixed_said (number_said me c.pid) (entries_said me c.pid) part) else None

-- Since level 3 last changed, the first notification table with an entry for the box fixes a section number. With it
-- stand the entries for the box in the last such table of that number.
unfoldable pub notice : Receiver → List Heard → Option NoticeFound
notice me heard = notice_by me (level_3 me heard) (since same_component (level_3 me) heard)

abbrev pub entries_of : Option NoticeFound → List TargetFields
entries_of None = []
entries_of (Some n) = n.entries

-- The entries for the box. There is no value where there is none.
unfoldable pub level_4 : Receiver → List Heard → List TargetFields
level_4 me heard = entries_of (notice me heard)

-- ---- Level 5, the window

-- the second that the last TDT or TOT told
unfoldable pub time_now : List Heard → Option ℕ
time_now heard = last_said time_said heard

-- The window has begun and not ended, and with a period it is one of the first `duration` seconds of a turn.
abbrev pub window_open : ℕ → Window → Bool
window_open now w =
    nat_le w.start now && nat_lt now w.end && (w.period == 0 || nat_lt ((now - w.start) % w.period) w.duration)

abbrev pub some_window_open : Option ℕ → List Window → Bool
some_window_open None windows = false
some_window_open (Some now) windows = list_any (window_open now) windows

-- An entry is open if it is not manual or the box allows that, and if it has no window, or the time is known and one of
-- its windows is open: TS 102 006, 9.6.
abbrev pub entry_open : Bool → Option ℕ → TargetFields → Bool
entry_open manual_allowed now e =
    (not e.manual || manual_allowed) && (length e.windows == 0 || some_window_open now e.windows)

-- the carousel to which an entry leads: the first stream that has its component tag
abbrev pub carousel_at : List TaggedStream → TargetFields → Option CarouselFound
carousel_at tagged e = option_map (λ s. record { pid = s.pid; subgroup = e.subgroup }) (find (λ s. s.tag == e.tag) tagged)

-- the carousel of a box that does or does not allow manual updates
abbrev pub carousel_from : Bool → Option ℕ → Option ComponentFound → List TargetFields → Option CarouselFound
carousel_from manual now None entries = None
carousel_from manual now (Some c) entries =
    if has_notice c
    then first_some (carousel_at c.tagged) (filter (entry_open manual now) entries)
    else Some (record { pid = c.pid; subgroup = None })

-- For update type 1, the component itself, without a subgroup. For type 2, the carousel of the first entry that is open
-- and leads to one. Nothing is kept for it: it comes anew of levels 3 and 4 and of the time.
unfoldable pub level_5 : Receiver → List Heard → Option CarouselFound
level_5 me heard = carousel_from me.file.manual (time_now heard) (level_3 me heard) (level_4 me heard)

-- ---- What single descriptors and entries say

-- the service to which a descriptor leads
abbrev pub linked_by : ℕ → DescFields → Option ServiceRef
linked_by oui d = option_and_then (λ body. option_and_then (linked_service oui) (linkage.of body)) (body_if 0x4A d)

-- the update type of the first of the entries for the OUI
abbrev pub first_type_of : ℕ → List InfoFields → Option ℕ
first_type_of oui infos = option_map type_of (find (is_update_for oui) infos)

-- and that which a descriptor gives
abbrev pub type_by : ℕ → DescFields → Option ℕ
type_by oui d = option_and_then (λ body. option_and_then (first_type_of oui) (update_infos.of body)) (body_if 0x66 d)

-- the carousel of an entry, if it is open and leads to one
abbrev pub carousel_if : Bool → Option ℕ → List TaggedStream → TargetFields → Option CarouselFound
carousel_if manual now tagged e = if entry_open manual now e then carousel_at tagged e else None

-- is this the number, where there is one?
abbrev pub is_number : ℕ → Option ℕ → Bool
is_number n None = false
is_number n (Some m) = m == n
