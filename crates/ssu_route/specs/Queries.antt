-- What can be asked of the levels: the PIDs to listen to, the carousel, the first level without a value, and numbers.
use Rattle.std.specs.Prelude.{ℕ, ◌&&◌, ◌==◌, Bool, List, [], ◌∷◌, ◌++◌, length, map, reverse, Option, is_none, option_map, option_to_list, if◌then◌else◌}
use Rattle.ts_section.specs.Events.{Event, Listen, Feed, Heard, all_heard}
use Rattle.dsmcc_msg.specs.Control.{DiiFields}
use Rattle.ssu_group.specs.Refusal.{total_of}
use Rattle.ssu_answer.specs.declared.level.Level.{Level}
use Rattle.ssu_answer.specs.declared.level.Level.TheVariants.{Linkage, Program, Component, Notice, Window, Group, Modules}
use Rattle.ssu_route.specs.declared.report.Report.{Report}
use Rattle.route_tables.specs.Next.{heard_on}
use Rattle.route_tables.specs.Values.{Receiver}
use Rattle.si_table.specs.Pids.{pat_pid, nit_pid, bat_pid, time_pid}
use Rattle.route_tables.specs.Levels.{level_1, level_2, level_3, level_4, level_5}
use Rattle.route_tables.specs.Standing.{needs_notice}
use Rattle.ssu_route.specs.Choosing.{level_6}
use Rattle.ssu_route.specs.Windows.{chosen_dii}

-- ---- the PIDs to listen to

-- the PID of the carousel
unfoldable pub carousel_pid : Receiver → List Heard → Option ℕ
carousel_pid me heard = option_map (λ c. c.pid) (level_5 me heard)

-- The PIDs of the PAT, the NIT, the BAT and the time, always; and those of the PMT, of the component and of the carousel,
-- as far as they are known. The other streams of the program are not listened to.
unfoldable pub listened : Receiver → List Heard → List ℕ
listened me heard =
    pat_pid ∷ nit_pid ∷ bat_pid ∷ time_pid
    ∷ (option_to_list (option_map (λ p. p.pid) (level_2 me heard))
    ++ option_to_list (option_map (λ c. c.pid) (level_3 me heard))
    ++ option_to_list (carousel_pid me heard))

-- ---- what a box hears that always listens to these PIDs

-- the sections heard in these events, the newest first
unfoldable pub newest_first : List Event → List Heard
newest_first events = reverse (all_heard events)

-- Lists of packets and events have the newest first. Before the first packet, and again after each, the box takes up the
-- PIDs that what it heard so far leads to.
abbrev pub listen_anew : Receiver → List Event → List Event
listen_anew me events = Listen (listened me (newest_first events)) ∷ events

unfoldable pub followed : Receiver → List (List ℕ) → List Event
followed me [] = listen_anew me []
followed me (packet ∷ earlier) = listen_anew me (Feed packet ∷ followed me earlier)

-- the sections that it hears in these packets, the newest first
unfoldable pub heard_by : Receiver → List (List ℕ) → List Heard
heard_by me packets = newest_first (followed me packets)

-- What is heard after these sections of one PID, in their order, came behind what was heard before. The newest stands first.
abbrev pub after_all : ℕ → List (List ℕ) → List Heard → List Heard
after_all pid sections before = reverse (map (heard_on pid) sections) ++ before

-- ---- the first level without a value

abbrev pub has_none : {A : Type 0} → List A → Bool
has_none xs = length xs == 0

-- Where no choice stands, the first level that has no value. If the first six have one, it is the seventh.
unfoldable pub missing : Receiver → List Heard → Level
missing me heard =
    if has_none (level_1 me heard) then Linkage
    else (if is_none (level_2 me heard) then Program
    else (if is_none (level_3 me heard) then Component
    else (if needs_notice (level_3 me heard) && has_none (level_4 me heard) then Notice
    else (if is_none (level_5 me heard) then Window
    else (if has_none (level_6 me heard) then Group else Modules)))))

-- ---- the numbers of a report

abbrev pub count_and_total : DiiFields → ℕ × ℕ
count_and_total d = (length d.modules, total_of d.modules)

-- How many services, entries and groups there are, which program, component and carousel, and how many modules with how
-- many bytes.
unfoldable pub report : Receiver → List Heard → Report
report me heard = record {
  services = length (level_1 me heard);
  program = option_map (λ p. (p.service.service, p.pid)) (level_2 me heard);
  component = option_map (λ c. (c.pid, c.update_type)) (level_3 me heard);
  notices = length (level_4 me heard);
  carousel = carousel_pid me heard;
  groups = length (level_6 me heard);
  modules = option_map count_and_total (chosen_dii me heard);
}
