-- What `find` and `show` print of an input for a box. Lists of packets have the newest first, but in `text_of` and
-- `whole_text`, which have the oldest first.
use Rattle.std.specs.Prelude.{ℕ, Bool, true, false, List, [], ◌∷◌, ◌++◌, length, map, reverse, slice_index, ◌≡◌}
use Rattle.std.specs.List.{concat}
use Rattle.box_file.specs.declared.file.BoxFile.{BoxFile}
use Rattle.section_kind.specs.Kinds.{kind_of}
use Rattle.ssu_answer.specs.BankLen.{bank_len}
use Rattle.ssu_line.specs.LevelLines.{services_line, program_line, component_line, notices_line, carousel_line, groups_line, modules_line}
use Rattle.ssu_line.specs.SectionLine.{shown_line}
use Rattle.ts_packet.specs.Packet.{pid_of}
use Rattle.ts_section.specs.Events.{Feed, heard}
use Rattle.route_tables.specs.Values.{Receiver, nothing_open}
use Rattle.ssu_route.specs.declared.report.Report.{Report}
use Rattle.ssu_route.specs.Queries.{followed, heard_by, report}
use Rattle.ts_section.specs.Hearing.{Hears}
use Rattle.ssu_route.specs.Route.{Stands}
use Rattle.tool_find.specs.declared.walk.Walk.{Walk}

-- The box of the file, without a flash. The software that the file names runs on it.
abbrev pub receiver_of : BoxFile → Receiver
receiver_of file = record { file = file; bank_len = bank_len; running = file.software; opening = nothing_open }

-- a line for each of the seven levels
abbrev pub report_lines : Report → List ℕ
report_lines r =
    services_line r.services ++ program_line r.program ++ component_line r.component ++ notices_line r.component r.notices
    ++ carousel_line r.carousel ++ groups_line r.groups ++ modules_line r.modules

-- the line of a section of this PID that is complete at the packet of this number
abbrev pub section_line : ℕ → ℕ → List ℕ → List ℕ
section_line number pid section = shown_line number pid (slice_index section 0) (length section) (kind_of section)

abbrev pub section_lines : ℕ → ℕ → List (List ℕ) → List ℕ
section_lines number pid sections = concat (map (section_line number pid) sections)

-- The lines of the sections that the box hears in the newest packet. Packets are numbered from 0.
abbrev pub newest_lines : Receiver → List ℕ → List (List ℕ) → List ℕ
newest_lines me packet earlier = section_lines (length earlier) (pid_of packet) (heard (Feed packet ∷ followed me earlier))

-- a line for each section that the box hears in these packets, in the order in which they become complete
unfoldable pub heard_lines : Receiver → List (List ℕ) → List ℕ
heard_lines me [] = []
heard_lines me (packet ∷ earlier) = heard_lines me earlier ++ newest_lines me packet earlier

-- `show` prints the lines of the sections of a packet, and `find` none
abbrev pub lines_for : Bool → ℕ → ℕ → List (List ℕ) → List ℕ
lines_for false number pid sections = []
lines_for true number pid sections = section_lines number pid sections

-- the lines that are printed while these packets are taken
abbrev pub lines_if : Bool → Receiver → List (List ℕ) → List ℕ
lines_if false me ps = []
lines_if true me ps = heard_lines me ps

-- the seven lines of what the box heard in these packets
abbrev pub levels_lines : Receiver → List (List ℕ) → List ℕ
levels_lines me ps = report_lines (report me (heard_by me ps))

-- what is printed while these packets are taken
unfoldable pub text_of : Bool → Receiver → List (List ℕ) → List ℕ
text_of shows me ps = lines_if shows me (reverse ps)

-- what is printed of an input of these packets
unfoldable pub whole_text : Bool → Receiver → List (List ℕ) → List ℕ
whole_text shows me ps = text_of shows me ps ++ levels_lines me (reverse ps)

-- A walk over packets: the box took these packets, the newest first, and the hearer stands for them, and the route for what was heard in them.
pub record Walks (me : Receiver) (walk : Walk) (ps : List (List ℕ)) : Type 0 where
  pub hears : Hears walk.hearer (followed me ps)
  pub stands : Stands me (heard_by me ps) walk.route
  pub runs : me.running ≡ walk.running
