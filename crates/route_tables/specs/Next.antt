-- What one section more makes of the value of each level, by what the section says. Where the level below changed at it, a
-- level starts afresh: nothing is said in an empty part, so that it has no value.
use Rattle.std.specs.Prelude.{ℕ, ◌||◌, ◌==◌, Bool, nat_le, List, [], ◌∷◌, ◌++◌, length, Option, Some, None, unwrap_or, if◌then◌else◌}
use Rattle.std.specs.List.{list_any}
use Rattle.std.specs.Option.{option_map, option_or, option_and_then}
use Rattle.ts_section.specs.Events.{Heard}
use Rattle.si_desc.specs.declared.linkages.ServiceRef.{ServiceRef}
use Rattle.si_table.specs.Pids.{pat_pid}
use Rattle.si_table.specs.Tables.{PatFields, pat, PmtFields, pmt, NetFields, net}
use Rattle.ssu_compat.specs.declared.me.BoxId.{BoxId}
use Rattle.ssu_unt.specs.Table.{UntFields, unt}
use Rattle.ssu_unt.specs.Targeting.{Me, TargetFields, targeted}
use Rattle.ssu_unt.specs.Views.{me_view}
use Rattle.route_tables.specs.Values.{ProgramFound, ComponentFound, NoticeFound, same_service}
use Rattle.route_tables.specs.Said.{on, is_network_table, linked_services, pid_in_pat, component_in_pmt, notice_if, time_said}
use Rattle.route_tables.specs.Levels.{has_notice, notice_found, program_found}

-- a section, heard on this PID
abbrev pub heard_on : ℕ → List ℕ → Heard
heard_on pid section = record { pid = pid; section = section }

-- ---- Level 1, the linkage

-- the first loop of a NIT or BAT on its PID
abbrev pub first_loop : ℕ → Option NetFields → Option (List ℕ)
first_loop pid None = None
first_loop pid (Some n) = if is_network_table pid n then Some n.info else None

abbrev pub loop_in : Heard → Option (List ℕ)
loop_in item = first_loop item.pid (net.of item.section)

-- A service joins those that are kept, unless it is among them or there are sixteen.
abbrev pub add_service : List ServiceRef → ServiceRef → List ServiceRef
add_service kept s = if nat_le 16 (length kept) || list_any (same_service s) kept then kept else kept ++ s ∷ []

unfoldable pub add_services : List ServiceRef → List ServiceRef → List ServiceRef
add_services kept [] = kept
add_services kept (s ∷ later) = add_services (add_service kept s) later

abbrev pub add_linked : ℕ → Option (List ℕ) → List ServiceRef → List ServiceRef
add_linked oui None kept = kept
add_linked oui (Some row) kept = add_services kept (linked_services oui row)

abbrev pub services_after : Option ServiceRef → ℕ → Heard → List ServiceRef → List ServiceRef
services_after (Some service) oui item before = before
services_after None oui item before = add_linked oui (loop_in item) before

-- ---- Level 2, the program

abbrev pub pat_in : Heard → Option PatFields
pat_in item = option_and_then (λ section. pat.of section) (on pat_pid item)

-- the first of the services that a PAT lists
unfoldable pub first_listed : List ServiceRef → PatFields → Option ProgramFound
first_listed [] p = None
first_listed (s ∷ later) p = option_or (option_map (λ pid. program_found (s, pid)) (pid_in_pat s p)) (first_listed later p)

abbrev pub listed_again : PatFields → ProgramFound → ProgramFound
listed_again p found = program_found (found.service, unwrap_or (pid_in_pat found.service p) found.pid)

abbrev pub program_by_pat : List ServiceRef → PatFields → Option ProgramFound → Option ProgramFound
program_by_pat services p None = first_listed services p
program_by_pat services p (Some found) = Some (listed_again p found)

abbrev pub next_program : List ServiceRef → Option PatFields → Option ProgramFound → Option ProgramFound
next_program services None before = before
next_program services (Some p) before = program_by_pat services p before

abbrev pub program_after : Bool → List ServiceRef → Heard → Option ProgramFound → Option ProgramFound
program_after is_same services item before = if is_same then next_program services (pat_in item) before else None

-- ---- Level 3, the component

abbrev pub pmt_in : ℕ → Heard → Option PmtFields
pmt_in pid item = option_and_then (λ section. pmt.of section) (on pid item)

-- what a section decides of the program's component, if anything
abbrev pub decided : ℕ → Option ProgramFound → Heard → Option (Option ComponentFound)
decided oui None item = None
decided oui (Some program) item = option_and_then (component_in_pmt oui program.service.service) (pmt_in program.pid item)

abbrev pub component_after : Bool → ℕ → Option ProgramFound → Heard → Option ComponentFound → Option ComponentFound
component_after is_same oui program item before = if is_same then unwrap_or (decided oui program item) before else None

-- ---- Level 4, the notice

-- the table in the section, where the component has notices and it is on the component's PID and for the OUI
abbrev pub unt_in : ℕ → Option ComponentFound → Heard → Option UntFields
unt_in oui None item = None
unt_in oui (Some c) item =
    if has_notice c then option_and_then (notice_if oui) (option_and_then (λ section. unt.of section) (on c.pid item)) else None

abbrev pub first_notice : ℕ → List TargetFields → Option NoticeFound
first_notice number entries = if length entries == 0 then None else Some (notice_found (number, entries))

abbrev pub notice_again : Me → UntFields → NoticeFound → NoticeFound
notice_again me u n = if u.number == n.number then notice_found (n.number, targeted me u) else n

abbrev pub notice_by_table : Me → UntFields → Option NoticeFound → Option NoticeFound
notice_by_table me u None = first_notice u.number (targeted me u)
notice_by_table me u (Some n) = Some (notice_again me u n)

abbrev pub next_notice : Me → Option UntFields → Option NoticeFound → Option NoticeFound
next_notice me None before = before
next_notice me (Some u) before = notice_by_table me u before

abbrev pub notice_after : Bool → BoxId → Option ComponentFound → Heard → Option NoticeFound → Option NoticeFound
notice_after is_same id component item before =
    if is_same then next_notice (me_view id) (unt_in id.oui component item) before else None

-- ---- The time

abbrev pub time_after : Heard → Option ℕ → Option ℕ
time_after item before = option_or (time_said item) before
