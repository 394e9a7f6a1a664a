-- What one table says to a box, by the PID on which it was heard. This is the one place where the formats of tables and
-- descriptors are read. A section that is not of the format of its table says nothing. The standards are
-- ISO/IEC 13818-1, ETSI EN 300 468 and ETSI TS 102 006.
use Rattle.std.specs.Prelude.{ℕ, Bool, false, ◌&&◌, ◌||◌, not, ◌==◌, List, [], ◌∷◌, length, Option, Some, None, is_some, unwrap_or, if◌then◌else◌}
use Rattle.std.specs.List.{filter_map, flat_map, find}
use Rattle.std.specs.Option.{option_map, option_or, option_and_then}
use Rattle.ts_section.specs.Events.{Heard}
use Rattle.si_desc.specs.declared.linkages.ServiceRef.{ServiceRef}
use Rattle.si_desc.specs.Descriptors.{DescFields, whole_descriptors, first_body, stream_identifier}
use Rattle.si_desc.specs.Linkage.{LinkageFields, OuiFields, linkage, update_ouis, lists}
use Rattle.si_desc.specs.SsuInfo.{InfoFields, update_infos}
use Rattle.si_table.specs.Pids.{pat_pid, nit_pid, bat_pid, time_pid}
use Rattle.si_table.specs.Tables.{PatFields, pat, StreamFields, PmtFields, pmt, NetFields, net}
use Rattle.si_table.specs.Times.{tdt, tot}
use Rattle.ssu_time.specs.UtcField.{TimeFields, seconds_of}
use Rattle.ssu_unt.specs.Table.{UntFields, unt}
use Rattle.ssu_unt.specs.Targeting.{TargetFields, targeted}
use Rattle.ssu_unt.specs.Views.{me_view}
use Rattle.route_tables.specs.Values.{Receiver, ProgramFound, TaggedStream, ComponentFound}

-- the section, where it was heard on this PID
abbrev pub on : ℕ → Heard → Option (List ℕ)
on pid item = if item.pid == pid then Some item.section else None

-- the first value that an item of the list has
unfoldable pub first_some : {A B : Type 0} → (A → Option B) → List A → Option B
first_some value [] = None
first_some value (x ∷ xs) = option_or (value x) (first_some value xs)

-- the bodies of the descriptors of a row that have this tag
abbrev pub body_if : ℕ → DescFields → Option (List ℕ)
body_if tag d = if d.tag == tag then Some d.body else None

unfoldable pub bodies : ℕ → List ℕ → List (List ℕ)
bodies tag row = filter_map (body_if tag) (whole_descriptors row)

-- ---- Linkages: EN 300 468, 6.2.19; TS 102 006, 6.1. The first loop of the NIT of the actual network (table_id 0x40 on
-- PID 0x0010) and that of a BAT (table_id 0x4A on PID 0x0011) lead to the services that carry updates.

abbrev pub is_network_table : ℕ → NetFields → Bool
is_network_table pid n = (pid == nit_pid && n.table == 0x40) || (pid == bat_pid && n.table == 0x4A)

-- Is the OUI listed? A linkage whose rest is not of the form lists none.
abbrev pub lists_oui : ℕ → Option (List OuiFields) → Bool
lists_oui oui None = false
lists_oui oui (Some entries) = lists oui entries

-- the service to which a linkage of type 0x09 leads, where it lists the OUI
abbrev pub linked_service : ℕ → LinkageFields → Option ServiceRef
linked_service oui l = if l.kind == 0x09 && lists_oui oui (update_ouis.of l.rest) then Some l.to else None

-- the services to which the linkage descriptors (tag 0x4A) of a loop lead
unfoldable pub linked_services : ℕ → List ℕ → List ServiceRef
linked_services oui row = filter_map (λ body. option_and_then (linked_service oui) (linkage.of body)) (bodies 0x4A row)

abbrev pub services_in : ℕ → ℕ → Option NetFields → List ServiceRef
services_in oui pid None = []
services_in oui pid (Some n) = if is_network_table pid n then linked_services oui n.info else []

-- the services that a section names, in its order
unfoldable pub services_said : ℕ → Heard → List ServiceRef
services_said oui item = services_in oui item.pid (net.of item.section)

-- ---- Programs: ISO/IEC 13818-1, 2.4.4.3. A PAT lists the services of its transport stream by their number, which is the
-- program_number. Number 0 names the network PID and is no service.

-- The PID of the PMT is that of the first entry with the number.
abbrev pub pid_in_pat : ServiceRef → PatFields → Option ℕ
pid_in_pat s p =
    if p.ts == s.ts && not (s.service == 0)
    then option_map (λ e. e.pid) (find (λ e. e.number == s.service) p.programs)
    else None

-- the PID of the service's PMT, where the section is a PAT that lists the service
unfoldable pub program_said : ServiceRef → Heard → Option ℕ
program_said s item = option_and_then (pid_in_pat s) (option_and_then (λ section. pat.of section) (on pat_pid item))

-- the first of the services that the section lists
unfoldable pub service_said : List ServiceRef → Heard → Option ServiceRef
service_said services item = find (λ s. is_some (program_said s item)) services

-- ---- Components: ISO/IEC 13818-1, 2.4.4.8; TS 102 006, 7.1. A PMT names the stream that tells of an update by a
-- data_broadcast_id_descriptor (tag 0x66) for the data_broadcast_id 0x000A.

-- Update type 1 is a carousel without notification, 2 one with a notification table.
abbrev pub is_update_for : ℕ → InfoFields → Bool
is_update_for oui i = i.oui == oui && (i.update_type == 1 || i.update_type == 2)

abbrev pub type_of : InfoFields → ℕ
type_of i = i.update_type

-- the update type of the first entry for the OUI in a stream's descriptors
unfoldable pub update_type_of : ℕ → List ℕ → Option ℕ
update_type_of oui row =
    option_map type_of (find (is_update_for oui) (flat_map (λ body. unwrap_or (update_infos.of body) []) (bodies 0x66 row)))

-- The component tag of a stream is that of its first stream_identifier_descriptor, tag 0x52 (EN 300 468, 6.2.39). One of
-- another length than one byte gives none.
unfoldable pub component_tag_of : List ℕ → Option ℕ
component_tag_of row = option_and_then (λ body. stream_identifier.of body) (first_body 0x52 row)

abbrev pub tagged_stream : StreamFields → Option TaggedStream
tagged_stream s = option_map (λ tag. record { tag = tag; pid = s.pid }) (component_tag_of s.info)

abbrev pub component_of : ℕ → PmtFields → StreamFields → Option ComponentFound
component_of oui p s =
    option_map (λ kind. record { pid = s.pid; update_type = kind; tagged = filter_map tagged_stream p.streams }) (update_type_of oui s.info)

-- The first stream with such an entry counts. A PMT that has none says that there is no component.
abbrev pub component_in_pmt : ℕ → ℕ → PmtFields → Option (Option ComponentFound)
component_in_pmt oui number p = if p.program == number then Some (first_some (component_of oui p) p.streams) else None

-- what a PMT of the program decides, with or without a component
unfoldable pub component_said : ℕ → ProgramFound → Heard → Option (Option ComponentFound)
component_said oui program item =
    option_and_then (component_in_pmt oui program.service.service) (option_and_then (λ section. pmt.of section) (on program.pid item))

-- ---- Notices: TS 102 006, 9.4. The Update Notification Table with action_type 1, a system software update, and the OUI
-- has entries for the box.

abbrev pub is_notice_for : ℕ → UntFields → Bool
is_notice_for oui u = u.action == 1 && u.oui == oui

abbrev pub notice_if : ℕ → UntFields → Option UntFields
notice_if oui u = if is_notice_for oui u then Some u else None

-- the table in the section, where it was heard on this PID and is for the OUI
unfoldable pub notice_in : Receiver → ℕ → Heard → Option UntFields
notice_in me pid item = option_and_then (notice_if me.file.id.oui) (option_and_then (λ section. unt.of section) (on pid item))

-- the entries for the box
abbrev pub entries_for : Receiver → UntFields → List TargetFields
entries_for me u = targeted (me_view me.file.id) u

abbrev pub number_if_entries : Receiver → UntFields → Option ℕ
number_if_entries me u = if length (entries_for me u) == 0 then None else Some u.number

abbrev pub entries_under : Receiver → ℕ → UntFields → Option (List TargetFields)
entries_under me number u = if u.number == number then Some (entries_for me u) else None

-- the section number, where there is an entry for the box
unfoldable pub number_said : Receiver → ℕ → Heard → Option ℕ
number_said me pid item = option_and_then (number_if_entries me) (notice_in me pid item)

-- the entries for the box, where the section has this number
unfoldable pub entries_said : Receiver → ℕ → ℕ → Heard → Option (List TargetFields)
entries_said me pid number item = option_and_then (entries_under me number) (notice_in me pid item)

-- ---- The time: EN 300 468, 5.2.5 and 5.2.6. TDT and TOT are heard on PID 0x0014.

abbrev pub time_in : List ℕ → Option TimeFields
time_in section = option_or (tdt.of section) (option_map (λ t. t.time) (tot.of section))

-- the second that a TDT or TOT tells, counted from the beginning of the day with Modified Julian Date 0
unfoldable pub time_said : Heard → Option ℕ
time_said item = option_map seconds_of (option_and_then time_in (on time_pid item))
