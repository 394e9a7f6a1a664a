-- The tables that lead to the carousel: NIT, BAT, PAT, TDT and PMT (ISO/IEC 13818-1, 2.4.4; ETSI EN 300 468, 5.2; ETSI TS
-- 102 006, 6 and 7).
use Rattle.std.specs.Prelude.{ℕ, List, [], ◌∷◌, ◌++◌, Option, Some, None}
use Rattle.std.specs.List.{flat_map}
use Rattle.head_plan.specs.Plans.{PlanData}
use Rattle.si_desc.specs.Written.{component_bytes, info_bytes, linkage_bytes, service_of}
use Rattle.si_table.specs.Pids.{pat_pid, nit_pid, bat_pid, time_pid}
use Rattle.si_table.specs.Tables.{ProgramFields, StreamFields}
use Rattle.ssu_time.specs.UtcField.{TimeFields}
use Rattle.si_table.specs.Written.{PmtDraft, net_bytes, pat_bytes, pmt_bytes, stream_bytes, tdt_bytes}
use Rattle.ts_section.specs.TimedSection.{TimedSection}
use Rattle.head_carousel.specs.Notice.{carousel_tag, notice_section}

abbrev pub timed : ℕ → ℕ → List ℕ → TimedSection
timed pid period bytes = record { pid = pid; period = period; bytes = bytes }

-- ---- the sections

-- A NIT or a BAT: a linkage to the service, and one entry without descriptors.
abbrev pub net_section : ℕ → ℕ → PlanData → List ℕ
net_section table id p = net_bytes table id (linkage_bytes (service_of p.ts p.network p.service) p.oui) p.ts p.network

-- the one program
abbrev pub program_of : PlanData → ProgramFields
program_of p = record { number = p.service; pid = p.pmt_pid }

abbrev pub time_of : PlanData → TimeFields
time_of p = record { mjd = p.time.mjd; second = p.time.second }

abbrev pub stream : ℕ → ℕ → List ℕ → StreamFields
stream kind pid info = record { kind = kind; pid = pid; info = info }

-- the component tag of the stream with the notifications
abbrev pub notice_tag : ℕ
notice_tag = 1

-- The streams. With notifications they stand on a stream of type 0x05, which has the update information of type 2, and
-- the carousel on one of type 0x0B; without them the carousel's has the update information, of type 1.
abbrev pub streams_of : ℕ → ℕ → Option ℕ → List StreamFields
streams_of oui pid None = stream 0x0B pid (component_bytes carousel_tag ++ info_bytes oui 1) ∷ []
streams_of oui pid (Some notice) =
    stream 0x05 notice (component_bytes notice_tag ++ info_bytes oui 2) ∷ stream 0x0B pid (component_bytes carousel_tag) ∷ []

abbrev pub pmt_draft : ℕ → List StreamFields → PmtDraft
pmt_draft program streams = record { program = program; streams = streams; bytes = flat_map stream_bytes streams }

abbrev pub pmt_section : PlanData → List ℕ
pmt_section p = pmt_bytes (pmt_draft p.service (streams_of p.oui p.data_pid p.notice_pid))

-- ---- what is sent of them

-- a NIT, and with a bouquet a BAT
abbrev pub bats : PlanData → Option ℕ → List TimedSection
bats p None = []
bats p (Some id) = timed bat_pid p.signal_period (net_section 0x4A id p) ∷ []

unfoldable pub networks : PlanData → List TimedSection
networks p = timed nit_pid p.signal_period (net_section 0x40 p.network p) ∷ bats p p.bouquet

-- PAT, TDT and PMT
unfoldable pub programs : PlanData → List TimedSection
programs p =
    timed pat_pid p.signal_period (pat_bytes p.ts (program_of p))
    ∷ timed time_pid p.signal_period (tdt_bytes (time_of p))
    ∷ timed p.pmt_pid p.signal_period (pmt_section p)
    ∷ []

-- the notifications, where they have a PID
abbrev pub notices_on : PlanData → Option ℕ → List TimedSection
notices_on p None = []
notices_on p (Some pid) = timed pid p.signal_period (notice_section p) ∷ []

unfoldable pub notices : PlanData → List TimedSection
notices p = notices_on p p.notice_pid

abbrev pub pid_of_notices : Option ℕ → List ℕ
pid_of_notices None = []
pid_of_notices (Some pid) = pid ∷ []

-- the PIDs of a plan's sections: at most seven
abbrev pub pids_of : PlanData → List ℕ
pids_of p = nit_pid ∷ bat_pid ∷ pat_pid ∷ time_pid ∷ p.pmt_pid ∷ p.data_pid ∷ pid_of_notices p.notice_pid
