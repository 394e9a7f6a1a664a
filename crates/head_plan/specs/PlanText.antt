-- What a text says of a plan: its fields, in the order in which they are looked at.
use Rattle.std.specs.Prelude.{◌≡◌, ℕ, suc, Bool, false, not, ◌&&◌, ◌||◌, ◌==◌, codes, List, [], ◌∷◌, ◌++◌, Option}
use Rattle.std.specs.Prelude.{Some, None, is_some, Ok, Err, nat_le, if◌then◌else◌, unwrap_or, option_map}
use Rattle.std.specs.Prelude.{option_and_then}
use Rattle.std.specs.Result.{result_ok}
use Rattle.toml.specs.Data.{Data, Items, no_items, item, Members, as_str}
use Rattle.toml_fields.specs.Reading.{Reading, ◌>>=◌, or_bad, checked, item_prefix, document_of}
use Rattle.toml_fields.specs.Place.{Place, number, optional_number, text, optional_flag, optional_table, array, tables, item_count}
use Rattle.ssu_io.specs.FileName.{file_name_of}
use Rattle.ssu_time.specs.CivilText.{civil_of}
use Rattle.ssu_time.specs.UtcField.{TimeFields}
use Rattle.head_plan.specs.Plans.{ScheduleData, GroupData, PlanData}
use Rattle.head_plan.specs.declared.fault.PlanFault.{PlanFault}
use Rattle.head_plan.specs.declared.fault.PlanFault.TheVariants.{Field, Memory}

-- the value, if it passes the test; else the field of that name is bad
abbrev pub such : {T : Type 0} → Bool → List ℕ → T → Reading T
such passes name x = if passes then Ok x else Err name

-- the service: transport stream, network, bouquet and number
unfoldable pub service : Place → Reading (ℕ × ℕ × Option ℕ × ℕ)
service p = do
  ts ← number p (codes "ts") 0 65535
  network ← number p (codes "network") 0 65535
  bouquet ← optional_number p (codes "bouquet") 0 65535
  service ← number p (codes "service") 1 65535
  Ok (ts, network, bouquet, service)

-- a time by its text
unfoldable pub time : Place → List ℕ → Reading TimeFields
time p name = do
  written ← text p name
  or_bad (p.prefix ++ name) (civil_of written)

-- the OUI, and the time that is sent
unfoldable pub origin : Place → Reading (ℕ × TimeFields)
origin p = do
  oui ← number p (codes "oui") 0 16777215
  now ← time p (codes "time")
  Ok (oui, now)

-- the PIDs of the PMT, of the carousel and of the notifications, of which no two are the same
unfoldable pub pids : Place → Reading (ℕ × ℕ × Option ℕ)
pids p = do
  pmt ← number p (codes "pmt_pid") 32 8190
  found ← number p (codes "data_pid") 32 8190
  blocks ← such (not (found == pmt)) (p.prefix ++ codes "data_pid") found
  given ← optional_number p (codes "notice_pid") 32 8190
  notice ← checked (λ n. if (n == pmt) || (n == blocks) then None else Some n) (p.prefix ++ codes "notice_pid") given
  Ok (pmt, blocks, notice)

-- the period of the signalling, and how many sections are sent
unfoldable pub pace : Place → Reading (ℕ × ℕ)
pace p = do
  period ← optional_number p (codes "signal_period") 1 100000
  turns ← number p (codes "turns") 1 1000000
  Ok (unwrap_or period 50, turns)

-- whether a user's consent is asked, which only a notification can say
unfoldable pub manual : Bool → Place → Reading Bool
manual has_notice p = do
  flag ← optional_flag p (codes "manual")
  such (not (unwrap_or flag false) || has_notice) (p.prefix ++ codes "manual") (unwrap_or flag false)

-- the parts of a schedule, all of which are wanted
unfoldable pub schedule_in : Place → Reading ScheduleData
schedule_in p = do
  start ← time p (codes "start")
  end ← time p (codes "end")
  period ← number p (codes "period_hours") 0 255
  duration ← number p (codes "duration_hours") 0 255
  Ok (record { start = start; end = end; period_hours = period; duration_hours = duration })

-- the schedule of a table, if each part is in its range
abbrev pub schedule_of : Members → Option ScheduleData
schedule_of members = result_ok (schedule_in (record { members = members; prefix = [] }))

-- the schedule, which only a notification can say
unfoldable pub schedule : Bool → Place → Reading (Option ScheduleData)
schedule has_notice p = do
  found ← optional_table p (codes "schedule")
  checked (λ members. if has_notice then schedule_of members else None) (p.prefix ++ codes "schedule") found

-- the hardware of a group and the software that it gets
unfoldable pub versions : Place → Reading (ℕ × ℕ × ℕ × ℕ)
versions p = do
  model ← number p (codes "model") 0 65535
  version ← number p (codes "version") 0 65535
  software_model ← number p (codes "software_model") 0 65535
  software_version ← number p (codes "software_version") 0 65535
  Ok (model, version, software_model, software_version)

-- how a group's files are sent: the size of a block, the version of the modules, the subgroup
unfoldable pub shape : Place → Reading (ℕ × ℕ × Option ℕ)
shape p = do
  block_size ← optional_number p (codes "block_size") 1 4066
  module_version ← optional_number p (codes "module_version") 0 255
  subgroup ← optional_number p (codes "subgroup") 0 1099511627775
  Ok (unwrap_or block_size 4066, unwrap_or module_version 0, subgroup)

-- the name of a file that a value is
abbrev pub file_of : Data → Option (List ℕ)
file_of d = option_and_then file_name_of (as_str d)

-- the names of files that the items are, if each is one
abbrev pub files_of : Items → Option (List (List ℕ))
files_of no_items = Some []
files_of (item d rest) = option_and_then (λ file. option_map (λ files. file ∷ files) (files_of rest)) (file_of d)

-- 1 to 256 items
abbrev pub is_counted : Items → Bool
is_counted items = nat_le 1 (item_count items) && nat_le (item_count items) 256

-- an array of 1 to 256 names of files
unfoldable pub modules : Place → Reading (List (List ℕ))
modules p = do
  items ← array p (codes "modules")
  or_bad (p.prefix ++ codes "modules") (if is_counted items then files_of items else None)

-- the group that a table tells of
unfoldable pub group_in : Place → Reading GroupData
group_in p = do
  which ← versions p
  how ← shape p
  files ← modules p
  Ok (record {
    model = which.0;
    version = which.1;
    software_model = which.2;
    software_version = which.3;
    block_size = how.0;
    module_version = how.1;
    subgroup = how.2;
    modules = files;
  })

-- the group of the table at an index of the array
abbrev pub group_at : ℕ → Members → Reading GroupData
group_at k members = group_in (record { members = members; prefix = item_prefix (codes "group") k })

-- the groups of some tables, the first of which is named by the index
unfoldable pub groups_from : ℕ → List Members → Reading (List GroupData)
groups_from k [] = Ok []
groups_from k (table ∷ rest) = do
  first ← group_at k table
  others ← groups_from (suc k) rest
  Ok (first ∷ others)

-- an array of 1 to 16 tables, each of which is a group; all are tables before any is looked into
unfoldable pub groups : Place → Reading (List GroupData)
groups p = do
  found ← tables p (codes "group") 1 16
  groups_from 0 found

-- the plan that a table tells of
unfoldable pub plan_in : Place → Reading PlanData
plan_in p = do
  where_ ← service p
  from ← origin p
  on ← pids p
  often ← pace p
  asks ← manual (is_some on.2) p
  opens ← schedule (is_some on.2) p
  sent ← groups p
  Ok (record {
    ts = where_.0;
    network = where_.1;
    bouquet = where_.2;
    service = where_.3;
    oui = from.0;
    time = from.1;
    pmt_pid = on.0;
    data_pid = on.1;
    notice_pid = on.2;
    signal_period = often.0;
    turns = often.1;
    manual = asks;
    schedule = opens;
    group = sent;
  })

-- the plan that a text tells of, or the name of its first bad field, in this order: `text` for a text
-- that is no TOML or no UTF-8, then ts, network, bouquet, service, oui, time, pmt_pid, data_pid,
-- notice_pid, signal_period, turns, manual, schedule, group, and for each group from 0 on its model,
-- version, software_model, software_version, block_size, module_version, subgroup and modules
unfoldable pub plan_of : List ℕ → Reading PlanData
plan_of bytes = do
  members ← or_bad (codes "text") (document_of bytes)
  plan_in (record { members = members; prefix = [] })

-- a fault is the reading's first bad field, or comes from want of memory
abbrev pub IsFaultOf : {T : Type 0} → Reading T → PlanFault → Type 0
IsFaultOf reading (Field name) = reading ≡ Err name.bytes
IsFaultOf reading Memory = Unit {0}
