-- What a plan says, with its groups and their files as lists, and the range of each field.
use Rattle.std.specs.Prelude.{◌≡◌, ◌≢◌, ℕ, ◌^◌, ◌<◌, ◌≤◌, Bool, true, List, [], ◌∷◌, ◌++◌, Option, IsSome, map, length}
use Rattle.std.specs.Option.{ForSome}
use Rattle.ssu_time.specs.UtcField.{TimeFields, time_view}
use Rattle.std.specs.List.{list_all}
use Rattle.arrayvec.specs.ArrayString.{ArrayString}
use Rattle.ssu_io.specs.FileName.{is_file_name}
use Rattle.head_plan.specs.declared.schedule.Schedule.{Schedule}

-- when the boxes may take the update
pub record ScheduleData : Type 0 where
  pub start : TimeFields
  pub end : TimeFields
  pub period_hours : ℕ
  pub duration_hours : ℕ

-- one group: a hardware, the software that it gets, and the files that are sent
pub record GroupData : Type 0 where
  pub model : ℕ
  pub version : ℕ
  pub software_model : ℕ
  pub software_version : ℕ
  pub block_size : ℕ
  pub module_version : ℕ
  pub subgroup : Option ℕ
  pub modules : List (List ℕ)

pub record PlanData : Type 0 where
  pub ts : ℕ
  pub network : ℕ
  pub bouquet : Option ℕ
  pub service : ℕ
  pub oui : ℕ
  pub time : TimeFields
  pub pmt_pid : ℕ
  pub data_pid : ℕ
  pub notice_pid : Option ℕ
  pub signal_period : ℕ
  pub turns : ℕ
  pub manual : Bool
  pub schedule : Option ScheduleData
  pub group : List GroupData

-- the range of each field of a group
pub record IsGroup (block_size : ℕ) (subgroup : Option ℕ) : Type 0 where
  pub block_some : 1 ≤ block_size
  pub block_most : block_size ≤ 4066
  pub subgroup_in : ForSome subgroup (λ n. n < 2 ^ 40)

-- 1 to 16 groups
pub record AreGroups (count : ℕ) : Type 0 where
  pub some : 1 ≤ count
  pub few : count ≤ 16

-- a PID for a table or a stream: 32 to 8190
pub record IsOwnPid (pid : ℕ) : Type 0 where
  pub least : 32 ≤ pid
  pub most : pid ≤ 8190

-- three PIDs, of which no two are the same
pub record ArePids (pmt blocks : ℕ) (notice : Option ℕ) : Type 0 where
  pub pmt_in : IsOwnPid pmt
  pub blocks_in : IsOwnPid blocks
  pub blocks_other : blocks ≢ pmt
  pub notice_in : ForSome notice IsOwnPid
  pub notice_other : ForSome notice (λ n. (n ≢ pmt) × (n ≢ blocks))

-- the range of each field of a plan
pub record IsPlan (service pmt blocks : ℕ) (notice : Option ℕ) (period turns : ℕ) (asks : Bool) (schedule : Option ScheduleData) : Type 0 where
  pub service_in : 1 ≤ service
  pub pids_in : ArePids pmt blocks notice
  pub period_some : 1 ≤ period
  pub period_most : period ≤ 100000
  pub turns_some : 1 ≤ turns
  pub turns_most : turns ≤ 1000000
  pub asks_by_notice : asks ≡ true → IsSome notice
  pub schedule_by_notice : IsSome schedule → IsSome notice

-- the files of all groups, one after the other
abbrev pub mentions : List GroupData → List (List ℕ)
mentions [] = []
mentions (g ∷ rest) = g.modules ++ mentions rest

-- the bytes of each name
abbrev pub texts : List ArrayString → List (List ℕ)
texts = map (λ name. name.bytes)

-- 1 to 256 names of files
pub record AreFiles (names : List (List ℕ)) : Type 0 where
  pub some : 1 ≤ length names
  pub few : length names ≤ 256
  pub files : list_all is_file_name names ≡ true

-- a schedule as a plan shows it
abbrev pub schedule_data : Schedule → ScheduleData
schedule_data s = record {
  start = time_view s.start;
  end = time_view s.end;
  period_hours = s.period_hours;
  duration_hours = s.duration_hours;
}
