-- The descriptors of an operational loop that are written: ETSI TS 102 006 9.6. Reserved bits are ones; there are no
-- private bytes.
use Rattle.std.specs.Prelude.{ℕ, ◌+◌, ◌*◌, Bool, if◌then◌else◌, ◌==◌, List, ◌++◌}
use Rattle.ssu_time.specs.UtcTime.{utc_seconds}
use Rattle.ssu_time.specs.declared.utc_time.Utc.{Utc}
use Rattle.ssu_time.specs.declared.windows.Window.{Window}
use Rattle.wire.specs.Number.{bytes_of}

-- ---- scheduling

-- final_availability 0; periodicity_flag, which is set exactly where there is a period; period_unit and duration_unit 2,
-- an hour; cycle_time_unit 0
abbrev pub schedule_flags : ℕ → ℕ
schedule_flags period = if period == 0 then 2 * 16 + 2 * 4 else 1 * 64 + 2 * 16 + 2 * 4

-- the hours of each window, none where there is no period
abbrev pub hours_by_turns : ℕ → ℕ → ℕ
hours_by_turns period duration = if period == 0 then 0 else duration

-- tag 0x01, 14 bytes: start 40, end 40, the flags and units, period 8, duration 8, estimated cycle time 8
abbrev pub scheduling_bytes : List ℕ → List ℕ → ℕ → ℕ → List ℕ
scheduling_bytes start end period duration =
    bytes_of 1 0x01 ++ (bytes_of 1 14 ++ (
    start ++ (
    end ++ (
    bytes_of 1 (schedule_flags period) ++ (
    bytes_of 1 period ++ (bytes_of 1 (hours_by_turns period duration) ++ bytes_of 1 0))))))

-- its window, in seconds
abbrev pub hours_window : Utc → Utc → ℕ → ℕ → Window
hours_window start end period duration = record {
  start = utc_seconds start.mjd start.second;
  end = utc_seconds end.mjd end.second;
  period = period * 3600;
  duration = hours_by_turns period duration * 3600;
}

-- ---- update

-- 0 where a user has to ask for the update
abbrev pub flag_for : Bool → ℕ
flag_for manual = if manual then 0 else 1

-- tag 0x02, 1 byte: update_flag 2, update_method 0, update_priority 0
abbrev pub update_bytes : Bool → List ℕ
update_bytes manual = bytes_of 1 0x02 ++ (bytes_of 1 1 ++ bytes_of 1 (flag_for manual * 64))

-- ---- ssu_location

-- tag 0x03, 4 bytes: data_broadcast_id 0x000A; association_tag 16 with a high byte of 0
abbrev pub location_bytes : ℕ → List ℕ
location_bytes tag =
    bytes_of 1 0x03 ++ (bytes_of 1 4 ++ (
    bytes_of 2 0x000A ++ (
    bytes_of 1 0 ++ bytes_of 1 tag)))

-- ---- ssu_subgroup_association

-- tag 0x0B, 5 bytes
abbrev pub subgroup_bytes : ℕ → List ℕ
subgroup_bytes number = bytes_of 1 0x0B ++ (bytes_of 1 5 ++ bytes_of 5 number)
