-- The descriptors of a notification table: ETSI TS 102 006 9.6.
use Rattle.std.specs.Prelude.{ℕ, ◌*◌, ◌/◌, ◌%◌, ◌==◌, if◌then◌else◌, bit_and, Bool, true, false, List, Option, Some, None, unwrap_or}
use Rattle.std.specs.List.{list_any}
use Rattle.ssu_time.specs.UtcField.{TimeFields, seconds_of, utc}
use Rattle.ssu_time.specs.declared.windows.Window.{Window}
use Rattle.wire.specs.Format.{Whole, fixed, ◌&◌, ◌then◌, rest, to_end, whole_reads}
use Rattle.wire.specs.Number.{number, number_of}

-- ---- scheduling, tag 0x01

-- 0 is a second, 1 a minute, 2 an hour and 3 a day
abbrev pub unit_seconds : ℕ → ℕ
unit_seconds unit = if unit == 0 then 1 else (if unit == 1 then 60 else (if unit == 2 then 3600 else 86400))

abbrev pub turns_fields : ℕ → (ℕ × (ℕ × ℕ)) × List ℕ → ℕ × ℕ
turns_fields flags x = (x.0.0 * unit_seconds (flags / 16 % 4), x.0.1.0 * unit_seconds (flags / 4 % 4))

-- With the periodicity flag period 8, duration 8, estimated cycle time 8; then private bytes.
abbrev pub turns_if : Bool → ℕ → Whole (ℕ × ℕ)
turns_if true flags = whole_reads (turns_fields flags) (
    (number 1 & number 1 & number 1) then λ _.
    rest)
turns_if false flags = whole_reads (λ _. (0, 0)) rest

abbrev pub window_fields : TimeFields × (TimeFields × (ℕ × (ℕ × ℕ))) → Window
window_fields x = record { start = seconds_of x.0; end = seconds_of x.1.0; period = x.1.1.1.0; duration = x.1.1.1.1 }

-- start 40; end 40; final_availability 1, periodicity_flag 1, period_unit 2, duration_unit 2,
-- cycle_time_unit 2; what the flag leads to
unfoldable pub scheduling : Whole Window
scheduling = whole_reads window_fields (
    utc then λ _.
    utc then λ _.
    number 1 then λ flags.
    turns_if (flags / 64 % 2 == 1) flags)

-- A window that is never open stands for a body that is not of the form.
abbrev pub never : Window
never = record { start = 0; end = 0; period = 0; duration = 0 }

unfoldable pub window_of : List ℕ → Window
window_of bytes = unwrap_or (scheduling.of bytes) never

-- ---- update, tag 0x02: update_flag 2, update_method 4, update_priority 2; private bytes

unfoldable pub update_flag : Whole ℕ
update_flag = whole_reads (λ x. x.0 / 64) (
    number 1 then λ _.
    rest)

-- ---- ssu_location, tag 0x03

-- data_broadcast_id 16, which is 0x000A; association_tag 16, whose high byte is 0 and whose low byte
-- is a component tag; private bytes
unfoldable pub location : Whole ℕ
location = whole_reads (λ x. x.1.0.1) (
    fixed (number 2) 0x000A then λ _.
    (fixed (number 1) 0 & number 1) then λ _.
    rest)

-- ---- target MAC address, tag 0x07: mask 48, and matches of 48

unfoldable pub mac_targets : Whole (ℕ × List ℕ)
mac_targets =
    number 6 then λ _.
    to_end (number 6)

-- one of the matches equals the address in all bits of the mask
abbrev pub has_mac : ℕ → Option (ℕ × List ℕ) → Bool
has_mac mac None = false
has_mac mac (Some x) = list_any (λ match. bit_and match x.0 == bit_and mac x.0) x.1

unfoldable pub names_mac : List ℕ → List ℕ → Bool
names_mac mac bytes = has_mac (number_of mac) (mac_targets.of bytes)
