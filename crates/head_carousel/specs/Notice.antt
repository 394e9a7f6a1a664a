-- The Update Notification Table of a plan: ETSI TS 102 006, 9.4.
use Rattle.std.specs.Prelude.{ℕ, ◌+◌, ◌*◌, Bool, true, List, [], ◌++◌, length, Option, Some, None}
use Rattle.std.specs.List.{flat_map}
use Rattle.head_plan.specs.Plans.{GroupData, PlanData, ScheduleData}
use Rattle.section_form.specs.Long.{LongFields}
use Rattle.section_form.specs.Written.{long_bytes, only_section}
use Rattle.ssu_compat.specs.Written.{spelling}
use Rattle.ssu_time.specs.UtcTime.{utc_bytes}
use Rattle.ssu_unt.specs.Announced.{location_bytes, scheduling_bytes, update_bytes}
use Rattle.ssu_unt.specs.Written.{head_bytes, oui_hash, pair_bytes}
use Rattle.wire.specs.Number.{bytes_of}
use Rattle.head_carousel.specs.Control.{hardware_alone, subgroup_row}

-- the component tag of the stream with the carousel
abbrev pub carousel_tag : ℕ
carousel_tag = 2

-- the scheduling descriptor, where there is a schedule
abbrev pub schedule_row : Option ScheduleData → List ℕ
schedule_row None = []
schedule_row (Some s) =
    scheduling_bytes (utc_bytes s.start.mjd s.start.second) (utc_bytes s.end.mjd s.end.second) s.period_hours s.duration_hours

-- scheduling, update, ssu_location and ssu_subgroup_association
abbrev pub operational : Option ScheduleData → Bool → Option ℕ → List ℕ
operational schedule manual subgroup =
    schedule_row schedule ++ (update_bytes manual ++ (location_bytes carousel_tag ++ subgroup_row subgroup))

-- one pair, whose target loop is empty
abbrev pub group_pair : Option ScheduleData → Bool → GroupData → List ℕ
group_pair schedule manual g = pair_bytes [] (operational schedule manual g.subgroup)

-- a group's hardware; platform_loop_length 16, and the pair
abbrev pub platform_bytes : ℕ → Option ScheduleData → Bool → GroupData → List ℕ
platform_bytes oui schedule manual g =
    spelling (hardware_alone oui g)
    ++ (bytes_of 2 (length (group_pair schedule manual g)) ++ group_pair schedule manual g)

-- an empty common loop, and a platform for each group
abbrev pub notice_body : ℕ → Option ScheduleData → Bool → List GroupData → List ℕ
notice_body oui schedule manual gs = head_bytes oui [] ++ flat_map (platform_bytes oui schedule manual) gs

-- action_type 1; version 0, section 0 of 0
abbrev pub notice_head : ℕ → Option ScheduleData → Bool → List GroupData → LongFields
notice_head oui schedule manual gs = only_section 0x4B (1 * 256 + oui_hash oui) 0 (notice_body oui schedule manual gs)

abbrev pub notice_section : PlanData → List ℕ
notice_section p = long_bytes true (notice_head p.oui p.schedule p.manual p.group)
