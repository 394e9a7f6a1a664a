-- The Update Notification Table, and the room that it needs.
use Rattle.std.proofs.Common.{◌≡◌, ℕ, ◌+◌, ◌*◌, ◌/◌, ◌%◌, ◌<◌, ◌≤◌, ◌^◌, Bool, true, List, [], ◌∷◌, length, arith}
use Rattle.std.specs.Prelude.{Option, Some, None}
use Rattle.std.specs.List.{flat_map}
use Rattle.std.proofs.lemmas.List.{length-append}
use Rattle.std.proofs.lemmas.Nat.{xor_lt}
use Rattle.head_plan.specs.Plans.{GroupData, ScheduleData}
use Rattle.section_form.specs.Written.{long_bytes}
use Rattle.section_form.proofs.LongLaws.{Fits}
use Rattle.ssu_unt.specs.Written.{Draft, body_bytes, head_of, oui_hash}
use Rattle.head_carousel.specs.Notice.{notice_body, operational, platform_bytes, schedule_row}
use Rattle.head_carousel.specs.WellMade.{IsWellMade}
use Rattle.head_carousel.proofs.ControlLaws.{one_entry, subgroup_short}
use Rattle.head_carousel.proofs.MadeLaws.{long_made}

schedule_short : (o : Option ScheduleData) → length (schedule_row o) ≤ 16
schedule_short None = omega arith
schedule_short (Some s) = omega arith

operational_short : (o : Option ScheduleData) (manual : Bool) (g : Option ℕ) → length (operational o manual g) ≤ 32
operational_short o manual g =
    let a = schedule_short o in
    let b = subgroup_short g in
    omega (arith, length-append {A = ℕ})

platform_short : (oui : ℕ) (o : Option ScheduleData) (manual : Bool) (g : GroupData) → length (platform_bytes oui o manual g) ≤ 53
platform_short oui o manual g =
    let a = operational_short o manual g.subgroup in
    let b = one_entry (record { kind = 1; oui = oui; model = g.model; version = g.version }) in
    omega (arith, length-append {A = ℕ})

platforms_short : (oui : ℕ) (o : Option ScheduleData) (manual : Bool) (gs : List GroupData) → length (flat_map (platform_bytes oui o manual) gs) ≤ 53 * length gs
platforms_short oui o manual [] = omega arith
platforms_short oui o manual (g ∷ gs) =
    let one = platform_short oui o manual g in
    let others = platforms_short oui o manual gs in
    let l = length-append (platform_bytes oui o manual g) (flat_map (platform_bytes oui o manual) gs) in
    omega arith

pub body_short : (oui : ℕ) (o : Option ScheduleData) (manual : Bool) (gs : List GroupData) → length (notice_body oui o manual gs) ≤ 6 + 53 * length gs
body_short oui o manual gs = let l = platforms_short oui o manual gs in omega arith

hash_small : (oui : ℕ) → oui < 2 ^ 24 → oui_hash oui < 2 ^ 8
hash_small oui h =
    xor_lt 8 _ (oui % 256) (xor_lt 8 (oui / 65536) (oui / 256 % 256) (omega arith) (omega arith)) (omega arith)

pub unt_made : (w : Draft) (s : List ℕ) → w.oui < 2 ^ 24 → w.version ≡ 0 → length (body_bytes w) ≤ 4084 → s ≡ long_bytes true (head_of w) → IsWellMade s
unt_made w s oui version few is =
    let hash = hash_small w.oui oui in
    let fits : Fits (head_of w) = record { table = omega arith; extension = omega arith; version = omega arith; number = omega arith; last = omega arith; body = few } in
    long_made true (head_of w) s fits (λ e. absurd (omega arith)) (λ e. absurd (omega arith)) is
