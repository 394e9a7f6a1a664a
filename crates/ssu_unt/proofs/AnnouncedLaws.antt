-- The written descriptors are read back.
use Rattle.std.proofs.Common.{◌≡◌, ℕ, ◌*◌, ◌/◌, ◌%◌, ◌<◌, ◌^◌, Bool, true, false, cond, eqb, [], ◌++◌, refl, arith}
use Rattle.std.proofs.lemmas.Bool.{eqb-true}
use Rattle.si_desc.proofs.Puts.{desc_put}
use Rattle.si_desc.specs.Descriptors.{IsDescriptor, subgroup_association}
use Rattle.ssu_time.specs.UtcField.{time_view}
use Rattle.ssu_time.specs.UtcTime.{utc_bytes}
use Rattle.ssu_time.specs.declared.utc_time.Utc.{Utc}
use Rattle.ssu_time.proofs.UtcFieldLaws.{utc_put}
use Rattle.wire.proofs.Laws.{pair_put}
use Rattle.wire.specs.Number.{bytes_of}
use Rattle.wire.proofs.Numbers.{number1_put, number2_put, number5_put}
use Rattle.ssu_unt.specs.Descriptors.{scheduling, turns_if, update_flag, location}
use Rattle.ssu_unt.specs.Announced.{flag_for, hours_by_turns, hours_window, location_bytes, schedule_flags, scheduling_bytes, subgroup_bytes, update_bytes}

-- ---- scheduling

-- what the flag leads to, where there is no period or one
turns_by : (b : Bool) (period duration : ℕ) → (b ≡ true → period ≡ 0) → period < 2 ^ 8 → duration < 2 ^ 8
    → (turns_if (eqb (cond b 40 104 / 64 % 2) 1) (cond b 40 104)).Spells (period * 3600, cond b 0 duration * 3600) (bytes_of 1 period ++ (bytes_of 1 (cond b 0 duration) ++ bytes_of 1 0))
turns_by true period duration none p d = let is : period ≡ 0 = none refl in rw is (bytes_of 1 0 ++ (bytes_of 1 0 ++ bytes_of 1 0), refl, refl)
turns_by false period duration none p d = (
  ((period, (duration, 0)), []),
  refl,
  pair_put _ [] (
      pair_put (bytes_of 1 period) _ (number1_put period p) (
      pair_put (bytes_of 1 duration) (bytes_of 1 0) (number1_put duration d) (number1_put 0 (omega arith)))) refl,
)

turns_put : (period duration : ℕ) → period < 2 ^ 8 → duration < 2 ^ 8
    → (turns_if (eqb (schedule_flags period / 64 % 2) 1) (schedule_flags period)).Spells (period * 3600, hours_by_turns period duration * 3600)
    (bytes_of 1 period ++ (bytes_of 1 (hours_by_turns period duration) ++ bytes_of 1 0))
turns_put period duration p d = turns_by (eqb period 0) period duration (λ e. eqb-true period 0 e) p d

small_by : (b : Bool) → cond b 40 104 < 2 ^ 8
small_by true = omega arith
small_by false = omega arith

flags_small : (period : ℕ) → schedule_flags period < 2 ^ 8
flags_small period = small_by (eqb period 0)

pub scheduling_put : (start end : Utc) (period duration : ℕ) → start.second < 86400 → end.second < 86400 → period < 2 ^ 8 → duration < 2 ^ 8
    → IsDescriptor scheduling 0x01 (hours_window start end period duration) (scheduling_bytes (utc_bytes start.mjd start.second) (utc_bytes end.mjd end.second) period duration)
unfolding scheduling
scheduling_put start end period duration s e p d =
    let turns = bytes_of 1 period ++ (bytes_of 1 (hours_by_turns period duration) ++ bytes_of 1 0) in
    let behind = bytes_of 1 (schedule_flags period) ++ turns in
    let body = utc_bytes start.mjd start.second ++ (utc_bytes end.mjd end.second ++ behind) in
    record {
      body = body;
      spelled = desc_put 0x01 body (omega arith) (omega arith);
      says = (
        (time_view start, (time_view end, (schedule_flags period, (period * 3600, hours_by_turns period duration * 3600)))),
        refl,
        pair_put (utc_bytes start.mjd start.second) _ (utc_put (time_view start) s) (
            pair_put (utc_bytes end.mjd end.second) _ (utc_put (time_view end) e) (
            pair_put (bytes_of 1 (schedule_flags period)) turns (number1_put (schedule_flags period) (flags_small period)) (turns_put period duration p d))),
      );
    }

-- ---- the others

flag_put : (manual : Bool) → update_flag.Spells (flag_for manual) (bytes_of 1 (flag_for manual * 64))
unfolding update_flag
flag_put true = ((0, []), refl, pair_put (bytes_of 1 0) [] (number1_put 0 (omega arith)) refl)
flag_put false = ((64, []), refl, pair_put (bytes_of 1 64) [] (number1_put 64 (omega arith)) refl)

pub update_put : (manual : Bool) → IsDescriptor update_flag 0x02 (flag_for manual) (update_bytes manual)
update_put manual = record {
  body = bytes_of 1 (flag_for manual * 64);
  spelled = desc_put 0x02 (bytes_of 1 (flag_for manual * 64)) (omega arith) (omega arith);
  says = flag_put manual;
}

pub location_put : (tag : ℕ) → tag < 2 ^ 8 → IsDescriptor location 0x03 tag (location_bytes tag)
unfolding location
location_put tag h =
    let behind = bytes_of 1 0 ++ bytes_of 1 tag in
    let body = bytes_of 2 0x000A ++ behind in
    record {
      body = body;
      spelled = desc_put 0x03 body (omega arith) (omega arith);
      says = (
        (tt, ((tt, tag), [])),
        refl,
        pair_put (bytes_of 2 0x000A) _ (number2_put 0x000A (omega arith)) (
            pair_put behind [] (pair_put (bytes_of 1 0) (bytes_of 1 tag) (number1_put 0 (omega arith)) (number1_put tag h)) refl),
      );
    }

pub subgroup_put : (number : ℕ) → number < 2 ^ 40 → IsDescriptor subgroup_association 0x0B number (subgroup_bytes number)
unfolding subgroup_association
subgroup_put number h = record {
  body = bytes_of 5 number;
  spelled = desc_put 0x0B (bytes_of 5 number) (omega arith) (omega arith);
  says = number5_put number h;
}
