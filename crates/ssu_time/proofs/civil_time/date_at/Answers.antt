use Rattle.std.proofs.Common.{◌≡◌, ◌+ℤ◌, pos, to_z, w64, arith, ◌∙◌}
use Rattle.std.proofs.lemmas.Int.{to_z_pos}
use Rattle.jiff.proofs.SpanFacts.{signed_arith, date_add-days, can_add-days}
use Rattle.jiff_core.specs.Calendar.{IsEpochDay}
use Rattle.jiff_core.specs.Date.{epoch_day}
use Rattle.jiff_core.specs.Span.{IsOnly}
use Rattle.jiff_core.specs.declared.unit.Unit.TheVariants.{Day}
use Rattle.ssu_time.proofs.civil_time.date_at.Goals as goal

pub unwrap-requires : goal.unwrap-requires
unwrap-requires c =
    let number : to_z w64 c.args.mjd ≡ pos c.args.mjd = to_z_pos w64 c.args.mjd (omega arith) in
    let only : IsOnly Day (pos c.args.mjd) c.days.result = rw (c.from.ensures, number) at c.days.ensures in
    let can = can_add-days c.first_day.result (pos c.args.mjd) c.days.result only in
    let day : IsEpochDay (epoch_day c.first_day.result +ℤ pos c.args.mjd) = omega (arith, signed_arith, c.first_day.ensures, c.ranges.mjd.fits) in
    c.checked_add.ensures.succeeds.1 (can.1 day)

pub returns : goal.returns
returns c =
    let number : to_z w64 c.args.mjd ≡ pos c.args.mjd = to_z_pos w64 c.args.mjd (omega arith) in
    let only : IsOnly Day (pos c.args.mjd) c.days.result = rw (c.from.ensures, number) at c.days.ensures in
    let add = date_add-days c.first_day.result (pos c.args.mjd) c.days.result only in
    let sum : epoch_day c.unwrap.result ≡ epoch_day c.first_day.result +ℤ pos c.args.mjd = (rw c.unwrap.ensures at c.checked_add.ensures.value) ∙ add in
    omega (arith, signed_arith, sum, c.first_day.ensures)
