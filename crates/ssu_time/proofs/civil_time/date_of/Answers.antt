use Rattle.std.proofs.Common.{arith}
use Rattle.jiff_core.proofs.DateLemmas.{civil}
use Rattle.ssu_time.proofs.DayLemmas.{cast_back, day_of_mjd}
use Rattle.ssu_time.proofs.civil_time.date_of.Goals as goal

pub overflow_cast-result : goal.overflow_cast-result
overflow_cast-result c =
    let d = c.date_at-date.result in
    let k = cast_back _ _ _ _ (day_of_mjd d.year d.month d.day c.args.mjd (civil d) c.date_at-date.ensures) in
    rw (c.year.ensures, k.year) (tt, omega (arith, k.year_in))

pub returns-clause-year_in : goal.returns-clause-year_in
returns-clause-year_in c =
    let d = c.date_at-date.result in
    let k = cast_back _ _ _ _ (day_of_mjd d.year d.month d.day c.args.mjd (civil d) c.date_at-date.ensures) in
    rw (c.year.ensures, k.year) k.year_in

pub returns-clause-date : goal.returns-clause-date
returns-clause-date c =
    let d = c.date_at-date.result in
    let k = cast_back _ _ _ _ (day_of_mjd d.year d.month d.day c.args.mjd (civil d) c.date_at-date.ensures) in
    rw (c.year.ensures, k.year, c.month.ensures, k.month, c.day.ensures, k.day) k.date

pub returns-clause-day : goal.returns-clause-day
returns-clause-day c =
    let d = c.date_at-date.result in
    let k = cast_back _ _ _ _ (day_of_mjd d.year d.month d.day c.args.mjd (civil d) c.date_at-date.ensures) in
    rw (c.year.ensures, k.year, c.month.ensures, k.month, c.day.ensures, k.day) k.on_day
