use Rattle.std.proofs.Common.{◌≡◌, ◌+◌, arith}
use Rattle.ssu_time.specs.Calendar.{days_before}
use Rattle.ssu_time.proofs.DayLemmas.{epoch_day_is}
use Rattle.ssu_time.proofs.civil_time.first_day.Goals as goal

pub returns : goal.returns
returns c =
    let none : days_before 1858 11 17 ≡ days_before 1858 11 17 + 0 = omega arith in
    epoch_day_is c.date.result 1858 11 17 0 (record { year = c.date.ensures.0; month = cc; day = cc }) none
