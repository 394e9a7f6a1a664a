use Rattle.std.proofs.lemmas.Option.{IfSome_then}
use Rattle.ssu_time.proofs.DayLemmas.{has_parts, is_date, is_mjd, epoch_day_is}
use Rattle.ssu_time.proofs.civil_time.day_number.Goals as goal

pub returns-in-Ok-clause-found : goal.returns-in-Ok-clause-found
returns-in-Ok-clause-found c =
    let date = c.in-Ok.date in
    let parts = has_parts date c.args.year c.args.month c.args.day c.requires.year_in c.requires.month_in c.requires.day_in c.in-Ok.ensures.value in
    IfSome_then c.mjd_of.result c.mjd_of.ensures.found (λ mjd e. (is_date _ _ _ _ parts, is_mjd _ _ _ _ mjd parts e))

pub returns-in-Ok-clause-only : goal.returns-in-Ok-clause-only
returns-in-Ok-clause-only c = λ mjd fits is on.
    let date = c.in-Ok.date in
    let parts = has_parts date c.args.year c.args.month c.args.day c.requires.year_in c.requires.month_in c.requires.day_in c.in-Ok.ensures.value in
    c.mjd_of.ensures.only mjd fits (epoch_day_is _ _ _ _ mjd parts on)
