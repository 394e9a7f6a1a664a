use Rattle.head_carousel.proofs.MadeLaws.{row_none}
use Rattle.head_carousel.proofs.notices.operational_row.Goals as goal

pub returns-clause-row : goal.returns-clause-row
returns-clause-row c =
    c.in_ok-put_subgroup.ensures.row (c.in_ok-put_ssu_location.ensures.row (c.in_ok-put_update.ensures.row (c.in_ok-put_schedule.ensures.row (row_none c.new-row.ensures.items))))
