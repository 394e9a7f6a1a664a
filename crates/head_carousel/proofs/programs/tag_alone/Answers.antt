use Rattle.head_carousel.proofs.MadeLaws.{row_none}
use Rattle.head_carousel.proofs.programs.tag_alone.Goals as goal

pub returns-clause-row : goal.returns-clause-row
returns-clause-row c = c.in_ok-put_component_tag.ensures.row (row_none c.new-row.ensures.items)
