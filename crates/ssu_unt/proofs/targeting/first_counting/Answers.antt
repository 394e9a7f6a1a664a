use Rattle.std.proofs.Common.{◌∙◌, ap, sym}
use Rattle.ssu_unt.specs.Targeting.{first_of}
use Rattle.ssu_unt.proofs.Counting.{first_of-with_tag}
use Rattle.ssu_unt.proofs.targeting.first_counting.Goals as goal

pub returns : goal.returns
returns c = c.first.ensures ∙ sym (first_of-with_tag c.args.tag _) ∙ ap first_of c.counting_loop.ensures
