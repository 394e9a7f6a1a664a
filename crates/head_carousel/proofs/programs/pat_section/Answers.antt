use Rattle.std.proofs.Common.{arith}
use Rattle.std.proofs.lemmas.Result.{IfOk-weaker}
use Rattle.head_carousel.proofs.MadeLaws.{pat_made}
use Rattle.head_carousel.proofs.programs.pat_section.Goals as goal

pub returns-clause-right : goal.returns-clause-right
returns-clause-right c = IfOk-weaker c.write_pat.result _ _ (λ s e. pat_made c.args.ts _ s.items (omega arith) e) c.write_pat.ensures.made
