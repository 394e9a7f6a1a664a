use Rattle.std.proofs.Common.{◌≡◌, sym, None, ◌∙◌}
use Rattle.dsmcc_msg.specs.Control.{dii}
use Rattle.ssu_route.proofs.TakingLaws.{take_none}
use Rattle.ssu_route.proofs.kept.Kept.hear_dii.Goals as goal

pub returns-in-None : goal.returns-in-None
returns-in-None c = record {
  takes = λ usable offers groups planned.
      let none : dii.of c.args.section.now ≡ None = sym c.dii_in.ensures.exact ∙ c.in-None.is in
      rw none (take_none c.args.bank_len c.args.self.now planned);
}
