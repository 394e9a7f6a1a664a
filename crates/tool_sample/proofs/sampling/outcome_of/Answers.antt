use Rattle.std.proofs.Common.{◌∙◌, ap, map}
use Rattle.tool_sample.proofs.sampling.outcome_of.Goals as goal

pub section_count-requires-clause-modules : goal.section_count-requires-clause-modules
section_count-requires-clause-modules c = ap (map (λ m. m.items)) c.deref.ensures.value ∙ c.in_ok-modules.ensures

pub outcome_of_sections-requires-clause-modules : goal.outcome_of_sections-requires-clause-modules
outcome_of_sections-requires-clause-modules c = ap (map (λ m. m.items)) c.deref-2.ensures.value ∙ c.in_ok-modules.ensures
