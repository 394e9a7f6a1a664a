use Rattle.ts_section.proofs.Spans.{usable-blank, blanked}
use Rattle.ts_section.proofs.stream.Stream.reset.Goals as goal

pub returns : goal.returns
returns c = record { last = usable-blank _ (blanked c.args.self.now.last); text = c.clear.ensures }
