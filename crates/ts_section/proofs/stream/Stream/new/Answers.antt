use Rattle.std.proofs.Common.{refl}
use Rattle.ts_section.proofs.Spans.{usable-blank}
use Rattle.ts_section.proofs.stream.Stream.new.Goals as goal

pub returns : goal.returns
returns c = record { last = usable-blank _ refl; text = c.new.ensures }
