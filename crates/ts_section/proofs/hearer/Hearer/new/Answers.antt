use Rattle.std.proofs.Common.{length, arith, sym, ◌∙◌, ap}
use Rattle.ts_section.specs.Events.{is_among}
use Rattle.ts_section.proofs.Spans.{is_listened-nil}
use Rattle.ts_section.proofs.hearer.Hearer.new.Goals as goal

pub returns : goal.returns
returns c =
    let none = ap length c.new.ensures in
    record {
      listens = λ pid. is_listened-nil pid ∙ sym (ap (is_among pid) c.new.ensures);
      streams = λ pid at other first. absurd (omega (arith, first.within));
    }
