use Rattle.std.proofs.Common.{ap, sym, ◌∙◌}
use Rattle.ts_section.specs.Events.{is_among}
use Rattle.ts_section.proofs.Spans.{is_listened-listen}
use Rattle.ts_section.proofs.Hearers.{moved}
use Rattle.ts_section.proofs.SamePids.{relisten}
use Rattle.ts_section.proofs.hearer.Hearer.listen.Goals as goal

pub returns-then-are_same : goal.returns-then-are_same
returns-then-are_same c = record {
  stands = λ events stands.
      relisten c.args.self.now c.args.pids.now.items events (λ pid. stands.listens pid ∙ ap (is_among pid) (sym c.deref.ensures.0 ∙ c.are_same.ensures c.if-are_same.true ∙ c.deref-2.ensures.0)) stands;
}

pub returns : goal.returns
returns c = record {
  stands = λ events stands. record {
    listens = λ pid. is_listened-listen pid c.args.pids.now.items events ∙ ap (is_among pid) (sym c.set_pids.ensures);
    streams = rw (c.set_pids.ensures, c.swap.ensures.x_after) (moved c.args.self.now.pids.items c.args.pids.now.items
        c.args.self.now.streams.items c.move_kept.new.spare.items events stands.listens stands.streams
        c.move_kept.ensures.kept c.move_kept.ensures.fresh);
  };
}
