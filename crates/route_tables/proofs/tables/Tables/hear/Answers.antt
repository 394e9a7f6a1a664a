use Rattle.std.proofs.Common.{◌∙◌, sym}
use Rattle.route_tables.specs.Next.{heard_on}
use Rattle.route_tables.proofs.Unmoved.{elsewhere}
use Rattle.route_tables.proofs.tables.Tables.hear.Goals as goal

pub returns-else-looks_at : goal.returns-else-looks_at
returns-else-looks_at c = record {
  stands = λ me heard s.
      let still = elsewhere me (heard_on c.args.pid c.args.section.now) heard (c.looks_at.ensures me heard s c.if-looks_at.false) in
      record {
        id = s.id;
        manual = s.manual;
        service = s.service;
        services = s.services ∙ sym still.services;
        program = s.program ∙ sym still.program;
        component = s.component ∙ sym still.component;
        notice = s.notice ∙ sym still.notice;
        time = s.time ∙ sym still.time;
        carousel = s.carousel ∙ sym still.carousel;
      };
}
