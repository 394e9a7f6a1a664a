use Rattle.std.proofs.Common.{◌∷◌, sym, ◌∙◌}
use Rattle.section_kind.proofs.NoKind.{of_no_kind}
use Rattle.route_tables.specs.Next.{heard_on}
use Rattle.ssu_route.proofs.Standstill.{no_kind_stays, same_answer, unlistened_stays}
use Rattle.ssu_route.proofs.route.Route.hear.Goals as goal

pub returns-clause-no_kind : goal.returns-clause-no_kind
returns-clause-no_kind c = λ me heard stands running none.
    let item = heard_on c.args.pid c.args.section.now in
    let heard_so = c.hear-2.ensures.heard me heard stands.terms running (c.carousel-before.ensures me heard stands.tables)
    (c.carousel-now.ensures me (item ∷ heard) (c.hear.ensures.stands me heard stands.tables)) stands.kept in
    let stays = no_kind_stays me item heard (of_no_kind c.args.section.now none) in
    (heard_so.change ∙ sym (same_answer me item heard stays), stays)

pub returns-clause-unlistened : goal.returns-clause-unlistened
returns-clause-unlistened c = λ me heard stands running other.
    let item = heard_on c.args.pid c.args.section.now in
    let heard_so = c.hear-2.ensures.heard me heard stands.terms running (c.carousel-before.ensures me heard stands.tables)
    (c.carousel-now.ensures me (item ∷ heard) (c.hear.ensures.stands me heard stands.tables)) stands.kept in
    let stays = unlistened_stays me item heard other in
    (heard_so.change ∙ sym (same_answer me item heard stays), stays)
