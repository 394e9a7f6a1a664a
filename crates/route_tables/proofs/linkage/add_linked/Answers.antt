use Rattle.std.proofs.Common.{List, Option, map, sym, ap, ◌∙◌}
use Rattle.std.specs.List.{cons_option}
use Rattle.si_desc.specs.declared.linkages.ServiceRef.{ServiceRef}
use Rattle.si_desc.specs.Views.{desc_view}
use Rattle.route_tables.specs.Said.{linked_services}
use Rattle.route_tables.specs.Next.{add_services}
use Rattle.route_tables.specs.Standing.{service_view}
use Rattle.route_tables.proofs.Rows.{linked_more, linked_none}
use Rattle.route_tables.proofs.linkage.add_linked.Goals as goal

pub loop-desc-preserved-in-Some-linked : goal.loop-desc-preserved-in-Some-linked
unfolding add_services
loop-desc-preserved-in-Some-linked c =
    let oui = c.args.oui in
    let kept = map service_view c.loop-desc.services.items in
    let later = linked_services oui c.next.new.self in
    let more = linked_more oui c.loop-desc.desc-iterator c.next.new.self (desc_view c.in-Some.desc) c.in-Some.ensures.steps in
    let one = ap (λ (o : Option ServiceRef). add_services kept (cons_option o later)) c.in-Some-linked.ensures in
    ap (λ (ss : List ServiceRef). add_services ss later) c.add.ensures
    ∙ one ∙ ap (add_services kept) (sym more) ∙ c.loop-desc.invariant

pub loop-desc-preserved : goal.loop-desc-preserved
loop-desc-preserved c =
    let oui = c.args.oui in
    let kept = map service_view c.loop-desc.services.items in
    let later = linked_services oui c.next.new.self in
    let more = linked_more oui c.loop-desc.desc-iterator c.next.new.self (desc_view c.in-Some.desc) c.in-Some.ensures.steps in
    let one = ap (λ (o : Option ServiceRef). add_services kept (cons_option o later)) c.in_default.ensures in
    one ∙ ap (add_services kept) (sym more) ∙ c.loop-desc.invariant

pub returns : goal.returns
unfolding add_services
returns c =
    let kept = map service_view c.loop-desc.services.items in
    ap (add_services kept) (sym (linked_none c.args.oui c.loop-desc.desc-iterator c.in-None.ensures.steps.0)) ∙ c.loop-desc.invariant
