use Rattle.std.proofs.Common.{List, Option, Some, None, sym, subst}
use Rattle.audit_answer.specs.declared.answers.AuditNo.{AuditNo}
use Rattle.dsmcc_msg.specs.Control.{GroupFields}
use Rattle.ssu_audit.specs.Ending.{AgainstGroup, AgainstGroups}
use Rattle.ssu_audit.proofs.Groups.{groups-found, groups-later, groups-none}
use Rattle.ssu_audit.proofs.ending.against_groups.Goals as goal

pub returns-in-Some-against_group : goal.returns-in-Some-against_group
returns-in-Some-against_group c = λ calls h.
    let g = c.in-Some.group in
    let own = subst (λ (o : Option AuditNo). AgainstGroup calls g.id g.size o) c.in-Some-against_group.is (c.against_group.ensures calls h) in
    c.loop-group.invariant calls (Some c.in-Some-against_group.no) h
    (subst (λ (gs : List GroupFields). AgainstGroups calls gs (Some c.in-Some-against_group.no)) (sym c.in-Some.ensures.steps) (groups-found calls _ _ c.in-Some-against_group.no own))

pub loop-group-preserved : goal.loop-group-preserved
loop-group-preserved c = λ calls answer h later.
    let g = c.in-Some.group in
    let own = subst (λ (o : Option AuditNo). AgainstGroup calls g.id g.size o) c.in_default.is (c.against_group.ensures calls h) in
    c.loop-group.invariant calls answer h
    (subst (λ (gs : List GroupFields). AgainstGroups calls gs answer) (sym c.in-Some.ensures.steps) (groups-later calls _ _ answer own later))

pub returns : goal.returns
returns c = λ calls h.
    c.loop-group.invariant calls None h (subst (λ (gs : List GroupFields). AgainstGroups calls gs None) (sym c.in-None.ensures.steps.0) (groups-none calls))
