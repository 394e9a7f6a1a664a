use Rattle.std.proofs.Common.{List, take, sym, subst, ◌∙◌}
use Rattle.ssu_audit.specs.Calls.{Call}
use Rattle.ssu_audit.specs.Standing.{Stands}
use Rattle.tool_audit.specs.Following.{onto}
use Rattle.tool_audit.proofs.CallsLaws.{fact_of_packet, onto_more}
use Rattle.tool_audit.proofs.hearing.hear_each.Goals as goal

pub hear_right-requires-clause-usable : goal.hear_right-requires-clause-usable
hear_right-requires-clause-usable c =
    let calls = c.requires.usable.0 in
    (onto c.args.notice (take c.loop-k.k c.args.each.now) calls, c.loop-k.invariant.stands calls c.requires.usable.1)

pub loop-k-preserved : goal.loop-k-preserved
loop-k-preserved c = record {
  stands = λ calls stands.
      let so_far : List Call = onto c.args.notice (take c.loop-k.k c.args.each.now) calls in
      subst (λ (cs : List Call). Stands cs c.hear_right.new.self) (sym (onto_more c.args.notice c.args.each.now calls c.loop-k.k c.get.result.now c.get.ensures.bytes))
      (c.in-Ok-None.ensures.stands so_far (c.loop-k.invariant.stands calls stands) c.in-Ok-None.field-0-is);
}

pub returns-in-Ok-Some-clause-fact : goal.returns-in-Ok-Some-clause-fact
returns-in-Ok-Some-clause-fact c = λ calls stands.
    let so_far : List Call = onto c.args.notice (take c.loop-k.k c.args.each.now) calls in
    let kept : Stands so_far c.loop-k.audit = c.loop-k.invariant.stands calls stands in
    fact_of_packet c.args.notice c.args.each.now calls c.loop-k.k c.get.result.now c.in-Ok-Some.no c.get.ensures.bytes kept.undecided
    (sym c.in-Ok-Some.field-0-is ∙ c.in-Ok-Some.ensures.answer so_far kept)
