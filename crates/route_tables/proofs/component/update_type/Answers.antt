use Rattle.std.proofs.Common.{ℕ, Option, sym, ap, ◌∙◌}
use Rattle.std.specs.Option.{option_or}
use Rattle.si_desc.specs.Views.{desc_view}
use Rattle.route_tables.specs.Said.{update_type_of}
use Rattle.route_tables.proofs.Rows.{type_more, type_none}
use Rattle.route_tables.proofs.component.update_type.Goals as goal

pub returns-in-Some-type_by_desc : goal.returns-in-Some-type_by_desc
returns-in-Some-type_by_desc c =
    let more = type_more c.args.oui c.loop-desc.desc-iterator c.next.new.self (desc_view c.in-Some.desc) c.in-Some.ensures.steps in
    ap (λ (o : Option ℕ). option_or o (update_type_of c.args.oui c.next.new.self)) c.in-Some-type_by_desc.ensures ∙ sym more ∙ c.loop-desc.invariant

pub loop-desc-preserved : goal.loop-desc-preserved
loop-desc-preserved c =
    let more = type_more c.args.oui c.loop-desc.desc-iterator c.next.new.self (desc_view c.in-Some.desc) c.in-Some.ensures.steps in
    ap (λ (o : Option ℕ). option_or o (update_type_of c.args.oui c.next.new.self)) c.in_default.ensures ∙ sym more ∙ c.loop-desc.invariant

pub returns : goal.returns
returns c = sym (type_none c.args.oui c.loop-desc.desc-iterator c.in-None.ensures.steps.0) ∙ c.loop-desc.invariant
