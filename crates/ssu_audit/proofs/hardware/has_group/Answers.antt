use Rattle.std.proofs.Common.{Bool, ◌||◌, sym, ap, ◌∙◌}
use Rattle.std.specs.List.{list_any}
use Rattle.wire.specs.Items.{items_of}
use Rattle.dsmcc_msg.specs.Control.{group_entry}
use Rattle.ssu_compat.specs.View.{view}
use Rattle.ssu_audit.specs.Ending.{is_for}
use Rattle.ssu_audit.proofs.hardware.has_group.Goals as goal

pub returns-then-matches : goal.returns-then-matches
returns-then-matches c =
    let e = view c.args.entry.now in
    let rest = items_of group_entry c.next.new.self in
    sym (
    sym c.loop-group.invariant
    ∙ ap (list_any (is_for e)) c.in-Some.ensures.steps
    ∙ ap (λ (b : Bool). b || list_any (is_for e) rest) (sym c.matches.ensures ∙ c.if-matches.true))
