use Rattle.std.proofs.Common.{Bool, ◌||◌, sym, ap, ◌∙◌}
use Rattle.std.specs.List.{list_any}
use Rattle.wire.specs.Items.{items_of}
use Rattle.ssu_compat.specs.Compat.{entry}
use Rattle.ssu_audit.specs.Ending.{is_for_none}
use Rattle.ssu_audit.proofs.hardware.has_apart.Goals as goal

pub returns-then-is_for_none : goal.returns-then-is_for_none
returns-then-is_for_none c =
    let test = is_for_none c.args.dsi.now.groups in
    sym (
    sym c.loop-entry.invariant
    ∙ ap (list_any test) c.in-Some.ensures.steps
    ∙ ap (λ (b : Bool). b || list_any test (items_of entry c.next.new.self)) (sym c.is_for_none.ensures ∙ c.if-is_for_none.true))
