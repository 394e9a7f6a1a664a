use Rattle.std.proofs.Common.{Bool, ◌||◌, sym, ap, ◌∙◌}
use Rattle.std.specs.List.{list_any}
use Rattle.wire.specs.Items.{items_of}
use Rattle.ssu_unt.specs.Table.{platform}
use Rattle.ssu_audit.specs.Ending.{has_apart}
use Rattle.ssu_audit.proofs.hardware.is_apart.Goals as goal

pub returns-then-has_apart : goal.returns-then-has_apart
returns-then-has_apart c =
    let test = has_apart c.args.dsi.now.groups in
    sym (
    sym c.loop-platform.invariant
    ∙ ap (list_any test) c.in-Some.ensures.steps
    ∙ ap (λ (b : Bool). b || list_any test (items_of platform c.next.new.self)) (sym c.has_apart.ensures ∙ c.if-has_apart.true))
