use Rattle.std.proofs.Common.{ℕ, List, [], ◌∷◌, ◌++◌, arith, add-one, ap, sym, ◌∙◌}
use Rattle.std.specs.List.{range_with_len}
use Rattle.due_wheel.proofs.Times.{range_more}
use Rattle.due_wheel.proofs.links.own_neighbours.Goals as goal

pub loop-node-preserved : goal.loop-node-preserved
loop-node-preserved c =
    let more = range_more 0 c.loop-node.node c.loop-node.node (omega arith) in
    c.in_ok-push.ensures.items ∙ ap (λ (v : List ℕ). v ++ c.loop-node.node ∷ []) c.loop-node.invariant ∙ sym more ∙ ap (range_with_len 0) (let e = add-one in sym (e c.loop-node.node))
