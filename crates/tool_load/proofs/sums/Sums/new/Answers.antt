use Rattle.std.proofs.Common.{[], ◌∷◌, List, ap}
use Rattle.std.proofs.lemmas.List.Elements.{All-same}
use Rattle.tool_load.specs.declared.sums.Sum.{Sum}
use Rattle.tool_load.specs.Growing.{IsSum}
use Rattle.tool_load.proofs.GrowingLaws.{sums_none}
use Rattle.tool_load.proofs.sums.Sums.new.Goals as goal

pub returns : goal.returns
returns c = λ image.
    let none = c.empty_at.result in
    All-same (IsSum c.args.plan.now image) (none ∷ c.in_ok-done.done.items) (none ∷ []) (ap (λ (xs : List Sum). none ∷ xs) c.in_ok-done.ensures.items)
    (sums_none c.args.plan.now image none c.empty_at.ensures)
