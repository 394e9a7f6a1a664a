use Rattle.std.proofs.Common.{List, sym, subst}
use Rattle.std.proofs.lemmas.List.Elements.{All-same, All-tail}
use Rattle.std.specs.Prelude.{All}
use Rattle.tool_load.specs.declared.sums.Sum.{Sum}
use Rattle.tool_load.specs.Growing.{IsCrcIn}
use Rattle.tool_load.proofs.sums.Sums.of.Goals as goal

pub returns : goal.returns
returns c = λ buffer all.
    let done = c.self.inside.done.items in
    let every = subst (λ (xs : List Sum). All (IsCrcIn buffer) xs) (sym c.self.view_is) all in
    c.found_in.ensures buffer
    (All-same (IsCrcIn buffer) c.as_slice.result.now done c.as_slice.ensures.value (All-tail (IsCrcIn buffer) c.self.inside.last done every))
