use Rattle.std.proofs.Common.{List, ap, ◌∙◌, arith}
use Rattle.std.proofs.lemmas.Bool.{false≢true, le-leb}
use Rattle.flash_remap.specs.Map.{place_among}
use Rattle.flash_remap.specs.Shape.{geometry}
use Rattle.flash_remap.specs.declared.entry.Entry.{Entry}
use Rattle.flash_remap.proofs.remap.Remap.of.Goals as goal

pub invariant_of-result-clause-stands : goal.invariant_of-result-clause-stands
invariant_of-result-clause-stands g c tells not block lt =
    ap (λ (es : List Entry). place_among (geometry c.args.layout) es block) (c.requires.entries tells)

pub invariant_of-result-clause-in_use : goal.invariant_of-result-clause-in_use
invariant_of-result-clause-in_use g c =
    let next = c.args.found.next.spare in
    c.requires.next_is.above next ∙ le-leb next next (omega arith)

pub invariant_of-result-clause-next_is : goal.invariant_of-result-clause-next_is
invariant_of-result-clause-next_is g c tells not = c.requires.next tells

pub invariant_of-result-clause-used_up : goal.invariant_of-result-clause-used_up
invariant_of-result-clause-used_up g c worn = absurd (false≢true worn)
