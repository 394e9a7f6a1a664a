use Rattle.std.proofs.Common.{◌≡◌, ◌<◌, length, arith, ap, sym, ◌∙◌, get_or}
use Rattle.std.proofs.lemmas.List.{get_or_default, get_or-set_same}
use Rattle.ts_section.proofs.PidPlaces.{first-only}
use Rattle.ts_section.proofs.kept.move_one.Goals as goal

pub returns-in-Some-clause-kept : goal.returns-in-Some-clause-kept
returns-in-Some-clause-kept c from other first =
    let room : c.args.at < length c.args.spare.now.items = omega (arith, c.args.spare.now.ok) in
    let within : c.in-Some.from < length c.args.streams.now.items = omega (arith, c.args.streams.now.ok, c.in-Some.ensures.within) in
    let same : from ≡ c.in-Some.from = first-only c.args.known.now.items c.args.pid from c.in-Some.from first c.in-Some.ensures.found in
    get_or-set_same c.args.spare.now.items c.args.at c.swap.new.y other room
    ∙ c.swap.ensures.y_after
    ∙ c.index_mut.ensures.value
    ∙ get_or_default c.args.streams.now.items c.in-Some.from c.index_mut.result.now other within
    ∙ ap (λ k. get_or c.args.streams.now.items k other) (sym same)
