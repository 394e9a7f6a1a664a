use Rattle.std.proofs.Common.{List, sym, subst}
use Rattle.std.specs.Prelude.{All}
use Rattle.tool_load.specs.declared.sums.Sum.{Sum}
use Rattle.tool_load.specs.Growing.{IsSum}
use Rattle.tool_load.proofs.GrowingLaws.{all_kept, sum_first, sums_begun, sums_longer}
use Rattle.tool_load.proofs.sums.Sums.take.Goals as goal

pub returns-then-len-lt-MIN_JOINED : goal.returns-then-len-lt-MIN_JOINED
returns-then-len-lt-MIN_JOINED c = λ plan old new fills all. all_kept plan old new c.args.place c.args.bytes.now c.args.self.now fills all

pub returns-in-Some : goal.returns-in-Some
returns-in-Some c = λ plan old new fills all.
    let place = c.args.place in
    let bytes = c.args.bytes.now in
    let was = subst (λ (xs : List Sum). All (IsSum plan old) xs) (sym c.self.view_is) all in
    sums_begun plan old new place bytes c.self.inside.last c.in-Some.sum c.self.inside.done.items c.keep.new.done.items fills c.keep.ensures was
    (sum_first plan old new place bytes c.empty_at.result c.in-Some.sum fills c.empty_at.ensures c.in-Some.ensures)

pub returns-in_default : goal.returns-in_default
returns-in_default c = λ plan old new fills all. all_kept plan old new c.args.place c.args.bytes.now c.args.self.now fills all

pub returns-in-Some-with_place : goal.returns-in-Some-with_place
returns-in-Some-with_place c = λ plan old new fills all.
    let was = subst (λ (xs : List Sum). All (IsSum plan old) xs) (sym c.self.view_is) all in
    sums_longer plan old new c.args.place c.args.bytes.now c.self.inside.last c.in-Some-with_place.sum c.self.inside.done.items fills was c.in-Some-with_place.ensures

pub returns-in_default-with_place : goal.returns-in_default-with_place
returns-in_default-with_place c = λ plan old new fills all. all_kept plan old new c.args.place c.args.bytes.now c.args.self.now fills all
