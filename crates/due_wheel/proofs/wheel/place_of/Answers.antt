use Rattle.std.proofs.Common.{◌≡◌, ℕ, ◌+◌, ◌-◌, ◌&&◌, false, Option, is_some, unwrap_or, ap, sym, subst, ◌∙◌, arith}
use Rattle.due_wheel.specs.Due.{due_of, is_less}
use Rattle.due_wheel.specs.Lists.{items_of}
use Rattle.due_wheel.proofs.FrontLaws.{IsPassing, passing_stands, passing_more}
use Rattle.due_wheel.proofs.wheel.place_of.Goals as goal

pub beside-at-requires : goal.beside-at-requires
beside-at-requires g c =
    let A : Option ℕ → Type 0 = λ at. IsPassing c.args.links.now.dues (items_of c.args.links.now.lists c.args.slot) c.args.due c.args.item at (c.loop-at.steps - c.args.steps.now) in
    c.requires.linked c.in-Some.other (passing_stands _ _ _ _ _ _ (subst A c.in-Some.is c.loop-at.invariant.passing))

pub loop-at-preserved : goal.loop-at-preserved
loop-at-preserved g c =
    let A : Option ℕ → Type 0 = λ at. IsPassing c.args.links.now.dues (items_of c.args.links.now.lists c.args.slot) c.args.due c.args.item at (c.loop-at.steps - c.args.steps.now) in
    let L : ℕ → Type 0 = λ looks. IsPassing c.args.links.now.dues (items_of c.args.links.now.lists c.args.slot) c.args.due c.args.item c.beside-at.result looks in
    let passing = subst A c.in-Some.is c.loop-at.invariant.passing in
    let more = c.loop-at.invariant.more in
    let step = c.beside-at.ensures.step in
    let some = c.requires.linked c.in-Some.other (passing_stands _ _ _ _ _ _ passing) in
    let test : (is_some (due_of c.args.links.now.dues c.in-Some.other) && is_less (unwrap_or (due_of c.args.links.now.dues c.in-Some.other) 0) c.in-Some.other c.args.due c.args.item) ≡ false =
    ap (λ (o : Option ℕ). is_some o && is_less (unwrap_or o 0) c.in-Some.other c.args.due c.args.item) (sym c.due.ensures) ∙ sym c.comes_before.ensures ∙ c.if-comes_before.false in
    record {
      passing = subst L (let e : c.loop-at.steps - c.args.steps.now + 1 ≡ c.beside-at.new.steps - c.args.steps.now = omega arith in e)
          (passing_more _ _ _ _ c.in-Some.other _ c.beside-at.result passing some test (c.beside-at.ensures.beside c.args.slot));
      more = omega arith;
    }
