use Rattle.std.proofs.Common.{arith, append-nil, ◌++◌, sym, ◌∙◌, ap, length-append}
use Rattle.ts_section.proofs.Pieces.{front, front_right, right-front, right_of-right, right_of-wrong}
use Rattle.ts_section.proofs.section_out.SectionOut.put_front.Goals as goal

pub slice_bounds-section-end : goal.slice_bounds-section-end
slice_bounds-section-end c = sym (front c.args.text.now c.args.len c.requires.whole c.requires.end).size

pub is_right-requires : goal.is_right-requires
is_right-requires c = let known = front c.args.text.now c.args.len c.requires.whole c.requires.end in omega arith

pub put-requires-clause-fits : goal.put-requires-clause-fits
put-requires-clause-fits c =
    let known = front c.args.text.now c.args.len c.requires.whole c.requires.end in
    let sizes = right-front c.args.text.now c.args.len c.requires.whole c.requires.end (sym c.is_right.ensures.test ∙ c.if-is_right.true) in
    omega arith

pub put-requires-clause-right : goal.put-requires-clause-right
put-requires-clause-right c =
    front_right c.args.text.now c.args.len c.requires.whole c.requires.end (sym c.is_right.ensures.test ∙ c.if-is_right.true)

pub returns-then-is_right-clause-heard : goal.returns-then-is_right-clause-heard
returns-then-is_right-clause-heard c =
    let one = right_of-right c.args.text.now c.args.len c.requires.whole c.requires.end (sym c.is_right.ensures.test ∙ c.if-is_right.true) in
    c.put.ensures ∙ ap (λ v. c.args.self.now ++ v) (sym one)

pub returns-then-is_right-clause-grows : goal.returns-then-is_right-clause-grows
returns-then-is_right-clause-grows c =
    let sizes = right-front c.args.text.now c.args.len c.requires.whole c.requires.end (sym c.is_right.ensures.test ∙ c.if-is_right.true) in
    rw (c.put.ensures, length-append) (omega arith)

pub returns-else-is_right-clause-heard : goal.returns-else-is_right-clause-heard
returns-else-is_right-clause-heard c =
    let none = right_of-wrong c.args.text.now c.args.len c.requires.whole c.requires.end (sym c.is_right.ensures.test ∙ c.if-is_right.false) in
    rw none (sym (append-nil _))
