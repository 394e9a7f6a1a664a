use Rattle.std.proofs.Common.{arith, ◌≡◌, ◌≤◌, ◌&&◌, true, false, sym, ◌∙◌, ap, ◌∷◌, [], ◌++◌, append-nil, length, length-drop, drop}
use Rattle.section_form.specs.Section.{section_end}
use Rattle.ts_section.specs.Sections.{has_section, starts_behind}
use Rattle.ts_section.specs.Steps.{right_of, unfinished, is_start}
use Rattle.ts_section.proofs.PayloadStarts.{starts_behind-drop, heard-next, unfinished-next, starts-end}
use Rattle.ts_section.proofs.starts.put_whole.Goals as goal

pub loop-len-init : goal.loop-len-init
loop-len-init c = record {
  within = omega arith;
  room = omega arith;
  heard = ap (λ v. c.args.each.now ++ right_of v) (sym (starts_behind-drop c.args.payload.now c.args.pointed));
  unfinished_left = ap unfinished (sym (starts_behind-drop c.args.payload.now c.args.pointed));
}

pub loop-len-preserved : goal.loop-len-preserved
loop-len-preserved c =
    let rest = drop c.loop-len.at c.args.payload.now in
    let starts : is_start rest ≡ true = rw (← c.rest_from.ensures) c.in-Some.ensures.whole.0 in
    let whole : has_section rest ≡ true = rw (← c.rest_from.ensures) c.in-Some.ensures.whole.1 in
    let end : c.in-Some.len ≡ section_end rest = rw (← c.rest_from.ensures) c.in-Some.ensures.len in
    let fits : c.in-Some.len ≤ length rest = rw (← c.rest_from.ensures) c.in-Some.ensures.fits in
    let heard : c.put_front.new.self ≡ c.loop-len.each ++ right_of (rest ∷ []) = rw (← c.rest_from-in-Some.ensures) c.put_front.ensures.heard in
    let grown = c.put_front.ensures.grows in
    let size = length-drop c.loop-len.at c.args.payload.now in
    record {
      within = omega arith;
      room = omega arith;
      heard = heard-next c.args.payload.now c.loop-len.at c.in-Some.len c.loop-len.each c.put_front.new.self
          (c.args.each.now ++ right_of (starts_behind c.args.payload.now c.args.pointed)) starts whole end heard c.loop-len.invariant.heard;
      unfinished_left = unfinished-next c.args.payload.now c.loop-len.at c.in-Some.len
          (unfinished (starts_behind c.args.payload.now c.args.pointed)) starts whole end c.loop-len.invariant.unfinished_left;
    }

pub returns-clause-heard : goal.returns-clause-heard
returns-clause-heard c =
    let rest = drop c.loop-len.at c.args.payload.now in
    let none : (is_start rest && has_section rest) ≡ false = rw (← c.rest_from.ensures) c.in_default.ensures.whole in
    let told = rw (starts-end rest none).0 at c.loop-len.invariant.heard in
    sym (append-nil _) ∙ told

pub returns-clause-rest : goal.returns-clause-rest
returns-clause-rest c =
    let rest = drop c.loop-len.at c.args.payload.now in
    let none : (is_start rest && has_section rest) ≡ false = rw (← c.rest_from.ensures) c.in_default.ensures.whole in
    sym c.loop-len.invariant.unfinished_left ∙ (starts-end rest none).1
