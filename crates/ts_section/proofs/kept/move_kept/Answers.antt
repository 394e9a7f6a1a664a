use Rattle.std.proofs.Common.{◌≡◌, ◌<◌, length, arith, ap, ◌∙◌, get_or}
use Rattle.std.proofs.lemmas.List.{get_or_default}
use Rattle.ts_section.proofs.Hearers.{kept_more, fresh_more, waiting_more}
use Rattle.ts_section.proofs.kept.move_kept.Goals as goal

pub loop-at-preserved : goal.loop-at-preserved
loop-at-preserved c =
    let pids = c.args.pids.now.items in
    let known = c.args.known.now.items in
    let i = c.loop-at.at in
    let n = c.get.result in
    let within : i < length pids = omega arith in
    let number : n ≡ get_or pids i 0 =
    c.get.ensures.number ∙ c.index-deref-at.is ∙ ap (λ xs. get_or xs i c.index-deref-at.result) c.deref.ensures.0
    ∙ get_or_default pids i c.index-deref-at.result 0 within in
    record {
      kept = kept_more known pids i n c.args.streams.now.items c.loop-at.streams.items c.loop-at.spare.items c.move_one.new.spare.items number
          c.loop-at.invariant.kept c.loop-at.invariant.waiting c.move_one.ensures.kept c.move_one.ensures.others_spare;
      fresh = fresh_more known pids i n c.loop-at.spare.items c.move_one.new.spare.items number
          c.loop-at.invariant.fresh c.move_one.ensures.fresh c.move_one.ensures.others_spare;
      waiting = waiting_more known pids i n c.args.streams.now.items c.loop-at.streams.items c.move_one.new.streams.items number
          c.loop-at.invariant.waiting c.move_one.ensures.others;
      sixteen = c.move_one.ensures.sixteen;
      sixteen_spare = c.move_one.ensures.sixteen_spare;
    }

pub returns-clause-fresh : goal.returns-clause-fresh
returns-clause-fresh c pid at other first gone =
    let within = first.within in
    let ends : at < c.loop-at.at = omega arith in
    c.loop-at.invariant.fresh pid at other ends first gone
