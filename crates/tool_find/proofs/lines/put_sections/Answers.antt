use Rattle.std.proofs.Common.{arith, map}
use Rattle.std.proofs.lemmas.Result.{err_from_is_err_and}
use Rattle.ts_input.proofs.Pieces.{pieces_step, pieces_failed}
use Rattle.tool_find.specs.Lines.{section_line}
use Rattle.tool_find.proofs.Pieces.{line_of}
use Rattle.tool_find.proofs.lines.put_sections.Goals as goal

pub returns-in_err-put_section-clause-failed : goal.returns-in_err-put_section-clause-failed
returns-in_err-put_section-clause-failed g c =
    let got = g.T.Sink.contents in
    let line = section_line c.args.number c.args.pid in
    let p = err_from_is_err_and c.from_residual.result c.from_residual.ensures.1 in
    rw p.1
    (pieces_failed (got c.args.out.now) (got c.loop-k.out) (got c.put_section.new.out) c.args.waiting.now c.loop-k.waiting (line c.get.result.now) (map line c.args.each.now) c.loop-k.k
    c.loop-k.invariant.moves (line_of line c.args.each.now c.loop-k.k c.get.result.now c.get.ensures.bytes) c.in_err-put_section.ensures.failed)

pub loop-k-preserved : goal.loop-k-preserved
loop-k-preserved g c =
    let got = g.T.Sink.contents in
    let line = section_line c.args.number c.args.pid in
    record {
      moves = pieces_step (got c.args.out.now) (got c.loop-k.out) (got c.put_section.new.out) c.args.waiting.now c.loop-k.waiting c.put_section.new.waiting (line c.get.result.now) (map line c.args.each.now) c.loop-k.k
          c.loop-k.invariant.moves (line_of line c.args.each.now c.loop-k.k c.get.result.now c.get.ensures.bytes) c.in_ok-put_section.ensures.ok;
      later = omega (arith, c.loop-k.invariant.later, c.put_section.ensures.cause.later);
    }
