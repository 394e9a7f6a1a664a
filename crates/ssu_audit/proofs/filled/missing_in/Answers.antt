use Rattle.std.proofs.Common.{◌≡◌, true, not, sym, ap, ◌∙◌, arith}
use Rattle.std.specs.Option.{is_some}
use Rattle.ssu_audit.specs.Filled.{lacks, text_at}
use Rattle.ssu_audit.specs.Kept.{block_at}
use Rattle.ssu_audit.proofs.Below.{below-found, below-none}
use Rattle.ssu_audit.proofs.Missing.{some-mapped}
use Rattle.ssu_audit.proofs.filled.missing_in.Goals as goal

pub returns-then-is_none : goal.returns-then-is_none
returns-then-is_none c =
    let kept = block_at c.args.blocks.now in
    let plan = c.args.plan.now in
    let m = c.args.module.now in
    let k = c.loop-block.block in
    let some : is_some (text_at kept plan m k) ≡ is_some c.text.result = ap is_some (sym c.text.ensures) ∙ some-mapped _ c.text.result in
    let lacked : lacks kept plan m k ≡ true = ap not (some ∙ c.is_none.ensures ∙ ap not c.if-is_none.true) in
    sym (below-found (lacks kept plan m) m.blocks k c.loop-block-test.true c.loop-block.invariant lacked)

pub returns : goal.returns
returns c =
    let kept = block_at c.args.blocks.now in
    let past = c.loop-block-test.false in
    sym (below-none (lacks kept c.args.plan.now c.args.module.now) c.args.module.now.blocks (λ k lt. c.loop-block.invariant k (omega arith)))
