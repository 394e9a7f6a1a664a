use Rattle.tool_sample.proofs.FileLaws.{modules_push}
use Rattle.tool_sample.proofs.modules.modules.Goals as goal

pub loop-k-preserved : goal.loop-k-preserved
loop-k-preserved c =
    modules_push (λ f. f.items) c.loop-k.files.items c.push.new.self.items c.in_ok-module.field-0 c.args.number c.loop-k.k c.in_ok-push.ensures.items
    c.in_ok-module.ensures c.loop-k.invariant
