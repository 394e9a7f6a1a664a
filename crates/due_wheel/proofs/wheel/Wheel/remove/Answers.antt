use Rattle.std.proofs.Common.{sym}
use Rattle.due_wheel.proofs.BucketLaws.{out_buckets}
use Rattle.due_wheel.proofs.wheel.Wheel.remove.Goals as goal

pub invariant_of-self : goal.invariant_of-self
invariant_of-self c =
    out_buckets _ _ _ _ c.self.invariant c.args.item c.in_ok-due.due (sym c.in_ok-due.ensures) _ _ c.unlink.ensures.dues c.unlink.ensures.lists (λ other lies apart e. c.self.invariant.above other lies e)
