use Rattle.std.proofs.Common.{Contains, inl, inr, refl}
use Rattle.ssu_io.specs.Faults.{raised}
use Rattle.ssu_io.proofs.mem_sink.MemSinkSink.put.Goals as goal

pub returns-then-is_listed-clause-short : goal.returns-then-is_listed-clause-short
returns-then-is_listed-clause-short c =
    let listed : Contains c.self.inside.fails.items (raised c.self.inside.calls) =
    rw (← c.deref.ensures.value, ← c.one_more-self-inside.ensures) (c.if-is_listed.ensures.0 refl) in
    rw (← c.self.view_is) (λ short. inl short, λ short. elim short [ inl was ↦ was | inr failed ↦ absurd (failed.1 listed) ])
