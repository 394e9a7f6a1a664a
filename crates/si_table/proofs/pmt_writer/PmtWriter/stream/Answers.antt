use Rattle.std.proofs.Common.{◌≡◌, ◌∙◌, ◌++◌, ap, List, ℕ, refl, arith}
use Rattle.si_table.specs.Tables.{StreamFields, stream}
use Rattle.si_table.specs.Written.{stream_bytes}
use Rattle.si_table.proofs.Back.{stream_put, row_more, row_add}
use Rattle.si_table.proofs.pmt_writer.PmtWriter.stream.Goals as goal

pub invariant_of-self-2 : goal.invariant_of-self-2
invariant_of-self-2 c =
    let s : StreamFields = record { kind = c.args.kind; pid = c.get-pid.result; info = c.args.info.now } in
    let spelled : stream.Spells s (stream_bytes s) = stream_put s (omega arith) (omega (arith, c.get-pid.ensures.bound)) (omega arith) c.requires in
    let old = c.self.inside.streams.items in
    let all : c.extend_from_slice.new.self.items ≡ old ++ stream_bytes s = (c.in_ok-extend_from_slice.ensures {u = tt}).items ∙ ap (λ (u : List ℕ). old ++ u) (c.deref.ensures.value ∙ c.in_ok-piece.ensures {u = tt}) in
    rw all (row_add old s (stream_bytes s) c.self.invariant spelled (omega (arith, c.self.inside.streams.ok)))

pub returns-clause-ok : goal.returns-clause-ok
returns-clause-ok c =
    let s : StreamFields = record { kind = c.args.kind; pid = c.get-pid.result; info = c.args.info.now } in
    let spelled : stream.Spells s (stream_bytes s) = stream_put s (omega arith) (omega (arith, c.get-pid.ensures.bound)) (omega arith) c.requires in
    let old = c.self.inside.streams.items in
    let all : c.extend_from_slice.new.self.items ≡ old ++ stream_bytes s = (c.in_ok-extend_from_slice.ensures {u = tt}).items ∙ ap (λ (u : List ℕ). old ++ u) (c.deref.ensures.value ∙ c.in_ok-piece.ensures {u = tt}) in
    let more = row_more old s (stream_bytes s) c.self.invariant spelled in
    rw (← c.self.view_is, all, more, c.get-pid.ensures.number) refl
