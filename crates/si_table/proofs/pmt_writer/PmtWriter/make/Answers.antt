use Rattle.std.proofs.Common.{◌≡◌, ◌∙◌, ap, List, ℕ}
use Rattle.wire.specs.Items.{items_of}
use Rattle.si_table.specs.Tables.{stream}
use Rattle.si_table.specs.Written.{pmt_body_bytes}
use Rattle.si_table.proofs.Back.{pmt_put, row_each}
use Rattle.si_table.proofs.pmt_writer.PmtWriter.make.Goals as goal

pub returns-clause-read_back : goal.returns-clause-read_back
returns-clause-read_back c =
    let w = c.self.inside in
    let body : c.deref-2.result.now ≡ pmt_body_bytes w.streams.items = c.deref-2.ensures.value ∙ c.in_ok-body.ensures {u = tt} ∙ ap (λ (u : List ℕ). pmt_body_bytes u) c.deref.ensures.value in
    let made = c.in_ok-section.ensures {u = tt} in
    rw (← c.self.view_is) (pmt_put w.program (items_of stream w.streams.items) w.streams.items c.deref-2.result.now c.in_ok-section.section.items c.self.invariant.room (row_each w.streams.items c.self.invariant) body made.bytes made.read_back)
