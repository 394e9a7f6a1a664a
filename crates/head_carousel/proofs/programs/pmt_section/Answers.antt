use Rattle.std.proofs.Common.{◌≤◌, ◌<◌, ◌^◌, length, ap, arith}
use Rattle.si_table.specs.Written.{PmtDraft}
use Rattle.head_carousel.proofs.MadeLaws.{pmt_made}
use Rattle.head_carousel.proofs.programs.pmt_section.Goals as goal

pub returns-in-Ok-clause-right : goal.returns-in-Ok-clause-right
returns-in-Ok-clause-right c =
    let program : c.add_streams.new.writer.program < 2 ^ 16 = omega (arith, ap (λ (w : PmtDraft). w.program) c.in_ok-add_streams.ensures, ap (λ (w : PmtDraft). w.program) c.in_ok-writer.ensures, c.ranges.service) in
    let few : length c.add_streams.new.writer.bytes ≤ 1008 = omega (arith, ap (λ (w : PmtDraft). length w.bytes) c.writer.view_is, c.writer.invariant.room) in
    pmt_made c.add_streams.new.writer c.in-Ok.section.items program few c.in-Ok.ensures.made
