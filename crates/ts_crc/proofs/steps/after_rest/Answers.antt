use Rattle.std.proofs.Common.{◌+◌, get_or, drop, sym, ap, ◌∙◌}
use Rattle.std.proofs.lemmas.List.{drop_more, drop_all}
use Rattle.ts_crc.specs.Crc.{after_bytes}
use Rattle.ts_crc.proofs.CrcLaws.{after_none, after_more}
use Rattle.ts_crc.proofs.steps.after_rest.Goals as goal

pub loop-byte-preserved : goal.loop-byte-preserved
loop-byte-preserved c =
    let i = c.loop-byte.byte-index in
    let bytes = c.args.bytes.now in
    ap (λ r. after_bytes r (drop (i + 1) bytes)) c.with_byte-now.ensures
    ∙ sym (after_more c.loop-byte.now (get_or bytes i 0) (drop (i + 1) bytes))
    ∙ ap (after_bytes c.loop-byte.now) (sym (drop_more bytes i 0 c.loop-byte-test.true))
    ∙ c.loop-byte.invariant

pub returns : goal.returns
returns c =
    sym (after_none c.loop-byte.now)
    ∙ ap (after_bytes c.loop-byte.now) (sym (drop_all c.loop-byte.byte-index c.args.bytes.now c.loop-byte-test.false))
    ∙ c.loop-byte.invariant
