use Rattle.std.proofs.Common.{sym, ap, ap₂, ◌∙◌, get_or, bit_xor}
use Rattle.ts_crc.specs.Crc.{after_bytes, lane}
use Rattle.ts_crc.proofs.Sixteen.{sixteen, first_sixteen}
use Rattle.ts_crc.proofs.steps.with_sixteen.Goals as goal

pub returns : goal.returns
returns c =
    let bytes = c.args.bytes.now in
    let own = c.to_be_bytes.ensures in
    let l15 = c.lane_15.ensures ∙ ap (λ l. lane 15 (bit_xor (get_or l 0 0) (get_or bytes 0 0))) own in
    let l14 = c.lane_14.ensures ∙ ap (λ l. lane 14 (bit_xor (get_or l 1 0) (get_or bytes 1 0))) own in
    let l13 = c.lane_13.ensures ∙ ap (λ l. lane 13 (bit_xor (get_or l 2 0) (get_or bytes 2 0))) own in
    let l12 = c.lane_12.ensures ∙ ap (λ l. lane 12 (bit_xor (get_or l 3 0) (get_or bytes 3 0))) own in
    ap₂ bit_xor
    (ap₂ bit_xor (ap₂ bit_xor (ap₂ bit_xor (ap₂ bit_xor (ap₂ bit_xor (ap₂ bit_xor (ap₂ bit_xor (ap₂ bit_xor (ap₂ bit_xor (ap₂ bit_xor (ap₂ bit_xor c.lane_11.ensures c.lane_10.ensures) c.lane_9.ensures) c.lane_8.ensures) c.lane_7.ensures) c.lane_6.ensures) c.lane_5.ensures) c.lane_4.ensures) c.lane_3.ensures) c.lane_2.ensures) c.lane_1.ensures) c.lane_0.ensures)
    (ap₂ bit_xor (ap₂ bit_xor (ap₂ bit_xor l15 l14) l13) l12)
    ∙ sym (ap (after_bytes c.args.register) (first_sixteen bytes c.requires)
    ∙ sixteen c.args.register _ _ _ _ _ _ _ _ _ _ _ _ _ _ _ _ c.ranges.register.fits)
