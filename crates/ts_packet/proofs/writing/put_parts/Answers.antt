use Rattle.std.proofs.Common.{◌-◌, ◌++◌, length, ap, ap₂, ◌∙◌, arith}
use Rattle.std.proofs.lemmas.List.{length-replicate}
use Rattle.ts_packet.specs.Packet.{adaptation_field}
use Rattle.ts_packet.proofs.Written.{behind_header, stuffing_all, parts, length-adaptation_field}
use Rattle.ts_packet.proofs.writing.put_parts.Goals as goal

pub put_adaptation_field-requires-clause-stuffing :
    goal.put_adaptation_field-requires-clause-stuffing
put_adaptation_field-requires-clause-stuffing c =
    stuffing_all _ _ (behind_header _ c.args.packet.now (188 - length c.args.payload.now - 4)
    (ap length c.copy_from_slice.ensures.after ∙ c.requires.four) c.requires.stuffing (omega arith))

pub returns : goal.returns
returns c =
    let n = 188 - length c.args.payload.now - 4 in
    let four = ap length c.copy_from_slice.ensures.after ∙ c.requires.four in
    let behind = behind_header c.copy_from_slice.new.self c.args.packet.now n four c.requires.stuffing (omega arith) in
    let long = ap length behind ∙ length-replicate n 255 in
    let field = c.put_adaptation_field.ensures ∙ ap adaptation_field long in
    parts c.copy_from_slice.new.self c.args.packet.now c.put_adaptation_field.new.field c.copy_from_slice-2.new.self n
    (188 - length c.args.payload.now) four c.requires.stuffing (omega arith) (omega arith)
    (ap length field ∙ length-adaptation_field n)
    ∙ ap₂ (λ xs ys. xs ++ ys ++ c.copy_from_slice-2.new.self) c.copy_from_slice.ensures.after field
    ∙ ap₂ (λ m ys. c.args.header.now ++ adaptation_field m ++ ys) (omega arith) c.copy_from_slice-2.ensures.after
