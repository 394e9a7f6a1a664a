use Rattle.std.proofs.Common.{◌≤◌, ap, ◌∙◌, ◌++◌, arith}
use Rattle.ts_section.proofs.CutPackets.{stuffed}
use Rattle.ts_section.proofs.section_packets.payload.Goals as goal

pub returns : goal.returns
returns c =
    let fits : c.len-room.result ≤ 184 = omega arith in
    stuffed c.append-3.new.payload.items c.append-2.new.payload.items (c.args.first.now ++ c.args.others.now) c.len-room.result
    (c.append-2.ensures ∙ ap (λ v. v ++ c.args.others.now) (c.append.ensures ∙ ap (λ v. v ++ c.args.first.now) c.new-payload.ensures))
    c.len-room.ensures.value fits c.append-3.ensures
