use Rattle.std.proofs.Common.{◌≡◌, ap, sym, ◌∙◌, take, drop}
use Rattle.std.proofs.lemmas.List.{take_min, drop_min}
use Rattle.ts_section.proofs.CutPackets.{left_first}
use Rattle.ts_section.proofs.section_packets.SectionPackets.first.Goals as goal

pub returns : goal.returns
returns c =
    let rest = c.self.inside.rest.now in
    let front : c.split_at.result.0.now ≡ take 183 rest = c.split_at.ensures.front ∙ ap (λ n. take n rest) c.min.ensures ∙ take_min 183 rest in
    let behind : c.split_at.result.1.now ≡ drop 183 rest = c.split_at.ensures.back ∙ ap (λ n. drop n rest) c.min.ensures ∙ drop_min 183 rest in
    left_first c.args.self.now _ _ _ rest _ _ _ _ (sym c.self.view_is) c.requires front behind (c.as_slice.ensures.value ∙ c.payload-payload.ensures) c.write-packet.ensures.bytes
