use Rattle.std.proofs.Common.{◌≡◌, ap, sym, ◌∙◌, take, drop, false}
use Rattle.std.proofs.lemmas.List.{take_min, drop_min}
use Rattle.ts_packet.specs.Packet.{packet_bytes}
use Rattle.ts_section.proofs.CutPackets.{left_later}
use Rattle.ts_section.proofs.section_packets.SectionPackets.later.Goals as goal

pub returns : goal.returns
returns c =
    let rest = c.self.inside.rest.now in
    let front : c.split_at.result.0.now ≡ take 184 rest = c.split_at.ensures.front ∙ ap (λ n. take n rest) c.min.ensures ∙ take_min 184 rest in
    let behind : c.split_at.result.1.now ≡ drop 184 rest = c.split_at.ensures.back ∙ ap (λ n. drop n rest) c.min.ensures ∙ drop_min 184 rest in
    let later : c.self.inside.is_first ≡ false = cc in
    left_later c.args.self.now _ _ _ rest _ _ _ _ (sym c.self.view_is) c.requires.later c.requires.some front behind
    (c.as_slice.ensures.value ∙ c.payload-payload.ensures)
    (c.write-packet.ensures.bytes ∙ ap (λ start. packet_bytes c.self.inside.pid c.self.inside.counter start c.as_slice.result.now) (sym later))
