use Rattle.std.proofs.Common.{◌++◌, ◌-◌, ◌==◌, length, ap, ◌∙◌, subst, ◌<◌, ℕ}
use Rattle.ts_packet.specs.Packet.{usable, packet_bytes, adaptation_field, header}
use Rattle.ts_packet.proofs.Written.{usable-packet_bytes}
use Rattle.ts_packet.proofs.writing.write.Goals as goal

pub returns-clause-bytes : goal.returns-clause-bytes
unfolding packet_bytes
returns-clause-bytes c =
    let payload = c.args.payload.now in
    let alone = length payload == 184 in
    c.put_parts.ensures
    ∙ ap (λ xs. xs ++ adaptation_field (184 - length payload) ++ payload)
    (c.header.ensures ∙ ap (λ n. header n c.args.counter c.args.start alone) c.get.ensures.number)

pub returns-clause-read_back : goal.returns-clause-read_back
returns-clause-read_back c =
    let below = λ (n : ℕ). n < 8192 in
    ap usable (returns-clause-bytes c)
    ∙ usable-packet_bytes c.args.pid c.args.counter c.args.start c.args.payload.now
    (subst below c.get.ensures.number c.get.ensures.bound)
    c.requires.counter c.requires.some c.requires.few c.requires.pointer
