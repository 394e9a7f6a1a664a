-- What goes through a channel of the packets that are sent.
use Rattle.std.proofs.Common.{◌≡◌, ℕ, ◌+◌, ◌*◌, ◌<◌, ◌≤◌, List, [], ◌++◌, length, Some, sym, ap, subst, ◌∙◌, arith, append-nil, length-append}
use Rattle.std.specs.List.{All, concat}
use Rattle.air_channel.specs.Aired.{aired, aired_bytes}
use Rattle.broadcast.specs.Broadcasts.{AreFewSent}
use Rattle.broadcast.specs.Making.{IsListingFault, IsMakingFault}
use Rattle.broadcast.specs.Packets.{Broadcast, aired_packets, sent_packets}
use Rattle.broadcast.specs.declared.fault.ChainFault.{ChainFault}
use Rattle.broadcast.specs.declared.fault.ChainFault.TheVariants.{Boot, Build, Load, Memory}
use Rattle.broadcast.proofs.PacketLaws.{IsPacketLong, bytes_long, packets_back}
use Rattle.head_carousel.specs.Sections.{sections_of}
use Rattle.head_mux.specs.Sent.{sent}
use Rattle.ts_input.specs.Packets.{most_packets, packets}
use Rattle.ts_input.specs.Puts.{Puts, PutsOfMost}

pub record IsWholeAired (b : Broadcast) (got : List ℕ) : Type 0 where
  pub bytes : got ≡ concat (aired_packets b)
  pub few : AreFewSent b

pub whole_aired : (b : Broadcast) (bytes rest before got : List ℕ) → All IsPacketLong (sent_packets b) → bytes ≡ concat (sent_packets b) → rest ≡ [] → before ≡ []
    → Puts (aired_bytes b.script) (Some bytes) (Some rest) (Some before) (Some got) → IsWholeAired b got
unfolding aired_packets
whole_aired b bytes rest before got long is none empty puts =
    let takes : bytes ≡ puts.taken ++ rest = puts.takes in
    let all : bytes ≡ puts.taken = takes ∙ ap (λ (r : List ℕ). puts.taken ++ r) none ∙ append-nil puts.taken in
    let own : packets puts.taken ≡ sent_packets b = ap packets (sym all ∙ is) ∙ packets_back (sent_packets b) long in
    let got_is : got ≡ before ++ aired_bytes b.script (packets puts.taken) = puts.puts in
    let within : length puts.taken ≤ 188 * most_packets = puts.within in
    let size = bytes_long (sent_packets b) long in
    let same = ap (λ (r : List ℕ). length r) (sym all ∙ is) in
    record {
      bytes = got_is ∙ ap (λ (old : List ℕ). old ++ aired_bytes b.script (packets puts.taken)) empty ∙ ap (λ (ps : List (List ℕ)). concat (aired b.script ps)) own;
      few = omega (arith, within, size, same);
    }

pub many_sent : (b : Broadcast) (bytes rest before got : List ℕ) → All IsPacketLong (sent_packets b) → bytes ≡ concat (sent_packets b)
    → PutsOfMost (aired_bytes b.script) (Some bytes) (Some rest) (Some before) (Some got) → most_packets < length (sent_packets b)
many_sent b bytes rest before got long is puts =
    let takes : bytes ≡ puts.taken ++ rest = puts.takes in
    let one : length puts.taken ≡ 188 * most_packets + 1 = puts.one_more in
    let size = bytes_long (sent_packets b) long in
    let l = length-append puts.taken rest in
    let same = ap (λ (r : List ℕ). length r) (sym is ∙ takes) in
    omega (arith, one, size, same, l)

-- ---- the answers

pub listing_making : (b : Broadcast) (fault : ChainFault) → IsListingFault b.plan b.images fault → IsMakingFault b fault
listing_making b (Build fault) is = is
listing_making b (Load fault) is = absurd is
listing_making b (Boot fault) is = absurd is
listing_making b Memory is = tt

pub memory_making : (b : Broadcast) (fault : ChainFault) → fault ≡ Memory → IsMakingFault b fault
memory_making b fault is = subst (IsMakingFault b) (sym is) tt

-- the packets that are sent have 188 bytes each
pub long_sent : (b : Broadcast) → All IsPacketLong (sent (sections_of b.plan b.images) b.plan.turns) → All IsPacketLong (sent_packets b)
unfolding sent_packets
long_sent b long = long

pub bytes_sent : (b : Broadcast) (bytes : List ℕ) → bytes ≡ concat (sent (sections_of b.plan b.images) b.plan.turns) → bytes ≡ concat (sent_packets b)
unfolding sent_packets
bytes_sent b bytes is = is
