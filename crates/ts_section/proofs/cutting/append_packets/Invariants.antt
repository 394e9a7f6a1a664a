use Rattle.std.proofs.Common.{◌≡◌, ◌++◌}
use Rattle.std.specs.List.{concat}
use Rattle.ts_section.specs.Cut.{packets_left, cut_packets, Begins}
use Rattle.ts_section.proofs.cutting.append_packets.Given as goal

-- What was appended and the packets that are left are all packets.
abbrev pub invariant-loop-packet : goal.invariant-loop-packet
invariant-loop-packet l = record {
  packets : l.out.items ++ concat (packets_left l.packet-iterator) ≡ l.fn.out.items ++ concat (cut_packets l.section l.fn.pid l.counter);
  begins : Begins l.fn.out.items l.out.items;
}
