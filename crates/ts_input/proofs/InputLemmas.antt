-- What was taken in a run over the packets of an input.
use Rattle.std.proofs.Common.{◌≡◌, ℕ, ◌*◌, ◌<◌, ◌≤◌, List, [], ◌∷◌, ◌++◌, length, Option, arith, subst, length-append, append-nil}
use Rattle.ssu_io.specs.Bytes.{Takes}
use Rattle.ssu_io.proofs.BytesLemmas.{Takes_none, Takes_join}
use Rattle.ts_input.specs.Input.{TakesFewer, TakesOne, TakesPackets, TakesRest}
use Rattle.ts_input.specs.Packets.{packets, most_packets, IsWithin, IsOneMore}
use Rattle.ts_input.proofs.PacketLemmas.{packets_end}

no_byte : (rest : List ℕ) → length rest < 1 → rest ≡ []
no_byte [] few = cc
no_byte (b ∷ rest) few = absurd (omega (arith, few))

-- fewer bytes than one are none
pub takes_no_byte : (before after : Option (List ℕ)) → TakesFewer before after 1 → Takes before after []
takes_no_byte before after few = subst (Takes before after) (no_byte few.rest few.fewer) few.takes

-- a rest behind fewer packets than the greatest number
pub rest_of_few : (count : ℕ) (before after : Option (List ℕ)) → count < 16777216 → TakesFewer before after 188 → TakesRest count before after
rest_of_few count before after few rest = record {
  rest = rest.rest;
  fewer = rest.fewer;
  within = omega (arith, few, rest.fewer);
  takes = rest.takes;
}

-- nothing was taken
pub rest_none : (count : ℕ) (left : Option (List ℕ)) → count ≤ 16777216 → TakesRest count left left
rest_none count left within = record {
  rest = [];
  fewer = omega arith;
  within = omega (arith, within);
  takes = Takes_none left;
}

-- Whole packets were taken, and behind them what is no packet.
pub rest_taken : (count : ℕ) (left left_now left_then : Option (List ℕ)) (taken : List ℕ)
    → Takes left left_now taken → length taken ≡ 188 * count → TakesRest count left_now left_then
    → TakesPackets IsWithin left left_then (packets taken)
rest_taken count left left_now left_then taken takes whole rest = record {
  taken = taken ++ rest.rest;
  takes = Takes_join left left_now left_then taken rest.rest takes rest.takes;
  size = omega (arith, length-append taken rest.rest, whole, rest.within);
  all = packets_end taken rest.rest count whole rest.fewer;
}

-- Nothing more was taken.
pub nothing_taken : (Size : ℕ → Type 0) (left left_now left_then : Option (List ℕ)) (ps : List (List ℕ))
    → TakesPackets Size left left_now ps → Takes left_now left_then [] → TakesPackets Size left left_then ps
nothing_taken Size left left_now left_then ps before nothing = record {
  taken = before.taken;
  takes = subst (Takes left left_then) (append-nil before.taken) (Takes_join left left_now left_then before.taken [] before.takes nothing);
  size = before.size;
  all = before.all;
}

-- The greatest number of packets was taken, and one byte behind them.
pub byte_taken : (count : ℕ) (left left_now left_then left_last : Option (List ℕ)) (taken : List ℕ)
    → Takes left left_now taken → length taken ≡ 188 * count → TakesRest count left_now left_then
    → count ≡ most_packets → TakesOne left_then left_last
    → TakesPackets IsOneMore left left_last (packets taken)
byte_taken count left left_now left_then left_last taken takes whole rest most last =
    let both = length-append rest.rest last.byte in
    let all = length-append taken (rest.rest ++ last.byte) in
    record {
      taken = taken ++ (rest.rest ++ last.byte);
      takes = Takes_join left left_now left_last taken (rest.rest ++ last.byte) takes
          (Takes_join left_now left_then left_last rest.rest last.byte rest.takes last.takes);
      size = omega (arith, both, all, whole, most, rest.within, last.one);
      all = packets_end taken (rest.rest ++ last.byte) count whole (omega (arith, both, most, rest.within, last.one));
    }
