-- A run over the packets of an input, packet by packet, and how it ends.
use Rattle.std.proofs.Common.{◌≡◌, ℕ, ◌+◌, ◌*◌, ◌/◌, ◌<◌, List, [], ◌∷◌, ◌++◌, length, Option, arith, sym, ap, subst, ◌∙◌, length-append, append_assoc, append-nil}
use Rattle.ssu_io.specs.Bytes.{Takes, Gains, GainsPrefix}
use Rattle.ssu_io.specs.SinkBuffer.{MovesOn}
use Rattle.ssu_io.proofs.BytesLemmas.{Takes_none, Takes_join}
use Rattle.ssu_io.proofs.BufferLemmas.{MovesOn_none, MovesOn_join, MovesOn_flushed, MovesOn_failed, GainsPrefix_longer}
use Rattle.ts_input.specs.Input.{TakesOne, TakesRest}
use Rattle.ts_input.specs.Packets.{packets, most_packets}
use Rattle.ts_input.proofs.InputLemmas.{rest_taken, byte_taken}
use Rattle.ts_input.proofs.PacketLemmas.{length_packets, packets_more, packets_of_rest}
use Rattle.ts_input.specs.Puts.{Puts, PutsOfMost, PutsPrefix}
use Rattle.ts_input.specs.SoFar.{SoFar}

-- Nothing was taken.
pub begin : (text : List (List ℕ) → List ℕ) (Stands : List (List ℕ) → Type 0) (left got : Option (List ℕ)) (waiting : List ℕ)
    → waiting ≡ [] → text [] ≡ [] → Stands [] → SoFar text Stands 0 left left got got waiting
begin text Stands left got waiting none no_text stands =
    let no_packets : packets [] ≡ [] = packets_of_rest [] (omega arith) in
    let nothing : [] ≡ text (packets []) = sym (ap text no_packets ∙ no_text) in
    let P : List ℕ → Type 0 = λ piece. MovesOn got got [] piece waiting in
    let Q : List ℕ → Type 0 = λ waits. MovesOn got got [] [] waits in
    record {
      taken = [];
      takes = Takes_none left;
      whole = omega arith;
      moves = subst P nothing (subst Q (sym none) (MovesOn_none got []));
      stands = subst Stands (sym no_packets) stands;
    }

count_of : (taken : List ℕ) (count : ℕ) → length taken ≡ 188 * count → length (packets taken) ≡ count
count_of taken count whole =
    let exact : length taken / 188 ≡ count = omega (arith, whole) in
    length_packets taken ∙ exact

-- One packet more was taken, and its piece of the text moved on.
pub step : (text : List (List ℕ) → List ℕ) (Before After : List (List ℕ) → Type 0) (count : ℕ) (left left_now left_then got got_now got_then : Option (List ℕ)) (waited waiting packet piece : List ℕ)
    → SoFar text Before count left left_now got got_now waited
    → Takes left_now left_then packet → length packet ≡ 188
    → ((ps : List (List ℕ)) → length ps ≡ count → Before ps → After (ps ++ packet ∷ []))
    → ((ps : List (List ℕ)) → length ps ≡ count → Before ps → text (ps ++ packet ∷ []) ≡ text ps ++ piece)
    → MovesOn got_now got_then waited piece waiting
    → SoFar text After (count + 1) left left_then got got_then waiting
step text Before After count left left_now left_then got got_now got_then waited waiting packet piece sofar takes one stands texts moves =
    let ps = packets sofar.taken in
    let so_many = count_of sofar.taken count sofar.whole in
    let further : packets (sofar.taken ++ packet) ≡ ps ++ packet ∷ [] = packets_more sofar.taken packet count sofar.whole one in
    let more : text ps ++ piece ≡ text (packets (sofar.taken ++ packet)) =
    sym (ap text further ∙ texts ps so_many sofar.stands) in
    let P : List ℕ → Type 0 = λ t. MovesOn got got_then [] t waiting in
    record {
      taken = sofar.taken ++ packet;
      takes = Takes_join left left_now left_then sofar.taken packet sofar.takes takes;
      whole = omega (arith, length-append sofar.taken packet, sofar.whole, one);
      moves = subst P more (MovesOn_join got got_now got_then [] (text ps) waited piece waiting sofar.moves moves);
      stands = subst After (sym further) (stands ps so_many sofar.stands);
    }

-- A write failed while the piece of a packet was put.
pub step_failed : (text : List (List ℕ) → List ℕ) (Before : List (List ℕ) → Type 0) (count : ℕ) (left left_now left_then got got_now got_then : Option (List ℕ)) (waited packet piece : List ℕ)
    → SoFar text Before count left left_now got got_now waited
    → Takes left_now left_then packet → length packet ≡ 188
    → ((ps : List (List ℕ)) → length ps ≡ count → Before ps → text (ps ++ packet ∷ []) ≡ text ps ++ piece)
    → GainsPrefix got_now got_then (waited ++ piece)
    → count < 16777216
    → PutsPrefix text left left_then got got_then
step_failed text Before count left left_now left_then got got_now got_then waited packet piece sofar takes one texts failed few =
    let ps = packets sofar.taken in
    let so_many = count_of sofar.taken count sofar.whole in
    let further : packets (sofar.taken ++ packet) ≡ ps ++ packet ∷ [] = packets_more sofar.taken packet count sofar.whole one in
    let more : text ps ++ piece ≡ text (packets (sofar.taken ++ packet)) =
    sym (ap text further ∙ texts ps so_many sofar.stands) in
    let P : List ℕ → Type 0 = λ t. GainsPrefix got got_then t in
    record {
      taken = sofar.taken ++ packet;
      takes = Takes_join left left_now left_then sofar.taken packet sofar.takes takes;
      puts = subst P more (MovesOn_failed got got_now got_then [] (text ps) waited piece sofar.moves failed);
      within = omega (arith, length-append sofar.taken packet, sofar.whole, one, few);
    }

-- More text waits than that of the packets.
pub longer : (text whole more : List (List ℕ) → List ℕ) (Stands : List (List ℕ) → Type 0) (count : ℕ) (left left_now got got_now : Option (List ℕ)) (waiting : List ℕ)
    → (sofar : SoFar text Stands count left left_now got got_now waiting)
    → ((ps : List (List ℕ)) → whole ps ≡ text ps ++ more ps)
    → SoFar whole Stands count left left_now got got_now (waiting ++ more (packets sofar.taken))
longer text whole more Stands count left left_now got got_now waiting sofar is =
    let ps = packets sofar.taken in
    record {
      taken = sofar.taken;
      takes = sofar.takes;
      whole = sofar.whole;
      moves = record {
        moved = sofar.moves.moved;
        gains = sofar.moves.gains;
        none_lost = is ps ∙ ap (λ t. t ++ more ps) sofar.moves.none_lost ∙ append_assoc sofar.moves.moved waiting (more ps);
      };
      stands = sofar.stands;
    }

-- What waited went, and more text waits.
pub flushed_longer : (text whole more : List (List ℕ) → List ℕ) (Stands : List (List ℕ) → Type 0) (count : ℕ) (left left_now got got_now got_then : Option (List ℕ)) (waiting : List ℕ)
    → (sofar : SoFar text Stands count left left_now got got_now waiting)
    → Gains got_now got_then waiting
    → ((ps : List (List ℕ)) → whole ps ≡ text ps ++ more ps)
    → SoFar whole Stands count left left_now got got_then ([] ++ more (packets sofar.taken))
flushed_longer text whole more Stands count left left_now got got_now got_then waiting sofar gains is =
    let ps = packets sofar.taken in
    record {
      taken = sofar.taken;
      takes = sofar.takes;
      whole = sofar.whole;
      moves = record {
        moved = text ps;
        gains = MovesOn_flushed got got_now got_then [] (text ps) waiting sofar.moves gains;
        none_lost = is ps;
      };
      stands = sofar.stands;
    }

-- A prefix of the text is one of more text.
pub prefix_longer : (text whole more : List (List ℕ) → List ℕ) (left left_after got got_after : Option (List ℕ))
    → PutsPrefix text left left_after got got_after
    → ((ps : List (List ℕ)) → whole ps ≡ text ps ++ more ps)
    → PutsPrefix whole left left_after got got_after
prefix_longer text whole more left left_after got got_after puts is =
    let ps = packets puts.taken in
    let P : List ℕ → Type 0 = λ t. GainsPrefix got got_after t in
    record {
      taken = puts.taken;
      takes = puts.takes;
      puts = subst P (sym (is ps)) (GainsPrefix_longer got got_after (text ps) (more ps) puts.puts);
      within = puts.within;
    }

-- No packet came any more, and all that waited went.
pub run_ended : (text : List (List ℕ) → List ℕ) (Stands : List (List ℕ) → Type 0) (count : ℕ) (left left_now left_then got got_now got_then : Option (List ℕ)) (waiting : List ℕ)
    → SoFar text Stands count left left_now got got_now waiting
    → TakesRest count left_now left_then
    → Gains got_now got_then waiting
    → Puts text left left_then got got_then
run_ended text Stands count left left_now left_then got got_now got_then waiting sofar rest gains =
    let all = rest_taken count left left_now left_then sofar.taken sofar.takes sofar.whole rest in
    let P : List (List ℕ) → Type 0 = λ ps. Gains got got_then (text ps) in
    record {
      taken = all.taken;
      takes = all.takes;
      puts = subst P (sym all.all) (MovesOn_flushed got got_now got_then [] (text (packets sofar.taken)) waiting sofar.moves gains);
      within = all.size;
    }

-- The same, and the write of what waited failed.
pub run_failed : (text : List (List ℕ) → List ℕ) (Stands : List (List ℕ) → Type 0) (count : ℕ) (left left_now left_then got got_now got_then : Option (List ℕ)) (waiting : List ℕ)
    → SoFar text Stands count left left_now got got_now waiting
    → TakesRest count left_now left_then
    → GainsPrefix got_now got_then waiting
    → PutsPrefix text left left_then got got_then
run_failed text Stands count left left_now left_then got got_now got_then waiting sofar rest failed =
    let ps = packets sofar.taken in
    let all = rest_taken count left left_now left_then sofar.taken sofar.takes sofar.whole rest in
    let P : List (List ℕ) → Type 0 = λ qs. GainsPrefix got got_then (text qs) in
    let Q : List ℕ → Type 0 = λ t. GainsPrefix got got_then t in
    let R : List ℕ → Type 0 = λ t. GainsPrefix got_now got_then t in
    let waits : waiting ≡ waiting ++ [] = sym (append-nil waiting) in
    record {
      taken = all.taken;
      takes = all.takes;
      puts = subst P (sym all.all) (subst Q (append-nil (text ps)) (MovesOn_failed got got_now got_then [] (text ps) waiting [] sofar.moves (subst R waits failed)));
      within = all.size;
    }

-- Nothing more was taken.
pub run_still : (text : List (List ℕ) → List ℕ) (left left_now left_then got got_now : Option (List ℕ))
    → Puts text left left_now got got_now → Takes left_now left_then [] → Puts text left left_then got got_now
run_still text left left_now left_then got got_now puts nothing = record {
  taken = puts.taken;
  takes = subst (Takes left left_then) (append-nil puts.taken) (Takes_join left left_now left_then puts.taken [] puts.takes nothing);
  puts = puts.puts;
  within = puts.within;
}

-- The greatest number of packets came, all that waited went, and one more byte came.
pub run_too_long : (text : List (List ℕ) → List ℕ) (Stands : List (List ℕ) → Type 0) (count : ℕ) (left left_now left_then left_last got got_now got_then : Option (List ℕ)) (waiting : List ℕ)
    → SoFar text Stands count left left_now got got_now waiting
    → TakesRest count left_now left_then
    → Gains got_now got_then waiting
    → count ≡ most_packets → TakesOne left_then left_last
    → PutsOfMost text left left_last got got_then
run_too_long text Stands count left left_now left_then left_last got got_now got_then waiting sofar rest gains so_many last =
    let all = byte_taken count left left_now left_then left_last sofar.taken sofar.takes sofar.whole rest so_many last in
    let P : List (List ℕ) → Type 0 = λ ps. Gains got got_then (text ps) in
    record {
      taken = all.taken;
      takes = all.takes;
      puts = subst P (sym all.all) (MovesOn_flushed got got_now got_then [] (text (packets sofar.taken)) waiting sofar.moves gains);
      one_more = all.size;
    }
