-- A run of packets through a script, packet by packet, and how it ends.
use Rattle.std.proofs.Common.{◌≡◌, ℕ, ◌+◌, ◌*◌, ◌/◌, ◌<◌, ◌≤◌, true, List, [], ◌∷◌, ◌++◌, length, Option, Some, None, option_to_list, refl, sym, ap, ◌∙◌, arith, subst, append_assoc, length-append}
use Rattle.std.specs.List.{concat}
use Rattle.ssu_io.specs.Bytes.{Takes, Gains, GainsPrefix}
use Rattle.ssu_io.specs.SinkBuffer.{MovesOn}
use Rattle.ssu_io.proofs.BytesLemmas.{Takes_join}
use Rattle.ssu_io.proofs.BufferLemmas.{MovesOn_flushed}
use Rattle.ts_input.specs.Input.{TakesOne, TakesPackets, TakesRest}
use Rattle.ts_input.specs.Packets.{packets, most_packets, IsWithin}
use Rattle.ts_input.specs.Puts.{Puts, PutsOfMost, PutsPrefix}
use Rattle.ts_input.specs.SoFar.{SoFar}
use Rattle.ts_input.proofs.InputLemmas.{nothing_taken, rest_taken}
use Rattle.ts_input.proofs.PacketLemmas.{length_packets}
use Rattle.ts_input.proofs.Pieces.{concat_append}
use Rattle.ts_input.proofs.Runs.{begin, step, step_failed, run_failed, run_too_long, longer, prefix_longer}
use Rattle.air_channel.specs.Aired.{aired, aired_bytes}
use Rattle.air_channel.specs.Passing.{Airs, kept_at, written_at, written_last}
use Rattle.air_channel.specs.Scripts.{ScriptData, rises}
use Rattle.air_channel.proofs.Settling.{Keeps, aired_is, keeps_none, pending, pending_is, settled, steps}

abbrev settled_bytes : ScriptData → List (List ℕ) → List ℕ
settled_bytes script ps = concat (settled script ps)

abbrev pending_bytes : ScriptData → List (List ℕ) → List ℕ
pending_bytes script ps = concat (pending script ps)

-- What is kept stands for these packets, and so many were put.
pub record Stands (script : ScriptData) (kept : Option (List ℕ)) (count : ℕ) (ps : List (List ℕ)) : Type 0 where
  pub keeps : Keeps script kept ps
  pub counted : count ≡ length (settled script ps)

-- So many packets were taken. What is settled of them went to the sink or waits.
abbrev pub AirSoFar : (script : ScriptData) (n : ℕ) (kept : Option (List ℕ)) (count : ℕ) (left left_now got got_now : Option (List ℕ)) (waiting : List ℕ) → Type 0
AirSoFar script n kept count left left_now got got_now waiting = SoFar (settled_bytes script) (Stands script kept count) n left left_now got got_now waiting

settled_none : (script : ScriptData) → settled script [] ≡ []
unfolding settled
settled_none script = refl

pub air_begin : (script : ScriptData) (kept : Option (List ℕ)) (count : ℕ) (left got : Option (List ℕ)) (waiting : List ℕ) → waiting ≡ [] → kept ≡ None → count ≡ 0
    → AirSoFar script 0 kept count left left got got waiting
air_begin script kept count left got waiting none nothing zero =
    let P : Option (List ℕ) → Type 0 = λ k. Keeps script k [] in
    begin (settled_bytes script) (Stands script kept count) left got waiting none (ap concat (settled_none script))
    (record { keeps = subst P (sym nothing) (keeps_none script); counted = zero ∙ ap length (sym (settled_none script)) })

more_text : (script : ScriptData) (kept : Option (List ℕ)) (n count : ℕ) (packet : List ℕ) → rises 2 0 script.swaps ≡ true
    → (ps : List (List ℕ)) → length ps ≡ n → Stands script kept count ps → settled script (ps ++ packet ∷ []) ≡ settled script ps ++ written_at script n kept packet
more_text script kept n count packet up ps long stands =
    (steps script kept ps packet up stands.keeps).settles ∙ ap (λ (m : ℕ). settled script ps ++ written_at script m kept packet) long

more_bytes : (script : ScriptData) (kept : Option (List ℕ)) (n count : ℕ) (packet : List ℕ) → rises 2 0 script.swaps ≡ true
    → (ps : List (List ℕ)) → length ps ≡ n → Stands script kept count ps → settled_bytes script (ps ++ packet ∷ []) ≡ settled_bytes script ps ++ concat (written_at script n kept packet)
more_bytes script kept n count packet up ps long stands =
    ap concat (more_text script kept n count packet up ps long stands) ∙ concat_append (settled script ps) (written_at script n kept packet)

-- One packet more was taken, and what is written then moved on.
pub air_step : (script : ScriptData) (n : ℕ) (kept keeps : Option (List ℕ)) (count counted : ℕ) (left left_now left_then got got_now got_then : Option (List ℕ)) (waited waiting packet : List ℕ)
    → rises 2 0 script.swaps ≡ true
    → AirSoFar script n kept count left left_now got got_now waited
    → Takes left_now left_then packet → length packet ≡ 188
    → MovesOn got_now got_then waited (concat (written_at script n kept packet)) waiting
    → keeps ≡ kept_at script n kept packet → counted ≡ count + length (written_at script n kept packet)
    → AirSoFar script (n + 1) keeps counted left left_then got got_then waiting
air_step script n kept keeps count counted left left_now left_then got got_now got_then waited waiting packet up sofar takes one moves keeping counting =
    step (settled_bytes script) (Stands script kept count) (Stands script keeps counted) n left left_now left_then got got_now got_then waited waiting packet (concat (written_at script n kept packet))
    sofar takes one
    (λ ps long stands.
    let P : Option (List ℕ) → Type 0 = λ k. Keeps script k (ps ++ packet ∷ []) in
    let at : keeps ≡ kept_at script (length ps) kept packet = keeping ∙ ap (λ (m : ℕ). kept_at script m kept packet) (sym long) in
    record {
      keeps = subst P (sym at) (steps script kept ps packet up stands.keeps).keeps;
      counted =
          counting
          ∙ ap (λ (m : ℕ). m + length (written_at script n kept packet)) stands.counted
          ∙ sym (length-append (settled script ps) (written_at script n kept packet))
          ∙ ap length (sym (more_text script kept n count packet up ps long stands));
    })
    (λ ps long stands. more_bytes script kept n count packet up ps long stands)
    moves

all_bytes : (script : ScriptData) (ps : List (List ℕ)) → aired_bytes script ps ≡ settled_bytes script ps ++ pending_bytes script ps
all_bytes script ps = ap concat (aired_is script ps) ∙ concat_append (settled script ps) (pending script ps)

-- A write failed while a packet was passed on.
pub air_step_failed : (script : ScriptData) (n : ℕ) (kept : Option (List ℕ)) (count : ℕ) (left left_now left_then got got_now got_then : Option (List ℕ)) (waited packet : List ℕ)
    → rises 2 0 script.swaps ≡ true
    → AirSoFar script n kept count left left_now got got_now waited
    → Takes left_now left_then packet → length packet ≡ 188
    → GainsPrefix got_now got_then (waited ++ concat (written_at script n kept packet))
    → n < 16777216
    → PutsPrefix (aired_bytes script) left left_then got got_then
air_step_failed script n kept count left left_now left_then got got_now got_then waited packet up sofar takes one failed few =
    prefix_longer (settled_bytes script) (aired_bytes script) (pending_bytes script) left left_then got got_then
    (step_failed (settled_bytes script) (Stands script kept count) n left left_now left_then got got_now got_then waited packet (concat (written_at script n kept packet))
    sofar takes one (λ ps long stands. more_bytes script kept n count packet up ps long stands) failed few)
    (all_bytes script)

-- All of the packets taken waits or went, what is pending too.
whole_sofar : (script : ScriptData) (n : ℕ) (kept : Option (List ℕ)) (count : ℕ) (left left_now got got_now : Option (List ℕ)) (waiting : List ℕ)
    → (sofar : AirSoFar script n kept count left left_now got got_now waiting)
    → SoFar (aired_bytes script) (Stands script kept count) n left left_now got got_now (waiting ++ pending_bytes script (packets sofar.taken))
whole_sofar script n kept count left left_now got got_now waiting sofar =
    longer (settled_bytes script) (aired_bytes script) (pending_bytes script) (Stands script kept count) n left left_now got got_now waiting sofar (all_bytes script)

-- what is left to write is what is pending
last_is : (script : ScriptData) (n : ℕ) (kept : Option (List ℕ)) (count : ℕ) (left left_now got got_now : Option (List ℕ)) (waiting : List ℕ)
    → (sofar : AirSoFar script n kept count left left_now got got_now waiting) → written_last script n kept ≡ pending script (packets sofar.taken)
last_is script n kept count left left_now got got_now waiting sofar =
    let exact : length sofar.taken / 188 ≡ n = omega (arith, sofar.whole) in
    ap (λ (m : ℕ). written_last script m kept) (sym (length_packets sofar.taken ∙ exact))
    ∙ sym (pending_is script kept (packets sofar.taken) sofar.stands.keeps)

gains_all : (script : ScriptData) (n : ℕ) (kept : Option (List ℕ)) (count : ℕ) (left left_now got got_now got_then : Option (List ℕ)) (waiting : List ℕ)
    → (sofar : AirSoFar script n kept count left left_now got got_now waiting)
    → Gains got_now got_then (waiting ++ concat (written_last script n kept)) → Gains got_now got_then (waiting ++ pending_bytes script (packets sofar.taken))
gains_all script n kept count left left_now got got_now got_then waiting sofar gains =
    let P : List (List ℕ) → Type 0 = λ w. Gains got_now got_then (waiting ++ concat w) in
    subst P (last_is script n kept count left left_now got got_now waiting sofar) gains

gains_prefix_all : (script : ScriptData) (n : ℕ) (kept : Option (List ℕ)) (count : ℕ) (left left_now got got_now got_then : Option (List ℕ)) (waiting : List ℕ)
    → (sofar : AirSoFar script n kept count left left_now got got_now waiting)
    → GainsPrefix got_now got_then (waiting ++ concat (written_last script n kept)) → GainsPrefix got_now got_then (waiting ++ pending_bytes script (packets sofar.taken))
gains_prefix_all script n kept count left left_now got got_now got_then waiting sofar gains =
    let P : List (List ℕ) → Type 0 = λ w. GainsPrefix got_now got_then (waiting ++ concat w) in
    subst P (last_is script n kept count left left_now got got_now waiting sofar) gains

-- No packet came any more, and all that was left went.
airs : (script : ScriptData) (n : ℕ) (kept : Option (List ℕ)) (count total : ℕ) (left left_now left_then got got_now got_then : Option (List ℕ)) (waiting : List ℕ)
    → (sofar : AirSoFar script n kept count left left_now got got_now waiting)
    → TakesPackets IsWithin left left_then (packets sofar.taken)
    → Gains got_now got_then (waiting ++ concat (written_last script n kept))
    → total ≡ count + length (written_last script n kept)
    → Airs script total left left_then got got_then
airs script n kept count total left left_now left_then got got_now got_then waiting sofar taken gains counting =
    let ps = packets sofar.taken in
    let all : MovesOn got got_now [] (aired_bytes script ps) (waiting ++ pending_bytes script ps) = record {
      moved = sofar.moves.moved;
      gains = sofar.moves.gains;
      none_lost =
          all_bytes script ps
          ∙ ap (λ (bytes : List ℕ). bytes ++ pending_bytes script ps) sofar.moves.none_lost
          ∙ append_assoc sofar.moves.moved waiting (pending_bytes script ps);
    } in
    let P : List (List ℕ) → Type 0 = λ qs. Gains got got_then (aired_bytes script qs) in
    let last = last_is script n kept count left left_now got got_now waiting sofar in
    record {
      puts = record {
        taken = taken.taken;
        takes = taken.takes;
        puts = subst P (sym taken.all)
            (MovesOn_flushed got got_now got_then [] (aired_bytes script ps) (waiting ++ pending_bytes script ps) all
            (gains_all script n kept count left left_now got got_now got_then waiting sofar gains));
        within = taken.size;
      };
      count =
          counting
          ∙ ap (λ (m : ℕ). m + length (written_last script n kept)) sofar.stands.counted
          ∙ ap (λ (w : List (List ℕ)). length (settled script ps) + length w) last
          ∙ sym (length-append (settled script ps) (pending script ps))
          ∙ ap length (sym (aired_is script ps))
          ∙ ap (λ (qs : List (List ℕ)). length (aired script qs)) (sym taken.all);
    }

-- The same, behind a rest that is no packet, where nothing more was taken.
pub air_end : (script : ScriptData) (n : ℕ) (kept : Option (List ℕ)) (count total : ℕ) (left left_now left_then left_last got got_now got_then : Option (List ℕ)) (waiting : List ℕ)
    → AirSoFar script n kept count left left_now got got_now waiting
    → TakesRest n left_now left_then
    → Gains got_now got_then (waiting ++ concat (written_last script n kept))
    → total ≡ count + length (written_last script n kept)
    → Takes left_then left_last []
    → Airs script total left left_last got got_then
air_end script n kept count total left left_now left_then left_last got got_now got_then waiting sofar rest gains counting nothing =
    airs script n kept count total left left_now left_last got got_now got_then waiting sofar
    (nothing_taken IsWithin left left_then left_last (packets sofar.taken) (rest_taken n left left_now left_then sofar.taken sofar.takes sofar.whole rest) nothing)
    gains counting

-- No packet came any more, and a write of what was left failed.
pub air_end_failed : (script : ScriptData) (n : ℕ) (kept : Option (List ℕ)) (count : ℕ) (left left_now left_then got got_now got_then : Option (List ℕ)) (waiting : List ℕ)
    → AirSoFar script n kept count left left_now got got_now waiting
    → TakesRest n left_now left_then
    → GainsPrefix got_now got_then (waiting ++ concat (written_last script n kept))
    → PutsPrefix (aired_bytes script) left left_then got got_then
air_end_failed script n kept count left left_now left_then got got_now got_then waiting sofar rest failed =
    run_failed (aired_bytes script) (Stands script kept count) n left left_now left_then got got_now got_then (waiting ++ pending_bytes script (packets sofar.taken))
    (whole_sofar script n kept count left left_now got got_now waiting sofar) rest
    (gains_prefix_all script n kept count left left_now got got_now got_then waiting sofar failed)

-- The greatest number of packets was taken, all that was left went, and one more byte came.
pub air_too_long : (script : ScriptData) (n : ℕ) (kept : Option (List ℕ)) (count : ℕ) (left left_now left_then left_last got got_now got_then : Option (List ℕ)) (waiting : List ℕ)
    → AirSoFar script n kept count left left_now got got_now waiting
    → TakesRest n left_now left_then
    → Gains got_now got_then (waiting ++ concat (written_last script n kept))
    → n ≡ most_packets → TakesOne left_then left_last
    → PutsOfMost (aired_bytes script) left left_last got got_then
air_too_long script n kept count left left_now left_then left_last got got_now got_then waiting sofar rest gains most last =
    run_too_long (aired_bytes script) (Stands script kept count) n left left_now left_then left_last got got_now got_then (waiting ++ pending_bytes script (packets sofar.taken))
    (whole_sofar script n kept count left left_now got got_now waiting sofar) rest
    (gains_all script n kept count left left_now got got_now got_then waiting sofar gains) most last
