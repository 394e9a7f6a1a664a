-- All packets that are sent have 188 bytes, and the counters of each PID go on.
use Rattle.std.proofs.Common.{zero, suc, ◌≡◌, ℕ, ◌+◌, ◌-◌, ◌%◌, ◌<◌, ◌≤◌, inl, inr, ◌==◌, if◌then◌else◌, Bool, true, false, List, [], ◌∷◌, ◌++◌, map, length, get_or, take, drop, replicate, refl, ap, ap₂, subst, ◌∙◌, arith, eq-eqb, append-nil, length-append, length-take}
use Rattle.std.specs.List.{All, filter}
use Rattle.std.proofs.lemmas.Bool.Decides.{eqb_tells, leb_tells}
use Rattle.std.proofs.lemmas.List.{get_or_append_left, get_or-append_right, map-append, length-replicate}
use Rattle.std.proofs.lemmas.List.Elements.{All-append, filter-append}
use Rattle.ts_section.specs.TimedSection.{TimedSection}
use Rattle.ts_packet.specs.Packet.{packet_bytes, header, adaptation_field, pid_of, continuity_counter}
use Rattle.ts_packet.proofs.Written.{length-adaptation_field}
use Rattle.ts_section.specs.Cut.{filled, payloads, payload_count, packets_with, with_pointer, cut_packets}
use Rattle.head_mux.specs.Sent.{section_of_turn, counter_before, packets_of_turn, sent, counters_of, GoOn}
use Rattle.head_mux.proofs.Order.{length_payloads, counter_below}

-- so many counters that go on
abbrev run_on : ℕ → ℕ → List ℕ
run_on counter zero = []
run_on counter (suc n) = counter ∷ run_on ((counter + 1) % 16) n

length_run : (counter n : ℕ) → length (run_on counter n) ≡ n
length_run counter zero = refl
length_run counter (suc n) = ap suc (length_run ((counter + 1) % 16) n)

mod_next : (c k : ℕ) → ((c + 1) % 16 + k) % 16 ≡ (c + suc k) % 16
mod_next c k = omega arith

run_goes : (c n : ℕ) → c < 16 → (k : ℕ) → k < length (run_on c n) → get_or (run_on c n) k 0 ≡ (c + k) % 16
run_goes c zero h k p = absurd (omega arith)
run_goes c (suc n) h zero p = omega arith
run_goes c (suc n) h (suc k) p = run_goes ((c + 1) % 16) n (omega arith) k (omega arith) ∙ mod_next c k

mod_joined : (c d n k : ℕ) → (c + n) % 16 ≡ d → n ≤ k → (d + (k - n)) % 16 ≡ (c + k) % 16
mod_joined c d n k e h = omega arith

goes_append : (c d : ℕ) (xs ys : List ℕ) → GoOn c xs → (c + length xs) % 16 ≡ d → GoOn d ys → GoOn c (xs ++ ys)
goes_append c d xs ys f e g = λ k h.
    let sum = length-append xs ys in
    elim (leb_tells (length xs) k) [
      | inl p ↦ let behind : length xs ≤ k = p.1 in
          let inside : k - length xs < length ys = omega arith in
          get_or-append_right xs ys (length xs) k 0 refl behind ∙ g (k - length xs) inside ∙ mod_joined c d (length xs) k e behind
      | inr p ↦ get_or_append_left xs ys 0 k p.1 ∙ f k p.1
    ]

pid_is : (pid counter : ℕ) (start : Bool) (payload : List ℕ) → pid < 8192 → pid_of (packet_bytes pid counter start payload) ≡ pid
unfolding packet_bytes
pid_is pid counter true payload h = omega arith
pid_is pid counter false payload h = omega arith

fourth : (alone : Bool) (counter : ℕ) → counter < 16 → ((if alone then 16 else 48) + counter) % 16 ≡ counter
fourth true counter h = omega arith
fourth false counter h = omega arith

counter_is : (pid counter : ℕ) (start : Bool) (payload : List ℕ) → counter < 16 → continuity_counter (packet_bytes pid counter start payload) ≡ counter
unfolding packet_bytes
counter_is pid counter start payload h = fourth (length payload == 184) counter h

none_with : (pid other counter : ℕ) (start : Bool) (all : List (List ℕ)) → pid < 8192 → (pid == other) ≡ false → counters_of other (packets_with pid counter start all) ≡ []
unfolding packets_with
none_with pid other counter start [] h e = refl
none_with pid other counter start (payload ∷ later) h e =
    let test : (pid_of (packet_bytes pid counter start payload) == other) ≡ false = ap (λ (n : ℕ). n == other) (pid_is pid counter start payload h) ∙ e in
    rw test (none_with pid other ((counter + 1) % 16) false later h e)

all_with : (pid counter : ℕ) (start : Bool) (all : List (List ℕ)) → pid < 8192 → counter < 16
    → counters_of pid (packets_with pid counter start all) ≡ run_on counter (length all)
unfolding packets_with
all_with pid counter start [] h k = refl
all_with pid counter start (payload ∷ later) h k =
    let test : (pid_of (packet_bytes pid counter start payload) == pid) ≡ true = eq-eqb _ _ (pid_is pid counter start payload h) in
    rw test (ap₂ (λ (n : ℕ) (ns : List ℕ). n ∷ ns) (counter_is pid counter start payload k) (all_with pid ((counter + 1) % 16) false later h (omega arith)))

none_cut : (bytes : List ℕ) (pid other counter : ℕ) → pid < 8192 → (pid == other) ≡ false → counters_of other (cut_packets bytes pid counter) ≡ []
unfolding cut_packets
none_cut bytes pid other counter h e = none_with pid other counter true _ h e

all_cut : (bytes : List ℕ) (pid counter : ℕ) → pid < 8192 → counter < 16
    → counters_of pid (cut_packets bytes pid counter) ≡ run_on counter (payload_count (with_pointer bytes))
unfolding cut_packets
all_cut bytes pid counter h k =
    all_with pid counter true (payloads (payload_count (with_pointer bytes)) (with_pointer bytes)) h k
    ∙ ap (run_on counter) (length_payloads (payload_count (with_pointer bytes)) (with_pointer bytes))

counters-append : (pid : ℕ) (xs ys : List (List ℕ)) → counters_of pid (xs ++ ys) ≡ counters_of pid xs ++ counters_of pid ys
counters-append pid xs ys =
    ap (map continuity_counter) (filter-append (λ packet. pid_of packet == pid) xs ys)
    ∙ map-append continuity_counter (filter (λ packet. pid_of packet == pid) xs) (filter (λ packet. pid_of packet == pid) ys)

-- the counters of a PID so far, and the next one
record Counting (counters : List ℕ) (next : ℕ) : Type 0 where
  go : GoOn 0 counters
  last : length counters % 16 ≡ next

counting_more : (before : List ℕ) (next n : ℕ) → next < 16 → Counting before next → Counting (before ++ run_on next n) ((next + n) % 16)
counting_more before next n h so_far =
    let len = length_run next n in
    let sum = length-append before (run_on next n) in
    let last : length before % 16 ≡ next = so_far.last in
    let here : (0 + length before) % 16 ≡ next = omega arith in
    record {
      go = goes_append 0 next before (run_on next n) so_far.go here (run_goes next n h);
      last = omega arith;
    }

-- after one turn more, whether it sent a section of the PID or of another one
counting_turn : (pid own next other : ℕ) (bytes before : List ℕ) → own < 8192 → next < 16 → (own ≡ pid → other ≡ next) → Counting before next
    → Counting (before ++ counters_of pid (cut_packets bytes own other)) (if own == pid then (next + payload_count (with_pointer bytes)) % 16 else next)
counting_turn pid own next other bytes before h k e so_far =
    elim (eqb_tells own pid) [
      | inl p ↦ let same : counters_of pid (cut_packets bytes own other) ≡ run_on next (payload_count (with_pointer bytes)) =
          ap₂ (λ (a b : ℕ). counters_of pid (cut_packets bytes a b)) p.1 (e p.1) ∙ all_cut bytes pid next (let P : ℕ → Type 0 = λ n. n < 8192 in subst P p.1 h) k in
          rw (p.0, same) (counting_more before next (payload_count (with_pointer bytes)) k so_far)
      | inr p ↦ let none = none_cut bytes own pid other h p.0 in
          rw (p.0, none, append-nil before) so_far
    ]

counting_sent : (list : List TimedSection) (t pid : ℕ) → ((turn : ℕ) → turn < t → (section_of_turn list turn).pid < 8192)
    → Counting (counters_of pid (sent list t)) (counter_before list t pid)
unfolding sent counter_before
counting_sent list zero pid f = record { go = λ k h. absurd (omega arith); last = refl }
counting_sent list (suc t) pid f =
    let so_far = counting_sent list t pid (λ turn h. f turn (omega arith)) in
    let s = section_of_turn list t in
    rw (counters-append pid (sent list t) (packets_of_turn list t))
    (counting_turn pid s.pid (counter_before list t pid) (counter_before list t s.pid) s.bytes (counters_of pid (sent list t))
    (f t (omega arith)) (counter_below list t pid) (λ e. ap (counter_before list t) e) so_far)

pub sent_go_on : (list : List TimedSection) (turns : ℕ) → ((turn : ℕ) → turn < turns → (section_of_turn list turn).pid < 8192)
    → (pid : ℕ) → GoOn 0 (counters_of pid (sent list turns))
sent_go_on list turns f pid = (counting_sent list turns pid f).go

-- the lengths
length_filled : (xs : List ℕ) → length xs ≤ 184 → length (filled xs) ≡ 184
length_filled xs h =
    length-append xs (replicate (184 - length xs) 255)
    ∙ ap (λ (n : ℕ). length xs + n) (length-replicate (184 - length xs) 255)
    ∙ (let all : length xs + (184 - length xs) ≡ 184 = omega arith in all)

length_packet : (pid counter : ℕ) (start : Bool) (payload : List ℕ) → length payload ≡ 184 → length (packet_bytes pid counter start payload) ≡ 188
unfolding packet_bytes
length_packet pid counter start payload e =
    let front = length-append (header pid counter start (length payload == 184)) (adaptation_field (184 - length payload)) in
    let all = length-append (header pid counter start (length payload == 184) ++ adaptation_field (184 - length payload)) payload in
    let none = length-adaptation_field (184 - length payload) in
    omega arith

full_payloads : (n : ℕ) (bytes : List ℕ) → (k : ℕ) (d : List ℕ) → k < length (payloads n bytes) → length (get_or (payloads n bytes) k d) ≡ 184
unfolding payloads
full_payloads zero bytes k d h = absurd (omega arith)
full_payloads (suc n) bytes zero d h = length_filled (take 184 bytes) (let size = length-take 184 bytes in omega arith)
full_payloads (suc n) bytes (suc k) d h = full_payloads n (drop 184 bytes) k d (omega arith)

whole_with : (pid counter : ℕ) (start : Bool) (all : List (List ℕ)) → ((k : ℕ) (d : List ℕ) → k < length all → length (get_or all k d) ≡ 184)
    → (k : ℕ) (d : List ℕ) → k < length (packets_with pid counter start all) → length (get_or (packets_with pid counter start all) k d) ≡ 188
unfolding packets_with
whole_with pid counter start [] f k d h = absurd (omega arith)
whole_with pid counter start (payload ∷ later) f zero d h = length_packet pid counter start payload (f zero [] (omega arith))
whole_with pid counter start (payload ∷ later) f (suc k) d h =
    whole_with pid ((counter + 1) % 16) false later (λ j e p. f (suc j) e (omega arith)) k d (omega arith)

whole_cut : (bytes : List ℕ) (pid counter : ℕ) → All (λ packet. length packet ≡ 188) (cut_packets bytes pid counter)
unfolding cut_packets
whole_cut bytes pid counter =
    whole_with pid counter true (payloads (payload_count (with_pointer bytes)) (with_pointer bytes)) (full_payloads (payload_count (with_pointer bytes)) (with_pointer bytes))

pub sent_whole : (list : List TimedSection) (turns : ℕ) → All (λ packet. length packet ≡ 188) (sent list turns)
unfolding sent
sent_whole list zero = λ k d h. absurd (omega arith)
sent_whole list (suc t) =
    All-append (λ packet. length packet ≡ 188) (sent list t) (packets_of_turn list t) (sent_whole list t)
    (whole_cut (section_of_turn list t).bytes (section_of_turn list t).pid (counter_before list t (section_of_turn list t).pid))
