-- The packets of a section give it back.
use Rattle.std.proofs.Common.{zero, suc, ◌≡◌, ◌≢◌, ℕ, ◌+◌, ◌-◌, ◌%◌, ◌<◌, ◌≤◌, true, false, List, [], ◌∷◌, ◌++◌, length, take, drop, get_or, replicate, refl, ap, sym, ◌∙◌, arith, append_assoc, append-nil, length-append, length-drop, length-take, Option, Some, None, inl, inr, leb}
use Rattle.std.proofs.lemmas.List.{take-append-drop, take_all, take_at, drop_at, get_or_append_left, length-replicate}
use Rattle.std.proofs.lemmas.Bool.{le-leb, lt-leb, eq-eqb, ne_eqb, and_from, and_right, cases_lt, false≢true}
use Rattle.ts_packet.specs.Packet.{TransportPacket, usable, packet_of, packet_bytes}
use Rattle.ts_packet.proofs.Written.{usable-packet_bytes}
use Rattle.section_form.specs.Section.{section_end, is_right, IsRightSection}
use Rattle.section_form.proofs.RightLaws.{is_right-tells}
use Rattle.ts_section.specs.declared.step.Step.{Step}
use Rattle.ts_section.specs.declared.step.Step.TheVariants.{Next, Lost}
use Rattle.ts_section.specs.Sections.{has_section, starts_behind, repeats, counts_on}
use Rattle.ts_section.specs.Steps.{step_to, last_from, open_texts, open_after, right_after, right_of, unfinished, is_start, as_start}
use Rattle.ts_section.specs.Events.{Event, Feed, is_listened, span, heard, heard_of}
use Rattle.ts_section.specs.Cut.{filled, payloads, payload_count, packets_with, cut_packets}
use Rattle.ts_section.proofs.Pieces.{right_of-none, right_of-nil, right_of-right}
use Rattle.ts_section.proofs.PayloadStarts.{starts_behind-drop, starts_behind-whole, starts_behind-last, starts_behind-none}
use Rattle.ts_section.proofs.OpenTexts.{right_in-step, open_texts-step, last_from-push}
use Rattle.ts_section.proofs.Spans.{only_of-own, span-feed, is_listened-feed, heard-usable}
use Rattle.ts_section.proofs.CutPackets.{payload_count-more, cut_packets-first}

-- what a hearer keeps of a PID after these events
pub record State (events : List Event) (pid : ℕ) (newest : Option TransportPacket) (begun : List (List ℕ)) : Type 0 where
  pub listened : is_listened pid events ≡ true
  pub last : last_from None (span pid events) ≡ newest
  pub texts : open_texts None (span pid events) ≡ begun

state_heard : (events : List Event) (packet : List ℕ) (y : TransportPacket) (last : Option TransportPacket) (texts : List (List ℕ))
    → usable packet ≡ Some y → State events y.pid last texts
    → heard (Feed packet ∷ events) ≡ right_after (step_to last y) texts y
state_heard events packet y last texts e state =
    heard-usable packet events y e state.listened
    ∙ right_in-step (span y.pid events) y
    ∙ ap (λ l. right_after (step_to l y) (open_texts None (span y.pid events)) y) state.last
    ∙ ap (λ ts. right_after (step_to last y) ts y) state.texts

state_next : (events : List Event) (packet : List ℕ) (y : TransportPacket) (last : Option TransportPacket) (texts : List (List ℕ))
    → usable packet ≡ Some y → State events y.pid last texts
    → State (Feed packet ∷ events) y.pid (Some y) (open_after (step_to last y) texts y)
state_next events packet y last texts e state =
    let grown : span y.pid (Feed packet ∷ events) ≡ span y.pid events ++ y ∷ [] =
    span-feed y.pid packet events state.listened ∙ ap (λ ys. span y.pid events ++ ys) (only_of-own packet y e) in
    record {
      listened = is_listened-feed y.pid packet events ∙ state.listened;
      last = ap (last_from None) grown ∙ last_from-push None (span y.pid events) y;
      texts = ap (open_texts None) grown
          ∙ open_texts-step (span y.pid events) y
          ∙ ap (λ l. open_after (step_to l y) (open_texts None (span y.pid events)) y) state.last
          ∙ ap (λ ts. open_after (step_to last y) ts y) state.texts;
    }

state_step : (events : List Event) (packet : List ℕ) (y : TransportPacket) (last : Option TransportPacket) (texts : List (List ℕ)) (step : Step)
    → usable packet ≡ Some y → State events y.pid last texts → step_to last y ≡ step
    → (heard (Feed packet ∷ events) ≡ right_after step texts y) × State (Feed packet ∷ events) y.pid (Some y) (open_after step texts y)
state_step events packet y last texts step e state same =
    (rw (← same) (state_heard events packet y last texts e state), rw (← same) (state_next events packet y last texts e state))

-- a section, and the text that begins with it or is its front
pub record IsCarried (section : List ℕ) : Type 0 where
  pub three : 3 ≤ length section
  pub end : section_end section ≡ length section
  pub right : is_right section ≡ true

end_append : (text more : List ℕ) → 3 ≤ length text → section_end (text ++ more) ≡ section_end text
end_append text more h =
    let one : get_or (text ++ more) 1 0 ≡ get_or text 1 0 = get_or_append_left text more 0 1 (omega arith) in
    let two : get_or (text ++ more) 2 0 ≡ get_or text 2 0 = get_or_append_left text more 0 2 (omega arith) in
    rw (one, two) refl

whole_text : (section more text : List ℕ) → IsCarried section → text ≡ section ++ more → (section_end text ≡ length section) × (has_section text ≡ true)
unfolding has_section
whole_text section more text carried e =
    let end : section_end text ≡ length section = ap section_end e ∙ end_append section more carried.three ∙ carried.end in
    let size = ap length e ∙ length-append section more in
    let three = carried.three in
    (end, and_from (leb 3 (length text)) (leb (section_end text) (length text)) (le-leb 3 (length text) (omega arith)) (le-leb (section_end text) (length text) (omega arith)))

whole_right : (section more text : List ℕ) → IsCarried section → text ≡ section ++ more → right_of (text ∷ []) ≡ section ∷ []
whole_right section more text carried e =
    let known = whole_text section more text carried e in
    let front : take (length section) text ≡ section = ap (take (length section)) e ∙ take_at section more (length section) refl in
    right_of-right text (length section) known.1 (sym known.0) (rw front carried.right) ∙ ap (λ s. s ∷ []) front

short_text : (section text rest : List ℕ) → IsCarried section → section ≡ text ++ rest → 3 ≤ length text → 0 < length rest → has_section text ≡ false
unfolding has_section
short_text section text rest carried e three some =
    let end : length section ≡ section_end text = sym carried.end ∙ ap section_end e ∙ end_append text rest three in
    let size = ap length e ∙ length-append text rest in
    and_right (leb 3 (length text)) (leb (section_end text) (length text)) (lt-leb (section_end text) (length text) (omega arith))

-- the packet whose counter goes on by 1 is next
next_step : (p y : TransportPacket) → p.counter < 16 → y.counter ≡ (p.counter + 1) % 16 → step_to (Some p) y ≡ Next
unfolding repeats counts_on
next_step p y h e =
    let apart : y.counter ≢ p.counter = λ q. omega arith in
    rw (ne_eqb y.counter p.counter apart, eq-eqb y.counter ((p.counter + 1) % 16) e) refl

length-filled : (bytes : List ℕ) → length bytes ≤ 184 → length (filled bytes) ≡ 184
length-filled bytes h =
    let sum : length (filled bytes) ≡ length bytes + length (replicate {A = ℕ} (184 - length bytes) 255) = length-append bytes (replicate (184 - length bytes) 255) in
    let room : length (replicate {A = ℕ} (184 - length bytes) 255) ≡ 184 - length bytes = length-replicate (184 - length bytes) 255 in
    omega arith

usable_full : (pid counter : ℕ) (payload : List ℕ) → pid < 8192 → counter < 16 → length payload ≡ 184
    → usable (packet_bytes pid counter false payload) ≡ Some (packet_of pid counter false payload)
usable_full pid counter payload h k size = usable-packet_bytes pid counter false payload h k (omega arith) (omega arith) (λ start. absurd (false≢true start))

-- the next packet of a section goes on with its text
fed_next : (pid : ℕ) (text payload : List ℕ) (events : List Event) (p : TransportPacket)
    → pid < 8192 → p.counter < 16 → length payload ≡ 184 → State events pid (Some p) (text ∷ [])
    → (heard (Feed (packet_bytes pid ((p.counter + 1) % 16) false payload) ∷ events) ≡ right_of ((text ++ payload) ∷ []))
    × State (Feed (packet_bytes pid ((p.counter + 1) % 16) false payload) ∷ events) pid (Some (packet_of pid ((p.counter + 1) % 16) false payload)) (unfinished ((text ++ payload) ∷ []))
unfolding right_after open_after
fed_next pid text payload events p h k size state =
    let y = packet_of pid ((p.counter + 1) % 16) false payload in
    let packet = packet_bytes pid ((p.counter + 1) % 16) false payload in
    let e : usable packet ≡ Some y = usable_full pid ((p.counter + 1) % 16) payload h (omega arith) size in
    let step = state_step events packet y (Some p) (text ∷ []) Next e state (next_step p y k refl) in
    (step.0 ∙ rw right_of-nil (append-nil (right_of ((text ++ payload) ∷ []))), rw append-nil at step.1)

-- the packets behind the first one give the section at the last of them
rest_heard : (n pid : ℕ) (section text rest : List ℕ) (events : List Event) (p : TransportPacket)
    → pid < 8192 → p.counter < 16 → State events pid (Some p) (text ∷ []) → IsCarried section
    → section ≡ text ++ rest → 3 ≤ length text → 0 < length rest → n ≡ payload_count rest
    → heard_of events (packets_with pid ((p.counter + 1) % 16) false (payloads n rest)) ≡ section ∷ []
unfolding packets_with payloads heard_of
rest_heard zero pid section text rest events p h k state carried e three some count =
    let more = payload_count-more rest some in
    absurd (omega arith)
rest_heard (suc n) pid section text rest events p h k state carried e three some count =
    let payload = filled (take 184 rest) in
    let front = length-take 184 rest in
    let fits : length (take 184 rest) ≤ 184 = omega arith in
    let size = length-filled (take 184 rest) fits in
    let step = fed_next pid text payload events p h k size state in
    let counts : (p.counter + 1) % 16 < 16 = omega arith in
    let left = length-drop 184 rest in
    let sum = length-append text payload in
    let more = payload_count-more rest some in
    elim (cases_lt 184 (length rest)) [
      | inl long ↦ (
          let full : payload ≡ take 184 rest = (let taken : length (take 184 rest) ≡ 184 = omega arith in
          ap (λ m. take 184 rest ++ replicate (184 - m) 255) taken ∙ append-nil (take 184 rest)) in
          let whole : section ≡ (text ++ payload) ++ drop 184 rest =
          e ∙ ap (λ v. text ++ v) (sym (take-append-drop 184 rest)) ∙ sym (append_assoc text (take 184 rest) (drop 184 rest)) ∙ ap (λ v. (text ++ v) ++ drop 184 rest) (sym full) in
          let begun : 3 ≤ length (text ++ payload) = omega arith in
          let behind : 0 < length (drop 184 rest) = omega arith in
          let short = short_text section (text ++ payload) (drop 184 rest) carried whole begun behind in
          let counted : n ≡ payload_count (drop 184 rest) = omega arith in
          let none = step.0 ∙ right_of-none (text ++ payload) short in
          rw none (rest_heard n pid section (text ++ payload) (drop 184 rest) (Feed (packet_bytes pid ((p.counter + 1) % 16) false payload) ∷ events)
          (packet_of pid ((p.counter + 1) % 16) false payload) h counts (rw short at step.1) carried whole begun behind counted))
      | inr last ↦ (
          let stuffing = replicate {A = ℕ} (184 - length rest) 255 in
          let same : payload ≡ rest ++ stuffing = ap filled (take_all 184 rest last) in
          let whole : text ++ payload ≡ section ++ stuffing =
          ap (λ v. text ++ v) same ∙ sym (append_assoc text rest stuffing) ∙ ap (λ v. v ++ stuffing) (sym e) in
          let found = step.0 ∙ whole_right section stuffing (text ++ payload) carried whole in
          let nothing : n ≡ 0 = omega arith in
          rw (found, nothing) refl)
    ]

is_start-at : (text : List ℕ) → 0 < length text → get_or text 0 0 ≢ 255 → is_start text ≡ true
is_start-at [] h apart = absurd (omega arith)
is_start-at (b ∷ text) h apart = rw (ne_eqb b 255 apart) refl

stuffing_starts : (n : ℕ) → starts_behind (replicate n 255) 0 ≡ []
stuffing_starts zero = starts_behind-none [] refl
stuffing_starts (suc n) = starts_behind-none (255 ∷ replicate n 255) refl

-- what starts in the first packet
first_starts : (text : List ℕ) → starts_behind (0 ∷ text) 1 ≡ starts_behind text 0
first_starts text = starts_behind-drop (0 ∷ text) 1

first_state : (events : List Event) (pid : ℕ) → is_listened pid events ≡ true → span pid events ≡ [] → State events pid None []
unfolding open_texts
first_state events pid listened none = record { listened = listened; last = ap (last_from None) none; texts = ap (open_texts None) none }

-- the first packet of a section
fed_first : (pid counter : ℕ) (text : List ℕ) (events : List Event) → pid < 8192 → counter < 16 → length text ≡ 183 → State events pid None []
    → (heard (Feed (packet_bytes pid counter true (0 ∷ text)) ∷ events) ≡ right_of (starts_behind text 0))
    × State (Feed (packet_bytes pid counter true (0 ∷ text)) ∷ events) pid (Some (packet_of pid counter true (0 ∷ text))) (unfinished (starts_behind text 0))
unfolding right_after open_after
fed_first pid counter text events h k size state =
    let y = packet_of pid counter true (0 ∷ text) in
    let packet = packet_bytes pid counter true (0 ∷ text) in
    let some : 1 ≤ length (0 ∷ text) = omega arith in
    let few : length (0 ∷ text) ≤ 184 = omega arith in
    let inside : 1 < length (0 ∷ text) = omega arith in
    let e : usable packet ≡ Some y = usable-packet_bytes pid counter true (0 ∷ text) h k some few (λ _. inside) in
    let step = state_step events packet y None [] Lost e state refl in
    (step.0 ∙ ap right_of (first_starts text), rw first_starts at step.1)

first_filled : (front : List ℕ) → filled (0 ∷ front) ≡ 0 ∷ (front ++ replicate (183 - length front) 255)
first_filled front =
    let room : 184 - suc (length front) ≡ 183 - length front = omega arith in
    ap (λ n. 0 ∷ (front ++ replicate n 255)) room

heard_none : (events : List Event) (pid counter : ℕ) (rest : List ℕ) → length rest ≡ 0
    → heard_of events (packets_with pid counter false (payloads (payload_count rest) rest)) ≡ []
unfolding packets_with payloads heard_of
heard_none events pid counter [] e = refl
heard_none events pid counter (b ∷ rest) e = absurd (omega arith)

-- The packets of a right section give it back, to a hearer that listens to the PID and had no packet of it.
pub cut_heard : (section : List ℕ) (pid counter : ℕ) (events : List Event) → pid < 8192 → counter < 16
    → IsCarried section → get_or section 0 0 ≢ 255 → is_listened pid events ≡ true → span pid events ≡ []
    → heard_of events (cut_packets section pid counter) ≡ section ∷ []
unfolding heard_of
cut_heard section pid counter events h k carried apart listened none =
    let front = take 183 section in
    let stuffing = replicate {A = ℕ} (183 - length front) 255 in
    let text = front ++ stuffing in
    let cut = length-take 183 section in
    let room : length stuffing ≡ 183 - length front = length-replicate (183 - length front) 255 in
    let size : length text ≡ 183 = omega (arith, length-append front stuffing) in
    let step = fed_first pid counter text events h k size (first_state events pid listened none) in
    let three = carried.three in
    let left = length-drop 183 section in
    rw (cut_packets-first section pid counter, first_filled front) (elim (cases_lt 183 (length section)) [
      | inl long ↦ (
          let taken : length front ≡ 183 = omega arith in
          let full : text ≡ front = ap (λ m. front ++ replicate (183 - m) 255) taken ∙ append-nil front in
          let whole : section ≡ text ++ drop 183 section = sym (take-append-drop 183 section) ∙ ap (λ v. v ++ drop 183 section) (sym full) in
          let begun : 3 ≤ length text = omega arith in
          let some : 0 < length text = omega arith in
          let behind : 0 < length (drop 183 section) = omega arith in
          let short = short_text section text (drop 183 section) carried whole begun behind in
          let starts = is_start-at text some (λ q. apart (ap (λ v. get_or v 0 0) whole ∙ get_or_append_left text (drop 183 section) 0 0 some ∙ q)) in
          let one : as_start text ≡ text ∷ [] = rw starts refl in
          let last : starts_behind text 0 ≡ text ∷ [] = starts_behind-last text short ∙ one in
          let nothing = step.0 ∙ ap right_of last ∙ right_of-none text short in
          rw nothing (rest_heard (payload_count (drop 183 section)) pid section text (drop 183 section)
          (Feed (packet_bytes pid counter true (0 ∷ text)) ∷ events) (packet_of pid counter true (0 ∷ text))
          h k (rw (last, short) at step.1) carried whole begun behind refl))
      | inr few ↦ (
          let rest = replicate {A = ℕ} (183 - length section) 255 in
          let same : text ≡ section ++ rest = ap (λ v. v ++ replicate (183 - length v) 255) (take_all 183 section few) in
          let known = whole_text section rest text carried same in
          let some : 0 < length section = omega arith in
          let filled_up : 0 < length text = omega arith in
          let starts = is_start-at text filled_up (λ q. apart (sym (get_or_append_left section rest 0 0 some) ∙ ap (λ v. get_or v 0 0) (sym same) ∙ q)) in
          let behind : drop (section_end text) text ≡ rest =
          ap (λ n. drop n text) known.0 ∙ ap (drop (length section)) same ∙ drop_at section rest (length section) refl in
          let one : starts_behind text 0 ≡ text ∷ [] =
          starts_behind-whole text starts known.1 ∙ ap (λ v. text ∷ v) (ap (λ v. starts_behind v 0) behind ∙ stuffing_starts (183 - length section)) in
          let found = step.0 ∙ ap right_of one ∙ whole_right section rest text carried same in
          let nothing : length (drop 183 section) ≡ 0 = omega arith in
          rw (found, heard_none (Feed (packet_bytes pid counter true (0 ∷ text)) ∷ events) pid ((counter + 1) % 16) (drop 183 section) nothing) refl)
    ])

pub carried_from : (section : List ℕ) → IsRightSection section → IsCarried section
carried_from section right = record { three = right.0.head; end = sym right.0.end; right = (is_right-tells section).1 right.1 }

-- the same, for a section that is right
pub right_heard : (section : List ℕ) (pid counter : ℕ) → pid < 8192 → counter < 16 → get_or section 0 0 ≢ 255
    → (events : List Event) → is_listened pid events ≡ true → span pid events ≡ [] → IsRightSection section
    → heard_of events (cut_packets section pid counter) ≡ section ∷ []
right_heard section pid counter h k apart events listened none right =
    cut_heard section pid counter events h k (carried_from section right) apart listened none
