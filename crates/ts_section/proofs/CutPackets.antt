-- The packets of a section, one after another.
use Rattle.std.proofs.Common.{suc, ◌≡◌, ℕ, ◌+◌, ◌-◌, ◌%◌, ◌<◌, ◌≤◌, Bool, true, false, List, [], ◌∷◌, ◌++◌, length, take, drop, replicate, refl, ap, sym, subst, ◌∙◌, true≢false, arith, length-drop, length-take, Result, Ok, Err, OnErr}
use Rattle.std.specs.List.{concat}
use Rattle.std.proofs.lemmas.List.{take-replicate, take-append-le}
use Rattle.ts_packet.specs.Packet.{packet_bytes}
use Rattle.ts_section.specs.Cut.{filled, payloads, payload_count, packets_with, Cutting, cutting_of, packets_left, cut_packets, with_pointer, Begins}

-- bytes with as many 0xFF behind them as there is room for
pub stuffed : (all front bytes : List ℕ) (len : ℕ) → front ≡ bytes → len ≡ length front → len ≤ 184
    → all ≡ front ++ take (184 - len) (replicate 184 255) → all ≡ filled bytes
stuffed all front bytes len e k h told =
    let room : 184 - len ≤ 184 = omega arith in
    let same : len ≡ length bytes = k ∙ ap length e in
    told ∙ ap (λ v. front ++ v) (take-replicate (184 - len) 184 255 room) ∙ ap (λ v. v ++ replicate (184 - len) 255) e ∙ ap (λ n. bytes ++ replicate (184 - n) 255) same

pub payload_count-more : (rest : List ℕ) → 0 < length rest → payload_count rest ≡ suc (payload_count (drop 184 rest))
payload_count-more rest h = let left = length-drop 184 rest in omega arith

pub packets_with-more : (pid counter : ℕ) (start : Bool) (rest : List ℕ) → 0 < length rest
    → packets_with pid counter start (payloads (payload_count rest) rest)
    ≡ packet_bytes pid counter start (filled (take 184 rest)) ∷ packets_with pid ((counter + 1) % 16) false (payloads (payload_count (drop 184 rest)) (drop 184 rest))
unfolding packets_with payloads
packets_with-more pid counter start rest h = rw (payload_count-more rest h) refl

pub packets_with-none : (pid counter : ℕ) (rest : List ℕ) → length rest ≡ 0 → concat (packets_with pid counter false (payloads (payload_count rest) rest)) ≡ []
unfolding packets_with payloads
packets_with-none pid counter [] e = refl
packets_with-none pid counter (b ∷ rest) e = absurd (omega arith)

pub begins_more : (old out longer more : List ℕ) → Begins old out → longer ≡ out ++ more → Begins old longer
begins_more old out longer more b e =
    let cut = length-take (length old) out in
    let size = ap length b in
    let fits : length old ≤ length out = omega arith in
    rw (e, take-append-le (length old) out more fits) b

pub on_err : {T E P Q : Type 0} (r : Result T E) → (P → Q) → OnErr r P → OnErr r Q
on_err (Ok x) f h = h
on_err (Err e) f h = f h

-- the first packet and those of the rest
pub cut_packets-first : (section : List ℕ) (pid counter : ℕ)
    → cut_packets section pid counter
    ≡ packet_bytes pid counter true (filled (0 ∷ take 183 section)) ∷ packets_with pid ((counter + 1) % 16) false (payloads (payload_count (drop 183 section)) (drop 183 section))
unfolding cut_packets
cut_packets-first section pid counter =
    let some : 0 < length (with_pointer section) = omega arith in
    packets_with-more pid counter true (with_pointer section) some

nothing_left : (pid counter : ℕ) (rest : List ℕ) → length rest ≡ 0 → packets_left (cutting_of pid counter false rest) ≡ []
unfolding packets_with payloads
nothing_left pid counter [] e = refl
nothing_left pid counter (b ∷ rest) e = absurd (omega arith)

-- the first packet is cut off, and the others are left
pub left_first : (state : Cutting) (pid counter : ℕ) (start : Bool) (section front behind payload packet : List ℕ)
    → state ≡ cutting_of pid counter start section → state.start ≡ true
    → front ≡ take 183 section → behind ≡ drop 183 section → payload ≡ filled (0 ∷ front) → packet ≡ packet_bytes pid counter true payload
    → packets_left state ≡ packet ∷ packets_left (cutting_of pid ((counter + 1) % 16) false behind)
left_first state pid counter start section front behind payload packet is starts e k full told =
    let first : start ≡ true = sym (ap (λ (s : Cutting). s.start) is) ∙ starts in
    let some : 0 < length (0 ∷ section) = omega arith in
    ap packets_left is
    ∙ ap (λ (b : Bool). packets_left (cutting_of pid counter b section)) first
    ∙ rw (told, full, e, k) (packets_with-more pid counter true (0 ∷ section) some)

-- a later packet is cut off
pub left_later : (state : Cutting) (pid counter : ℕ) (start : Bool) (rest front behind payload packet : List ℕ)
    → state ≡ cutting_of pid counter start rest → state.start ≡ false → 0 < length state.bytes
    → front ≡ take 184 rest → behind ≡ drop 184 rest → payload ≡ filled front → packet ≡ packet_bytes pid counter start payload
    → packets_left state ≡ packet ∷ packets_left (cutting_of pid ((counter + 1) % 16) start behind)
left_later state pid counter true rest front behind payload packet is later some e k full told =
    let first : state.start ≡ true = ap (λ (s : Cutting). s.start) is in
    absurd (true≢false (sym first ∙ later))
left_later state pid counter false rest front behind payload packet is later some e k full told =
    let bytes : state.bytes ≡ rest = ap (λ (s : Cutting). s.bytes) is in
    let more : 0 < length rest = subst (λ (b : List ℕ). 0 < length b) bytes some in
    ap packets_left is
    ∙ rw (told, full, e, k) (packets_with-more pid counter false rest more)

-- no packet is left
pub left_none : (state : Cutting) (pid counter : ℕ) (start : Bool) (rest : List ℕ)
    → state ≡ cutting_of pid counter start rest → start ≡ false → length rest ≡ 0 → packets_left state ≡ []
left_none state pid counter start rest is later none =
    ap packets_left is
    ∙ ap (λ (b : Bool). packets_left (cutting_of pid counter b rest)) later
    ∙ nothing_left pid counter rest none
