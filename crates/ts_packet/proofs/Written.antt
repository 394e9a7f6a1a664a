-- What the bytes of a packet are, part by part, and that they are a usable packet.
use Rattle.std.proofs.Common.{lt-ltb, le-leb, Option, ⊎_elim, eq-eqb, ◌&&◌, if◌then◌else◌, ◌==◌, IsTrue, ◌≡◌, ℕ, zero, suc, ◌+◌, ◌-◌, ◌*◌, ◌/◌, ◌%◌, ◌<◌, ◌≤◌, Bool, true, false, List, [], ◌∷◌, ◌++◌, length, take, drop, replicate, set, Some, ap₂, append_assoc, append-nil, refl, sym, ap, ◌∙◌, arith}
use Rattle.std.proofs.lemmas.List.{length-append, take-replicate, drop-replicate, length-replicate, drop_all}
use Rattle.std.proofs.Math.Seq.{drop-append_seam, take-append_seam}
use borrow.Rule.Slice.PartMut.{put_mid}
use Rattle.std.proofs.lemmas.Bool.Decides.{eqb_tells}
use Rattle.ts_packet.specs.Packet.{flags_and_stuffing, adaptation_field, packet_bytes, usable, is_intact, payload_of, pointed_in, packet_of, pointed_place, header, starts_unit, TransportPacket, pid_of, continuity_counter}

pub length-flags_and_stuffing : (n : ℕ) → length (flags_and_stuffing n) ≡ n
unfolding flags_and_stuffing
length-flags_and_stuffing zero = refl
length-flags_and_stuffing (suc n) = grind (arith, length-replicate)

pub length-adaptation_field : (n : ℕ) → length (adaptation_field n) ≡ n
unfolding adaptation_field
length-adaptation_field zero = refl
length-adaptation_field (suc n) = ap suc (length-flags_and_stuffing n)

-- stuffing bytes with a length and flags written into them
pub field_none : (xs : List ℕ) → length xs ≡ 0 → xs ≡ adaptation_field (length xs)
unfolding adaptation_field
field_none [] e = refl
field_none (x ∷ xs) e = absurd (omega arith)

pub field_one : (xs : List ℕ) → length xs ≡ 1 → set xs 0 0 ≡ adaptation_field (length xs)
unfolding adaptation_field flags_and_stuffing
field_one [] e = absurd (omega arith)
field_one (x ∷ []) e = refl
field_one (x ∷ y ∷ xs) e = absurd (omega arith)

field_some : (n : ℕ) → set (set (replicate (suc (suc n)) 255) 0 (suc n)) 1 0 ≡ adaptation_field (suc (suc n))
unfolding adaptation_field flags_and_stuffing
field_some n = refl

field_long : (n : ℕ) (xs : List ℕ) → 1 < n → xs ≡ replicate n 255
    → set (set xs 0 (n - 1)) 1 0 ≡ adaptation_field n
field_long zero xs h e = absurd (omega arith)
field_long (suc zero) xs h e = absurd (omega arith)
field_long (suc (suc n)) xs h e =
    let k : suc (suc n) - 1 ≡ suc n = omega arith in
    ap₂ (λ zs m. set (set zs 0 m) 1 0) e k ∙ field_some n

pub field_more : (xs : List ℕ) → 1 < length xs → xs ≡ replicate (length xs) 255
    → set (set xs 0 (length xs - 1)) 1 0 ≡ adaptation_field (length xs)
field_more xs h e = field_long (length xs) xs h e

-- A list of one byte over and over again has as many as its length says.
pub stuffing_all : (n : ℕ) (xs : List ℕ) → xs ≡ replicate n 255 → xs ≡ replicate (length xs) 255
stuffing_all n xs e = e ∙ ap (λ m. replicate m 255) (sym (ap length e ∙ length-replicate n 255))

drop_front : (front xs : List ℕ) (n : ℕ) → length front ≡ n → drop n (front ++ xs) ≡ xs
drop_front front xs n e = ap (λ m. drop m (front ++ xs)) (sym e) ∙ drop-append_seam front xs

take_front : (front xs : List ℕ) (n : ℕ) → length front ≡ n → take n (front ++ xs) ≡ front
take_front front xs n e = ap (λ m. take m (front ++ xs)) (sym e) ∙ take-append_seam front xs

drop_stuffing : (n : ℕ) (packet : List ℕ) → packet ≡ replicate 188 255 → drop n packet ≡ replicate (188 - n) 255
drop_stuffing n packet e = ap (drop n) e ∙ drop-replicate n 188 255

-- What lies behind the header is stuffing.
pub behind_header : (front packet : List ℕ) (n : ℕ) → length front ≡ 4 → packet ≡ replicate 188 255 → n ≤ 184
    → take n (drop 4 (front ++ drop 4 packet)) ≡ replicate n 255
behind_header front packet n e p h =
    ap (take n) (drop_front front (drop 4 packet) 4 e ∙ drop_stuffing 4 packet p) ∙ take-replicate n 184 255 h

-- The packet with its field, and then with its payload.
with_field : (front packet field : List ℕ) (n : ℕ) → length front ≡ 4 → packet ≡ replicate 188 255
    → put_mid 4 n (front ++ drop 4 packet) field ≡ front ++ field ++ replicate (184 - n) 255
with_field front packet field n e p =
    ap₂ (λ xs ys. xs ++ (field ++ drop n ys)) (take_front front (drop 4 packet) 4 e)
    (drop_front front (drop 4 packet) 4 e ∙ drop_stuffing 4 packet p)
    ∙ ap (λ ys. front ++ (field ++ ys)) (drop-replicate n 184 255)
    ∙ sym (append_assoc front field (replicate (184 - n) 255))

with_payload : (xs rest payload : List ℕ) (at len : ℕ) → length xs ≡ at → len ≡ length (xs ++ rest)
    → put_mid at (len - at) (xs ++ rest) payload ≡ xs ++ payload
with_payload xs rest payload at len e l =
    let longer : length rest ≤ len - at = omega (arith, length-append xs rest) in
    let none : drop (len - at) (drop at (xs ++ rest)) ≡ [] = ap (drop (len - at)) (drop_front xs rest at e) ∙ drop_all (len - at) rest longer in
    ap₂ (λ ys zs. ys ++ (payload ++ zs)) (take_front xs rest at e) none ∙ ap (λ ys. xs ++ ys) (append-nil payload)

pub parts : (front packet field payload : List ℕ) (n at : ℕ) → length front ≡ 4 → packet ≡ replicate 188 255
    → n ≤ 184 → at ≡ 4 + n → length field ≡ n
    → put_mid at (length (put_mid 4 n (front ++ drop 4 packet) field) - at) (put_mid 4 n (front ++ drop 4 packet) field) payload
    ≡ front ++ field ++ payload
parts front packet field payload n at e p h a f =
    let q = with_field front packet field n e p in
    ap (λ ys. put_mid at (length ys - at) ys payload) q
    ∙ with_payload (front ++ field) (replicate (184 - n) 255) payload at _ (length-append front field ∙ omega arith) refl

-- A written packet is usable, and carries what was written.
all_true : (a b c d : Bool) → a ≡ true → b ≡ true → c ≡ true → d ≡ true → a && b && c && d ≡ true
all_true a b c d e f g h = rw (e, f, g, h) refl

intact : (a b c d : ℕ) (rest : List ℕ) → length rest ≡ 184 → a ≡ 0x47 → b / 128 ≡ 0 → d / 64 ≡ 0
    → is_intact (a ∷ b ∷ c ∷ d ∷ rest) ≡ true
unfolding is_intact
intact a b c d rest l sync error scrambled =
    all_true _ _ _ _ (eq-eqb _ _ (omega arith)) (eq-eqb _ _ sync) (eq-eqb _ _ error) (eq-eqb _ _ scrambled)

payload_alone : (a b c d : ℕ) (rest : List ℕ) → d / 16 % 4 ≡ 1 → payload_of (a ∷ b ∷ c ∷ d ∷ rest) ≡ Some rest
unfolding payload_of
payload_alone a b c d rest e = rw (eq-eqb (d / 16 % 4) 1 e) refl

payload_behind : (a b c d n : ℕ) (flags payload : List ℕ) → d / 16 % 4 ≡ 3 → length flags ≡ n → n ≤ 182
    → payload_of (a ∷ b ∷ c ∷ d ∷ n ∷ (flags ++ payload)) ≡ Some payload
unfolding payload_of
payload_behind a b c d n flags payload e l h =
    let field : d / 16 % 4 ≡ 3 = e in
    let at : 5 + n ≡ suc (suc (suc (suc (suc n)))) = omega arith in
    rw (field, le-leb n 182 h)
    (ap (λ k. Some (drop k (a ∷ b ∷ c ∷ d ∷ n ∷ (flags ++ payload)))) at ∙ ap Some (drop_front flags payload n l))

pointed : (start : Bool) (payload : List ℕ) → (IsTrue start → pointed_place payload < length payload)
    → pointed_in start payload ≡ Some (if start then pointed_place payload else 0)
unfolding pointed_in
pointed false payload h = refl
pointed true payload h = rw (lt-ltb (pointed_place payload) (length payload) (h refl)) refl

from_parts : (packet payload : List ℕ) (pid counter at : ℕ) (start : Bool)
    → is_intact packet ≡ true → payload_of packet ≡ Some payload → starts_unit packet ≡ start
    → pointed_in start payload ≡ Some at → pid_of packet ≡ pid → continuity_counter packet ≡ counter
    → usable packet ≡ Some (record { pid = pid; counter = counter; start = start; pointed = at; payload = payload })
unfolding usable
from_parts packet payload pid counter at start i p s q n k =
    let shown : ℕ → ℕ → Bool → Option TransportPacket
    = λ pid counter start. Some (record { pid = pid; counter = counter; start = start; pointed = at; payload = payload }) in
    let points : pointed_in (starts_unit packet) payload ≡ Some at = ap (λ b. pointed_in b payload) s ∙ q in
    rw (i, p, points)
    (ap (λ m. shown m (continuity_counter packet) (starts_unit packet)) n
    ∙ ap (λ m. shown pid m (starts_unit packet)) k ∙ ap (shown pid counter) s)

-- the second byte of the header
record SecondByte (byte pid : ℕ) (start : Bool) : Type 0 where
  error : byte / 128 ≡ 0
  starts : (byte / 64 % 2 == 1) ≡ start
  number : byte % 32 * 256 + pid % 256 ≡ pid

second : (pid : ℕ) (start : Bool) → pid < 8192 → SecondByte ((if start then 64 else 0) + pid / 256) pid start
second pid true h = record { error = omega arith; starts = eq-eqb _ _ (omega arith); number = omega arith }
second pid false h =
    let clear : (0 + pid / 256) / 64 % 2 ≡ 0 = omega arith in
    record { error = omega arith; starts = ap (λ n. n == 1) clear; number = omega arith }

alone_is_usable : (pid counter : ℕ) (start : Bool) (payload : List ℕ)
    → pid < 8192 → counter < 16 → length payload ≡ 184 → (IsTrue start → pointed_place payload < length payload)
    → usable (header pid counter start true ++ payload) ≡ Some (packet_of pid counter start payload)
alone_is_usable pid counter start payload p h l inside =
    let s = second pid start p in
    from_parts _ payload pid counter _ start (intact _ _ _ _ payload l refl s.error (omega arith))
    (payload_alone _ _ _ _ payload (omega arith)) s.starts (pointed start payload inside) s.number (omega arith)

behind_is_usable : (pid counter n : ℕ) (start : Bool) (payload : List ℕ)
    → pid < 8192 → counter < 16 → n + 1 + length payload ≡ 184 → 1 ≤ length payload
    → (IsTrue start → pointed_place payload < length payload)
    → usable (header pid counter start false ++ (adaptation_field (suc n) ++ payload)) ≡ Some (packet_of pid counter start payload)
unfolding adaptation_field
behind_is_usable pid counter n start payload p h l some inside =
    let s = second pid start p in
    let long : length (n ∷ (flags_and_stuffing n ++ payload)) ≡ 184
    = omega (arith, length-append (flags_and_stuffing n) payload, length-flags_and_stuffing n) in
    from_parts _ payload pid counter _ start (intact _ _ _ _ _ long refl s.error (omega arith))
    (payload_behind _ _ _ _ n (flags_and_stuffing n) payload (omega arith) (length-flags_and_stuffing n) (omega arith))
    s.starts (pointed start payload inside) s.number (omega arith)

pub usable-packet_bytes : (pid counter : ℕ) (start : Bool) (payload : List ℕ)
    → pid < 8192 → counter < 16 → 1 ≤ length payload → length payload ≤ 184
    → (IsTrue start → pointed_place payload < length payload)
    → usable (packet_bytes pid counter start payload) ≡ Some (packet_of pid counter start payload)
unfolding packet_bytes adaptation_field
usable-packet_bytes pid counter start payload p h some few inside =
    ⊎_elim
    (λ w.
    let none : 184 - length payload ≡ 0 = omega (arith, w.1) in
    rw (w.0, none) (alone_is_usable pid counter start payload p h w.1 inside))
    (λ w.
    let more : 184 - length payload ≡ suc (183 - length payload) = omega (arith, w.1) in
    rw (w.0, more) (behind_is_usable pid counter (183 - length payload) start payload p h (omega (arith, w.1)) some inside))
    (eqb_tells (length payload) 184)
