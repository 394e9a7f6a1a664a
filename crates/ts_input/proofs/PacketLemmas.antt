-- The packets of bytes that came one after another.
use Rattle.std.proofs.Common.{zero, suc, ◌≡◌, ℕ, ◌+◌, ◌-◌, ◌*◌, ◌/◌, ◌<◌, List, [], ◌∷◌, ◌++◌, length, take, drop, map, ap, sym, refl, arith, ◌∙◌, length-append, append-nil}
use Rattle.std.specs.List.{range_with_len}
use Rattle.std.proofs.lemmas.List.{drop-append-le, take-append-le, length-drop, take_all}
use Rattle.std.proofs.lemmas.List.FromFn.{length-map-range_with_len}
use Rattle.std.proofs.Math.Seq.{drop-append-add}
use Rattle.ts_input.specs.Packets.{packet_at, packets}

packet_at_is : (bytes : List ℕ) (n : ℕ) → packet_at bytes n ≡ take 188 (drop (188 * n) bytes)
packet_at_is bytes n =
    let width : 188 * n + 188 - 188 * n ≡ 188 = omega arith in
    ap (λ (m : ℕ). take m (drop (188 * n) bytes)) width

-- two lists of places with the same values
map_shifted : (f g : ℕ → List ℕ) (a b m : ℕ) → ((k : ℕ) → k < m → f (a + k) ≡ g (b + k)) → map f (range_with_len a m) ≡ map g (range_with_len b m)
map_shifted f g a b zero same = refl
map_shifted f g a b (suc m) same =
    let at_a : a + 0 ≡ a = omega arith in
    let at_b : b + 0 ≡ b = omega arith in
    let here : f a ≡ g b = ap f (sym at_a) ∙ same 0 (omega arith) ∙ ap g at_b in
    let later = λ (k : ℕ) (below : k < m).
    let from_a : (a + 1) + k ≡ a + (k + 1) = omega arith in
    let from_b : (b + 1) + k ≡ b + (k + 1) = omega arith in
    ap f from_a ∙ same (k + 1) (omega (arith, below)) ∙ ap g (sym from_b) in
    ap (λ (first : List ℕ). first ∷ map f (range_with_len (a + 1) m)) here
    ∙ ap (λ (others : List (List ℕ)). g b ∷ others) (map_shifted f g (a + 1) (b + 1) m later)

map_split : (f : ℕ → List ℕ) (a n m : ℕ) → map f (range_with_len a (n + m)) ≡ map f (range_with_len a n) ++ map f (range_with_len (a + n) m)
map_split f a zero m =
    let none : 0 + m ≡ m = omega arith in
    let at : a ≡ a + 0 = omega arith in
    ap (λ (k : ℕ). map f (range_with_len a k)) none ∙ ap (λ (k : ℕ). map f (range_with_len k m)) at
map_split f a (suc n) m =
    let more : suc n + m ≡ suc (n + m) = omega arith in
    let at : (a + 1) + n ≡ a + suc n = omega arith in
    ap (λ (k : ℕ). map f (range_with_len a k)) more
    ∙ ap (λ (others : List (List ℕ)). f a ∷ others) (map_split f (a + 1) n m)
    ∙ ap (λ (k : ℕ). (f a ∷ map f (range_with_len (a + 1) n)) ++ map f (range_with_len k m)) at

-- the packets of the front
front_packet : (front back : List ℕ) (n k : ℕ) → length front ≡ 188 * n → k < n → packet_at (front ++ back) k ≡ packet_at front k
front_packet front back n k whole below =
    packet_at_is (front ++ back) k
    ∙ ap (take 188) (drop-append-le (188 * k) front back (omega (arith, whole, below)))
    ∙ take-append-le 188 (drop (188 * k) front) back (omega (arith, length-drop (188 * k) front, whole, below))
    ∙ sym (packet_at_is front k)

-- the packets behind it
back_packet : (front back : List ℕ) (n k : ℕ) → length front ≡ 188 * n → packet_at (front ++ back) (n + k) ≡ packet_at back k
back_packet front back n k whole =
    let place : 188 * (n + k) ≡ length front + 188 * k = omega (arith, whole) in
    packet_at_is (front ++ back) (n + k)
    ∙ ap (λ (m : ℕ). take 188 (drop m (front ++ back))) place
    ∙ ap (take 188) (drop-append-add front back (188 * k))
    ∙ sym (packet_at_is back k)

pub length_packets : (bytes : List ℕ) → length (packets bytes) ≡ length bytes / 188
unfolding packets
length_packets bytes = length-map-range_with_len (packet_at bytes) 0 (length bytes / 188)

-- Where a whole number of packets stands in front, the packets are those in front and those behind.
pub packets_append : (front back : List ℕ) (n : ℕ) → length front ≡ 188 * n → packets (front ++ back) ≡ packets front ++ packets back
unfolding packets
packets_append front back n whole =
    let m = length back / 188 in
    let number : length (front ++ back) / 188 ≡ n + m = omega (arith, length-append front back, whole) in
    let number_in_front : n ≡ length front / 188 = omega (arith, whole) in
    let f = packet_at (front ++ back) in
    let in_front : map f (range_with_len 0 n) ≡ map (packet_at front) (range_with_len 0 n) =
    map_shifted f (packet_at front) 0 0 n (λ k below. front_packet front back n (0 + k) whole (omega (arith, below))) in
    let behind : map f (range_with_len (0 + n) m) ≡ map (packet_at back) (range_with_len 0 m) =
    map_shifted f (packet_at back) (0 + n) 0 m (λ k below.
    let at : (0 + n) + k ≡ n + k = omega arith in
    let at_back : k ≡ 0 + k = omega arith in
    ap f at ∙ back_packet front back n k whole ∙ ap (packet_at back) at_back) in
    ap (λ (k : ℕ). map f (range_with_len 0 k)) number
    ∙ map_split f 0 n m
    ∙ ap (λ (xs : List (List ℕ)). xs ++ map f (range_with_len (0 + n) m)) in_front
    ∙ ap (λ (xs : List (List ℕ)). map (packet_at front) (range_with_len 0 n) ++ xs) behind
    ∙ ap (λ (k : ℕ). map (packet_at front) (range_with_len 0 k) ++ map (packet_at back) (range_with_len 0 m)) number_in_front

-- A packet alone.
pub packets_of_one : (packet : List ℕ) → length packet ≡ 188 → packets packet ≡ packet ∷ []
unfolding packets
packets_of_one packet whole =
    let one : length packet / 188 ≡ 1 = omega (arith, whole) in
    ap (λ (k : ℕ). map (packet_at packet) (range_with_len 0 k)) one
    ∙ ap (λ (first : List ℕ). first ∷ []) (packet_at_is packet 0 ∙ take_all 188 packet (omega (arith, whole)))

-- A rest that is no packet.
pub packets_of_rest : (rest : List ℕ) → length rest < 188 → packets rest ≡ []
unfolding packets
packets_of_rest rest short =
    let none : length rest / 188 ≡ 0 = omega (arith, short) in
    ap (λ (k : ℕ). map (packet_at rest) (range_with_len 0 k)) none

-- One more packet came.
pub packets_more : (taken packet : List ℕ) (n : ℕ) → length taken ≡ 188 * n → length packet ≡ 188 → packets (taken ++ packet) ≡ packets taken ++ packet ∷ []
packets_more taken packet n whole one =
    packets_append taken packet n whole ∙ ap (λ (xs : List (List ℕ)). packets taken ++ xs) (packets_of_one packet one)

-- A rest that is no packet came.
pub packets_end : (taken rest : List ℕ) (n : ℕ) → length taken ≡ 188 * n → length rest < 188 → packets (taken ++ rest) ≡ packets taken
packets_end taken rest n whole short =
    packets_append taken rest n whole
    ∙ ap (λ (xs : List (List ℕ)). packets taken ++ xs) (packets_of_rest rest short)
    ∙ append-nil (packets taken)
