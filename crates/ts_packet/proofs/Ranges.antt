-- The ranges of what a usable packet carries.
use Rattle.std.proofs.Common.{if◌then◌else◌, inl, inr, ◌⊎◌, ⊎_elim, ◌-◌, eqb-true, leb-true, ltb-true, nat_lt, nat_le, slice_index, subst, ◌≡◌, ℕ, ◌+◌, ◌<◌, ◌≤◌, ◌&&◌, ◌==◌, Bool, true, false, IsTrue, List, length, drop, Option, None, Some, refl, sym, ap, ◌∙◌, arith}
use Rattle.std.specs.Option.{IfSome, option_map, option_and_then}
use Rattle.std.proofs.lemmas.List.{length-drop}
use Rattle.std.proofs.lemmas.Bool.{false≢true}
use Rattle.std.proofs.lemmas.Option.{option_and_then_some, cond_some}
use Rattle.ts_packet.specs.declared.packet.View.{View}
use Rattle.ts_packet.specs.Packet.{TransportPacket, InRange, usable, is_intact, payload_of, pointed_in, with_payload}
use Rattle.ts_packet.specs.Packet.{starts_unit, adaptation_field_control, adaptation_field_length, pointed_place, shown}

chosen : {A : Type 0} (b : Bool) (x y z : A) → (if b then x else y) ≡ z
    → ((b ≡ true) × (x ≡ z)) ⊎ ((b ≡ false) × (y ≡ z))
chosen true x y z e = inl (refl, e)
chosen false x y z e = inr (refl, e)

first_true : (a b : Bool) → a && b ≡ true → a ≡ true
first_true true b e = refl
first_true false b e = e

intact_length : (packet : List ℕ) → is_intact packet ≡ true → length packet ≡ 188
unfolding is_intact
intact_length packet e = eqb-true _ _ (first_true _ _ (first_true _ _ (first_true _ _ e)))

-- a rest of the packet
rest_length : (packet payload : List ℕ) (n : ℕ) → length packet ≡ 188 → 4 ≤ n → n ≤ 187 → Some (drop n packet) ≡ Some payload
    → (1 ≤ length payload) × (length payload ≤ 184)
rest_length packet payload n l low high e =
    let is : drop n packet ≡ payload = cc in
    let long : length payload ≡ 188 - n = ap length (sym is) ∙ length-drop n packet ∙ ap (λ m. m - n) l in
    (omega arith, omega arith)

second_true : (a b : Bool) → a && b ≡ true → b ≡ true
second_true true b e = e
second_true false b e = absurd (false≢true e)

payload_length : (packet payload : List ℕ) → length packet ≡ 188 → payload_of packet ≡ Some payload
    → (1 ≤ length payload) × (length payload ≤ 184)
unfolding payload_of
payload_length packet payload l e =
    let alone = adaptation_field_control packet == 1 in
    let behind = adaptation_field_control packet == 3 in
    let fits = nat_le (adaptation_field_length packet) 182 in
    let at = 5 + adaptation_field_length packet in
    ⊎_elim (λ w. rest_length packet payload 4 l (omega arith) (omega arith) w.1)
    (λ w. ⊎_elim
    (λ v.
    let h : adaptation_field_length packet ≤ 182 = leb-true _ _ (second_true behind fits v.0) in
    rest_length packet payload at l (omega arith) (omega arith) v.1)
    (λ v. absurd (let no : None ≡ Some payload = v.1 in cc))
    (chosen (behind && fits) (Some (drop at packet)) None (Some payload) w.1))
    (chosen alone (Some (drop 4 packet)) (if behind && fits then Some (drop at packet) else None) (Some payload) e)

pointed_range : (start : Bool) (payload : List ℕ) (at : ℕ) → 1 ≤ length payload → pointed_in start payload ≡ Some at
    → (at < length payload) × (IsTrue start → 1 ≤ at) × (start ≡ false → at ≡ 0)
unfolding pointed_in
pointed_range false payload at some e =
    let is : 0 ≡ at = cc in
    (omega arith, (λ t. absurd (false≢true t)), (λ f. sym is))
pointed_range true payload at some e =
    let w = cond_some (nat_lt (pointed_place payload) (length payload)) (pointed_place payload) at e in
    let inside : pointed_place payload < length payload = ltb-true _ _ w.0 in
    let is : 1 + slice_index payload 0 ≡ at = w.1 in
    (omega arith, (λ t. omega arith), (λ f. absurd (false≢true (sym f))))

option_map_some : {A B P : Type 0} (f : A → B) (o : Option A) (y : B) → option_map f o ≡ Some y
    → ((x : A) → o ≡ Some x → f x ≡ y → P) → P
option_map_some f None y e k = absurd (cc)
option_map_some f (Some x) y e k = k x refl (cc)

-- What a usable packet carries is in its ranges.
pub usable-ranges : (packet : List ℕ) (carried : TransportPacket) → usable packet ≡ Some carried → InRange carried
unfolding usable
usable-ranges packet carried e =
    ⊎_elim
    (λ w. option_and_then_some _ (payload_of packet) carried w.1 (λ payload is made.
    option_map_some (with_payload packet payload) (pointed_in (starts_unit packet) payload) carried made (λ at points same.
    let sizes = payload_length packet payload (intact_length packet w.0) is in
    let p = pointed_range (starts_unit packet) payload at sizes.0 points in
    subst InRange same (record {
      counter = omega arith;
      some = sizes.0;
      few = sizes.1;
      pointed = p.0;
      behind_pointer = p.1;
      unpointed = p.2;
    }))))
    (λ w. absurd (let no : None ≡ Some carried = w.1 in cc))
    (chosen (is_intact packet)
    (option_and_then
    (λ payload. option_map (with_payload packet payload) (pointed_in (starts_unit packet) payload))
    (payload_of packet))
    None (Some carried) e)

pub ranges : (packet : List ℕ) (result : Option View) → option_map shown result ≡ usable packet
    → IfSome result (λ v. InRange (shown v))
ranges packet None e = tt
ranges packet (Some v) e = usable-ranges packet (shown v) (sym e)
