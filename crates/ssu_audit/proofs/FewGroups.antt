-- A DSI has fewer than 65,536 groups, for its section has fewer bytes.
use Rattle.std.proofs.Common.{◌≡◌, ℕ, ◌+◌, ◌-◌, ◌%◌, ◌/◌, ◌^◌, ◌<◌, ◌≤◌, eqb, List, [], ◌∷◌, length, take, Some, sym, ap, ◌∙◌, arith}
use Rattle.std.specs.Prelude.{nat_le}
use Rattle.std.proofs.lemmas.Bool.{and_parts, leb-true}
use Rattle.std.proofs.lemmas.List.{length-append, length-take}
use Rattle.wire.specs.Format.{IsPair, IsSized, SpellsEach}
use Rattle.section_form.specs.Long.{LongFields, behind_length, long_form, long_head, unchecked_form}
use Rattle.dsmcc_msg.specs.Control.{DsiFields, GroupFields, dsi, dsi_message, dsi_payload, group_entry, group_list}
use Rattle.dsmcc_msg.specs.Exact.{group_entry_exact}
use Rattle.dsmcc_msg.proofs.Exact.{dsi_exact}
use Rattle.dsmcc_msg.proofs.Few.{message_long}

pair_length : {F S : List ℕ → Type 0} {p : List ℕ} (s : IsPair F S p) → length p ≡ length s.front + length s.back
pair_length s = ap (λ (u : List ℕ). length u) s.parts ∙ length-append s.front s.back

sized_length : {L : ℕ → List ℕ → Type 0} {I : List ℕ → Type 0} {p : List ℕ} (s : IsSized L I p) → length p ≡ length s.front + length s.inside
sized_length s = ap (λ (u : List ℕ). length u) s.parts ∙ length-append s.front s.inside

take_short : (n : ℕ) (xs : List ℕ) → length (take n xs) ≤ length xs
take_short n xs = simp length-take (omega arith)

-- each group takes a byte
groups_long : (gs : List GroupFields) (p : List ℕ) → SpellsEach group_entry.Spells gs p → length gs ≤ length p
groups_long [] p s = omega arith
groups_long (g ∷ gs) p s =
    let some = group_entry_exact.filled g s.front s.first in
    let others = groups_long gs s.back s.second in
    let l = pair_length s in
    omega arith

list_long : (gs : List GroupFields) (p : List ℕ) → group_list.Spells gs p → length gs ≤ length p
unfolding group_list
list_long gs p s =
    let a = s.2 in
    let g = a.second.1 in
    let la = pair_length a in
    let lg = pair_length g in
    let each = groups_long _ _ g.first in
    let is : length gs ≡ length s.0.1.0 = ap (λ (xs : List GroupFields). length xs) (sym s.1) in
    omega arith

payload_long : (gs : List GroupFields) (p : List ℕ) → dsi_payload.Spells gs p → length gs ≤ length p
unfolding dsi_payload
payload_long gs p s =
    let a = s.2 in
    let b = a.second in
    let c = b.second in
    let la = pair_length a in
    let lb = pair_length b in
    let lc = sized_length c in
    let inside = list_long _ _ c.filled in
    let is : length gs ≡ length s.0.1.1 = ap (λ (xs : List GroupFields). length xs) (sym s.1) in
    omega arith

message_has : (d : DsiFields) (body : List ℕ) → dsi_message.Spells d body → length d.groups ≤ length body
unfolding dsi_message
message_has d body s =
    let long = message_long s.0.0 body s.2.0.1 in
    let groups = payload_long _ _ s.2.1 in
    let is : length d.groups ≡ length s.0.1 = ap (λ (x : DsiFields). length x.groups) (sym s.1) in
    omega arith

-- the body of a section is shorter than what its section_length counts
behind_long : (x : ℕ × (ℕ × (ℕ × (ℕ × List ℕ)))) (p : List ℕ) → behind_length.Spells x p → length x.1.1.1.1 ≤ length p
unfolding behind_length
behind_long x p s =
    let a = s in
    let b = a.second in
    let c = b.second in
    let d = c.second in
    let e = d.second in
    let la = pair_length a in
    let lb = pair_length b in
    let lc = pair_length c in
    let ld = pair_length d in
    let cut : length (take (length d.back - 4) d.back) ≤ length d.back = take_short (length d.back - 4) d.back in
    let is : length x.1.1.1.1 ≡ length (take (length d.back - 4) d.back) = ap (λ (u : List ℕ). length u) (sym e.1) in
    omega arith

head_most : (n : ℕ) (p : List ℕ) → long_head.Spells n p → n ≤ 4093
unfolding long_head
head_most n p s =
    let both = and_parts (eqb (s.0 / 2 ^ 15) 1) (nat_le (s.0 % 2 ^ 12) 4093) s.2.0 in
    let most = leb-true (s.0 % 2 ^ 12) 4093 both.1 in
    let is : s.0 % 2 ^ 12 ≡ n = s.1 in
    omega (arith, most, is)

body_most : (f : LongFields) (section : List ℕ) → long_form.Spells f section → length f.body ≤ 4093
unfolding long_form unchecked_form
body_most f section s =
    let a = s.1.2 in
    let c = a.second in
    let most = head_most (length c.inside) c.front c.len in
    let inside = behind_long _ c.inside c.filled in
    let is : length f.body ≡ length s.1.0.1.1.1.1.1 = ap (λ (x : LongFields). length x.body) (sym s.1.1) in
    omega arith

pub few_groups : (d : DsiFields) (section : List ℕ) → dsi.of section ≡ Some d → length d.groups < 65536
unfolding dsi
few_groups d section e =
    let s = dsi_exact.takes section d e in
    let most = body_most s.0.0 section s.2.0.1 in
    let groups = message_has s.0.1 s.0.0.body s.2.1 in
    let is : length d.groups ≡ length s.0.1.groups = ap (λ (x : DsiFields). length x.groups) (sym s.1) in
    omega arith
