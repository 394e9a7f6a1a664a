-- A DII has at most 506 modules, for each takes eight bytes of its message.
use Rattle.std.proofs.Common.{◌≡◌, ℕ, ◌+◌, ◌*◌, ◌≤◌, List, [], ◌∷◌, length, drop, ap, sym, ◌∙◌, arith}
use Rattle.std.proofs.lemmas.List.{length-append, length-drop}
use Rattle.wire.specs.Format.{IsPair, IsSized, SpellsEach}
use Rattle.ssu_compat.specs.Compat.{EntryFields, compat}
use Rattle.dsmcc_msg.specs.Message.{MessageFields, message}
use Rattle.dsmcc_msg.specs.Control.{ModuleFields, module_entry, Download, dii_payload}

pair_length : {F S : List ℕ → Type 0} {p : List ℕ} (s : IsPair F S p) → length p ≡ length s.front + length s.back
pair_length s = ap (λ (u : List ℕ). length u) s.parts ∙ length-append s.front s.back

sized_length : {L : ℕ → List ℕ → Type 0} {I : List ℕ → Type 0} {p : List ℕ} (s : IsSized L I p) → length p ≡ length s.front + length s.inside
sized_length s = ap (λ (u : List ℕ). length u) s.parts ∙ length-append s.front s.inside

pub message_long : (m : MessageFields) (p : List ℕ) → message.Spells m p → 12 + length m.payload ≤ length p
unfolding message
message_long m p s =
    let a = s.2 in
    let b = a.second in
    let c = b.second in
    let d = c.second in
    let e = d.second in
    let f = e.second in
    let g = f.second in
    let la = pair_length a in
    let lb = pair_length b in
    let lc = pair_length c in
    let ld = pair_length d in
    let le = pair_length e in
    let lf = pair_length f in
    let lg = sized_length g in
    let fa = a.first.0 in
    let fb = b.first.0 in
    let fc = c.first.0 in
    let fd = d.first.0 in
    let fe = e.first.0 in
    let ff = f.first.0 in
    let fg = g.len.0 in
    let adaptation = s.0.1.1.1.1.1.0 in
    let short : adaptation ≤ length g.inside = g.filled.0 in
    let is : length m.payload ≡ length (drop adaptation g.inside) = ap (λ (x : MessageFields). length x.payload) (sym s.1) ∙ ap (λ (u : List ℕ). length u) (sym g.filled.1) in
    let left = length-drop adaptation g.inside in
    omega arith

module_long : (m : ModuleFields) (p : List ℕ) → module_entry.Spells m p → 8 ≤ length p
unfolding module_entry
module_long m p s =
    let a = s.2 in
    let b = a.second in
    let c = b.second in
    let d = c.second in
    let la = pair_length a in
    let lb = pair_length b in
    let lc = pair_length c in
    let ld = sized_length d in
    let fa = a.first.0 in
    let fb = b.first.0 in
    let fc = c.first.0 in
    let fd = d.len.0 in
    omega arith

modules_long : (ms : List ModuleFields) (p : List ℕ) → SpellsEach module_entry.Spells ms p → 8 * length ms ≤ length p
modules_long [] p s = omega arith
modules_long (m ∷ ms) p s =
    let first = module_long m s.front s.first in
    let others = modules_long ms s.back s.second in
    let l = pair_length s in
    omega arith

compat_long : (es : List EntryFields) (p : List ℕ) → compat.Spells es p → 2 ≤ length p
unfolding compat
compat_long es p s = let l = sized_length s in let f = s.len.0 in omega arith

pub payload_long : (d : Download) (p : List ℕ) → dii_payload.Spells d p → 22 + 8 * length d.modules ≤ length p
unfolding dii_payload
payload_long d p s =
    let a = s.2 in
    let b = a.second in
    let c = b.second in
    let e = c.second in
    let f = e.second in
    let g = f.second.1 in
    let la = pair_length a in
    let lb = pair_length b in
    let lc = pair_length c in
    let le = pair_length e in
    let lf = pair_length f in
    let lg = pair_length g in
    let lh = sized_length g.second in
    let fa = a.first.0 in
    let fb = b.first.0 in
    let fc = c.first.0 in
    let fe = compat_long _ _ e.first in
    let ff = f.first.0 in
    let fh = g.second.len.0 in
    let each = modules_long _ _ g.first in
    let is : length d.modules ≡ length s.0.1.1.1.1.1.0 = ap (λ (x : Download). length x.modules) (sym s.1) in
    omega arith
