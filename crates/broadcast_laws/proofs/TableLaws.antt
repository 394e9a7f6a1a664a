-- The table_id of a section, and that a section is of at most one kind of message.
use Rattle.std.proofs.Common.{◌≡◌, ℕ, ◌<◌, ◌^◌, Bool, true, eqb, List, [], ◌∷◌, ◌++◌, length, get_or, Some, refl, ap, ◌∙◌, arith}
use Rattle.std.proofs.lemmas.Bool.{eqb-true}
use Rattle.wire.specs.Format.{IsPair, only}
use Rattle.wire.specs.Number.{number, number_of}
use Rattle.wire.proofs.Laws.{only_exact, whole_one_value}
use Rattle.section_form.specs.Long.{LongFields, long_form, unchecked_form}
use Rattle.section_form.specs.Written.{long_bytes, long_text}
use Rattle.section_form.proofs.Exact.{long_form_exact}
use Rattle.dsmcc_msg.specs.Block.{DdbFields, ddb}
use Rattle.dsmcc_msg.specs.Control.{DiiFields, DsiFields, dii, dii_message, dsi, dsi_message}
use Rattle.dsmcc_msg.specs.Message.{MessageFields, message}
use Rattle.dsmcc_msg.proofs.Exact.{ddb_exact, dii_exact, dsi_exact, message_exact}

-- ---- the first byte

of_one_byte : (front back section : List ℕ) (n : ℕ) → section ≡ front ++ back → length front ≡ 1 → number_of front ≡ n → get_or section 0 0 ≡ n
of_one_byte [] back section n e one is = absurd (omega arith)
of_one_byte (b ∷ []) back section n e one is = let same : b ≡ n = omega (arith, is) in rw (e, same) refl
of_one_byte (b ∷ c ∷ front) back section n e one is = absurd (omega arith)

pair_begins : (S : List ℕ → Type 0) (section : List ℕ) (n : ℕ) → IsPair ((number 1).Spells n) S section → get_or section 0 0 ≡ n
pair_begins S section n p = of_one_byte p.front p.back section n p.parts p.first.0 p.first.1

table_first : (f : LongFields) (section : List ℕ) (n : ℕ) → eqb f.table n ≡ true → long_form.Spells f section → get_or section 0 0 ≡ n
unfolding long_form unchecked_form
table_first f section n is s =
    pair_begins _ section s.1.0.0 s.1.2 ∙ ap (λ (g : LongFields). g.table) s.1.1 ∙ eqb-true _ _ is

-- the table_id of what is written
pub long_table : (second_bit : Bool) (head : LongFields) → head.table < 2 ^ 8 → get_or (long_bytes second_bit head) 0 0 ≡ head.table
unfolding long_bytes long_text
long_table second_bit head small = omega arith

pub dsi_table : (section : List ℕ) (d : DsiFields) → dsi.of section ≡ Some d → get_or section 0 0 ≡ 59
unfolding dsi
dsi_table section d e = let s = dsi_exact.takes section d e in table_first s.0.0 section 59 s.2.0.0 s.2.0.1

pub dii_table : (section : List ℕ) (d : DiiFields) → dii.of section ≡ Some d → get_or section 0 0 ≡ 59
unfolding dii
dii_table section d e = let s = dii_exact.takes section d e in table_first s.0.0 section 59 s.2.0.0 s.2.0.1

pub ddb_table : (section : List ℕ) (d : DdbFields) → ddb.of section ≡ Some d → get_or section 0 0 ≡ 60
unfolding ddb
ddb_table section d e = let s = ddb_exact.takes section d e in table_first s.0.0 section 60 s.2.0.0 s.2.0.1

-- ---- the messageId

one_message : (m n : MessageFields) (p q : List ℕ) → (only message).Spells m p → (only message).Spells n q → p ≡ q → m ≡ n
one_message m n p q s t same = whole_one_value (only_exact message_exact) m n p s (subst_back p q same t)
  where
    subst_back : (p q : List ℕ) → p ≡ q → (only message).Spells n q → (only message).Spells n p
    subst_back p q e u = rw e u

one_body : (f g : LongFields) (section : List ℕ) → long_form.Spells f section → long_form.Spells g section → f.body ≡ g.body
one_body f g section s t = ap (λ (h : LongFields). h.body) (whole_one_value long_form_exact f g section s t)

-- A DSI is no DII.
pub not_both : (section : List ℕ) (d : DsiFields) (e : DiiFields) → dsi.of section ≡ Some d → dii.of section ≡ Some e → ⊥
unfolding dsi dii dsi_message dii_message
not_both section d e is_dsi is_dii =
    let s = dsi_exact.takes section d is_dsi in
    let t = dii_exact.takes section e is_dii in
    let body : s.0.0.body ≡ t.0.0.body = one_body s.0.0 t.0.0 section s.2.0.1 t.2.0.1 in
    let a = s.2.1 in
    let b = t.2.1 in
    let same = ap (λ (m : MessageFields). m.id) (one_message a.0.0 b.0.0.0 s.0.0.body t.0.0.body a.2.0.1 b.2.0.1.0.1 body) in
    let x : a.0.0.id ≡ 0x1006 = eqb-true a.0.0.id 0x1006 a.2.0.0 in
    let y : b.0.0.0.id ≡ 0x1002 = eqb-true b.0.0.0.id 0x1002 b.2.0.1.0.0 in
    absurd (omega (arith, same, x, y))
