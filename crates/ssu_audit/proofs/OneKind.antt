-- A section is at most one of a block, a DII and a DSI.
use Rattle.std.proofs.Common.{◌≡◌, ℕ, List, Option, Some, None, refl, sym, ap, subst, ◌∙◌, arith}
use Rattle.std.proofs.lemmas.Bool.{eqb-true}
use Rattle.wire.proofs.Laws.{front_ends, whole_one_value}
use Rattle.section_form.specs.Long.{LongFields, long_form}
use Rattle.section_form.proofs.Exact.{long_form_exact}
use Rattle.dsmcc_msg.specs.Message.{MessageFields, message}
use Rattle.dsmcc_msg.specs.Control.{DiiFields, DsiFields, dii, dii_message, dsi, dsi_message}
use Rattle.dsmcc_msg.specs.Block.{DdbFields, ddb}
use Rattle.dsmcc_msg.proofs.Exact.{ddb_exact, dii_exact, dsi_exact, message_exact}

-- a section of this table, with this body
record InTable (section : List ℕ) (table : ℕ) : Type 0 where
  head : LongFields
  spelled : long_form.Spells head section
  own : head.table ≡ table

-- the tables of a section are one
one_table : (section : List ℕ) (m n : ℕ) → InTable section m → InTable section n → m ≡ n
one_table section m n a b = sym a.own ∙ ap (λ (f : LongFields). f.table) (whole_one_value long_form_exact a.head b.head section a.spelled b.spelled) ∙ b.own

ddb_table : (d : DdbFields) (section : List ℕ) → ddb.of section ≡ Some d → InTable section 0x3C
unfolding ddb
ddb_table d section e =
    let s = ddb_exact.takes section d e in
    record { head = s.0.0; spelled = s.2.0.1; own = eqb-true s.0.0.table 0x3C s.2.0.0 }

dii_table : (d : DiiFields) (section : List ℕ) → dii.of section ≡ Some d → InTable section 0x3B
unfolding dii
dii_table d section e =
    let s = dii_exact.takes section d e in
    record { head = s.0.0; spelled = s.2.0.1; own = eqb-true s.0.0.table 0x3B s.2.0.0 }

dsi_table : (d : DsiFields) (section : List ℕ) → dsi.of section ≡ Some d → InTable section 0x3B
unfolding dsi
dsi_table d section e =
    let s = dsi_exact.takes section d e in
    record { head = s.0.0; spelled = s.2.0.1; own = eqb-true s.0.0.table 0x3B s.2.0.0 }

-- a block is no control message
pub block_no_dii : (d : DdbFields) (section : List ℕ) → ddb.of section ≡ Some d → dii.of section ≡ None
block_no_dii d section e = by_value (dii.of section) refl
  where
    by_value : (o : Option DiiFields) → dii.of section ≡ o → o ≡ None
    by_value None is = refl
    by_value (Some x) is = absurd (let one = one_table section 0x3C 0x3B (ddb_table d section e) (dii_table x section is) in omega arith)

pub block_no_dsi : (d : DdbFields) (section : List ℕ) → ddb.of section ≡ Some d → dsi.of section ≡ None
block_no_dsi d section e = by_value (dsi.of section) refl
  where
    by_value : (o : Option DsiFields) → dsi.of section ≡ o → o ≡ None
    by_value None is = refl
    by_value (Some x) is = absurd (let one = one_table section 0x3C 0x3B (ddb_table d section e) (dsi_table x section is) in omega arith)

-- ---- messages

-- the body of a section has this message
record HasMessage (section : List ℕ) (id : ℕ) : Type 0 where
  head : LongFields
  spelled : long_form.Spells head section
  inside : MessageFields
  body : message.Spells inside head.body
  own : inside.id ≡ id

one_message : (section : List ℕ) (m n : ℕ) → HasMessage section m → HasMessage section n → m ≡ n
one_message section m n a b =
    let head : a.head ≡ b.head = whole_one_value long_form_exact a.head b.head section a.spelled b.spelled in
    let body : message.Spells a.inside b.head.body = subst (λ (f : LongFields). message.Spells a.inside f.body) head a.body in
    let inside : a.inside ≡ b.inside = (front_ends message_exact).one_value a.inside b.inside b.head.body body b.body in
    sym a.own ∙ ap (λ (x : MessageFields). x.id) inside ∙ b.own

dii_has : (d : DiiFields) (section : List ℕ) → dii.of section ≡ Some d → HasMessage section 0x1002
unfolding dii dii_message
dii_has d section e =
    let s = dii_exact.takes section d e in
    let m = s.2.1 in
    record { head = s.0.0; spelled = s.2.0.1; inside = m.0.0.0; body = m.2.0.1.0.1; own = eqb-true m.0.0.0.id 0x1002 m.2.0.1.0.0 }

dsi_has : (d : DsiFields) (section : List ℕ) → dsi.of section ≡ Some d → HasMessage section 0x1006
unfolding dsi dsi_message
dsi_has d section e =
    let s = dsi_exact.takes section d e in
    let m = s.2.1 in
    record { head = s.0.0; spelled = s.2.0.1; inside = m.0.0; body = m.2.0.1; own = eqb-true m.0.0.id 0x1006 m.2.0.0 }

pub dii_no_dsi : (d : DiiFields) (section : List ℕ) → dii.of section ≡ Some d → dsi.of section ≡ None
dii_no_dsi d section e = by_value (dsi.of section) refl
  where
    by_value : (o : Option DsiFields) → dsi.of section ≡ o → o ≡ None
    by_value None is = refl
    by_value (Some x) is = absurd (let one = one_message section 0x1002 0x1006 (dii_has d section e) (dsi_has x section is) in omega arith)
