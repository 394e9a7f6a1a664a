-- Each format begins with its table_id.
use Rattle.std.proofs.Common.{◌≡◌, ℕ, ◌++◌, List, [], ◌∷◌, length, refl, arith, Some, Bool, true, false, eqb, ap, subst, ◌||◌, ◌&&◌, ◌⊎◌, inl, inr}
use Rattle.std.proofs.lemmas.Bool.{eqb-true}
use Rattle.wire.specs.Format.{IsPair}
use Rattle.wire.specs.Number.{number, number_of}
use Rattle.section_form.specs.Long.{LongFields, long_form, unchecked_form}
use Rattle.si_table.specs.Tables.{NetFields, PatFields, PmtFields, net, pat, pmt}
use Rattle.ssu_time.specs.UtcField.{TimeFields}
use Rattle.si_table.specs.Times.{TotFields, tdt, tot}
use Rattle.si_table.proofs.Exact.{net_exact, pat_exact, pmt_exact, tdt_exact, tot_exact}
use Rattle.ssu_unt.specs.Table.{UntFields, unt}
use Rattle.ssu_unt.proofs.Exact.{unt_exact}
use Rattle.dsmcc_msg.specs.Control.{DiiFields, DsiFields, dii, dsi}
use Rattle.dsmcc_msg.specs.Block.{DdbFields, ddb}
use Rattle.dsmcc_msg.proofs.Exact.{ddb_exact, dii_exact, dsi_exact}

-- the section begins with this byte
abbrev pub Begins : List ℕ → ℕ → Type 0
Begins section table = (rest : List ℕ) × (section ≡ table ∷ rest)

of_one_byte : (front back section : List ℕ) (n : ℕ) → section ≡ front ++ back → length front ≡ 1 → number_of front ≡ n → Begins section n
of_one_byte [] back section n e one is = absurd (omega arith)
of_one_byte (b ∷ []) back section n e one is = let same : b ≡ n = omega (arith, is) in (back, rw same at e)
of_one_byte (b ∷ c ∷ front) back section n e one is = absurd (omega arith)

pub pair_begins : (S : List ℕ → Type 0) (section : List ℕ) (n : ℕ) → IsPair ((number 1).Spells n) S section → Begins section n
pair_begins S section n p = of_one_byte p.front p.back section n p.parts p.first.0 p.first.1

same_table : (section : List ℕ) (m n : ℕ) → Begins section m → m ≡ n → Begins section n
same_table section m n b e = subst (Begins section) e b

pub long_begins : (f : LongFields) (section : List ℕ) → long_form.Spells f section → Begins section f.table
unfolding long_form unchecked_form
long_begins f section s = same_table section s.1.0.0 f.table (pair_begins _ section s.1.0.0 s.1.2) (ap (λ (g : LongFields). g.table) s.1.1)

table_begins : (f : LongFields) (section : List ℕ) (n : ℕ) → eqb f.table n ≡ true → long_form.Spells f section → Begins section n
table_begins f section n is s = same_table section f.table n (long_begins f section s) (eqb-true _ _ is)

three_true : (a b c : Bool) → ((a && b) && c) ≡ true → a ≡ true
three_true true b c e = refl
three_true false b c e = e

either_true : (a b : Bool) → (a || b) ≡ true → (a ≡ true) ⊎ (b ≡ true)
either_true true b e = inl refl
either_true false b e = inr e

pub pat_begins : (p : PatFields) (section : List ℕ) → pat.of section ≡ Some p → Begins section 0x00
unfolding pat
pat_begins p section e =
    let s = pat_exact.takes section p e in
    table_begins s.0.0 section 0x00 s.2.1.0.0 s.2.1.0.1

pub pmt_begins : (p : PmtFields) (section : List ℕ) → pmt.of section ≡ Some p → Begins section 0x02
unfolding pmt
pmt_begins p section e =
    let s = pmt_exact.takes section p e in
    table_begins s.0.0 section 0x02 (three_true (eqb s.0.0.table 0x02) (eqb s.0.0.number 0) (eqb s.0.0.last 0) s.2.1.0.0) s.2.1.0.1

pub net_begins : (n : NetFields) (section : List ℕ) → net.of section ≡ Some n → Begins section 0x40 ⊎ Begins section 0x4A
unfolding net
net_begins n section e =
    let s = net_exact.takes section n e in
    elim (either_true (eqb s.0.0.table 0x40) (eqb s.0.0.table 0x4A) s.2.1.0.0) as (λ _. Begins section 0x40 ⊎ Begins section 0x4A) [
      | inl nit ↦ inl (table_begins s.0.0 section 0x40 nit s.2.1.0.1)
      | inr bat ↦ inr (table_begins s.0.0 section 0x4A bat s.2.1.0.1)
    ]

pub tdt_begins : (t : TimeFields) (section : List ℕ) → tdt.of section ≡ Some t → Begins section 0x70
unfolding tdt
tdt_begins t section e = pair_begins _ section 0x70 (tdt_exact.takes section t e).2

pub tot_begins : (t : TotFields) (section : List ℕ) → tot.of section ≡ Some t → Begins section 0x73
unfolding tot
tot_begins t section e = pair_begins _ section 0x73 (tot_exact.takes section t e).1.1.2

pub unt_begins : (u : UntFields) (section : List ℕ) → unt.of section ≡ Some u → Begins section 0x4B
unfolding unt
unt_begins u section e =
    let s = unt_exact.takes section u e in
    table_begins s.0.0 section 0x4B s.2.0.0 s.2.0.1

pub dsi_begins : (d : DsiFields) (section : List ℕ) → dsi.of section ≡ Some d → Begins section 0x3B
unfolding dsi
dsi_begins d section e =
    let s = dsi_exact.takes section d e in
    table_begins s.0.0 section 0x3B s.2.0.0 s.2.0.1

pub dii_begins : (d : DiiFields) (section : List ℕ) → dii.of section ≡ Some d → Begins section 0x3B
unfolding dii
dii_begins d section e =
    let s = dii_exact.takes section d e in
    table_begins s.0.0 section 0x3B s.2.0.0 s.2.0.1

pub ddb_begins : (d : DdbFields) (section : List ℕ) → ddb.of section ≡ Some d → Begins section 0x3C
unfolding ddb
ddb_begins d section e =
    let s = ddb_exact.takes section d e in
    table_begins s.0.0 section 0x3C s.2.0.0 s.2.0.1
