-- A section that a reader accepts is of its kind, so one without a kind is accepted by none.
use Rattle.std.specs.Prelude.{IfNone}
use Rattle.std.specs.Option.{option_or}
use Rattle.std.proofs.Common.{option_map, ◌≡◌, ℕ, ◌<◌, arith, get_or, length, List, [], ◌∷◌, Option, Some, None, sym, refl, inl, inr}
use Rattle.section_kind.specs.declared.section_kinds.SectionKind.{SectionKind}
use Rattle.section_kind.specs.declared.section_kinds.SectionKind.TheVariants.{Pat, Pmt, Tdt, Tot, Unt, Dsi, Dii, Ddb}
use Rattle.si_table.specs.Tables.{NetFields, PatFields, PmtFields, net, pat, pmt}
use Rattle.ssu_time.specs.UtcField.{TimeFields}
use Rattle.si_table.specs.Times.{TotFields, tdt, tot}
use Rattle.ssu_unt.specs.Table.{UntFields, unt}
use Rattle.dsmcc_msg.specs.Control.{DiiFields, DsiFields, dii, dsi}
use Rattle.dsmcc_msg.specs.Block.{DdbFields, ddb}
use Rattle.section_kind.specs.Kinds.{IsOfNoKind, kind_by, kind_of, nit_or_bat, utc_of}
use Rattle.section_kind.proofs.Heads.{Begins, pat_begins, pmt_begins, net_begins, tdt_begins, tot_begins, unt_begins, dsi_begins, dii_begins, ddb_begins}

-- the section has a kind
abbrev HasKind : List ℕ → Type 0
HasKind section = (kind : SectionKind) × (kind_of section ≡ Some kind)

begun : (section rest : List ℕ) (table : ℕ) → section ≡ table ∷ rest → HasKind (table ∷ rest) → HasKind section
begun section rest table e h = (h.0, rw e h.1)

pat_has : (rest : List ℕ) (p : PatFields) → pat.of (0x00 ∷ rest) ≡ Some p → HasKind (0x00 ∷ rest)
unfolding kind_of
pat_has rest p e = (Pat, rw e refl)

pmt_has : (rest : List ℕ) (p : PmtFields) → pmt.of (0x02 ∷ rest) ≡ Some p → HasKind (0x02 ∷ rest)
unfolding kind_of
pmt_has rest p e = (Pmt, rw e refl)

nit_has : (rest : List ℕ) (n : NetFields) → net.of (0x40 ∷ rest) ≡ Some n → HasKind (0x40 ∷ rest)
unfolding kind_of
nit_has rest n e = (nit_or_bat n, rw e refl)

bat_has : (rest : List ℕ) (n : NetFields) → net.of (0x4A ∷ rest) ≡ Some n → HasKind (0x4A ∷ rest)
unfolding kind_of
bat_has rest n e = (nit_or_bat n, rw e refl)

tdt_has : (rest : List ℕ) (t : TimeFields) → tdt.of (0x70 ∷ rest) ≡ Some t → HasKind (0x70 ∷ rest)
unfolding kind_of
tdt_has rest t e = (Tdt (utc_of t), rw e refl)

tot_has : (rest : List ℕ) (t : TotFields) → tot.of (0x73 ∷ rest) ≡ Some t → HasKind (0x73 ∷ rest)
unfolding kind_of
tot_has rest t e = (Tot (utc_of t.time), rw e refl)

unt_has : (rest : List ℕ) (u : UntFields) → unt.of (0x4B ∷ rest) ≡ Some u → HasKind (0x4B ∷ rest)
unfolding kind_of
unt_has rest u e = (Unt, rw e refl)

dsi_has : (rest : List ℕ) (d : DsiFields) → dsi.of (0x3B ∷ rest) ≡ Some d → HasKind (0x3B ∷ rest)
unfolding kind_of
dsi_has rest d e = (Dsi, rw e refl)

or_has : (first : Option SectionKind) (k : SectionKind) → (kind : SectionKind) × (option_or first (Some k) ≡ Some kind)
or_has (Some kind) k = (kind, refl)
or_has None k = (k, refl)

dii_has : (rest : List ℕ) (d : DiiFields) → dii.of (0x3B ∷ rest) ≡ Some d → HasKind (0x3B ∷ rest)
unfolding kind_of
dii_has rest d e = let h = or_has (option_map (λ _. Dsi) (dsi.of (0x3B ∷ rest))) Dii in (h.0, rw e h.1)

ddb_has : (rest : List ℕ) (d : DdbFields) → ddb.of (0x3C ∷ rest) ≡ Some d → HasKind (0x3C ∷ rest)
unfolding kind_of
ddb_has rest d e = (Ddb, rw e refl)

-- what a format reads where the section has no kind
none : {A : Type 0} (read : List ℕ → Option A) (section : List ℕ) → kind_of section ≡ None → ((x : A) → read section ≡ Some x → HasKind section) → read section ≡ None
none read section e has = none_by (read section) (λ x some. let h = has x some in cc)
  where
    none_by : {A : Type 0} (o : Option A) → ((x : A) → o ≡ Some x → ⊥) → o ≡ None
    none_by None h = refl
    none_by (Some x) h = absurd (h x refl)

begun_with : {A : Type 0} (read : List ℕ → Option A) (section : List ℕ) (table : ℕ) (x : A) → read section ≡ Some x → Begins section table → ((rest : List ℕ) (y : A) → read (table ∷ rest) ≡ Some y → HasKind (table ∷ rest)) → HasKind section
begun_with read section table x e b has = begun section b.0 table b.1 (has b.0 x (rw b.1 at e))

pub of_no_kind : (section : List ℕ) → kind_of section ≡ None → IsOfNoKind section
of_no_kind section e = record {
  no_pat = none pat.of section e (λ p is. begun_with pat.of section 0x00 p is (pat_begins p section is) pat_has);
  no_pmt = none pmt.of section e (λ p is. begun_with pmt.of section 0x02 p is (pmt_begins p section is) pmt_has);
  no_net = none net.of section e (λ n is. elim (net_begins n section is) as (λ _. HasKind section) [
    | inl nit ↦ begun_with net.of section 0x40 n is nit nit_has
    | inr bat ↦ begun_with net.of section 0x4A n is bat bat_has
  ]);
  no_tdt = none tdt.of section e (λ t is. begun_with tdt.of section 0x70 t is (tdt_begins t section is) tdt_has);
  no_tot = none tot.of section e (λ t is. begun_with tot.of section 0x73 t is (tot_begins t section is) tot_has);
  no_unt = none unt.of section e (λ u is. begun_with unt.of section 0x4B u is (unt_begins u section is) unt_has);
  no_dsi = none dsi.of section e (λ d is. begun_with dsi.of section 0x3B d is (dsi_begins d section is) dsi_has);
  no_dii = none dii.of section e (λ d is. begun_with dii.of section 0x3B d is (dii_begins d section is) dii_has);
  no_ddb = none ddb.of section e (λ d is. begun_with ddb.of section 0x3C d is (ddb_begins d section is) ddb_has);
}

pub kind_at_front : (section : List ℕ) → 0 < length section → kind_of section ≡ kind_by (get_or section 0 0) section
unfolding kind_of
kind_at_front [] h = absurd (omega arith)
kind_at_front (table ∷ rest) h = refl

pub kind_of_empty : (section : List ℕ) → length section ≡ 0 → kind_of section ≡ None
unfolding kind_of
kind_of_empty [] h = refl
kind_of_empty (table ∷ rest) h = absurd (omega arith)

pub if_none : (section : List ℕ) (found : Option SectionKind) → found ≡ kind_of section → IfNone found (IsOfNoKind section)
if_none section None e = of_no_kind section (sym e)
if_none section (Some kind) e = tt
