-- What a section is, by its table_id and, of the control messages, its messageId: of a kind exactly where that reader accepts it.
use Rattle.std.specs.Prelude.{◌≡◌, ℕ, ◌%◌, ◌==◌, ◌||◌, List, [], ◌∷◌, Option, None, if◌then◌else◌}
use Rattle.std.specs.Option.{option_map, option_or}
use Rattle.std.proofs.Common.{lit<}
use Rattle.std.proofs.Math.Nat.{mod-lt}
use Rattle.section_kind.specs.declared.section_kinds.SectionKind.{SectionKind}
use Rattle.section_kind.specs.declared.section_kinds.SectionKind.TheVariants.{Pat, Pmt, Nit, Bat, Tdt, Tot, Unt, Dsi, Dii, Ddb}
use Rattle.ssu_time.specs.UtcField.{TimeFields}
use Rattle.ssu_time.specs.declared.utc_time.Utc.{Utc}
use Rattle.si_table.specs.Tables.{NetFields, net, pat, pmt}
use Rattle.si_table.specs.Times.{tdt, tot}
use Rattle.ssu_unt.specs.Table.{unt}
use Rattle.dsmcc_msg.specs.Control.{dii, dsi}
use Rattle.dsmcc_msg.specs.Block.{ddb}

-- table_id 0x40 is a NIT, 0x4A a BAT
abbrev pub nit_or_bat : NetFields → SectionKind
nit_or_bat n = if n.table == 0x40 then Nit else Bat

-- a time that was read lies in its day already
abbrev pub utc_of : TimeFields → Utc
utc_of t = record { mjd = t.mjd; second = t.second % 86400; in_day = mod-lt t.second (lit< tt) }

-- A DSI and a DII are told apart by their messageId.
abbrev pub kind_by : ℕ → List ℕ → Option SectionKind
kind_by table section =
    if table == 0x00 then option_map (λ _. Pat) (pat.of section)
    else if table == 0x02 then option_map (λ _. Pmt) (pmt.of section)
    else if table == 0x40 || table == 0x4A then option_map nit_or_bat (net.of section)
    else if table == 0x70 then option_map (λ t. Tdt (utc_of t)) (tdt.of section)
    else if table == 0x73 then option_map (λ t. Tot (utc_of t.time)) (tot.of section)
    else if table == 0x4B then option_map (λ _. Unt) (unt.of section)
    else if table == 0x3B then option_or (option_map (λ _. Dsi) (dsi.of section)) (option_map (λ _. Dii) (dii.of section))
    else if table == 0x3C then option_map (λ _. Ddb) (ddb.of section)
    else None

-- the table_id is the first byte
unfoldable pub kind_of : List ℕ → Option SectionKind
kind_of [] = None
kind_of (table ∷ rest) = kind_by table (table ∷ rest)

-- no reader accepts the section
pub record IsOfNoKind (section : List ℕ) : Type 0 where
  pub no_pat : pat.of section ≡ None
  pub no_pmt : pmt.of section ≡ None
  pub no_net : net.of section ≡ None
  pub no_tdt : tdt.of section ≡ None
  pub no_tot : tot.of section ≡ None
  pub no_unt : unt.of section ≡ None
  pub no_dsi : dsi.of section ≡ None
  pub no_dii : dii.of section ≡ None
  pub no_ddb : ddb.of section ≡ None
