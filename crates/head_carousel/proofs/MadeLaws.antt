-- Sections in the long form are well made.
use Rattle.std.proofs.Common.{◌≡◌, ◌≢◌, ℕ, ◌+◌, ◌<◌, ◌≤◌, ◌^◌, ◌⊎◌, inl, inr, Bool, true, false, List, [], ◌++◌, length, get_or, sym, ◌∙◌, subst, arith}
use Rattle.std.proofs.lemmas.List.{length-append}
use Rattle.section_form.specs.Long.{LongFields}
use Rattle.section_form.specs.Written.{long_bytes, long_text, only_section}
use Rattle.section_form.proofs.LongLaws.{Fits, long_right}
use Rattle.si_desc.specs.Descriptors.{IsRow}
use Rattle.si_desc.proofs.RowLaws.{empty_row}
use Rattle.si_table.specs.Tables.{ProgramFields}
use Rattle.si_table.specs.Written.{entry_bytes, net_bytes, net_body_bytes, pat_bytes, program_bytes, PmtDraft, pmt_bytes, pmt_body_bytes}
use Rattle.ts_section.specs.TimedSection.{TimedSection}
use Rattle.ts_section.proofs.CutHeard.{right_heard}
use Rattle.wire.specs.Number.{length_bytes}
use Rattle.head_carousel.specs.WellMade.{IsHeard, IsReady, IsWellMade}

pub long_made : (second_bit : Bool) (head : LongFields) (s : List ℕ) → Fits head → head.table ≢ 0x70 → head.table ≢ 0xFF → s ≡ long_bytes second_bit head → IsWellMade s
unfolding long_bytes long_text
long_made second_bit head s fits time stuffing is =
    let small : head.table < 256 = fits.table in
    let table : get_or (long_bytes second_bit head) 0 0 ≡ head.table = omega arith in
    let made : IsWellMade (long_bytes second_bit head) = record { right = long_right second_bit head fits time; table = λ e. stuffing (sym table ∙ e) } in
    subst (λ (u : List ℕ). IsWellMade u) (sym is) made

pub pat_made : (ts : ℕ) (p : ProgramFields) (s : List ℕ) → ts < 2 ^ 16 → s ≡ pat_bytes ts p → IsWellMade s
unfolding pat_bytes
pat_made ts p s t is =
    let fits : Fits (only_section 0x00 ts 0 (program_bytes p)) = record { table = omega arith; extension = t; version = omega arith; number = omega arith; last = omega arith; body = omega arith } in
    long_made false (only_section 0x00 ts 0 (program_bytes p)) s fits (λ e. absurd (omega arith)) (λ e. absurd (omega arith)) is

length-net_body : (info : List ℕ) (ts network : ℕ) → length (net_body_bytes info ts network) ≡ 10 + length info
length-net_body info ts network = let l = length-append info (length_bytes 6 ++ entry_bytes ts network) in omega arith

pub net_made : (table id : ℕ) (info : List ℕ) (ts network : ℕ) (s : List ℕ) → (table ≡ 0x40) ⊎ (table ≡ 0x4A) → id < 2 ^ 16 → length info ≤ 1002 → s ≡ net_bytes table id info ts network → IsWellMade s
unfolding net_bytes
net_made table id info ts network s which i few is =
    let len = length-net_body info ts network in
    let small : table < 256 = elim which [ inl e ↦ omega arith | inr e ↦ omega arith ] in
    let fits : Fits (only_section table id 0 (net_body_bytes info ts network)) = record { table = small; extension = i; version = omega arith; number = omega arith; last = omega arith; body = omega arith } in
    long_made true (only_section table id 0 (net_body_bytes info ts network)) s fits (not_that table 0x70 which (λ e. absurd (omega arith)) (λ e. absurd (omega arith))) (not_that table 0xFF which (λ e. absurd (omega arith)) (λ e. absurd (omega arith))) is
  where
    not_that : (table other : ℕ) → (table ≡ 0x40) ⊎ (table ≡ 0x4A) → (0x40 ≡ other → ⊥) → (0x4A ≡ other → ⊥) → table ≢ other
    not_that table other which a b = λ e. elim which [ inl h ↦ a (sym h ∙ e) | inr h ↦ b (sym h ∙ e) ]

pub pmt_made : (d : PmtDraft) (s : List ℕ) → d.program < 2 ^ 16 → length d.bytes ≤ 1008 → s ≡ pmt_bytes d → IsWellMade s
unfolding pmt_bytes
pmt_made d s p few is =
    let fits : Fits (only_section 0x02 d.program 0 (pmt_body_bytes d.bytes)) = record { table = omega arith; extension = p; version = omega arith; number = omega arith; last = omega arith; body = omega arith } in
    long_made false (only_section 0x02 d.program 0 (pmt_body_bytes d.bytes)) s fits (λ e. absurd (omega arith)) (λ e. absurd (omega arith)) is

-- ---- rows

pub row_same : {a b : List ℕ} → a ≡ b → IsRow b → IsRow a
row_same e row = subst (λ (u : List ℕ). IsRow u) (sym e) row

pub row_none : {a : List ℕ} → a ≡ [] → IsRow a
row_none e = row_same e empty_row

-- ---- what is sent is heard

pub ready_heard : (s : TimedSection) → IsReady s → IsHeard s
ready_heard s ready = λ counter events small listened none. right_heard s.bytes s.pid counter ready.pid small ready.made.table events listened none ready.made.right
