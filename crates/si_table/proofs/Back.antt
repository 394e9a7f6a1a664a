-- What the writers make is spelled so as the readers read it.
use Rattle.std.proofs.Common.{le-leb, ◌≡◌, ℕ, ◌+◌, ◌-◌, ◌*◌, ◌/◌, ◌<◌, ◌≤◌, ◌^◌, ◌⊎◌, inl, inr, Bool, true, false, List, [], ◌∷◌, ◌++◌, length, Option, Some, None, refl, sym, ap, subst, ◌∙◌, arith}
use Rattle.std.proofs.lemmas.List.{length-append, take_at}
use Rattle.std.proofs.lemmas.Bool.{eq-eqb}
use Rattle.std.specs.Prelude.{IsSome}
use Rattle.wire.specs.Format.{Whole, SpellsEach, to_end}
use Rattle.wire.specs.Items.{items_of}
use Rattle.wire.proofs.ItemLaws.{items_spelled, each_push}
use Rattle.wire.proofs.Laws.{to_end_exact, pair_put, sized_put}
use Rattle.wire.specs.Number.{bytes_of, length_bytes}
use Rattle.wire.proofs.Numbers.{length_put, number1_byte, number1_put, number2_put, low13_put}
use Rattle.ts_crc.specs.Crc.{crc_of}
use Rattle.ts_crc.proofs.CrcLaws.{crc_appended}
use Rattle.section_form.specs.Long.{LongFields, has_table, long_form}
use Rattle.section_form.proofs.Exact.{long_form_exact}
use Rattle.section_form.specs.Written.{long_bytes, only_section}
use Rattle.section_form.proofs.LongLaws.{Fits, long_spelled, length-long_bytes}
use Rattle.si_desc.specs.Descriptors.{row, descriptor, IsRow}
use Rattle.si_desc.specs.Written.{row_bytes}
use Rattle.si_desc.proofs.RowLaws.{empty_row, row_put}
use Rattle.ssu_time.specs.UtcField.{TimeFields}
use Rattle.ssu_time.specs.UtcTime.{utc_bytes}
use Rattle.ssu_time.proofs.UtcFieldLaws.{utc_put}
use Rattle.si_table.specs.Exact.{stream_exact}
use Rattle.si_table.specs.Written.{IsStreamRow, pid_bytes, program_bytes, stream_bytes, pmt_body_bytes, entry_bytes}
use Rattle.si_table.specs.Written.{net_body_bytes, tdt_bytes, tot_text, tot_bytes, tot_section_length}
use Rattle.si_table.specs.Tables.{table_of, ProgramFields, program, pat, StreamFields, stream, is_pmt, pmt_body, pmt, net_entry, is_net, net_body, net}
use Rattle.si_table.specs.Times.{short_head, tdt, tot_inside, tot}

-- a section of version 0, number 0 of 0
table_put : {A : Type 0} (w : Whole A) (is_head : LongFields → Bool) (second_bit : Bool) (table extension : ℕ) (body : List ℕ) (a : A) → table < 2 ^ 8 → extension < 2 ^ 16 → length body ≤ 1012
    → is_head (only_section table extension 0 body) ≡ true → w.Spells a body → (table_of is_head w).Spells (only_section table extension 0 body, a) (long_bytes second_bit (only_section table extension 0 body))
table_put w is_head second_bit table extension body a t x few is s =
    let f = only_section table extension 0 body in
    let fits : Fits f = record { table = t; extension = x; version = omega arith; number = omega arith; last = omega arith; body = omega arith } in
    let len = length-long_bytes second_bit f in
    (le-leb _ _ (omega arith), ((is, long_spelled second_bit f fits), s))

-- the same, of what the section's reader reads
table_read : {A : Type 0} (w : Whole A) (is_head : LongFields → Bool) (second_bit : Bool) (f : LongFields) (s : List ℕ) (a : A) → s ≡ long_bytes second_bit f → long_form.of s ≡ Some f → length f.body ≤ 1012
    → is_head f ≡ true → w.Spells a f.body → (table_of is_head w).Spells (f, a) s
table_read w is_head second_bit f s a made long few is spelled =
    let len : length s ≡ 12 + length f.body = ap (λ (u : List ℕ). length u) made ∙ length-long_bytes second_bit f in
    (le-leb _ _ (omega arith), ((is, long_form_exact.takes s f long), spelled))

program_put : (p : ProgramFields) → p.number < 2 ^ 16 → p.pid < 2 ^ 13 → program.Spells p (program_bytes p)
unfolding program
program_put p n q = ((p.number, p.pid), refl, pair_put (bytes_of 2 p.number) (pid_bytes p.pid) (number2_put p.number n) (low13_put 7 p.pid (omega arith) q))

pub pat_put : (ts : ℕ) (p : ProgramFields) (s : List ℕ) → ts < 2 ^ 16 → p.number < 2 ^ 16 → p.pid < 2 ^ 13 → s ≡ long_bytes false (only_section 0x00 ts 0 (program_bytes p))
    → pat.Spells (record { ts = ts; programs = p ∷ [] }) s
unfolding pat
pat_put ts p s t n q e =
    rw e (
      (only_section 0x00 ts 0 (program_bytes p), p ∷ []),
      refl,
      table_put (to_end program) (has_table 0x00) false 0x00 ts (program_bytes p) (p ∷ []) (omega arith) t (omega arith) refl (pair_put (program_bytes p) [] (program_put p n q) refl),
    )

pub stream_put : (s : StreamFields) → s.kind < 2 ^ 8 → s.pid < 2 ^ 13 → length s.info < 2 ^ 12 → IsRow s.info → stream.Spells s (stream_bytes s)
unfolding stream
stream_put s k p n r = (
  (s.kind, (s.pid, s.info)),
  refl,
  pair_put (bytes_of 1 s.kind) _ (number1_put s.kind k) (
      pair_put (pid_bytes s.pid) (row_bytes s.info) (low13_put 7 s.pid (omega arith) p) (row_put s.info r n)),
)

pmt_body_put : (streams : List StreamFields) (bytes : List ℕ) → SpellsEach stream.Spells streams bytes → pmt_body.Spells (0x1FFF, ([], streams)) (pmt_body_bytes bytes)
unfolding pmt_body
pmt_body_put streams bytes each =
    pair_put (pid_bytes 0x1FFF) _ (low13_put 7 0x1FFF (omega arith) (omega arith)) (
    pair_put (row_bytes []) bytes (row_put [] empty_row (omega arith)) each)

pub pmt_put : (number : ℕ) (streams : List StreamFields) (bytes body s : List ℕ) → length bytes ≤ 1008 → SpellsEach stream.Spells streams bytes → body ≡ pmt_body_bytes bytes
    → s ≡ long_bytes false (only_section 0x02 number 0 body) → long_form.of s ≡ Some (only_section 0x02 number 0 body) → pmt.Spells (record { program = number; pcr = 0x1FFF; info = []; streams = streams }) s
unfolding pmt
pmt_put number streams bytes body s few each is made long =
    let all : length body ≡ length (pmt_body_bytes bytes) = ap (λ (u : List ℕ). length u) is in
    let len : length body ≡ 4 + length bytes = omega arith in (
      (only_section 0x02 number 0 body, (0x1FFF, ([], streams))),
      refl,
      table_read pmt_body is_pmt false (only_section 0x02 number 0 body) s (0x1FFF, ([], streams)) made long (omega arith) refl (rw is (pmt_body_put streams bytes each)),
    )

net_entry_put : (ts network : ℕ) → ts < 2 ^ 16 → network < 2 ^ 16 → net_entry.Spells (record { ts = ts; network = network; info = [] }) (entry_bytes ts network)
unfolding net_entry
net_entry_put ts network t n = (
  (ts, (network, [])),
  refl,
  pair_put (bytes_of 2 ts) _ (number2_put ts t) (
      pair_put (bytes_of 2 network) (row_bytes []) (number2_put network n) (row_put [] empty_row (omega arith))),
)

net_body_put : (info : List ℕ) (ts network : ℕ) → length info < 2 ^ 12 → IsRow info → ts < 2 ^ 16 → network < 2 ^ 16
    → net_body.Spells (info, record { ts = ts; network = network; info = [] } ∷ []) (net_body_bytes info ts network)
unfolding net_body
net_body_put info ts network few r t n =
    pair_put (row_bytes info) _ (row_put info r few) (
    sized_put (length_bytes 6) (entry_bytes ts network) (length_put 6 (omega arith)) (pair_put (entry_bytes ts network) [] (net_entry_put ts network t n) refl))

is_net_table : (table id : ℕ) (body : List ℕ) → (table ≡ 0x40) ⊎ (table ≡ 0x4A) → is_net (only_section table id 0 body) ≡ true
is_net_table table id body which = elim which [ inl e ↦ rw e refl | inr e ↦ rw e refl ]

table_small : (table : ℕ) → (table ≡ 0x40) ⊎ (table ≡ 0x4A) → table < 2 ^ 8
table_small table which = elim which [ inl e ↦ omega arith | inr e ↦ omega arith ]

length-net_body : (info : List ℕ) (ts network : ℕ) → length (net_body_bytes info ts network) ≡ 10 + length info
length-net_body info ts network = let l = length-append info (length_bytes 6 ++ entry_bytes ts network) in omega arith

pub net_put : (table id : ℕ) (info : List ℕ) (ts network : ℕ) (s : List ℕ) → (table ≡ 0x40) ⊎ (table ≡ 0x4A) → id < 2 ^ 16 → length info ≤ 1002 → IsRow info → ts < 2 ^ 16 → network < 2 ^ 16
    → s ≡ long_bytes true (only_section table id 0 (net_body_bytes info ts network)) → net.Spells (record { table = table; id = id; info = info; entries = record { ts = ts; network = network; info = [] } ∷ [] }) s
unfolding net
net_put table id info ts network s which i few r t n e =
    let len = length-net_body info ts network in
    rw e (
      (only_section table id 0 (net_body_bytes info ts network), (info, record { ts = ts; network = network; info = [] } ∷ [])),
      refl,
      table_put net_body is_net true table id (net_body_bytes info ts network) (info, record { ts = ts; network = network; info = [] } ∷ []) (table_small table which) i (omega arith)
          (is_net_table table id (net_body_bytes info ts network) which) (net_body_put info ts network (omega arith) r t n),
    )

-- ---- times

short_put : (n : ℕ) → n < 2 ^ 12 → short_head.Spells n (bytes_of 2 (7 * 2 ^ 12 + n))
unfolding short_head
short_put n few = (7 * 2 ^ 12 + n, omega arith, (eq-eqb ((7 * 2 ^ 12 + n) / 2 ^ 15) 0 (omega arith), number2_put (7 * 2 ^ 12 + n) (omega arith)))

pub tdt_put : (t : TimeFields) (s : List ℕ) → t.second < 86400 → s ≡ tdt_bytes t → tdt.Spells t s
unfolding tdt
tdt_put t s lt e =
    rw e (
      (tt, t),
      refl,
      pair_put (bytes_of 1 0x70) _ (number1_put 0x70 (omega arith)) (
          sized_put (bytes_of 2 (7 * 2 ^ 12 + 5)) (utc_bytes t.mjd t.second) (short_put 5 (omega arith)) (utc_put t lt)),
    )

tot_inside_put : (t : TimeFields) (info : List ℕ) (crc : ℕ) → t.second < 86400 → length info < 2 ^ 12 → IsRow info
    → tot_inside.Spells (t, info) ((utc_bytes t.mjd t.second ++ row_bytes info) ++ bytes_of 4 crc)
unfolding tot_inside
tot_inside_put t info crc lt few r =
    let front = utc_bytes t.mjd t.second ++ row_bytes info in
    let l : length (front ++ bytes_of 4 crc) ≡ length front + 4 = length-append front (bytes_of 4 crc) in
    let is = take_at front (bytes_of 4 crc) (length (front ++ bytes_of 4 crc) - 4) (omega arith) in (
      omega arith,
      rw is (
          pair_put (utc_bytes t.mjd t.second) (row_bytes info) (utc_put t lt) (row_put info r few)),
    )

pub tot_put : (t : TimeFields) (info s : List ℕ) → t.second < 86400 → length info ≤ 1010 → IsRow info → s ≡ tot_bytes t info → tot.Spells (record { time = t; info = info }) s
unfolding tot tot_bytes
tot_put t info s lt few r e =
    let crc = crc_of (tot_text t info) in
    let inside = (utc_bytes t.mjd t.second ++ row_bytes info) ++ bytes_of 4 crc in
    let l : length inside ≡ tot_section_length (length info) = let m = length-append info (bytes_of 4 crc) in omega arith in
    let right : crc_of (tot_text t info ++ bytes_of 4 crc) ≡ 0 = crc_appended (tot_text t info) in
    rw e (
      le-leb _ _ (omega arith),
      (
        eq-eqb _ _ right,
        (
          (tt, (t, info)),
          refl,
          pair_put (bytes_of 1 0x73) _ (number1_put 0x73 (omega arith)) (
              sized_put (bytes_of 2 (7 * 2 ^ 12 + tot_section_length (length info))) inside (rw l (short_put (tot_section_length (length info)) (omega arith))) (tot_inside_put t info crc lt (omega arith) r)),
        ),
      ),
    )

-- ---- the streams of a PMT

value_of : {A : Type 0} (o : Option A) → IsSome o → (a : A) × (o ≡ Some a)
value_of None h = absurd cc
value_of (Some a) h = (a, refl)

pub row_each : (bytes : List ℕ) → IsStreamRow bytes → SpellsEach stream.Spells (items_of stream bytes) bytes
row_each bytes r =
    let x = value_of ((to_end stream).of bytes) r.whole in
    let s = (to_end_exact stream_exact).takes bytes x.0 x.1 in
    subst (λ (xs : List StreamFields). SpellsEach stream.Spells xs bytes) (sym (items_spelled stream stream_exact x.0 bytes s)) s

pub row_more : (bytes : List ℕ) (s : StreamFields) (piece : List ℕ) → IsStreamRow bytes → stream.Spells s piece → items_of stream (bytes ++ piece) ≡ items_of stream bytes ++ s ∷ []
row_more bytes s piece r spelled = items_spelled stream stream_exact (items_of stream bytes ++ s ∷ []) (bytes ++ piece) (each_push stream.Spells (items_of stream bytes) bytes s piece (row_each bytes r) spelled)

pub row_add : (bytes : List ℕ) (s : StreamFields) (piece : List ℕ) → IsStreamRow bytes → stream.Spells s piece → length bytes + length piece ≤ 1008 → IsStreamRow (bytes ++ piece)
row_add bytes s piece r spelled room =
    let all = each_push stream.Spells (items_of stream bytes) bytes s piece (row_each bytes r) spelled in
    let read = (to_end_exact stream_exact).again (items_of stream bytes ++ s ∷ []) (bytes ++ piece) all in
    let l = length-append bytes piece in
    record { whole = rw read refl; room = omega arith }

pub no_streams : items_of stream [] ≡ []
no_streams = items_spelled stream stream_exact [] [] refl

-- ---- rows of descriptors without bytes

empty_descriptor : descriptor.Spells (record { tag = 0x5F; body = [] }) (0x5F ∷ 0 ∷ [])
unfolding descriptor
empty_descriptor = ((0x5F, []), refl, pair_put (0x5F ∷ []) (0 ∷ []) (number1_byte 0x5F) (sized_put (0 ∷ []) [] (number1_byte 0) refl))

pub one_empty_more : (bytes : List ℕ) → IsRow bytes → IsRow (bytes ++ 0x5F ∷ 0 ∷ [])
unfolding row
one_empty_more bytes r = (r.0 ++ record { tag = 0x5F; body = [] } ∷ [], each_push descriptor.Spells r.0 bytes (record { tag = 0x5F; body = [] }) (0x5F ∷ 0 ∷ []) r.1 empty_descriptor)
