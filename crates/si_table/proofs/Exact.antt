-- The formats read what is spelled so, and nothing else.
use Rattle.std.specs.Prelude.{Bool}
use Rattle.wire.specs.Format.{Whole}
use Rattle.wire.specs.Exact.{IsFront, IsWhole}
use Rattle.wire.proofs.Laws.{reads_exact, such_exact, fixed_exact, pair_exact, then_exact}
use Rattle.wire.proofs.Laws.{sized_exact, only_exact, before_exact, to_end_exact, checked_exact, whole_reads_exact}
use Rattle.wire.proofs.Numbers.{number1, number2, low12, low13}
use Rattle.section_form.specs.Long.{LongFields, has_table, has_right_crc, length_of}
use Rattle.section_form.proofs.Exact.{section_of_exact}
use Rattle.si_desc.proofs.Exact.{sized_row_exact}
use Rattle.ssu_time.proofs.Exact.{utc_exact}
use Rattle.si_table.specs.Tables.{fits_a_table, table_of, pat}
use Rattle.si_table.specs.Tables.{is_pmt, pmt_body, pmt_fields, pmt, is_net}
use Rattle.si_table.specs.Tables.{net_body, net_fields, net}
use Rattle.si_table.specs.Times.{is_short, short_head, tdt, tot_inside, tot}
use Rattle.si_table.specs.Exact.{program_exact, stream_exact, net_entry_exact}

pub table_exact : {A : Type 0} (is_head : LongFields → Bool) {body : Whole A} → IsWhole body → IsWhole (table_of is_head body)
table_exact is_head h = checked_exact fits_a_table (section_of_exact is_head h)

pub pat_exact : IsWhole pat
unfolding pat
pat_exact = whole_reads_exact _ (table_exact (has_table 0x00) (to_end_exact program_exact))

pub pmt_body_exact : IsWhole pmt_body
unfolding pmt_body
pmt_body_exact = then_exact low13 (λ _. then_exact sized_row_exact (λ _. to_end_exact stream_exact))

pub pmt_exact : IsWhole pmt
unfolding pmt
pmt_exact = whole_reads_exact pmt_fields (table_exact is_pmt pmt_body_exact)

pub net_body_exact : IsWhole net_body
unfolding net_body
net_body_exact = only_exact (pair_exact sized_row_exact (sized_exact low12 (to_end_exact net_entry_exact)))

pub net_exact : IsWhole net
unfolding net
net_exact = whole_reads_exact net_fields (table_exact is_net net_body_exact)

pub short_head_exact : IsFront short_head
unfolding short_head
short_head_exact = reads_exact length_of (such_exact is_short number2)

pub tdt_exact : IsWhole tdt
unfolding tdt
tdt_exact = whole_reads_exact _ (only_exact (pair_exact (fixed_exact 0x70 number1) (sized_exact short_head_exact (only_exact utc_exact))))

pub tot_inside_exact : IsWhole tot_inside
unfolding tot_inside
tot_inside_exact = before_exact 4 (only_exact (pair_exact utc_exact sized_row_exact))

pub tot_exact : IsWhole tot
unfolding tot
tot_exact = checked_exact fits_a_table (checked_exact has_right_crc (whole_reads_exact _ (only_exact (pair_exact (fixed_exact 0x73 number1) (sized_exact short_head_exact tot_inside_exact)))))
