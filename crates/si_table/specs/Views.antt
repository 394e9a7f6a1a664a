-- What the readers answer, as values without where their bytes lie.
use Rattle.wire.specs.Items.{items_of}
use Rattle.ssu_time.specs.UtcField.{TimeFields, time_view}
use Rattle.si_table.specs.declared.pat.Program.{Program}
use Rattle.si_table.specs.declared.pat.Pat.{Pat}
use Rattle.si_table.specs.declared.pmt.Stream.{Stream}
use Rattle.si_table.specs.declared.pmt.Pmt.{Pmt}
use Rattle.si_table.specs.declared.net.NetEntry.{NetEntry}
use Rattle.si_table.specs.declared.net.Net.{Net}
use Rattle.si_table.specs.declared.times.Tot.{Tot}
use Rattle.si_table.specs.declared.times.Tdt.{Tdt}
use Rattle.si_table.specs.Tables.{ProgramFields, program, PatFields, StreamFields, stream, PmtFields, NetEntryFields, net_entry, NetFields}
use Rattle.si_table.specs.Times.{TotFields}

abbrev pub program_view : Program → ProgramFields
program_view p = record { number = p.number; pid = p.pid }

abbrev pub pat_view : Pat → PatFields
pat_view p = record { ts = p.ts; programs = items_of program p.programs }

abbrev pub stream_view : Stream → StreamFields
stream_view s = record { kind = s.kind; pid = s.pid; info = s.info.now }

abbrev pub pmt_view : Pmt → PmtFields
pmt_view p = record { program = p.program; pcr = p.pcr; info = p.info.now; streams = items_of stream p.streams }

abbrev pub net_entry_view : NetEntry → NetEntryFields
net_entry_view e = record { ts = e.ts; network = e.network; info = e.info.now }

abbrev pub net_view : Net → NetFields
net_view n = record { table = n.table; id = n.id; info = n.info.now; entries = items_of net_entry n.entries }

abbrev pub tdt_view : Tdt → TimeFields
tdt_view t = time_view t.time

abbrev pub tot_view : Tot → TotFields
tot_view t = record { time = time_view t.time; info = t.info.now }
