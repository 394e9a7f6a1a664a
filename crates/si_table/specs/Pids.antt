-- PIDs that are the same in each transport stream: ISO/IEC 13818-1, 2.4.4.3; ETSI EN 300 468, 5.1.3.
use Rattle.std.specs.Prelude.{ℕ}

abbrev pub pat_pid : ℕ
pat_pid = 0x0000

abbrev pub nit_pid : ℕ
nit_pid = 0x0010

abbrev pub bat_pid : ℕ
bat_pid = 0x0011

-- that of the TDT and the TOT
abbrev pub time_pid : ℕ
time_pid = 0x0014
