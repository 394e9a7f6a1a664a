-- Each format reads what is spelled so, and nothing else.
use Rattle.wire.specs.Exact.{IsFront}
use Rattle.wire.proofs.Laws.{reads_exact, pair_exact}
use Rattle.wire.proofs.Numbers.{number1, number2, low13}
use Rattle.si_desc.proofs.Exact.{sized_row_exact}
use Rattle.si_table.specs.Tables.{program, stream, net_entry}

pub program_exact : IsFront program
unfolding program
program_exact = reads_exact _ (pair_exact number2 low13)

pub stream_exact : IsFront stream
unfolding stream
stream_exact = reads_exact _ (pair_exact number1 (pair_exact low13 sized_row_exact))

pub net_entry_exact : IsFront net_entry
unfolding net_entry
net_entry_exact = reads_exact _ (pair_exact number2 (pair_exact number2 sized_row_exact))
