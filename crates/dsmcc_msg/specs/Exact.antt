-- Each format of this crate reads what is spelled so, and nothing else.
use Rattle.wire.specs.Exact.{IsFront}
use Rattle.wire.proofs.Laws.{reads_exact, pair_exact, sized_exact, rest_exact}
use Rattle.wire.proofs.Numbers.{number1, number2, number4}
use Rattle.ssu_compat.proofs.Exact.{compat_exact}
use Rattle.dsmcc_msg.specs.Control.{group_entry, module_entry}

pub group_entry_exact : IsFront group_entry
unfolding group_entry
group_entry_exact = reads_exact _ (pair_exact number4 (pair_exact number4 (pair_exact compat_exact (sized_exact number2 rest_exact))))

pub module_entry_exact : IsFront module_entry
unfolding module_entry
module_entry_exact = reads_exact _ (pair_exact number2 (pair_exact number4 (pair_exact number1 (sized_exact number1 rest_exact))))
