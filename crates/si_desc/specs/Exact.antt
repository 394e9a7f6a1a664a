-- The readers of the formats read what is spelled so, and nothing else.
use Rattle.wire.specs.Exact.{IsFront}
use Rattle.wire.proofs.Laws.{pair_exact, sized_exact, reads_exact, rest_exact}
use Rattle.wire.proofs.Numbers.{number1, number3, low_exact}
use Rattle.std.specs.Prelude.{refl}
use Rattle.si_desc.specs.Descriptors.{descriptor}
use Rattle.si_desc.specs.Linkage.{oui_entry}
use Rattle.si_desc.specs.SsuInfo.{info_fields, info}

pub descriptor_exact : IsFront descriptor
unfolding descriptor
descriptor_exact = reads_exact _ (pair_exact number1 (sized_exact number1 rest_exact))

pub oui_entry_exact : IsFront oui_entry
unfolding oui_entry
oui_entry_exact = reads_exact _ (pair_exact number3 (sized_exact number1 rest_exact))

pub info_exact : IsFront info
unfolding info
info_exact =
    reads_exact info_fields (pair_exact number3 (pair_exact (low_exact 1 4 refl) (pair_exact number1 (sized_exact number1 rest_exact))))
