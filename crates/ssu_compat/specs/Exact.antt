-- The reader of the format reads what is spelled so, and nothing else.
use Rattle.wire.specs.Exact.{IsFront, IsWhole}
use Rattle.wire.proofs.Laws.{pair_exact, sized_exact, then_exact, reads_exact, rest_exact, kept_exact, exactly_exact}
use Rattle.wire.proofs.Numbers.{number1, number2, number3}
use Rattle.ssu_compat.specs.Compat.{sub_descriptor, inside_entry, entry_fields, entry}

pub sub_exact : IsFront sub_descriptor
sub_exact = pair_exact number1 (sized_exact number1 rest_exact)

pub inside_exact : IsWhole inside_entry
inside_exact =
    then_exact (pair_exact number1 (pair_exact number3 (pair_exact number2 (pair_exact number2 number1)))) (λ x.
    kept_exact (exactly_exact x.1.1.1.1 sub_exact))

pub entry_exact : IsFront entry
unfolding entry
entry_exact = reads_exact entry_fields (pair_exact number1 (sized_exact number1 inside_exact))
