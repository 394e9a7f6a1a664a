-- The readers of the formats read what is spelled so, and nothing else.
use Rattle.si_desc.proofs.Exact.{sized_row_exact}
use Rattle.ssu_compat.proofs.Exact.{compat_exact}
use Rattle.wire.specs.Exact.{IsFront}
use Rattle.wire.proofs.InsideLaws.{noted_exact}
use Rattle.wire.proofs.Laws.{pair_exact, sized_exact, reads_exact, to_end_exact}
use Rattle.wire.proofs.Numbers.{number2}
use Rattle.ssu_unt.specs.Table.{pair, platform}

pub pair_is_exact : IsFront pair
unfolding pair
pair_is_exact = reads_exact _ (pair_exact sized_row_exact sized_row_exact)

pub platform_exact : IsFront platform
unfolding platform
platform_exact =
    reads_exact _ (
    pair_exact compat_exact (sized_exact number2 (noted_exact (to_end_exact pair_is_exact))))
