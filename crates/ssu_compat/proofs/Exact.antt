-- The formats read what is spelled so, and nothing else.
use Rattle.wire.specs.Exact.{IsFront, IsWhole}
use Rattle.wire.proofs.Laws.{sized_exact, then_exact, whole_reads_exact}
use Rattle.wire.proofs.Laws.{exactly_exact, or_none_exact}
use Rattle.wire.proofs.Numbers.{number2}
use Rattle.ssu_compat.specs.Compat.{entries, compat}
use Rattle.ssu_compat.specs.Exact.{entry_exact}

pub entries_exact : IsWhole entries
unfolding entries
entries_exact = whole_reads_exact _ (then_exact number2 (λ count. exactly_exact count entry_exact))

pub compat_exact : IsFront compat
unfolding compat
compat_exact = sized_exact number2 (or_none_exact entries_exact)
