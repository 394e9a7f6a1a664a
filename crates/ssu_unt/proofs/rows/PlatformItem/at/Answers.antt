use Rattle.std.proofs.Common.{refl}
use Rattle.ssu_unt.specs.Table.{platform}
use Rattle.ssu_unt.proofs.Spelling.{pairs_read}
use Rattle.ssu_unt.proofs.rows.PlatformItem.at.Goals as goal

pub returns : goal.returns
unfolding platform
returns c =
    let same = pairs_read c.in_ok-pairs.pairs.now _ c.in_ok-_pairs.ensures in
    rw (c.in-Some.ensures, c.in_ok-len.ensures, c.in_ok-pairs.ensures, c.in_ok-_pairs.ensures, same) refl
