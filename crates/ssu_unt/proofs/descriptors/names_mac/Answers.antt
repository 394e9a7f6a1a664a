use Rattle.std.proofs.Common.{◌∙◌}
use Rattle.ssu_unt.specs.Descriptors.{names_mac}
use Rattle.ssu_unt.proofs.Counting.{mac_number}
use Rattle.ssu_unt.proofs.descriptors.names_mac.Goals as goal

pub returns-in-Some : goal.returns-in-Some
unfolding names_mac
returns-in-Some c =
    let number = c.from_be_bytes-number.ensures ∙ mac_number c.args.mac.now c.told-mac in
    rw (c.in-Some.ensures, ← number) c.has_match.ensures
