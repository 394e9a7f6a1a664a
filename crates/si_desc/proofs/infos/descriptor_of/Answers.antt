use Rattle.std.proofs.Common.{◌<◌, ◌^◌, arith}
use Rattle.si_desc.proofs.Puts.{info_put}
use Rattle.si_desc.proofs.infos.descriptor_of.Goals as goal

pub returns-clause-read_back : goal.returns-clause-read_back
returns-clause-read_back c =
    let fits : c.args.oui < 2 ^ 24 = omega (arith, c.get.ensures.number, c.get.ensures.in_range) in
    info_put c.args.oui c.args.update_type fits c.requires
