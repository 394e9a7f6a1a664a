use Rattle.std.proofs.Common.{◌<◌, ◌^◌, arith}
use Rattle.si_desc.proofs.Puts.{linkage_put}
use Rattle.si_desc.specs.declared.linkages.ServiceRef.{ServiceRef}
use Rattle.si_desc.proofs.linkages.descriptor_of.Goals as goal

pub returns-clause-read_back : goal.returns-clause-read_back
returns-clause-read_back c =
    let fits : c.args.oui < 2 ^ 24 = omega (arith, c.get.ensures.number, c.get.ensures.in_range) in
    let to : ServiceRef = record { ts = c.args.ts; network = c.args.network; service = c.args.service } in
    linkage_put to c.args.oui (omega (arith, c.ranges.ts)) (omega (arith, c.ranges.network)) (omega (arith, c.ranges.service)) fits
