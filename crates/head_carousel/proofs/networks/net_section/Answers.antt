use Rattle.std.proofs.Common.{◌≤◌, length, length-append, ap, ◌∙◌, arith}
use Rattle.si_desc.specs.Written.{linkage_bytes}
use Rattle.head_carousel.proofs.MadeLaws.{net_made, row_none, row_same}
use Rattle.head_carousel.proofs.networks.net_section.Goals as goal

pub write_net-requires-clause-row : goal.write_net-requires-clause-row
write_net-requires-clause-row c =
    row_same c.deref.ensures.value (c.in_ok-put_linkage.ensures.row (row_none c.new-row.ensures.items))

pub returns-in-Ok-clause-right : goal.returns-in-Ok-clause-right
returns-in-Ok-clause-right c =
    let text = c.deref.ensures.value ∙ c.in_ok-put_linkage.ensures.put in
    let few : length c.deref.result.now ≤ 1002 = omega (arith, ap length text, ap length c.new-row.ensures.items, length-append c.new-row.result.items (linkage_bytes c.args.to c.args.oui)) in
    net_made c.args.table c.args.id c.deref.result.now _ _ c.in-Ok.section.items c.requires.table (omega arith) few c.in-Ok.ensures.made
