use Rattle.std.proofs.Common.{◌≡◌, ◌∙◌, arith}
use Rattle.si_table.specs.Written.{net_body_bytes}
use Rattle.si_table.proofs.Back.{net_put}
use Rattle.si_table.proofs.writing.write_net.Goals as goal

pub returns-clause-read_back : goal.returns-clause-read_back
returns-clause-read_back c =
    let body : c.deref.result.now ≡ net_body_bytes c.args.info.now c.args.ts c.args.network = c.deref.ensures.value ∙ c.in_ok-body.ensures {u = tt} in
    net_put c.args.table c.args.id c.args.info.now c.args.ts c.args.network c.in_ok-section.section.items c.requires.table (omega arith) (omega arith) c.requires.row (omega arith) (omega arith) (rw body at (c.in_ok-section.ensures {u = tt}).bytes)
