use Rattle.std.proofs.Common.{◌≡◌, rules, arith}
use Rattle.std.proofs.lemmas.Grind.{common_steps}
use Rattle.ssu_time.specs.UtcField.{time_view}
use Rattle.si_table.specs.Written.{tot_bytes}
use Rattle.si_table.proofs.Back.{tot_put}
use Rattle.si_table.proofs.writing.write_tot.Goals as goal

pub returns-clause-read_back : goal.returns-clause-read_back
unfolding tot_bytes
returns-clause-read_back c =
    let made : c.put_u32.new.out.items ≡ tot_bytes (time_view c.args.time) c.args.info.now = first_of (search rules, grind (arith, common_steps)) in
    tot_put (time_view c.args.time) c.args.info.now c.put_u32.new.out.items c.args.time.in_day (omega arith) c.requires made
