use Rattle.std.proofs.Common.{◌≡◌, rules, arith}
use Rattle.std.proofs.lemmas.Grind.{common_steps}
use Rattle.ssu_time.specs.UtcField.{time_view}
use Rattle.si_table.specs.Written.{tdt_bytes}
use Rattle.si_table.proofs.Back.{tdt_put}
use Rattle.si_table.proofs.writing.write_tdt.Goals as goal

pub returns-clause-read_back : goal.returns-clause-read_back
returns-clause-read_back c =
    let made : c.extend_from_slice.new.self.items ≡ tdt_bytes (time_view c.args.time) = first_of (search rules, grind (arith, common_steps)) in
    tdt_put (time_view c.args.time) c.extend_from_slice.new.self.items c.args.time.in_day made
