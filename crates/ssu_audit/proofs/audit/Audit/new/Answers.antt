use Rattle.std.proofs.Common.{[]}
use Rattle.ssu_audit.proofs.Beginning.{holds-none}
use Rattle.ssu_audit.proofs.audit.Audit.new.Goals as goal

pub returns : goal.returns
returns c =
    let none = holds-none c.new.result c.new-2.result c.new-3.result.items c.new.ensures.empty c.new-2.ensures.empty c.new-3.ensures.items in
    record { none = none; usable = ([], none) }
