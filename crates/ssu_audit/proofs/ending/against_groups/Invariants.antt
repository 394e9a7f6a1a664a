use Rattle.std.proofs.Common.{List, Option}
use Rattle.wire.specs.Items.{items_of}
use Rattle.audit_answer.specs.declared.answers.AuditNo.{AuditNo}
use Rattle.dsmcc_msg.specs.Control.{group_entry}
use Rattle.ssu_audit.specs.Calls.{Call}
use Rattle.ssu_audit.specs.Ending.{AgainstGroups}
use Rattle.ssu_audit.specs.Kept.{block_at, dii_at}
use Rattle.ssu_audit.specs.Standing.{HoldsGroups}
use Rattle.ssu_audit.proofs.ending.against_groups.Given as goal

abbrev pub invariant-loop-group : goal.invariant-loop-group
invariant-loop-group l =
    (calls : List Call) (answer : Option AuditNo) → HoldsGroups calls (dii_at l.diis) (block_at l.blocks)
    → AgainstGroups calls (items_of group_entry l.group-iterator) answer → AgainstGroups calls l.dsi.groups answer
