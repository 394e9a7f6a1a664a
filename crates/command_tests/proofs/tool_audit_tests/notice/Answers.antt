use Rattle.std.proofs.Common.{[], refl}
use Rattle.si_desc.specs.Descriptors.{row}
use Rattle.command_tests.proofs.tool_audit_tests.notice.Goals as goal

pub new-requires-clause-row : goal.new-requires-clause-row
unfolding row
new-requires-clause-row c = ([], refl)
