use Rattle.std.proofs.Common.{◌≡◌, false, take}
use Rattle.std.specs.List.{list_any}
use Rattle.ssu_audit.specs.Kept.{has_bytes}
use Rattle.ssu_audit.proofs.notices.is_kept.Given as goal

abbrev pub invariant-loop-kept : goal.invariant-loop-kept
invariant-loop-kept l = list_any (has_bytes l.section) (take l.kept-index l.notices) ≡ false
