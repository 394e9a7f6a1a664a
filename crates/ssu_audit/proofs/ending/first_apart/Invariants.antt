use Rattle.std.proofs.Common.{◌≡◌, drop, map}
use Rattle.ssu_audit.specs.Ending.{is_apart}
use Rattle.ssu_audit.specs.Kept.{first_kept, kept_of}
use Rattle.ssu_audit.proofs.ending.first_apart.Given as goal

abbrev pub invariant-loop-kept : goal.invariant-loop-kept
invariant-loop-kept l =
    first_kept (is_apart l.dsi.groups) (map kept_of (drop l.kept-index l.notices)) ≡ first_kept (is_apart l.dsi.groups) (map kept_of l.notices)
