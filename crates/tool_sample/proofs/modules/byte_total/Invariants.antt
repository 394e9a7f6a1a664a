use Rattle.std.proofs.Common.{◌≡◌, ◌≤◌, ◌*◌, length}
use Rattle.std.specs.List.{sum_by}
use Rattle.tool_sample.proofs.FileLaws.{first_modules}
use Rattle.tool_sample.proofs.modules.byte_total.Given as goal

-- the bytes of the modules so far
abbrev pub invariant-loop-k : goal.invariant-loop-k
invariant-loop-k l = record {
  total : l.total ≡ sum_by length (first_modules l.number l.k);
  few : l.total ≤ 99000 * l.k;
}
