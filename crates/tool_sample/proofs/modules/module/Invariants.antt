use Rattle.std.proofs.Common.{◌≡◌, map}
use Rattle.std.specs.List.{range_with_len}
use Rattle.tool_sample.specs.Sample.{module_byte}
use Rattle.tool_sample.proofs.modules.module.Given as goal

-- the first bytes
abbrev pub invariant-loop-i : goal.invariant-loop-i
invariant-loop-i l = l.bytes.items ≡ map (module_byte l.fn.number l.fn.k) (range_with_len 0 l.i)
