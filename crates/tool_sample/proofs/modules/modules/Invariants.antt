use Rattle.std.proofs.Common.{◌≡◌, map}
use Rattle.tool_sample.proofs.FileLaws.{first_modules}
use Rattle.tool_sample.proofs.modules.modules.Given as goal

-- the first modules
abbrev pub invariant-loop-k : goal.invariant-loop-k
invariant-loop-k l = map (λ f. f.items) l.files.items ≡ first_modules l.fn.number l.k
