use Rattle.std.proofs.Common.{◌≡◌, ◌+◌, ◌++◌, replicate}
use Rattle.arrayvec.specs.ArrayString.{array_string_len}
use Rattle.ssu_line.proofs.writing.put_spaces.Given as goal

abbrev pub invariant-loop-k : goal.invariant-loop-k
invariant-loop-k l =
    (l.line.bytes ≡ l.fn.line.bytes ++ replicate l._k 32)
    × (array_string_len l.line ≡ array_string_len l.fn.line + l._k)
