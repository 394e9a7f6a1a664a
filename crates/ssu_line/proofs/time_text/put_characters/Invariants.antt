use Rattle.std.proofs.Common.{◌≡◌, ◌+◌, ◌++◌, take}
use Rattle.arrayvec.specs.ArrayString.{array_string_len}
use Rattle.ssu_line.proofs.time_text.put_characters.Given as goal

abbrev pub invariant-loop-character : goal.invariant-loop-character
invariant-loop-character l =
    (l.line.bytes ≡ l.fn.line.bytes ++ take l.character-index l.characters)
    × (array_string_len l.line ≡ array_string_len l.fn.line + l.character-index)
