use Rattle.std.proofs.Common.{◌≡◌, drop}
use Rattle.std.specs.List.{list_all}
use Rattle.box_file.specs.BoxText.{is_printable}
use Rattle.box_file.proofs.values.is_printable.Given as goal

abbrev pub invariant-loop-byte : goal.invariant-loop-byte
invariant-loop-byte l = list_all is_printable l.bytes ≡ list_all is_printable (drop l.byte-index l.bytes)
