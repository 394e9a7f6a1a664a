use Rattle.std.proofs.Common.{◌≡◌, drop}
use Rattle.std.specs.List.{list_all}
use Rattle.ssu_io.specs.FileName.{is_file_character}
use Rattle.ssu_io.proofs.file_names.is_each_file_character.Given as goal

abbrev pub invariant-loop-byte : goal.invariant-loop-byte
invariant-loop-byte l = list_all is_file_character l.bytes ≡ list_all is_file_character (drop l.byte-index l.bytes)
