-- Of the files that were looked at, the last one of the name was found.
use Rattle.std.proofs.Common.{◌≡◌, option_map, take}
use Rattle.ssu_io.specs.Files.{bytes_of}
use Rattle.ssu_io.proofs.stored.find.Given as goal

abbrev pub invariant-loop-file : goal.invariant-loop-file
invariant-loop-file l = option_map (λ bytes. bytes.now) l.found ≡ bytes_of (take l.file-index l.files) l.name
