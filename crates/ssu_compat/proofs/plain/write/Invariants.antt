use Rattle.std.proofs.Common.{◌≡◌, ◌+◌, ◌*◌, ◌++◌, length, take}
use Rattle.std.specs.List.{flat_map, AllByRecursion}
use Rattle.wire.specs.Number.{bytes_of}
use Rattle.ssu_compat.specs.Written.{Fits, entry_bytes}
use Rattle.ssu_compat.proofs.plain.write.Given as goal

abbrev pub invariant-loop-plain : goal.invariant-loop-plain
invariant-loop-plain l = record {
  items : l.out.items ≡ bytes_of 2 (2 + 11 * length l.entries) ++ bytes_of 2 (length l.entries) ++ flat_map entry_bytes (take l.plain-index l.entries);
  fits : AllByRecursion Fits (take l.plain-index l.entries);
}
