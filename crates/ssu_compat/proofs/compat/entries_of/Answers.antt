use Rattle.std.proofs.Common.{◌≡◌, [], refl, arith}
use Rattle.std.proofs.lemmas.List.{nil_from_length}
use Rattle.wire.proofs.ItemLaws.{items_spelled}
use Rattle.ssu_compat.specs.Compat.{entry}
use Rattle.ssu_compat.specs.Exact.{entry_exact}
use Rattle.ssu_compat.proofs.compat.entries_of.Goals as goal

pub returns-in-empty : goal.returns-in-empty
returns-in-empty c =
    let empty : c.args.bytes.now ≡ [] = nil_from_length c.args.bytes.now (omega arith) in
    rw (c.new.ensures, empty, items_spelled entry entry_exact [] [] refl) refl
