use Rattle.std.proofs.Common.{◌≡◌, eqb, bit_and}
use Rattle.std.specs.List.{list_any}
use Rattle.wire.specs.Items.{items_of}
use Rattle.wire.specs.Number.{number}
use Rattle.ssu_unt.proofs.descriptors.has_match.Given as goal

abbrev pub invariant-loop-item : goal.invariant-loop-item
invariant-loop-item l =
    list_any (λ match. eqb (bit_and match l.mask) (bit_and l.mac l.mask)) (items_of (number 6) l.item-iterator)
    ≡ list_any (λ match. eqb (bit_and match l.mask) (bit_and l.mac l.mask)) (items_of (number 6) l.fn.matches)
