use Rattle.std.proofs.Common.{◌≡◌, eqb}
use Rattle.std.specs.List.{find}
use Rattle.si_desc.specs.Descriptors.{whole_descriptors}
use Rattle.si_desc.proofs.rows.first.Given as goal

abbrev pub invariant-loop-desc : goal.invariant-loop-desc
invariant-loop-desc l = find (λ d. eqb d.tag l.tag) (whole_descriptors l.desc-iterator) ≡ find (λ d. eqb d.tag l.tag) (whole_descriptors l.fn.row)
