-- The formats read what is spelled so, and nothing else.
use Rattle.wire.specs.Exact.{IsFront, IsWhole}
use Rattle.wire.proofs.Laws.{pair_exact, sized_exact, then_exact, reads_exact, whole_reads_exact}
use Rattle.wire.proofs.Laws.{rest_exact, fixed_exact, only_exact, kept_exact, to_end_exact}
use Rattle.wire.proofs.Numbers.{number1, number2, number3, number5, low12, low_exact}
use Rattle.std.specs.Prelude.{refl}
use Rattle.si_desc.specs.Descriptors.{descriptor, row, sized_row, stream_identifier, subgroup_association}
use Rattle.si_desc.specs.Linkage.{linkage_fields, linkage, oui_entry, update_ouis}
use Rattle.si_desc.specs.SsuInfo.{info_fields, info, update_infos}
use Rattle.si_desc.specs.Exact.{descriptor_exact, oui_entry_exact, info_exact}

pub row_exact : IsWhole row
unfolding row
row_exact = to_end_exact descriptor_exact

pub sized_row_exact : IsFront sized_row
unfolding sized_row
sized_row_exact = sized_exact low12 (kept_exact row_exact)

pub subgroup_association_exact : IsWhole subgroup_association
unfolding subgroup_association
subgroup_association_exact = only_exact number5

pub stream_identifier_exact : IsWhole stream_identifier
unfolding stream_identifier
stream_identifier_exact = only_exact number1

pub linkage_exact : IsWhole linkage
unfolding linkage
linkage_exact =
    whole_reads_exact linkage_fields (then_exact (pair_exact number2 (pair_exact number2 (pair_exact number2 number1))) (λ _. rest_exact))

pub update_ouis_exact : IsWhole update_ouis
unfolding update_ouis
update_ouis_exact =
    whole_reads_exact _ (then_exact (sized_exact number1 (to_end_exact oui_entry_exact)) (λ _. rest_exact))

pub update_infos_exact : IsWhole update_infos
unfolding update_infos
update_infos_exact =
    whole_reads_exact _ (then_exact (fixed_exact 0x000A number2) (λ _. then_exact (sized_exact number1 (to_end_exact info_exact)) (λ _. rest_exact)))
