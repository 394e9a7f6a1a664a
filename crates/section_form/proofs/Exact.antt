-- The formats read what is spelled so, and nothing else.
use Rattle.std.specs.Prelude.{Bool}
use Rattle.wire.specs.Format.{Whole}
use Rattle.wire.proofs.InsideLaws.{inside_exact}
use Rattle.wire.specs.Exact.{IsFront, IsWhole}
use Rattle.wire.proofs.Laws.{reads_exact, such_exact, sized_exact, pair_exact, then_exact}
use Rattle.wire.proofs.Laws.{before_exact, rest_exact, only_exact, checked_exact, whole_such_exact, whole_reads_exact}
use Rattle.wire.proofs.Numbers.{number1, number2}
use Rattle.section_form.specs.Long.{LongFields, is_long_head, length_of, long_head, is_current, current_version, behind_length, fields_of, has_right_crc, unchecked_form, long_form, body_of, section_of}

pub long_head_exact : IsFront long_head
unfolding long_head
long_head_exact = reads_exact length_of (such_exact is_long_head number2)

pub current_version_exact : IsFront current_version
unfolding current_version
current_version_exact = reads_exact _ (such_exact is_current number1)

pub behind_length_exact : IsWhole behind_length
unfolding behind_length
behind_length_exact =
    then_exact number2 (λ _. then_exact current_version_exact (λ _. then_exact number1 (λ _. then_exact number1 (λ _.
    before_exact 4 rest_exact))))

pub unchecked_form_exact : IsWhole unchecked_form
unfolding unchecked_form
unchecked_form_exact =
    whole_reads_exact fields_of (only_exact (pair_exact number1 (sized_exact long_head_exact behind_length_exact)))

pub long_form_exact : IsWhole long_form
unfolding long_form
long_form_exact = checked_exact has_right_crc unchecked_form_exact

pub section_of_exact : {A : Type 0} (is_head : LongFields → Bool) {body : Whole A} → IsWhole body → IsWhole (section_of is_head body)
section_of_exact is_head h = inside_exact body_of (whole_such_exact is_head long_form_exact) h
