-- The formats read what is spelled so, and nothing else.
use Rattle.std.specs.Prelude.{ℕ, Bool, true, false}
use Rattle.section_form.specs.Long.{has_table}
use Rattle.section_form.proofs.Exact.{section_of_exact}
use Rattle.si_desc.proofs.Exact.{sized_row_exact}
use Rattle.ssu_time.proofs.Exact.{utc_exact}
use Rattle.wire.specs.Exact.{IsWhole}
use Rattle.wire.proofs.Laws.{pair_exact, then_exact, whole_reads_exact, rest_exact, fixed_exact, to_end_exact}
use Rattle.wire.proofs.Numbers.{number1, number2, number3, number6}
use Rattle.ssu_unt.specs.Descriptors.{turns_fields, turns_if, window_fields, scheduling, update_flag, location, mac_targets}
use Rattle.ssu_unt.specs.Table.{body, unt_fields, unt}
use Rattle.ssu_unt.specs.Exact.{platform_exact}

pub body_exact : IsWhole body
unfolding body
body_exact = then_exact number3 (λ _. then_exact number1 (λ _. then_exact sized_row_exact (λ _. to_end_exact platform_exact)))

pub unt_exact : IsWhole unt
unfolding unt
unt_exact = whole_reads_exact unt_fields (section_of_exact (has_table 0x4B) body_exact)

turns_exact : (b : Bool) (flags : ℕ) → IsWhole (turns_if b flags)
turns_exact true flags = whole_reads_exact (turns_fields flags) (then_exact (pair_exact number1 (pair_exact number1 number1)) (λ _. rest_exact))
turns_exact false flags = whole_reads_exact _ rest_exact

pub scheduling_exact : IsWhole scheduling
unfolding scheduling
scheduling_exact =
    whole_reads_exact window_fields (then_exact utc_exact (λ _. then_exact utc_exact (λ _. then_exact number1 (λ flags. turns_exact _ flags))))

pub update_flag_exact : IsWhole update_flag
unfolding update_flag
update_flag_exact = whole_reads_exact _ (then_exact number1 (λ _. rest_exact))

pub location_exact : IsWhole location
unfolding location
location_exact =
    whole_reads_exact _ (then_exact (fixed_exact 0x000A number2) (λ _. then_exact (pair_exact (fixed_exact 0 number1) number1) (λ _. rest_exact)))

pub mac_targets_exact : IsWhole mac_targets
unfolding mac_targets
mac_targets_exact = then_exact number6 (λ _. to_end_exact number6)
