-- The formats read what is spelled so, and nothing else.
use Rattle.std.specs.Prelude.{ℕ, refl}
use Rattle.wire.specs.Format.{Whole}
use Rattle.wire.specs.Exact.{IsFront, IsWhole}
use Rattle.wire.proofs.Laws.{reads_exact, fixed_exact, pair_exact, with_exact, then_exact}
use Rattle.wire.proofs.Laws.{sized_exact, after_exact, rest_exact, only_exact, whole_reads_exact, whole_such_exact}
use Rattle.wire.proofs.Laws.{checked_exact, several_exact}
use Rattle.wire.proofs.Numbers.{number1, number2, number4, skip_exact}
use Rattle.ssu_compat.proofs.Exact.{compat_exact}
use Rattle.section_form.specs.Long.{has_table}
use Rattle.section_form.proofs.Exact.{section_of_exact}
use Rattle.wire.proofs.InsideLaws.{inside_exact, noted_exact}
use Rattle.dsmcc_msg.specs.Message.{message, has_id, message_of, in_table}
use Rattle.dsmcc_msg.specs.Message.{protocol_discriminator, dsmcc_type, control_table, block_table}
use Rattle.dsmcc_msg.specs.Control.{group_list}
use Rattle.dsmcc_msg.specs.Control.{dsi_payload, dsi_id, dsi_message, dsi}
use Rattle.dsmcc_msg.specs.Control.{dii_payload, dii_id, fits_a_section, dii_fields, dii_message}
use Rattle.dsmcc_msg.specs.Control.{dii}
use Rattle.dsmcc_msg.specs.Block.{ddb_payload, ddb_id, ddb_fields, ddb_message, ddb}
use Rattle.dsmcc_msg.specs.Exact.{group_entry_exact, module_entry_exact}

pub message_exact : IsFront message
unfolding message
message_exact = reads_exact _ (
    pair_exact (fixed_exact protocol_discriminator number1) (
    pair_exact (fixed_exact dsmcc_type number1) (
    pair_exact number2 (
    pair_exact number4 (
    pair_exact (skip_exact 1 refl) (
    with_exact number1 (λ adaptation. sized_exact number2 (after_exact adaptation rest_exact))))))))

pub message_of_exact : {A : Type 0} (id : ℕ) {payload : Whole A} → IsWhole payload → IsWhole (message_of id payload)
message_of_exact id h = inside_exact _ (whole_such_exact (has_id id) (only_exact message_exact)) h

pub in_table_exact : {A : Type 0} (table : ℕ) {body : Whole A} → IsWhole body → IsWhole (in_table table body)
in_table_exact table h = whole_reads_exact _ (section_of_exact (has_table table) h)

pub group_list_exact : IsWhole group_list
unfolding group_list
group_list_exact = whole_reads_exact _ (
    then_exact number2 (λ count.
    several_exact count group_entry_exact (only_exact (sized_exact number2 rest_exact))))

pub dsi_payload_exact : IsWhole dsi_payload
unfolding dsi_payload
dsi_payload_exact = whole_reads_exact _ (only_exact (
    pair_exact (skip_exact 20 refl) (
    pair_exact (fixed_exact 0 number2) (
    sized_exact number2 group_list_exact))))

pub dsi_message_exact : IsWhole dsi_message
unfolding dsi_message
dsi_message_exact = whole_reads_exact _ (message_of_exact dsi_id dsi_payload_exact)

pub dsi_exact : IsWhole dsi
unfolding dsi
dsi_exact = in_table_exact control_table dsi_message_exact

pub dii_payload_exact : IsWhole dii_payload
unfolding dii_payload
dii_payload_exact = whole_reads_exact _ (
    then_exact number4 (λ _.
    then_exact number2 (λ _.
    then_exact (skip_exact 10 refl) (λ _.
    then_exact compat_exact (λ _.
    then_exact number2 (λ count.
    several_exact count module_entry_exact (only_exact (sized_exact number2 rest_exact))))))))

pub dii_message_exact : IsWhole dii_message
unfolding dii_message
dii_message_exact = whole_reads_exact dii_fields (noted_exact (checked_exact fits_a_section (message_of_exact dii_id dii_payload_exact)))

pub dii_exact : IsWhole dii
unfolding dii
dii_exact = in_table_exact control_table dii_message_exact

pub ddb_payload_exact : IsWhole ddb_payload
unfolding ddb_payload
ddb_payload_exact = whole_reads_exact _ (
    then_exact number2 (λ _.
    then_exact number1 (λ _.
    then_exact (skip_exact 1 refl) (λ _.
    then_exact number2 (λ _.
    rest_exact)))))

pub ddb_message_exact : IsWhole ddb_message
unfolding ddb_message
ddb_message_exact = whole_reads_exact ddb_fields (message_of_exact ddb_id ddb_payload_exact)

pub ddb_exact : IsWhole ddb
unfolding ddb
ddb_exact = in_table_exact block_table ddb_message_exact
