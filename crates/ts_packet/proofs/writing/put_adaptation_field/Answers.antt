use Rattle.std.proofs.Common.{◌≡◌, ◌-◌, ◌<◌, length, set, sym, arith, eqb-true, eq-eqb, ℕ, ◌≢◌, ap, ◌∙◌}
use Rattle.std.proofs.lemmas.List.{length-set}
use Rattle.std.proofs.lemmas.Bool.{false≢true}
use Rattle.ts_packet.proofs.Written.{field_none, field_one, field_more}
use Rattle.ts_packet.proofs.writing.put_adaptation_field.Goals as goal

pub returns-then-is_empty : goal.returns-then-is_empty
returns-then-is_empty c = field_none c.args.field.now (eqb-true _ _ (sym c.is_empty.ensures ∙ c.if-is_empty.true))

pub returns-then-field-gt1 : goal.returns-then-field-gt1
returns-then-field-gt1 c =
    let more : 1 < length c.args.field.now = omega (arith, length-set {A = ℕ}) in
    field_more c.args.field.now more c.requires.stuffing

pub returns-else-field-gt1 : goal.returns-else-field-gt1
returns-else-field-gt1 c =
    let some : length c.args.field.now ≢ 0 = λ e. false≢true (sym c.if-is_empty.false ∙ c.is_empty.ensures ∙ eq-eqb _ _ e) in
    let one : length c.args.field.now ≡ 1 = omega (arith, length-set {A = ℕ}) in
    ap (λ n. set c.args.field.now 0 (n - 1)) one ∙ field_one c.args.field.now one
