use Rattle.std.proofs.Common.{◌∙◌, ◌<◌, ◌^◌, length, Some, ap, sym, refl, subst, arith}
use Rattle.std.proofs.lemmas.Result.{IfOk-weaker}
use Rattle.section_form.proofs.Exact.{long_form_exact}
use Rattle.ssu_unt.specs.Written.{Draft, head_of, oui_hash}
use Rattle.ssu_unt.proofs.Spelling.{always, head_is}
use Rattle.ssu_unt.proofs.writing.UntWriter.section.Goals as goal

pub returns-clause-spelled : goal.returns-clause-spelled
returns-clause-spelled c =
    let oui = ap (λ (w : Draft). w.oui) (sym c.self.view_is) in
    let version = ap (λ (w : Draft). w.version) (sym c.self.view_is) in
    let text = c.deref.ensures.value ∙ c.in_ok-body.ensures in
    let head = head_is c.args.self.now c.self.inside.oui c.hash_of-extension.result c.self.inside.version c.deref.result.now _ oui version c.hash_of-extension.ensures.value text refl in
    IfOk-weaker c.table_section.result _ _ (λ s e. long_form_exact.takes s.items (head_of c.args.self.now) (e ∙ ap Some head)) c.table_section.ensures.read_back

pub returns-clause-oui : goal.returns-clause-oui
returns-clause-oui c = always c.table_section.result (subst (λ (w : Draft). w.oui < 2 ^ 24) c.self.view_is c.hash_of-extension.ensures.oui)

pub returns-clause-hash : goal.returns-clause-hash
returns-clause-hash c =
    let below : oui_hash c.self.inside.oui < 2 ^ 8 = omega (arith, c.hash_of-extension.ensures.value, c.hash_of-extension.ensures.in_range) in
    always c.table_section.result (subst (λ (w : Draft). oui_hash w.oui < 2 ^ 8) c.self.view_is below)

pub returns-clause-small : goal.returns-clause-small
returns-clause-small c =
    let below : length c.self.inside.pairs.items < 2 ^ 16 = omega (arith, c.self.invariant.2) in
    always c.table_section.result (subst (λ (w : Draft). length w.pairs < 2 ^ 16) c.self.view_is below)
