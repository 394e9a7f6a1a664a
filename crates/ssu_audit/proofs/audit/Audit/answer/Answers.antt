use Rattle.std.proofs.Common.{◌≡◌, ℕ, List, Some, None, sym, ap, ◌∙◌, arith}
use Rattle.std.specs.Option.{option_map}
use Rattle.dsmcc_msg.specs.Control.{dsi}
use Rattle.ssu_audit.specs.Kept.{kept_of}
use Rattle.ssu_audit.specs.Hearing.{first_dsi}
use Rattle.ssu_audit.proofs.FewGroups.{few_groups}
use Rattle.ssu_audit.proofs.FoundDsi.{found_dsi}
use Rattle.ssu_audit.proofs.Holding.{keys_few}
use Rattle.ssu_audit.proofs.audit.Audit.answer.Goals as goal

pub returns-in_default-dsi_of : goal.returns-in_default-dsi_of
returns-in_default-dsi_of c = λ calls stands.
    let k = c.in-Some.first in
    let first : first_dsi calls ≡ Some (k.number, k.bytes.items) = sym stands.first ∙ ap (option_map kept_of) c.in-Some.is in
    let found = found_dsi calls k.number k.bytes.items first in
    let some = found.1 in
    let none : dsi.of k.bytes.items ≡ None = ap (λ (xs : List ℕ). dsi.of xs) (sym c.as_slice.ensures.value) ∙ sym c.dsi_of.ensures ∙ c.in_default-dsi_of.is in
    cc

pub count-requires : goal.count-requires
count-requires c = few_groups c.in-Some-dsi_of.dsi c.as_slice.result.now (sym c.dsi_of.ensures ∙ c.in-Some-dsi_of.is)

pub overflow_cast-result : goal.overflow_cast-result
overflow_cast-result c =
    let stands = c.requires.usable.1 in
    let few = keys_few c.requires.usable.0 stands.undecided in
    let same = stands.different in
    let len = c.len.ensures.len in
    omega arith
