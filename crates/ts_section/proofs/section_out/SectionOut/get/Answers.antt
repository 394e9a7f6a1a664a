use Rattle.std.proofs.Common.{◌<◌, length, ap, sym, subst, ◌∙◌, arith}
use Rattle.section_form.specs.Section.{IsRightSection}
use Rattle.ts_section.proofs.Pieces.{slot_said, count_said}
use Rattle.ts_section.proofs.section_out.SectionOut.get.Goals as goal

pub returns-clause-right : goal.returns-clause-right
returns-clause-right c =
    let inv = c.self.invariant in
    let count = count_said (λ v. v.items) c.self.inside.slots.items c.self.inside.used (omega (arith, inv.0, inv.1)) in
    let seen = ap length c.self.view_is in
    let below : c.args.k < c.self.inside.used = omega (arith, c.requires, count, seen) in
    subst IsRightSection (sym (c.as_slice.ensures.value ∙ ap (λ v. v.items) c.index.ensures))
    (slot_said (λ v. v.items) IsRightSection c.self.inside.slots.items c.self.inside.used c.args.k c.index.result.now below (omega (arith, inv.0, inv.1)) inv.2)
