use Rattle.std.proofs.Common.{◌<◌, length, ap, sym, subst, arith}
use Rattle.section_form.specs.Section.{IsRightSection}
use Rattle.ts_section.proofs.Pieces.{one_more_said, count_said}
use Rattle.ts_section.proofs.section_out.SectionOut.put.Goals as goal

pub invariant_of-self : goal.invariant_of-self
invariant_of-self c =
    let inv = c.self.invariant in
    let count = count_said (λ v. v.items) c.self.inside.slots.items c.self.inside.used (omega (arith, inv.0, inv.1)) in
    let seen = ap length c.self.view_is in
    let room : c.self.inside.used < 28 = omega (arith, c.requires.room, count, seen) in (
      omega (arith, room),
      inv.1,
      one_more_said (λ v. v.items) IsRightSection c.self.inside.slots.items c.self.inside.used c.fill.new.slot (omega (arith, room, inv.1)) inv.2
          (subst IsRightSection (sym c.fill.ensures) c.requires.right),
    )
