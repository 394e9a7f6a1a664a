use Rattle.std.proofs.Common.{◌≡◌, sym, ◌∙◌, length}
use Rattle.std.proofs.lemmas.Bool.{eqb-true}
use Rattle.ts_section.proofs.CutPackets.{left_none}
use Rattle.ts_section.proofs.section_packets.SectionPacketsIterator.next.Goals as goal

pub returns-then-is_empty-clause-steps : goal.returns-then-is_empty-clause-steps
returns-then-is_empty-clause-steps c =
    let rest = c.self.inside.rest.now in
    let empty : length rest ≡ 0 = eqb-true (length rest) 0 (sym c.is_empty.ensures ∙ c.if-is_empty.true) in
    let none = left_none c.args.self.now _ _ _ rest (sym c.self.view_is) c.if-self.false empty in
    (none, none)
